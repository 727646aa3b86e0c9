-- First sendings, in a journal or as copies there, under one token.
use Rattle.std.proofs.Common.{◌≡◌, inl, inr, ℕ, zero, List, [], ◌∷◌, length, Option, Some, None, refl, sym, ap, subst, ◌∙◌, arith}
use Rattle.std.specs.List.{Contains}
use Rattle.coap_codec.specs.Spelling.{Content, Spells}
use Rattle.coap_codec.proofs.Unique.{spells_one}
use Rattle.uri_map.specs.declared.peer.Peer.{Peer}
use Rattle.journal_book.specs.Entries.{Ground, Past, Done, Sent, done_of, Deed, Sends, Carries}
use Rattle.history_laws.specs.Readings.{Noted, Note, First, Bygone, Copies, Confirms, noted, at, before}
use Rattle.history_laws.specs.Transmissions.{FirstSending, firsts, firsts_by}
use Rattle.history_laws.specs.Justified.{Follows, Legal}
use Rattle.history_laws.proofs.CallerLemmas.{at-old, contains-later, firsts-tokens, follows-at, none-some, some-is}

abbrev pub head_of : ℕ → ℕ → Deed → Note → Option FirstSending
head_of n t (Sends p b w) (First o m) = Some (record { number = n; moment = t; opening = o; peer = p; message = m })
head_of n t (Carries k mark (Sent p b w)) (Bygone m) = Some (record { number = n; moment = t; opening = n; peer = p; message = m })
head_of n t (Carries k mark (Sent p b w)) (First o m) = Some (record { number = n; moment = t; opening = o; peer = p; message = m })
head_of n t d note = None

head-listed : (n t : ℕ) (d : Deed) (note : Note) (old : List FirstSending) (f : FirstSending) → head_of n t d note ≡ Some f
    → Contains (firsts_by n t d note old) f
head-listed n t (Sends p b w) (First o m) old f e = (zero, omega arith, some-is _ f e)
head-listed n t (Carries k mark (Sent p b w)) (Bygone m) old f e = (zero, omega arith, some-is _ f e)
head-listed n t (Carries k mark (Sent p b w)) (First o m) old f e = (zero, omega arith, some-is _ f e)
head-listed n t d note old f e = cc

others-listed : (n t : ℕ) (d : Deed) (note : Note) (old : List FirstSending) (f : FirstSending) → Contains old f → Contains (firsts_by n t d note old) f
others-listed n t (Sends p b w) (First o m) old f h = contains-later _ old f h
others-listed n t (Carries k mark (Sent p b w)) (Bygone m) old f h = contains-later _ old f h
others-listed n t (Carries k mark (Sent p b w)) (First o m) old f h = contains-later _ old f h
others-listed n t d note old f h = h

pub listed-at : (l : List Noted) (n : ℕ) (x : Noted) (f : FirstSending) → at l n ≡ Some x → head_of n x.written.moment x.written.deed x.note ≡ Some f
    → Contains (firsts l) f
listed-at [] n x f e h = absurd (none-some x e)
listed-at (y ∷ older) n x f e h = elim (at-old y older n x e) [
  | inl u ↦
      subst (λ (v : Noted). Contains (firsts (v ∷ older)) f) (sym u.1)
      (head-listed (length older) x.written.moment x.written.deed x.note (firsts older) f
      (subst (λ (n : ℕ). head_of n x.written.moment x.written.deed x.note ≡ Some f) u.0 h))
  | inr u ↦ others-listed (length older) y.written.moment y.written.deed y.note (firsts older) f (listed-at older n x f u h)
]

-- what was first sent is listed
pub record IsListed (l : List Noted) (n : ℕ) (m : Content) : Type 0 where
  pub first : FirstSending
  pub among : Contains (firsts l) first
  pub number : first.number ≡ n
  pub message : first.message ≡ m

abbrev timeout_of : Done → Option ℕ
timeout_of (Sent q c v) = v
timeout_of d = None

abbrev bytes_of : Done → List ℕ
bytes_of (Sent q c v) = c
bytes_of d = []

pub listed-so : (l : List Noted) (n t : ℕ) (d : Deed) (note : Note) (p : Peer) (b : List ℕ) (w : ℕ) (m : Content) → Legal l → at l n ≡ Some (noted t d note)
    → done_of d ≡ Some (Sent p b (Some w)) → Spells m b → IsListed l n m
listed-so l n t d note p b w m legal e is spelled = by d note refl refl (follows-at l n _ legal e) is
  where
    made : (d2 : Deed) (note2 : Note) → d ≡ d2 → note ≡ note2 → (f : FirstSending) → head_of n t d2 note2 ≡ Some f → f.number ≡ n → (k : Content)
        → f.message ≡ k → (c : List ℕ) (q : Peer) (v : Option ℕ) → Sent q c v ≡ Sent p b (Some w) → Spells k c → IsListed l n m
    made d2 note2 a x f heads number k message c q v same spells = record {
      first = f;
      among = listed-at l n (noted t d note) f e (subst (λ (d2 : Deed). head_of n t d2 note ≡ Some f) (sym a) (subst (λ (note2 : Note). head_of n t d2 note2 ≡ Some f) (sym x) heads));
      number = number;
      message = message ∙ spells_one k m b (subst (Spells k) (ap bytes_of same) spells) spelled;
    }

    by : (d2 : Deed) (note2 : Note) → d ≡ d2 → note ≡ note2 → Follows (before l n) t d2 note2 → done_of d2 ≡ Some (Sent p b (Some w)) → IsListed l n m
    by (Sends q c v) (First o k) a x may h = made (Sends q c v) (First o k) a x _ refl refl k refl c q v (some-is _ _ h) may.1.1.spelled
    by (Sends q c v) (Copies i) a x may h = absurd (none-some w (sym may.1.1 ∙ ap timeout_of (some-is _ _ h)))
    by (Sends q c v) Confirms a x may h = absurd (none-some w (sym may.1.0 ∙ ap timeout_of (some-is _ _ h)))
    by (Sends q c v) note2 a x may h = absurd may.1
    by (Carries k Past (Sent q c v)) (Bygone y) a x may h = made (Carries k Past (Sent q c v)) (Bygone y) a x _ refl refl y refl c q v (some-is _ _ h) may.2.spelled
    by (Carries k Ground (Sent q c v)) (First o y) a x may h = made (Carries k Ground (Sent q c v)) (First o y) a x _ refl refl y refl c q v (some-is _ _ h) may.2.0.spelled
    by (Carries k mark (Sent q c v)) note2 a x may h = absurd may.2
    by d2 note2 a x may h = absurd cc

pub token-once : (l : List Noted) (i j : ℕ) (m n : Content) → Legal l → IsListed l i m → IsListed l j n → m.token ≡ n.token → i ≡ j
token-once l i j m n legal a b e =
    sym a.number
    ∙ (firsts-tokens l a.first b.first legal a.among b.among
    (ap (λ (m : Content). m.token) a.message ∙ (e ∙ sym (ap (λ (m : Content). m.token) b.message)))
    ∙ b.number)
