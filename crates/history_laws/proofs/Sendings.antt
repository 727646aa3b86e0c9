-- First sendings, as a history grows.
use Rattle.std.proofs.Common.{◌≡◌, ℕ, ◌⊎◌, Bool, true, inl, inr, List, [], ◌∷◌, length, Option, sym, subst}
use Rattle.std.specs.List.{list_any}
use Rattle.std.proofs.lemmas.Bool.{or_right, or_left}
use Rattle.coap_codec.specs.Spelling.{Content}
use Rattle.uri_map.specs.declared.peer.Peer.{Peer}
use Rattle.journal_book.specs.Entries.{Deed, Sends, Carries}
use Rattle.journal_book.specs.Entries as D
use Rattle.history_laws.specs.Readings.{Noted, Note, First, Bygone, noted}
use Rattle.history_laws.specs.Transmissions.{FirstSending, firsts_by, firsts}
use Rattle.history_laws.specs.Justified.{MayBeFirst, Follows}
use Rattle.history_laws.specs.Laws.{IsFirst}
use Rattle.history_laws.proofs.Places.{at-old}

-- a first sending is the newest entry, or was one before
pub IsFirst-old : (x : Noted) (l : List Noted) (t o i : ℕ) (p : Peer) (m : Content) → IsFirst (x ∷ l) t o i p m
    → ((i ≡ length l) × ((b : List ℕ) × (w : Option ℕ) × (x ≡ noted t (Sends p b w) (First o m)))) ⊎ IsFirst l t o i p m
IsFirst-old x l t o i p m f =
    elim (at-old x l i _ f.stands) [
      | inl w ↦ inl (w.0, (f.bytes, f.timeout, w.1))
      | inr w ↦ inr (record { bytes = f.bytes; timeout = f.timeout; stands = w })
    ]

-- What passes a test among the first sendings does so still.
any-more : (f : FirstSending → Bool) (n t : ℕ) (d : Deed) (note : Note) (old : List FirstSending)
    → list_any f old ≡ true → list_any f (firsts_by n t d note old) ≡ true
any-more f n t (Sends p b w) (First o m) old h = or_right (f (record { number = n; moment = t; opening = o; peer = p; message = m })) _ h
any-more f n t (Sends p b w) note old h = h
any-more f n t (Carries k mark (D.Sent p b w)) (Bygone m) old h = or_right (f (record { number = n; moment = t; opening = n; peer = p; message = m })) _ h
any-more f n t (Carries k mark (D.Sent p b w)) (First o m) old h = or_right (f (record { number = n; moment = t; opening = o; peer = p; message = m })) _ h
any-more f n t (Carries k mark (D.Sent p b w)) note old h = h
any-more f n t (Carries k mark done) note old h = h
any-more f n t d note old h = h

pub any-first : (f : FirstSending → Bool) (l : List Noted) (t o i : ℕ) (p : Peer) (m : Content) → IsFirst l t o i p m
    → f (record { number = i; moment = t; opening = o; peer = p; message = m }) ≡ true → list_any f (firsts l) ≡ true
any-first f [] t o i p m s e = cc (s.stands)
any-first f (x ∷ older) t o i p m s e =
    elim (IsFirst-old x older t o i p m s) [
      | inl u ↦
          let e' = subst (λ (i : ℕ). f (record { number = i; moment = t; opening = o; peer = p; message = m }) ≡ true) u.0 e in
          subst (λ (v : Noted). list_any f (firsts (v ∷ older)) ≡ true) (sym u.1.2) (or_left _ _ e')
      | inr u ↦ any-more f (length older) x.written.moment x.written.deed x.note (firsts older) (any-first f older t o i p m u e)
    ]

-- a first sending was one that might follow
pub may-be : (x : Noted) (l : List Noted) (t o : ℕ) (p : Peer) (b : List ℕ) (w : Option ℕ) (m : Content)
    → Follows l x.written.moment x.written.deed x.note → x ≡ noted t (Sends p b w) (First o m) → MayBeFirst l t o p b m w
may-be x l t o p b w m may e =
    let f : Follows l t (Sends p b w) (First o m) = subst (λ (v : Noted). Follows l v.written.moment v.written.deed v.note) e may in
    f.1.1
