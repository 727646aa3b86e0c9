-- The first sendings that a history lists: those of its exchanges, and copies of older ones.
use Rattle.history_laws.proofs.Outstanding.{way-cases}
use Rattle.std.proofs.Common.{◌≡◌, ℕ, ◌+◌, ◌<◌, ◌≤◌, ◌⊎◌, Bool, true, false, ◌&&◌, eqb, ltb, inl, inr, List, [], ◌∷◌, length, Option, Some, refl, sym, ap, subst, ◌∙◌, arith}
use Rattle.std.specs.List.{Contains, find}
use Rattle.std.specs.Str.{bytes_eq}
use Rattle.std.proofs.lemmas.Bool.Decides.{eqb_tells}
use Rattle.std.proofs.lemmas.Bool.{false≢true, ltb-false}
use Rattle.std.proofs.lemmas.Slice.Eq.{bytes_eq-Decides}
use Rattle.limits.specs.declared.TheConstants.{MESSAGE_ID_LIFETIME}
use Rattle.coap_codec.specs.Spelling.{Content}
use Rattle.uri_map.specs.declared.peer.Peer.{Peer}
use Rattle.journal_book.specs.Entries.{Mark, Past, Deed, Sends, Carries}
use Rattle.journal_book.specs.Entries as D
use Rattle.history_laws.specs.Readings.{Noted, Note, First, Bygone, at, noted}
use Rattle.history_laws.specs.Transmissions.{FirstSending, firsts_by, firsts, first_at, bears_token, bears_mid, is_recent, Transmission, transmission}
use Rattle.history_laws.specs.Justified.{Follows}
use Rattle.history_laws.specs.Laws.{IsFirst, TokensApart, IdsApart}
use Rattle.uri_map.proofs.CallerLemmas.{same_peer-itself}
use Rattle.history_laws.proofs.Elements.{any-of, contains-none, first-or-later}
use Rattle.history_laws.proofs.Facts.{eqb-itself, IsFirst-keeps}
use Rattle.history_laws.proofs.Places.{at-below, at-keeps, at-new}
use Rattle.history_laws.proofs.Resting.{some-is, none-some}
use Rattle.history_laws.proofs.Sendings.{IsFirst-old}

-- a copy of a first sending, whose exchange isn't in this history
pub record IsBygone (l : List Noted) (f : FirstSending) : Type 0 where
  pub old : ℕ
  pub mark : Mark
  pub bytes : List ℕ
  pub timeout : Option ℕ
  pub note : Note
  pub stands : at l f.number ≡ Some (noted f.moment (Carries old mark (D.Sent f.peer bytes timeout)) note)
  pub own : ((note ≡ Bygone f.message) × (f.opening ≡ f.number)) ⊎ (note ≡ First f.opening f.message)

abbrev pub IsListed : List Noted → FirstSending → Type 0
IsListed l f = IsFirst l f.moment f.opening f.number f.peer f.message ⊎ IsBygone l f

listed-keeps : (x : Noted) (l : List Noted) (f : FirstSending) → IsListed l f → IsListed (x ∷ l) f
listed-keeps x l f (inl h) = inl (IsFirst-keeps x l _ _ _ _ _ h)
listed-keeps x l f (inr h) = inr record {
  old = h.old;
  mark = h.mark;
  bytes = h.bytes;
  timeout = h.timeout;
  note = h.note;
  stands = at-keeps x l f.number _ h.stands;
  own = h.own;
}

listed-step : (l : List Noted) (t : ℕ) (d : Deed) (note : Note) (f : FirstSending) → (Contains (firsts l) f → IsListed l f)
    → Contains (firsts_by (length l) t d note (firsts l)) f → IsListed (noted t d note ∷ l) f
listed-step l t (Sends p b w) (First o m) f ih h =
    let x = noted t (Sends p b w) (First o m) in
    elim (first-or-later (record { number = length l; moment = t; opening = o; peer = p; message = m }) (firsts l) f h) [
      | inl u ↦ subst (IsListed (x ∷ l)) u (inl (record { bytes = b; timeout = w; stands = at-new x l }))
      | inr u ↦ listed-keeps x l f (ih u)
    ]
listed-step l t (Carries k mark (D.Sent p b w)) (Bygone m) f ih h =
    let x = noted t (Carries k mark (D.Sent p b w)) (Bygone m) in
    elim (first-or-later (record { number = length l; moment = t; opening = length l; peer = p; message = m }) (firsts l) f h) [
      | inl u ↦ subst (IsListed (x ∷ l)) u (inr (record { old = k; mark = mark; bytes = b; timeout = w; note = Bygone m; stands = at-new x l; own = inl (refl, refl) }))
      | inr u ↦ listed-keeps x l f (ih u)
    ]
listed-step l t (Carries k mark (D.Sent p b w)) (First o m) f ih h =
    let x = noted t (Carries k mark (D.Sent p b w)) (First o m) in
    elim (first-or-later (record { number = length l; moment = t; opening = o; peer = p; message = m }) (firsts l) f h) [
      | inl u ↦ subst (IsListed (x ∷ l)) u (inr (record { old = k; mark = mark; bytes = b; timeout = w; note = First o m; stands = at-new x l; own = inr refl }))
      | inr u ↦ listed-keeps x l f (ih u)
    ]
listed-step l t (Carries k mark (D.Sent p b w)) note f ih h = listed-keeps (noted t (Carries k mark (D.Sent p b w)) note) l f (ih h)
listed-step l t (Carries k mark done) note f ih h = listed-keeps (noted t (Carries k mark done) note) l f (ih h)
listed-step l t d note f ih h = listed-keeps (noted t d note) l f (ih h)

pub all-listed : (l : List Noted) (f : FirstSending) → Contains (firsts l) f → IsListed l f
all-listed [] f h = absurd (contains-none f h)
all-listed (x ∷ older) f h = listed-step older x.written.moment x.written.deed x.note f (all-listed older f) h

pub listed-below : (l : List Noted) (f : FirstSending) → Contains (firsts l) f → f.number < length l
listed-below l f h = elim (all-listed l f h) [ inl w ↦ at-below l f.number _ w.stands | inr w ↦ at-below l f.number _ w.stands ]

-- One is found by its number.

older-step : (n t : ℕ) (d : Deed) (note : Note) (old : List FirstSending) (i : ℕ) → i < n
    → find (λ (f : FirstSending). eqb f.number i) (firsts_by n t d note old) ≡ find (λ (f : FirstSending). eqb f.number i) old
older-step n t (Sends p b w) (First o m) old i lt = elim (eqb_tells n i) [ inl w ↦ let same = w.1 in absurd (omega (arith, lt, same)) | inr w ↦ rw (w.0) refl ]
older-step n t (Carries k mark (D.Sent p b w)) (Bygone m) old i lt = elim (eqb_tells n i) [ inl w ↦ let same = w.1 in absurd (omega (arith, lt, same)) | inr w ↦ rw (w.0) refl ]
older-step n t (Carries k mark (D.Sent p b w)) (First o m) old i lt = elim (eqb_tells n i) [ inl w ↦ let same = w.1 in absurd (omega (arith, lt, same)) | inr w ↦ rw (w.0) refl ]
older-step n t (Carries k mark (D.Sent p b w)) note old i lt = refl
older-step n t (Carries k mark done) note old i lt = refl
older-step n t d note old i lt = refl

pub first-older : (x : Noted) (l : List Noted) (i : ℕ) → i < length l → first_at (x ∷ l) i ≡ first_at l i
first-older x l i lt = older-step (length l) x.written.moment x.written.deed x.note (firsts l) i lt

pub first-found : (l : List Noted) (t o i : ℕ) (p : Peer) (m : Content) → IsFirst l t o i p m
    → first_at l i ≡ Some (record { number = i; moment = t; opening = o; peer = p; message = m })
first-found [] t o i p m f = cc (f.stands)
first-found (x ∷ older) t o i p m f =
    elim (IsFirst-old x older t o i p m f) [
      | inl u ↦
          let here : first_at (noted t (Sends p u.1.0 u.1.1) (First o m) ∷ older) (length older) ≡ Some (record { number = length older; moment = t; opening = o; peer = p; message = m }) =
          rw (eqb-itself (length older)) refl in
          subst (λ (v : Noted). first_at (v ∷ older) i ≡ Some (record { number = i; moment = t; opening = o; peer = p; message = m })) (sym u.1.2)
          (subst (λ (i : ℕ). first_at (noted t (Sends p u.1.0 u.1.1) (First o m) ∷ older) i ≡ Some (record { number = i; moment = t; opening = o; peer = p; message = m })) (sym u.0) here)
      | inr u ↦ first-older x older i (at-below older i _ u.stands) ∙ first-found older t o i p m u
    ]

pub first-is : (l : List Noted) (t o i : ℕ) (p : Peer) (m : Content) (f : FirstSending) → IsFirst l t o i p m → first_at l i ≡ Some f
    → f ≡ record { number = i; moment = t; opening = o; peer = p; message = m }
first-is l t o i p m f h e = some-is f _ (sym e ∙ first-found l t o i p m h)

-- They are told apart by tokens, and by IDs for a while.

record IsNew (l : List Noted) (f : FirstSending) : Type 0 where
  number : f.number ≡ length l
  token : bears_token l f.message.token ≡ false
  mid : bears_mid l f.moment f.peer f.message.mid ≡ false

new-step : (l : List Noted) (t : ℕ) (d : Deed) (note : Note) (f : FirstSending) → Follows l t d note
    → Contains (firsts_by (length l) t d note (firsts l)) f → IsNew l f ⊎ Contains (firsts l) f
new-step l t (Sends p b w) (First o m) f may h =
    elim (first-or-later (record { number = length l; moment = t; opening = o; peer = p; message = m }) (firsts l) f h) [
      | inl u ↦ inl (subst (IsNew l) u (record { number = refl; token = may.1.1.token_apart; mid = may.1.1.mid_apart }))
      | inr u ↦ inr u
    ]
new-step l t (Carries k Past (D.Sent p b w)) (Bygone m) f may h =
    elim (first-or-later (record { number = length l; moment = t; opening = length l; peer = p; message = m }) (firsts l) f h) [
      | inl u ↦ inl (subst (IsNew l) u (record { number = refl; token = may.2.token_apart; mid = may.2.mid_apart }))
      | inr u ↦ inr u
    ]
new-step l t (Carries k D.Ground (D.Sent p b w)) (Bygone m) f may h = absurd may.2
new-step l t (Carries k Past (D.Sent p b w)) (First o m) f may h = absurd may.2
new-step l t (Carries k D.Ground (D.Sent p b w)) (First o m) f may h =
    elim (first-or-later (record { number = length l; moment = t; opening = o; peer = p; message = m }) (firsts l) f h) [
      | inl u ↦ inl (subst (IsNew l) u (record { number = refl; token = may.2.0.token_apart; mid = may.2.0.mid_apart }))
      | inr u ↦ inr u
    ]
new-step l t (Carries k mark (D.Sent p b w)) note f may h = inr h
new-step l t (Carries k mark done) note f may h = inr h
new-step l t d note f may h = inr h

listed-new : (x : Noted) (l : List Noted) (f : FirstSending) → Follows l x.written.moment x.written.deed x.note → Contains (firsts (x ∷ l)) f
    → IsNew l f ⊎ Contains (firsts l) f
listed-new x l f may h = new-step l x.written.moment x.written.deed x.note f may h

bears-it : (l : List Noted) (f : FirstSending) (token : List ℕ) → Contains (firsts l) f → f.message.token ≡ token → bears_token l token ≡ true
bears-it l f token h e = any-of (λ (f : FirstSending). bytes_eq f.message.token token) (firsts l) f h ((bytes_eq-Decides f.message.token token).1 e)

pub firsts-tokens : TokensApart
firsts-tokens [] f g legal a b e = absurd (contains-none f a)
firsts-tokens (x ∷ older) f g legal a b e =
    elim (listed-new x older f legal.2 a) [
      | inl u ↦ elim (listed-new x older g legal.2 b) [
        | inl v ↦ u.number ∙ sym v.number
        | inr v ↦ absurd (false≢true (sym u.token ∙ bears-it older g f.message.token v (sym e)))
      ]
      | inr u ↦ elim (listed-new x older g legal.2 b) [
        | inl v ↦ absurd (false≢true (sym v.token ∙ bears-it older f g.message.token u e))
        | inr v ↦ firsts-tokens older f g legal.0 u v e
      ]
    ]

bears-id : (l : List Noted) (f : FirstSending) (t : ℕ) (p : Peer) (mid : ℕ) → Contains (firsts l) f → f.peer ≡ p → f.message.mid ≡ mid
    → ltb t (f.moment + MESSAGE_ID_LIFETIME) ≡ true → bears_mid l t p mid ≡ true
bears-id l f t p mid h peer e recent =
    any-of (λ (f : FirstSending). is_recent t p f && (eqb f.message.mid mid)) (firsts l) f h
    (rw (peer, same_peer-itself p, recent) (elim (eqb_tells f.message.mid mid) [ inl w ↦ w.0 | inr w ↦ absurd (w.1 e) ]))

late-by : (b : Bool) (s t : ℕ) → ltb t (s + MESSAGE_ID_LIFETIME) ≡ b → (b ≡ true → ⊥) → s + MESSAGE_ID_LIFETIME ≤ t
late-by true s t e never = absurd (never refl)
late-by false s t e never = let h = ltb-false t (s + MESSAGE_ID_LIFETIME) e in omega (arith, h)

pub firsts-ids : IdsApart
firsts-ids [] f g legal a b same e lt = absurd (contains-none f a)
firsts-ids (x ∷ older) f g legal a b same e lt =
    elim (listed-new x older f legal.2 a) [
      | inl u ↦ elim (listed-new x older g legal.2 b) [
        | inl v ↦ let m = u.number in let n = v.number in absurd (omega (arith, m, n, lt))
        | inr v ↦ let m = u.number in let n = listed-below older g v in absurd (omega (arith, m, n, lt))
      ]
      | inr u ↦ elim (listed-new x older g legal.2 b) [
        | inl v ↦ late-by (ltb g.moment (f.moment + MESSAGE_ID_LIFETIME)) f.moment g.moment refl
            (λ recent. false≢true (sym v.mid ∙ bears-id older f g.moment g.peer g.message.mid u same e recent))
        | inr v ↦ firsts-ids older f g legal.0 u v same e lt
      ]
    ]

-- One that is listed is found by its number.

listed-case : (l : List Noted) (t : ℕ) (d : Deed) (note : Note) (f : FirstSending) → Contains (firsts_by (length l) t d note (firsts l)) f
    → ((f.number ≡ length l) × (first_at (noted t d note ∷ l) (length l) ≡ Some f)) ⊎ Contains (firsts l) f
listed-case l t (Sends p b w) (First o m) f h =
    let new : FirstSending = record { number = length l; moment = t; opening = o; peer = p; message = m } in
    elim (first-or-later new (firsts l) f h) [
      | inl u ↦ inl (ap (λ (g : FirstSending). g.number) (sym u), subst (λ (g : FirstSending). first_at (noted t (Sends p b w) (First o m) ∷ l) (length l) ≡ Some g) u (rw (eqb-itself (length l)) refl))
      | inr u ↦ inr u
    ]
listed-case l t (Carries k mark (D.Sent p b w)) (Bygone m) f h =
    let new : FirstSending = record { number = length l; moment = t; opening = length l; peer = p; message = m } in
    elim (first-or-later new (firsts l) f h) [
      | inl u ↦ inl (ap (λ (g : FirstSending). g.number) (sym u), subst (λ (g : FirstSending). first_at (noted t (Carries k mark (D.Sent p b w)) (Bygone m) ∷ l) (length l) ≡ Some g) u (rw (eqb-itself (length l)) refl))
      | inr u ↦ inr u
    ]
listed-case l t (Carries k mark (D.Sent p b w)) (First o m) f h =
    let new : FirstSending = record { number = length l; moment = t; opening = o; peer = p; message = m } in
    elim (first-or-later new (firsts l) f h) [
      | inl u ↦ inl (ap (λ (g : FirstSending). g.number) (sym u), subst (λ (g : FirstSending). first_at (noted t (Carries k mark (D.Sent p b w)) (First o m) ∷ l) (length l) ≡ Some g) u (rw (eqb-itself (length l)) refl))
      | inr u ↦ inr u
    ]
listed-case l t (Carries k mark (D.Sent p b w)) note f h = inr h
listed-case l t (Carries k mark done) note f h = inr h
listed-case l t d note f h = inr h

pub first-listed : (l : List Noted) (f : FirstSending) → Contains (firsts l) f → first_at l f.number ≡ Some f
first-listed [] f h = absurd (contains-none f h)
first-listed (x ∷ older) f h =
    elim (listed-case older x.written.moment x.written.deed x.note f h) [
      | inl w ↦ ap (first_at (x ∷ older)) w.0 ∙ w.1
      | inr w ↦ first-older x older f.number (listed-below older f w) ∙ first-listed older f w
    ]

-- What is on its way is a first sending of an exchange.
pub way-first : (l : List Noted) (i : ℕ) (y : Transmission) → transmission l i ≡ Some y → (t : ℕ) × (o : ℕ) × (p : Peer) × (m : Content) × IsFirst l t o i p m
way-first [] i y e = absurd (none-some y e)
way-first (x ∷ older) i y e =
    elim (way-cases x older i y e) [
      | inl v ↦ (
        x.written.moment,
        v.opening,
        v.peer,
        v.message,
        record { bytes = v.bytes; timeout = v.timeout; stands = subst (λ (k : ℕ). at (x ∷ older) k ≡ Some (noted x.written.moment (Sends v.peer v.bytes v.timeout) (First v.opening v.message))) v.here (at-new x older ∙ ap (λ (z : Noted). Some z) v.entry) },
      )
      | inr (inl v) ↦ let h = way-first older i v.way v.was in (h.0, h.1, h.2, h.3, IsFirst-keeps x older _ _ _ _ _ h.4)
      | inr (inr v) ↦ let h = way-first older i y v in (h.0, h.1, h.2, h.3, IsFirst-keeps x older _ _ _ _ _ h.4)
    ]
