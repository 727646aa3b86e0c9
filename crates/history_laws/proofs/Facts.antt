-- Facts of a history stay true as it grows.
use Rattle.std.proofs.Common.{◌≡◌, ℕ, ◌<◌, true, eqb, inl, inr, List, [], ◌∷◌, length, Some, refl, sym, ◌∙◌, subst, false}
use Rattle.std.proofs.lemmas.Bool.Decides.{eqb_tells}
use Rattle.std.proofs.lemmas.Bool.{false≢true}
use Rattle.coap_codec.specs.Spelling.{Content}
use Rattle.uri_map.specs.declared.peer.Peer.{Peer}
use Rattle.ask_model.specs.Views.{Ask}
use Rattle.history_laws.specs.Readings.{Noted, at, before}
use Rattle.history_laws.specs.Justified.{IsAsk, Follows, Legal}
use Rattle.history_laws.specs.Laws.{IsFirst}
use Rattle.history_laws.proofs.Places.{at-below, at-keeps}
use Rattle.history_laws.proofs.Resting.{some-is}

pub IsAsk-keeps : (x : Noted) (l : List Noted) (k c : ℕ) (a : Ask) → IsAsk l k c a → IsAsk (x ∷ l) k c a
IsAsk-keeps x l k c a f = record { moment = f.moment; note = f.note; stands = at-keeps x l k _ f.stands }

pub IsFirst-keeps : (x : Noted) (l : List Noted) (t o i : ℕ) (p : Peer) (m : Content) → IsFirst l t o i p m → IsFirst (x ∷ l) t o i p m
IsFirst-keeps x l t o i p m f = record { bytes = f.bytes; timeout = f.timeout; stands = at-keeps x l i _ f.stands }

pub IsFirst-below : (l : List Noted) (t o i : ℕ) (p : Peer) (m : Content) → IsFirst l t o i p m → i < length l
IsFirst-below l t o i p m f = at-below l i _ f.stands

-- each entry might follow those before it
pub follows-at : (l : List Noted) (n : ℕ) (x : Noted) → Legal l → at l n ≡ Some x → Follows (before l n) x.written.moment x.written.deed x.note
follows-at [] n x legal e = cc
follows-at (y ∷ older) n x legal e =
    elim (eqb_tells n (length older)) [
      | inl w ↦
          let same = some-is y x (rw (w.0) at e) in
          rw (w.0) (subst (λ (v : Noted). Follows older v.written.moment v.written.deed v.note) same legal.2)
      | inr w ↦ rw (w.0) (follows-at older n x legal.0 (rw (w.0) at e))
    ]

-- what came before an entry is legal too
pub legal-before : (l : List Noted) (n : ℕ) → Legal l → Legal (before l n)
legal-before [] n legal = legal
legal-before (y ∷ older) n legal =
    elim (eqb_tells n (length older)) [ inl w ↦ rw (w.0) (legal.0) | inr w ↦ rw (w.0) (legal-before older n legal.0) ]

-- what stood before an entry stands
pub at-before : (l : List Noted) (n k : ℕ) (x : Noted) → at (before l n) k ≡ Some x → at l k ≡ Some x
at-before [] n k x e = cc
at-before (y ∷ older) n k x e =
    elim (eqb_tells n (length older)) [
      | inl w ↦ at-keeps y older k x (rw (w.0) at e)
      | inr w ↦ at-keeps y older k x (at-before older n k x (rw (w.0) at e))
    ]

pub length-before : (l : List Noted) (n : ℕ) (x : Noted) → at l n ≡ Some x → length (before l n) ≡ n
length-before [] n x e = cc
length-before (y ∷ older) n x e =
    elim (eqb_tells n (length older)) [
      | inl w ↦ rw (w.0) (sym w.1)
      | inr w ↦ rw (w.0) (length-before older n x (rw (w.0) at e))
    ]

-- tests of numbers
pub eqb-same : (a b : ℕ) → eqb a b ≡ true → a ≡ b
eqb-same a b e = elim (eqb_tells a b) [ inl w ↦ w.1 | inr w ↦ absurd (false≢true (sym w.0 ∙ e)) ]

pub eqb-itself : (a : ℕ) → eqb a a ≡ true
eqb-itself a = elim (eqb_tells a a) [ inl w ↦ w.0 | inr w ↦ absurd (w.1 refl) ]

pub eqb-apart : (a b : ℕ) → (a ≡ b → ⊥) → eqb a b ≡ false
eqb-apart a b apart = elim (eqb_tells a b) [ inl w ↦ absurd (apart w.1) | inr w ↦ w.0 ]
