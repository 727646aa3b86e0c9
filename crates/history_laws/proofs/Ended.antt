-- After its end nothing is sent for an exchange but copies.
use Rattle.std.proofs.Common.{◌≡◌, ℕ, ◌<◌, true, inl, inr, List, [], ◌∷◌, length, Option, Some, None, subst}
use Rattle.std.specs.Prelude.{is_none}
use Rattle.std.proofs.lemmas.Bool.{false≢true, and_parts}
use Rattle.coap_codec.specs.Spelling.{Content}
use Rattle.uri_map.specs.declared.peer.Peer.{Peer}
use Rattle.journal_book.specs.Entries.{Sends}
use Rattle.history_laws.specs.Readings.{Noted, First, noted}
use Rattle.history_laws.specs.Progress.{Ending}
use Rattle.history_laws.specs.Exchanges.{begun, turn, waits_for, heard_for, End, kept, end_here, end_of, goes_to, is_going}
use Rattle.history_laws.specs.Justified.{MayBeFirst, Ends, Legal}
use Rattle.history_laws.specs.Laws.{IsFirst}
use Rattle.history_laws.proofs.Members.{first-waits}
use Rattle.history_laws.proofs.Facts.{IsFirst-below, eqb-itself}
use Rattle.history_laws.proofs.Sendings.{IsFirst-old, may-be}
use Rattle.history_laws.proofs.Outrunning.{end-old}
use Rattle.history_laws.proofs.Resting.{none-some}

-- a first sending ends nothing, and what it is sent for goes on
first-going : (l : List Noted) (t o e : ℕ) (p : Peer) (b : List ℕ) (w : Option ℕ) (m : Content) (how : Ending)
    → MayBeFirst l t o p b m w → Ends (noted t (Sends p b w) (First o m) ∷ l) o e how → ⊥
first-going l t o e p b w m how may h =
    let going = and_parts (is_going l o) (is_none (waits_for l o)) (and_parts (goes_to p (begun l o)) _ (first-waits l t o p b m w may)).1 in
    go (end_of l o) going.0 (rw (eqb-itself o) at h)
  where
    go : (old : Option End) → is_none old ≡ true → old ≡ Some (record { number = e; how = how }) → ⊥
    go None i f = none-some _ f
    go (Some x) i f = false≢true i

pub none-after-end : (l : List Noted) (t o i e : ℕ) (p : Peer) (m : Content) (how : Ending) → Legal l → IsFirst l t o i p m → Ends l o e how → i < e
none-after-end [] t o i e p m how legal f h = absurd (none-some _ h)
none-after-end (x ∷ older) t o i e p m how legal f h =
    elim (IsFirst-old x older t o i p m f) [
      | inl u ↦
          absurd (first-going older t o e p u.1.0 u.1.1 m how (may-be x older t o p u.1.0 u.1.1 m legal.2 u.1.2)
          (subst (λ (x : Noted). Ends (x ∷ older) o e how) u.1.2 h))
      | inr u ↦ elim (end-old (end_here (begun older o) (kept older o) (length older) (heard_for older o) (turn older o x)) (length older) (end_of older o) _ h) [
        | inl old ↦ none-after-end older t o i e p m how legal.0 u old
        | inr here ↦ subst (λ (e : ℕ). i < e) here.1 (IsFirst-below older t o i p m u)
      ]
    ]
