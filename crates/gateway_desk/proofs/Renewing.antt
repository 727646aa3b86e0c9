-- What a turn of the journal leaves: no ask, and nothing that waits to be sent.
use Rattle.std.proofs.Common.{◌≡◌, ◌≢◌, ℕ, ◌+◌, Bool, true, false, List, [], ◌∷◌, ◌++◌, Option, Some, None, Result, Ok, Err, refl, sym, ap, subst, ◌∙◌, arith}
use Rattle.std.specs.Prelude.{sum_by}
use Rattle.std.proofs.lemmas.List.{append-nil}
use Rattle.journal_book.specs.Entries.{Mark, Done, done_of, Written}
use Rattle.exchange_model.specs.State.{State}
use Rattle.exchange_model.specs.Rotating.{RotateFault, Seen, seen, mark_of, copy_if, copy_of, copies_from, copied_entries, carried_numbers, taken, turned, rotated_by, fault_of}
use Rattle.exchange_core.specs.Rotating.{IsTurned}
use Rattle.exchange_core.specs.Values.{CoreValue, sent_in}
use Rattle.gateway_desk.specs.declared.report.SettleFault.{SettleFault}
use Rattle.gateway_desk.specs.declared.report.SettleFault.TheVariants.{Stranger, Repeated, Count, Memory}
use Rattle.gateway_desk.specs.Held.{Held}
use Rattle.gateway_desk.specs.Ledgers.{asks_of}
use Rattle.gateway_desk.specs.Sending.{AreUnsent}
use Rattle.gateway_desk.specs.Settled.{IsStranger, IsRepeated, answered}
use Rattle.gateway_desk.specs.Turning.{IsUnsettled}
use Rattle.gateway_desk.proofs.Growing.{asks-append}

-- a copy asks nothing
if-none : (m : Option Mark) (n s : ℕ) (done : Done) → asks_of (copy_if m n s done) ≡ 0
if-none (Some mark) n s done = refl
if-none None n s done = refl

copy-none : (t : ℕ) (xs : List Seen) (gs : List ℕ) (n s : ℕ) (o : Option Done)
    → asks_of (copy_of t xs gs n s o) ≡ 0
copy-none t xs gs n s None = refl
copy-none t xs gs n s (Some done) = if-none (mark_of t xs gs n s done) n s done

sum-none : (a b : ℕ) → a ≡ 0 → b ≡ 0 → a + b ≡ 0
sum-none a b e f = omega (arith, e, f)

from-none : (t : ℕ) (xs : List Seen) (gs : List ℕ) (n : ℕ) (ws : List Written)
    → asks_of (copies_from t xs gs n ws) ≡ 0
from-none t xs gs n [] = refl
from-none t xs gs n (w ∷ ws) =
    asks-append (copy_of t xs gs n w.moment (done_of w.deed)) (copies_from t xs gs (n + 1) ws)
    ∙ sum-none _ _ (copy-none t xs gs n w.moment (done_of w.deed)) (from-none t xs gs (n + 1) ws)

copies-none : (t : ℕ) (S : State) → asks_of (copied_entries t S) ≡ 0
copies-none t S = from-none t (seen S.entries) (carried_numbers (taken t S)) 0 S.entries

-- what is given out is what the old journal had, and what goes on begins with copies
abbrev given_or : Result (List Written × State) RotateFault → List Written × State → List Written × State
given_or (Ok x) other = x
given_or (Err e) other = other

rotated-is : (o : Option RotateFault) (t : ℕ) (S : State) (given : List Written) (S1 : State) → rotated_by o t S ≡ Ok (given, S1)
    → (given ≡ S.entries) × (S1 ≡ turned t S)
rotated-is (Some f) t S given S1 e = absurd cc
rotated-is None t S given S1 e =
    let both = ap (λ (r : Result (List Written × State) RotateFault). given_or r (given, S1)) e in (
      sym (ap (λ (x : List Written × State). x.0) both),
      sym (ap (λ (x : List Written × State). x.1) both),
    )

pub given-is : (t : ℕ) (given : List Written) (old new : CoreValue) → IsTurned t given old new → given ≡ old.state.entries
given-is t given old new h = (rotated-is (fault_of t old.state) t old.state given new.state h.is).0

pub turned-none : (t : ℕ) (given : List Written) (old new : CoreValue) → IsTurned t given old new → asks_of new.state.entries ≡ 0
turned-none t given old new h =
    ap (λ (S : State). asks_of S.entries) (rotated-is (fault_of t old.state) t old.state given new.state h.is).1
    ∙ copies-none t old.state

pub turned-whole : (t : ℕ) (given : List Written) (old new : CoreValue) → IsTurned t given old new → new.state.given ≡ 0
turned-whole t given old new h = ap (λ (S : State). S.given) (rotated-is (fault_of t old.state) t old.state given new.state h.is).1

-- so many asks as the book counts then
pub counted : (n k old new : ℕ) → n ≡ 0 → k ≡ old → new + k ≡ old → n ≡ new
counted n k old new none whole spent = omega (arith, none, whole, spent)

pub turned-unsent : (t : ℕ) (given : List Written) (old new : CoreValue) → IsTurned t given old new → AreUnsent new.state.entries new.unsent
turned-unsent t given old new h = record {
  taken = sent_in new.state.entries;
  all = sym (ap (λ os. sent_in new.state.entries ++ os) h.unsent ∙ append-nil (sent_in new.state.entries));
}

-- why settling refuses
pub unsettled : (h : List Written) (ps : List Held) (fault : SettleFault) → ((n : ℕ) → fault ≡ Stranger n → IsStranger h ps n)
    → ((n : ℕ) → fault ≡ Repeated n → IsRepeated (answered ps) n) → (fault ≡ Count → asks_of h ≢ sum_by (λ (p : Held). p.amount) ps) → IsUnsettled h ps fault
unsettled h ps (Stranger n) s r c = s n refl
unsettled h ps (Repeated n) s r c = r n refl
unsettled h ps Count s r c = c refl
unsettled h ps Memory s r c = tt
