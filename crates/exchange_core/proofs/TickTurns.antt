-- The turns of the endpoints, drafted one after another.
use Rattle.std.proofs.Common.{◌≡◌, ℕ, ◌+◌, ◌<◌, ◌≤◌, List, [], ◌∷◌, ◌++◌, length, take, get_or, suc, zero, sym, ap, ◌∙◌, arith, append_assoc, append-nil, length-append}
use Rattle.journal_book.specs.Entries.{Deed}
use Rattle.exchange_model.specs.declared.kept.Exchange.{Exchange}
use Rattle.exchange_model.specs.Entering.{sent_as}
use Rattle.exchange_model.proofs.CallerLemmas.{sent-both}
use Rattle.endpoint_table.specs.declared.turns.Turn.{Turn}
use Rattle.endpoint_table.specs.Turns.{deeds_of, going_of, turns_deeds, turns_going}

-- one turn less is left
module _ (n m : ℕ) (k : Turn) (ks js : List Turn) (are : js ≡ k ∷ ks)
    (after : m ≡ n + length (deeds_of k.peer k.ticking)) where
  pub room-step : (top : ℕ) → n + length (turns_deeds js) ≤ top
      → m + length (turns_deeds ks) ≤ top
  room-step top le =
      let len : length (turns_deeds js)
      ≡ length (deeds_of k.peer k.ticking) + length (turns_deeds ks) =
      ap (λ (is : List Turn). length (turns_deeds is)) are
      ∙ length-append (deeds_of k.peer k.ticking) (turns_deeds ks) in
      omega (arith, le, len, after)

  pub going-step : (es fs total : List Exchange) → fs ≡ sent_as (going_of n k.ticking) es
      → sent_as (turns_going n js) es ≡ total → sent_as (turns_going m ks) fs ≡ total
  going-step es fs total went so_far =
      ap (λ (i : ℕ). sent_as (turns_going i ks) fs) after
      ∙ ap (sent_as (turns_going (n + length (deeds_of k.peer k.ticking)) ks)) went
      ∙ sent-both (going_of n k.ticking)
      (turns_going (n + length (deeds_of k.peer k.ticking)) ks) es
      ∙ ap (λ (is : List Turn). sent_as (turns_going n is) es) (sym are)
      ∙ so_far

-- one turn more was drafted
pub turns-take : (ks : List Turn) (i : ℕ) (k : Turn) → i < length ks → k ≡ get_or ks i k
    → turns_deeds (take (i + 1) ks) ≡ turns_deeds (take i ks) ++ deeds_of k.peer k.ticking
turns-take [] i k lt is = absurd (omega (arith, lt))
turns-take (j ∷ ks) zero k lt is =
    append-nil (deeds_of j.peer j.ticking)
    ∙ ap (λ (z : Turn). deeds_of z.peer z.ticking) (sym is)
turns-take (j ∷ ks) (suc i) k lt is =
    let n : suc i + 1 ≡ suc (i + 1) = omega arith in
    ap (λ (m : ℕ). turns_deeds (take m (j ∷ ks))) n
    ∙ ap (λ (ds : List Deed). deeds_of j.peer j.ticking ++ ds)
    (turns-take ks i k (omega (arith, lt)) is)
    ∙ sym (append_assoc (deeds_of j.peer j.ticking) (turns_deeds (take i ks))
    (deeds_of k.peer k.ticking))
