-- The least due moment, one observer on.
use Rattle.std.proofs.Common.{◌≡◌, ℕ, ◌+◌, ◌<◌, List, length, drop, get_or, Option, sym, ◌∙◌}
use Rattle.std.proofs.lemmas.List.{at_drop_more}
use Rattle.demo_origin.specs.Notifying.{sooner, least_due}
use Rattle.demo_origin.specs.declared.state.Observer.{Observer}

pub least_further : (os : List Observer) (i : ℕ) (d : Observer) (least more total : Option ℕ)
    → i < length os → least_due least (drop i os) ≡ total
    → more ≡ sooner least (get_or os i d).outstanding → least_due more (drop (i + 1) os) ≡ total
least_further os i d least more total lt so_far e =
    rw e (sym (at_drop_more (λ xs. least_due least xs) os i d lt) ∙ so_far)
