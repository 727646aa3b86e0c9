use Rattle.std.proofs.Common.{◌≡◌, ℕ, List, [], ◌∷◌, length, refl, sym, ap, subst, arith, rules}
use Rattle.std.specs.Prelude.{Bool, filter, false, true, ◌&&◌, ◌||◌, IfOk}
use Rattle.exchange_model.specs.Hearing.{is_past}
use Rattle.exchange_model.specs.declared.kept.Exchange.{Exchange}
use Rattle.endpoint_table.specs.declared.given_up.GivenUp.{GivenUp}
use Rattle.exchange_core.specs.Expiring.{is_over_by}
use Rattle.exchange_core.proofs.expiring.over_by.Goals as goal

-- Where nothing is given up, what is late ends alone.
no-given : (t : ℕ) (gs : List GivenUp) → length gs ≡ 0 → is_past t ≡ is_over_by t gs
no-given t [] none = λ i e. by (is_past t e) e.awaits i
  where
    by : (b c : Bool) → b ≡ (b || (c && false))
    by true c = refl
    by false true = refl
    by false false = refl
no-given t (g ∷ gs) none = absurd (omega (arith, none))

pub returns-then-is_empty : goal.returns-then-is_empty
returns-then-is_empty c =
    subst (λ (q : Exchange → Bool). IfOk c.past_exchanges.result (λ v. v.items ≡ filter q c.args.exchanges.now))
    (no-given c.args.moment c.args.given.now (search rules)) c.past_exchanges.ensures
