use Rattle.std.proofs.Common.{◌≡◌, List, [], ◌∷◌, length, refl, ◌∙◌, arith, rules}
use Rattle.exchange_model.specs.declared.kept.Exchange.{Exchange}
use Rattle.exchange_model.specs.declared.kept.Reader.{Reader}
use Rattle.exchange_core.specs.Ending.{out_of_time}
use Rattle.exchange_core.proofs.timeouts.out_of_time.Goals as goal

none-late : (es : List Exchange) (rs : List Reader) → length es ≡ 0 → [] ≡ out_of_time es rs
none-late [] [] none = refl
none-late [] (r ∷ rs) none = none-late [] rs none
none-late (e ∷ es) rs none = absurd (omega (arith, none))

pub returns-then-is_empty : goal.returns-then-is_empty
returns-then-is_empty c = c.new-told.ensures.items ∙ none-late c.args.exchanges.now c.args.readers.now (search rules)
