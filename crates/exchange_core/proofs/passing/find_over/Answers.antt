use Rattle.std.proofs.Common.{◌≡◌, List, subst}
use Rattle.std.specs.Prelude.{IfOk}
use Rattle.exchange_model.specs.declared.kept.Exchange.{Exchange}
use Rattle.exchange_core.specs.States.{state_of}
use Rattle.exchange_core.proofs.Sinces.{open-later}
use Rattle.exchange_core.proofs.TickEnds.{over-same}
use Rattle.exchange_core.proofs.passing.find_over.Goals as goal

pub over_at-requires-clause-ordered : goal.over_at-requires-clause-ordered
over_at-requires-clause-ordered g c = open-later (state_of c.args.s.now) c.requires.sound.kept.kept

pub returns-clause-over : goal.returns-clause-over
returns-clause-over g c =
    subst (λ (es : List Exchange). IfOk c.over_at.result (λ v. v.items ≡ es))
    (over-same c.args.moment (state_of c.args.s.now) c.requires.sound.kept.kept) c.over_at.ensures.over
