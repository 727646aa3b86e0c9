use Rattle.std.proofs.Common.{sym, ◌∙◌}
use Rattle.transformers.proofs.Told.{add_fresh, add_there}
use Rattle.transformers.proofs.item.add_member.Goals as goal

pub returns-in-Ok-None-clause-ok : goal.returns-in-Ok-None-clause-ok
returns-in-Ok-None-clause-ok c ms d held is =
    add_fresh c.args.key c.args.piece d c.args.found.now.entries _ ms (sym c.in-Ok-None.field-0-is ∙ c.in-Ok-None.ensures.old) c.in-Ok-None.ensures.entries held is

pub returns-in-Ok-Some-clause-content : goal.returns-in-Ok-Some-clause-content
returns-in-Ok-Some-clause-content c said ms d held =
    add_there c.args.key c.in-Ok-Some.field-0-0 d c.args.found.now.entries ms (sym c.in-Ok-Some.field-0-is ∙ c.in-Ok-Some.ensures.old) held
