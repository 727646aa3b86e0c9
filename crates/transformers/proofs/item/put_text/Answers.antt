use Rattle.std.proofs.Common.{sym}
use Rattle.transformers.proofs.Told.{told_text}
use Rattle.transformers.proofs.item.put_text.Goals as goal

pub returns-clause-ok : goal.returns-clause-ok
returns-clause-ok c = told_text c.args.argument c.args.bytes.now c.in-Some.text.now c.in-Some.rest.now _ _ (sym c.in-Some.ensures) c.in_ok-put_quoted.ensures
