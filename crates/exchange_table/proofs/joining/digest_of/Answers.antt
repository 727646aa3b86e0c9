use Rattle.std.proofs.Common.{ap, ◌∙◌}
use Rattle.exchange_table.specs.Marks.{key_in}
use Rattle.exchange_table.proofs.joining.digest_of.Goals as goal

pub returns : goal.returns
returns c = c.half_of.ensures ∙ ap key_in c.digests.ensures
