use Rattle.std.proofs.Common.{ap, ◌∙◌}
use Rattle.exchange_table.specs.Marks.{place_in}
use Rattle.exchange_table.proofs.outrunning.place_digest.Goals as goal

pub returns : goal.returns
returns c = c.half_of.ensures ∙ ap place_in c.of.ensures
