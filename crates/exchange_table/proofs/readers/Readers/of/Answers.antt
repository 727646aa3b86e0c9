use Rattle.std.proofs.Common.{ap, ◌∙◌}
use Rattle.std.specs.Prelude.{filter}
use Rattle.exchange_table.specs.Readers.{reads}
use Rattle.exchange_table.proofs.readers.Readers.of.Goals as goal

pub returns : goal.returns
returns c =
    rw (← c.self.view_is)
    (c.group_of.ensures ∙ ap (filter (reads c.args.opening)) c.deref.ensures.value ∙ c.self.invariant.same c.args.opening)
