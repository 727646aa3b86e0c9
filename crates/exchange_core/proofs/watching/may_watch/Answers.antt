use Rattle.std.proofs.Common.{sym, ap, ◌∙◌}
use Rattle.std.specs.Prelude.{option_map}
use Rattle.exchange_core.proofs.Watched.{watches-some}
use Rattle.exchange_core.proofs.watching.may_watch.Goals as goal

pub returns-in-Some : goal.returns-in-Some
returns-in-Some g c =
    c.has_place.ensures
    ∙ watches-some c.args.mapped.now.sense _ c.args.watches.now.standing (sym (ap (option_map _) c.in-Some.is) ∙ c.reading.ensures)
