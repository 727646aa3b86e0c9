use Rattle.std.proofs.Common.{sym, ap, ◌∙◌}
use Rattle.std.specs.Prelude.{option_map}
use Rattle.exchange_core.specs.Watching.{is_renewed_for}
use Rattle.exchange_core.proofs.Empty.{all-stay}
use Rattle.exchange_core.proofs.Watched.{renews-none}
use Rattle.exchange_core.proofs.watching.renew.Goals as goal

pub returns-then-is_empty : goal.returns-then-is_empty
returns-then-is_empty g c = record {
  watches = all-stay (is_renewed_for c.args.mapped.now.sense) c.args.watches.now.standing (sym c.is_empty.ensures ∙ c.if-is_empty.true);
}

pub returns-in_default : goal.returns-in_default
returns-in_default g c = record {
  watches = renews-none c.args.mapped.now.sense c.args.watches.now.standing (sym (ap (option_map _) c.in_default.is) ∙ c.reading.ensures);
}
