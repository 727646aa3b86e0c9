use Rattle.std.proofs.Common.{◌∙◌}
use Rattle.exchange_table.proofs.Indexed.{opened-any}
use Rattle.exchange_table.proofs.places.is_opened.Goals as goal

pub returns : goal.returns
returns c = c.is_some.ensures ∙ opened-any c.args.opening c.args.rows.now c.opening_place.result c.opening_place.ensures.some c.opening_place.ensures.none
