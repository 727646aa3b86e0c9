use Rattle.std.proofs.Common.{arith}
use Rattle.message_layer.proofs.SeriesLaws.{drop-both}
use Rattle.message_layer.proofs.series.joined.Goals as goal

pub returns : goal.returns
returns g c = grind (arith, drop-both c.args.gone c.args.earlier.now c.args.last.now)
