use Rattle.std.proofs.Common.{sym, ◌∙◌}
use Rattle.exchange_core.proofs.Sinces.{past-front}
use Rattle.exchange_core.proofs.expiring.past_exchanges.Goals as goal

pub returns-then-not-is_past : goal.returns-then-not-is_past
returns-then-not-is_past c =
    past-front c.args.moment c.args.exchanges.now c.each.e-index c.e-item.result c.each.past.items c.requires
    c.each-test.true c.e-item.is (sym c.is_past.ensures ∙ c.if-not-is_past.true) c.each.invariant
