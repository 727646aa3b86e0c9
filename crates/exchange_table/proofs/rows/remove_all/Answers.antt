use Rattle.exchange_table.proofs.Leaving.{left-next, left-none}
use Rattle.exchange_table.proofs.rows.remove_all.Goals as goal

pub each-init : goal.each-init
each-init c = (left-none c.args.rows.now.items, c.requires)

pub each-preserved : goal.each-preserved
each-preserved c = (
  left-next c.args.over.now c.each.exchange-index c.exchange-item.result c.exchange-item.result c.args.rows.now.items c.each.rows.items c.remove.new.rows.items
      c.each-test.true c.exchange-item.is c.each.invariant.0 c.remove.ensures.rows,
  c.remove.ensures.table,
)
