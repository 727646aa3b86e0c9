use Rattle.exchange_table.proofs.Indexed.{index-none}
use Rattle.exchange_table.proofs.Marking.{table-none}
use Rattle.exchange_table.proofs.exchanges.Exchanges.new.Goals as goal

pub invariant_of-result : goal.invariant_of-result
invariant_of-result c = rw (c.new.ensures.items, c.new-2.ensures.items, c.new-3.ensures.items, c.new-4.ensures.items) (table-none index-none)
