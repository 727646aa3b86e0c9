use Rattle.exchange_table.proofs.Owning.{owned-none}
use Rattle.exchange_table.proofs.fetched.Fetched.new.Goals as goal

pub invariant_of-result : goal.invariant_of-result
invariant_of-result c = rw (c.new.ensures.items, c.new-2.ensures.items) owned-none
