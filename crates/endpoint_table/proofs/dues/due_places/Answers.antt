use Rattle.endpoint_table.proofs.DuePlaces.{sorted-are}
use Rattle.endpoint_table.proofs.dues.due_places.Goals as goal

pub returns : goal.returns
returns c = λ ts are.
    sorted-are c.args.moment ts c.args.dues.now c.in_ok-places.places.items
    c.sort_unstable.new.self.items are c.in_ok-places.ensures c.sort_unstable.ensures.permutation
    c.sort_unstable.ensures.sorted
