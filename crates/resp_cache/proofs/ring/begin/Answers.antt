use Rattle.resp_cache.proofs.Ringing.{linked_more}
use Rattle.resp_cache.proofs.ring.begin.Goals as goal

pub returns-then-is_empty-clause-linked : goal.returns-then-is_empty-clause-linked
returns-then-is_empty-clause-linked c = λ os k.
    linked_more c.args.older.now.items c.args.newer.now.items c.push_reserved.new.self.items c.push_reserved-then-is_empty.new.self.items os c.push_reserved.ensures.items c.push_reserved-then-is_empty.ensures.items k
