use Rattle.std.proofs.Common.{take}
use Rattle.http_edge.proofs.Edging as law
use Rattle.http_edge.proofs.edge.Edge.feed.Goals as goal

pub returns-then-taken-gt0-clause-more : goal.returns-then-taken-gt0-clause-more
returns-then-taken-gt0-clause-more c = λ text s. (s.0, rw c.feed-taken.ensures.more (law.feeds c.args.self.now.begun c.args.self.now.unread text (take c.feed-taken.result c.args.bytes.now) s.1), λ e. absurd cc)
