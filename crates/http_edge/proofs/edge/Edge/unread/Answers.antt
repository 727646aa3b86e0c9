-- What is unread stands at the end of the text.
use Rattle.std.proofs.Common.{ap, length}
use Rattle.http_edge.proofs.Tails.{unread_is}
use Rattle.http_edge.proofs.edge.Edge.unread.Goals as goal

pub returns-clause-counts : goal.returns-clause-counts
returns-clause-counts c = λ text s. rw (c.as_slice.ensures.bytes) (unread_is c.args.self.now.begun c.args.self.now.unread text s.1)

pub returns-clause-exact : goal.returns-clause-exact
returns-clause-exact c = λ waits text s. (c.args.self.now.unread, (s.2 waits).1, ap length c.as_slice.ensures.bytes)
