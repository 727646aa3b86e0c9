use Rattle.http_edge.proofs.Framings as law
use Rattle.http_edge.proofs.lists.is_named.Goals as goal

pub returns : goal.returns
returns c = law.same_by c.args.name.now c.args.wanted.now c.eq_ignore_ascii_case.result c.eq_ignore_ascii_case.ensures.test.0 c.eq_ignore_ascii_case.ensures.test.1
