use Rattle.std.proofs.Common.{ap, ◌∙◌}
use Rattle.cache_key.specs.Digests.{digests_of}
use Rattle.cache_key.proofs.Told.{keys_told_by}
use Rattle.cache_key.proofs.key.Key.is_same.Goals as goal

pub returns-else-self-other : goal.returns-else-self-other
returns-else-self-other c =
    keys_told_by c.args.self.now c.args.other.now c.self.inside.digests c.other.inside.digests
    (c.self.invariant ∙ ap digests_of c.self.view_is) (c.other.invariant ∙ ap digests_of c.other.view_is) c.if-self-other.false
