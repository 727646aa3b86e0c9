use Rattle.std.proofs.Common.{ap, ◌∙◌}
use Rattle.cache_key.specs.Digests.{digests_of}
use Rattle.cache_key.proofs.Told.{keys_told_by}
use Rattle.cache_key.proofs.key.Key.is_sought.Goals as goal

pub returns-else-self-lookup : goal.returns-else-self-lookup
returns-else-self-lookup c =
    keys_told_by c.args.self.now c.args.lookup.now c.self.inside.digests c.lookup.inside.digests
    (c.self.invariant ∙ ap digests_of c.self.view_is) (c.lookup.invariant ∙ ap digests_of c.lookup.view_is) c.if-self-lookup.false
