use Rattle.std.proofs.Common.{◌≡◌, ◌≤◌, ◌⊎◌, inl, inr, List, Option, Some, length, subst, sym, ◌∙◌}
use Rattle.limits.specs.declared.TheConstants.{MAX_STORED}
use Rattle.cache_key.specs.Keys.{CacheKey}
use Rattle.resp_cache.specs.Stored.{Stored}
use Rattle.resp_cache.specs.Stores.{others}
use Rattle.resp_cache.specs.declared.pair.Pair.{Pair}
use Rattle.exchange_model.specs.Hearing.{retold}
use Rattle.exchange_core.specs.declared.storing.Put.{Put}
use Rattle.exchange_core.specs.declared.storing.Put.TheVariants as P
use Rattle.exchange_core.specs.Storing.{put_under}
use Rattle.exchange_core.proofs.Settling.{retold-nothing, retold-outdates}
use Rattle.exchange_core.proofs.storing.retell.Goals as goal

retold-out : (key : CacheKey) (found : Option Stored) (put : Put) (ps : List Pair) → length (others key ps) ≤ MAX_STORED
    → (put ≡ P.Outdates) ⊎ (put ≡ P.Nothing) → put ≡ put_under (Some key) found → others key ps ≡ retold key found ps
retold-out key found put ps few (inl o) is = retold-outdates key found ps few (sym o ∙ is)
retold-out key found put ps few (inr n) is = retold-nothing key found ps (sym n ∙ is)

pub returns-in-Outdates : goal.returns-in-Outdates
returns-in-Outdates c = λ found is.
    c.take_out.ensures.pairs
    ∙ retold-out c.args.key.now found c.args.put c.args.store.now.pairs
    (subst (λ (ps : List Pair). length ps ≤ MAX_STORED) c.take_out.ensures.pairs c.take_out.ensures.few)
    c.in-Outdates.is is
