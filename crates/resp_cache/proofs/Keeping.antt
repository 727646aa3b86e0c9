-- What calls leave is a store.
use Rattle.std.proofs.Common.{◌≡◌, ℕ, List, [], filter, Bool, true, Option, refl, ap, sym, ◌∙◌, take, drop, arith}
use Rattle.limits.specs.declared.TheConstants.{MAX_STORED}
use Rattle.cache_key.specs.Keys.{CacheKey}
use Rattle.resp_cache.specs.Slots.{pairs_in}
use Rattle.resp_cache.specs.Stored.{Stored, is_never_fresh}
use Rattle.resp_cache.specs.Stores.{is_of_another, others, placed, IsStore}
use Rattle.resp_cache.specs.Tables.{AreStored}
use Rattle.resp_cache.specs.declared.names.Named.{Named}
use Rattle.resp_cache.specs.declared.pair.Pair.{Pair}
use Rattle.resp_cache.proofs.Apart.{apart-filtered}
use Rattle.resp_cache.proofs.Lists.{length-filtered, take_roomy}
use Rattle.resp_cache.proofs.Slotted.{pairs_few}

pub store-filtered : (f : Pair → Bool) (ps : List Pair) → IsStore ps → IsStore (filter f ps)
store-filtered f ps s = record { few = omega (arith, length-filtered f ps, s.few); apart = apart-filtered f ps s.apart }

-- Nothing has to be cut off from what a filter leaves.
pub roomy-filtered : (f : Pair → Bool) (ps : List Pair) → IsStore ps → (take MAX_STORED (filter f ps) ≡ filter f ps) × (drop MAX_STORED (filter f ps) ≡ [])
roomy-filtered f ps s = take_roomy MAX_STORED (filter f ps) ((store-filtered f ps s).few)

-- a response that is never fresh
pub put_never : (key : CacheKey) (stored : Stored) (ps left : List Pair) → IsStore ps → is_never_fresh stored ≡ true → left ≡ others key ps → (left ≡ take MAX_STORED (placed key stored ps)) × ([] ≡ drop MAX_STORED (placed key stored ps))
put_never key stored ps left s never is =
    let roomy = roomy-filtered (is_of_another key) ps s in
    let same : placed key stored ps ≡ others key ps = rw never refl in
    (is ∙ sym (ap (take MAX_STORED) same ∙ roomy.0), sym (ap (drop MAX_STORED) same ∙ roomy.1))

-- What stands in a table is a store.
pub store_is : (slots : List (Option Pair)) (os : List ℕ) (ns : List Named) → AreStored slots os ns → IsStore (pairs_in slots os)
store_is slots os ns t =
    let few = t.few in
    let sized = t.sized in
    record { few = omega (arith, few, sized, pairs_few slots os); apart = t.apart }
