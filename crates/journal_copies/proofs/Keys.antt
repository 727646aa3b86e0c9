-- The pairs that are carried over are a store again.
use Rattle.std.proofs.Common.{◌≡◌, ℕ, ◌≤◌, Bool, true, false, cond, List, [], ◌∷◌, ◌++◌, length, map, Option, Some, None, refl, sym, arith}
use Rattle.std.specs.Prelude.{◌||◌}
use Rattle.std.specs.List.{list_any}
use Rattle.std.proofs.lemmas.Bool.{false≢true}
use Rattle.cache_key.specs.Keys.{CacheKey}
use Rattle.journal_book.specs.Entries.{Written}
use Rattle.resp_cache.specs.Stored.{is_fresh}
use Rattle.resp_cache.specs.Stores.{IsStore, KeysApart, is_of}
use Rattle.resp_cache.specs.declared.pair.Pair.{Pair}
use Rattle.exchange_model.specs.Backing.{backing}
use Rattle.exchange_model.specs.Rotating.{Backed, are_few, backed_by, backed_if, copies_with, few_of, pair_at}
use Rattle.journal_copies.specs.Carrying.{backed_in, few_in}

or-parts : (a b : Bool) → (a || b) ≡ false → (a ≡ false) × (b ≡ false)
or-parts true b h = absurd (false≢true (sym h))
or-parts false b h = (refl, h)

or-both : (a b : Bool) → a ≡ false → b ≡ false → (a || b) ≡ false
or-both a b e f = rw (e, f) refl

module _ (t : ℕ) (ws cs : List Written) where
  abbrev carried : List ℕ → List Backed → List Pair
  carried gs bs = map (pair_at cs) (few_of t ws gs bs)

  abbrev backed_as : Pair → List ℕ → Backed
  backed_as p ns = record { pair = p; numbers = ns }

  none-carried : (key : CacheKey) (gs : List ℕ) (ps : List Pair) → list_any (is_of key) ps ≡ false
      → list_any (is_of key) (carried gs (backed_in t ws ps)) ≡ false
  none-carried key gs [] h = refl
  none-carried key gs (p ∷ ps) h =
      let parts = or-parts (is_of key p) (list_any (is_of key) ps) h in
      of parts.0 (λ hs. none-carried key hs ps parts.1) (is_fresh t p.stored)
    where
      few : is_of key p ≡ false → ((hs : List ℕ) → list_any (is_of key) (carried hs (backed_in t ws ps)) ≡ false) → (ns : List ℕ) (b : Bool)
          → list_any (is_of key) (map (pair_at cs) (cond b (backed_as p ns ∷ few_of t ws (gs ++ ns) (backed_in t ws ps)) [])) ≡ false
      few own ih ns true =
          or-both (is_of key p) (list_any (is_of key) (carried (gs ++ ns) (backed_in t ws ps))) own (ih (gs ++ ns))
      few own ih ns false = refl

      found : is_of key p ≡ false → ((hs : List ℕ) → list_any (is_of key) (carried hs (backed_in t ws ps)) ≡ false) → (o : Option (List ℕ))
          → list_any (is_of key) (carried gs (backed_by p o ++ backed_in t ws ps)) ≡ false
      found own ih None = ih gs
      found own ih (Some ns) = few own ih ns (are_few (copies_with t ws (gs ++ ns)))

      of : is_of key p ≡ false → ((hs : List ℕ) → list_any (is_of key) (carried hs (backed_in t ws ps)) ≡ false) → (f : Bool)
          → list_any (is_of key) (carried gs (backed_if f ws p ++ backed_in t ws ps)) ≡ false
      of own ih true = found own ih (backing ws p.stored)
      of own ih false = ih gs

  apart-carried : (gs : List ℕ) (ps : List Pair) → KeysApart ps → KeysApart (carried gs (backed_in t ws ps))
  apart-carried gs [] h = tt
  apart-carried gs (p ∷ ps) h =
      of (λ hs. none-carried p.key hs ps h.0) (λ hs. apart-carried hs ps h.1) (is_fresh t p.stored)
    where
      few : ((hs : List ℕ) → list_any (is_of p.key) (carried hs (backed_in t ws ps)) ≡ false)
          → ((hs : List ℕ) → KeysApart (carried hs (backed_in t ws ps))) → (ns : List ℕ) (b : Bool)
          → KeysApart (map (pair_at cs) (cond b (backed_as p ns ∷ few_of t ws (gs ++ ns) (backed_in t ws ps)) []))
      few none ih ns true = (none (gs ++ ns), ih (gs ++ ns))
      few none ih ns false = tt

      found : ((hs : List ℕ) → list_any (is_of p.key) (carried hs (backed_in t ws ps)) ≡ false)
          → ((hs : List ℕ) → KeysApart (carried hs (backed_in t ws ps))) → (o : Option (List ℕ))
          → KeysApart (carried gs (backed_by p o ++ backed_in t ws ps))
      found none ih None = ih gs
      found none ih (Some ns) = few none ih ns (are_few (copies_with t ws (gs ++ ns)))

      of : ((hs : List ℕ) → list_any (is_of p.key) (carried hs (backed_in t ws ps)) ≡ false)
          → ((hs : List ℕ) → KeysApart (carried hs (backed_in t ws ps))) → (f : Bool)
          → KeysApart (carried gs (backed_if f ws p ++ backed_in t ws ps))
      of none ih true = found none ih (backing ws p.stored)
      of none ih false = ih gs

  fewer-carried : (gs : List ℕ) (ps : List Pair) → length (carried gs (backed_in t ws ps)) ≤ length ps
  fewer-carried gs [] = omega arith
  fewer-carried gs (p ∷ ps) = of (λ hs. fewer-carried hs ps) (is_fresh t p.stored)
    where
      few : ((hs : List ℕ) → length (carried hs (backed_in t ws ps)) ≤ length ps) → (ns : List ℕ) (b : Bool)
          → length (map (pair_at cs) (cond b (backed_as p ns ∷ few_of t ws (gs ++ ns) (backed_in t ws ps)) [])) ≤ length (p ∷ ps)
      few ih ns true = let rest = ih (gs ++ ns) in omega (arith, rest)
      few ih ns false = omega arith

      found : ((hs : List ℕ) → length (carried hs (backed_in t ws ps)) ≤ length ps) → (o : Option (List ℕ)) → length (carried gs (backed_by p o ++ backed_in t ws ps)) ≤ length (p ∷ ps)
      found ih None = let rest = ih gs in omega (arith, rest)
      found ih (Some ns) = few ih ns (are_few (copies_with t ws (gs ++ ns)))

      of : ((hs : List ℕ) → length (carried hs (backed_in t ws ps)) ≤ length ps) → (f : Bool) → length (carried gs (backed_if f ws p ++ backed_in t ws ps)) ≤ length (p ∷ ps)
      of ih true = found ih (backing ws p.stored)
      of ih false = let rest = ih gs in omega (arith, rest)

  pub store-carried : (ps : List Pair) → IsStore ps → IsStore (map (pair_at cs) (few_in t ws ps))
  store-carried ps h = record {
    few = let fewer = fewer-carried [] ps in let few = h.few in omega (arith, fewer, few);
    apart = apart-carried [] ps h.apart;
  }
