-- What is carried over a rotation stands in the store, which has nothing that a write has outrun.
use Rattle.std.proofs.Common.{◌≡◌, ℕ, zero, inl, inr, Bool, true, false, cond, List, [], ◌∷◌, ◌++◌, Option, Some, None, refl, sym, ap, subst, ◌∙◌, arith}
use Rattle.std.specs.List.{Contains}
use Rattle.std.proofs.lemmas.List.Elements.{Contains-append_cases}
use Rattle.cache_key.specs.Keys.{CacheKey}
use Rattle.resp_cache.specs.declared.pair.Pair.{Pair}
use Rattle.journal_book.specs.Entries.{Written}
use Rattle.history_laws.specs.Joining.{outrun}
use Rattle.history_laws.proofs.CallerLemmas.{all-of, contains-later, contains-none, first-or-later, stored-unoutrun}
use Rattle.exchange_model.specs.Backing.{backing}
use Rattle.exchange_model.specs.Carried.{CarriesNothingOutrun}
use Rattle.exchange_model.specs.Keeping.{Kept}
use Rattle.exchange_model.specs.Reads.{PairIn}
use Rattle.exchange_model.specs.Rotating.{Backed, are_few, backed, backed_by, backed_if, copies_with, few_of, may_carry, taken}
use Rattle.exchange_model.specs.State.{State}

few-of-in : (t : ℕ) (ws : List Written) (gs : List ℕ) (bs : List Backed) (b : Backed) → Contains (few_of t ws gs bs) b → Contains bs b
few-of-in t ws gs [] b h = h
few-of-in t ws gs (c ∷ bs) b h = by (are_few (copies_with t ws (gs ++ c.numbers))) (few-of-in t ws (gs ++ c.numbers) bs b) h
  where
    by : (few : Bool) → (Contains (few_of t ws (gs ++ c.numbers) bs) b → Contains bs b)
        → Contains (cond few (c ∷ few_of t ws (gs ++ c.numbers) bs) []) b → Contains (c ∷ bs) b
    by true ih h = elim (first-or-later c (few_of t ws (gs ++ c.numbers) bs) b h) [
      | inl is ↦ subst (λ (v : Backed). Contains (c ∷ bs) v) is (zero, omega arith, refl)
      | inr later ↦ contains-later c bs b (ih later)
    ]
    by false ih h = absurd (contains-none b h)

backed-of : (p : Pair) (ns : Option (List ℕ)) (b : Backed) → Contains (backed_by p ns) b → p ≡ b.pair
backed-of p None b h = absurd (contains-none b h)
backed-of p (Some ns) b h = elim (first-or-later (record { pair = p; numbers = ns }) [] b h) [
  | inl is ↦ ap (λ (c : Backed). c.pair) is
  | inr later ↦ absurd (contains-none b later)
]

backed-so : (may : Bool) (ws : List Written) (p : Pair) (b : Backed) → Contains (backed_if may ws p) b → p ≡ b.pair
backed-so true ws p b h = backed-of p (backing ws p.stored) b h
backed-so false ws p b h = absurd (contains-none b h)

backed-in : (t : ℕ) (S : State) (ps : List Pair) (b : Backed) → Contains (backed t S ps) b → Contains ps b.pair
backed-in t S [] b h = absurd (contains-none b h)
backed-in t S (p ∷ ps) b h =
    elim (Contains-append_cases (backed_if (may_carry t S p) S.entries p) (backed t S ps) b h) [
      | inl is ↦ subst (λ (q : Pair). Contains (p ∷ ps) q) (backed-so (may_carry t S p) S.entries p b is) (zero, omega arith, refl)
      | inr later ↦ contains-later p ps b.pair (backed-in t S ps b later)
    ]

pub carries-fresh : CarriesNothingOutrun
carries-fresh t S k b has =
    let r = k.rests.reads in
    let stands = backed-in t S S.store b (few-of-in t S.entries [] (backed t S S.store) b has) in
    let pair = all-of (PairIn k.reading) S.store b.pair r.store_is.pairs stands in
    ap (λ (key : CacheKey). outrun k.reading key.place b.pair.stored.opening) (sym pair.key)
    ∙ stored-unoutrun k.reading pair.request b.pair.stored r.legal pair.stored
