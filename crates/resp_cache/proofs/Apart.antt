-- Lists in which no key stands twice.
use Rattle.std.proofs.Common.{◌≡◌, ℕ, suc, zero, ◌<◌, List, [], ◌∷◌, ◌++◌, length, filter, Bool, true, false, cond, refl, ap, sym, subst, ◌∙◌, get_or, take, arith}
use Rattle.std.specs.List.{list_any, remove}
use Rattle.std.proofs.lemmas.Bool.{both_ways}
use Rattle.std.proofs.lemmas.List.Folds.{list_any_at, list_any-append}
use Rattle.cache_key.specs.Keys.{CacheKey, same_key}
use Rattle.cache_key.proofs.Told.{keys_decided}
use Rattle.resp_cache.specs.Stores.{is_of, is_of_another, others, KeysApart}
use Rattle.resp_cache.specs.declared.pair.Pair.{Pair}
use Rattle.resp_cache.proofs.Lists.{is_false, or_false, none_dropped, none_filtered, none_left, none_taken}

pub same_itself : (k : CacheKey) → same_key k k ≡ true
same_itself k = (keys_decided k k).1 refl

pub other_way : (k l : CacheKey) → same_key k l ≡ false → same_key l k ≡ false
other_way k l e = is_false (same_key l k) (λ s. both_ways (same_key k l) e ((keys_decided k l).1 (sym ((keys_decided l k).0 s))))

pub apart-filtered : (f : Pair → Bool) (ps : List Pair) → KeysApart ps → KeysApart (filter f ps)
apart-filtered f [] apart = tt
apart-filtered f (p ∷ ps) apart =
    elim (f p) as (λ b. KeysApart (cond b (p ∷ filter f ps) (filter f ps))) [
      | true ↦ (none_filtered (is_of p.key) f ps apart.0, apart-filtered f ps apart.1)
      | false ↦ apart-filtered f ps apart.1
    ]

pub apart-taken : (n : ℕ) (ps : List Pair) → KeysApart ps → KeysApart (take n ps)
apart-taken zero ps apart = tt
apart-taken (suc n) [] apart = tt
apart-taken (suc n) (p ∷ ps) apart = (none_taken (is_of p.key) n ps apart.0, apart-taken n ps apart.1)

pub apart-placed : (p : Pair) (ps : List Pair) → KeysApart ps → KeysApart (p ∷ others p.key ps)
apart-placed p ps apart = (none_left (is_of p.key) ps, apart-filtered (is_of_another p.key) ps apart)

-- Without the pair in one place the pairs of other keys are left.
pub others-removed : (ps : List Pair) (i : ℕ) (r : Pair) → KeysApart ps → i < length ps → r ≡ get_or ps i r → remove ps i ≡ others r.key ps
others-removed [] i r apart lt read = absurd (omega arith)
others-removed (p ∷ ps) zero r apart lt read =
    let of : same_key p.key r.key ≡ true = rw read (same_itself p.key) in
    let none : list_any (is_of r.key) ps ≡ false = rw read apart.0 in
    rw of (sym (none_dropped (is_of r.key) ps none))
others-removed (p ∷ ps) (suc i) r apart lt read =
    let inside : i < length ps = omega arith in
    let of : is_of r.key (get_or ps i r) ≡ true = rw (← read) (same_itself r.key) in
    let some : list_any (is_of r.key) ps ≡ true = list_any_at (is_of r.key) ps i r inside of in
    let P : CacheKey → Type 0 = λ k. list_any (is_of k) ps ≡ false in
    let other : same_key p.key r.key ≡ false = is_false (same_key p.key r.key) (λ s. both_ways (list_any (is_of r.key) ps) (subst P ((keys_decided p.key r.key).0 s) apart.0) some) in
    rw other (ap (λ qs. p ∷ qs) (others-removed ps i r apart.1 inside read))

-- No other pair has the key of this one.
pub record IsAlone (front : List Pair) (p : Pair) (back : List Pair) : Type 0 where
  pub before : list_any (is_of p.key) front ≡ false
  pub behind : list_any (is_of p.key) back ≡ false
  pub apart : KeysApart front

pub alone : (front : List Pair) (p : Pair) (back : List Pair) → KeysApart (front ++ p ∷ back) → IsAlone front p back
alone [] p back apart = record { before = refl; behind = apart.0; apart = tt }
alone (q ∷ front) p back apart =
    let h = alone front p back apart.1 in
    let parts = or_false (list_any (is_of q.key) front) (list_any (is_of q.key) (p ∷ back)) (sym (list_any-append (is_of q.key) front (p ∷ back)) ∙ apart.0) in
    let here = or_false (same_key p.key q.key) (list_any (is_of q.key) back) parts.1 in
    record { before = rw (other_way p.key q.key here.0) h.before; behind = h.behind; apart = (parts.0, h.apart) }
