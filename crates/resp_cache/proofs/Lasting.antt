-- What was used last stays.
use Rattle.std.proofs.Common.{◌≡◌, ℕ, ◌<◌, ◌≤◌, List, [], ◌∷◌, ◌++◌, length, filter, Bool, true, false, not, cond, Option, Some, None, refl, ap, sym, subst, ◌∙◌, take, arith}
use Rattle.std.specs.List.{list_any, list_all, find}
use Rattle.std.specs.Option.{option_map, option_to_list}
use Rattle.std.proofs.lemmas.Bool.{and_parts, and_from, not-true, not_from_false}
use Rattle.std.proofs.lemmas.List.Elements.{filter-append}
use Rattle.std.proofs.lemmas.Map.Views.{any-filter_same}
use Rattle.limits.specs.declared.TheConstants.{MAX_STORED}
use Rattle.cache_key.specs.Keys.{CacheKey, same_key}
use Rattle.cache_key.proofs.Told.{keys_decided}
use Rattle.resp_cache.specs.Stored.{Stored, is_fresh, is_never_fresh}
use Rattle.resp_cache.specs.Stores.{is_of, is_of_another, is_elsewhere, is_fresh_under, others, moved, placed, with_first, KeysApart}
use Rattle.resp_cache.specs.Uses.{Call, Get, Put, Retire, after, after_all, used_by, used, spares, is_among, TheLastUsedStay}
use Rattle.resp_cache.specs.declared.pair.Pair.{Pair}
use Rattle.resp_cache.proofs.Lists.{or_false, find-only, found, fewer, none_narrower, all_filtered, all_parts, take-front}
use Rattle.resp_cache.proofs.Apart.{same_itself, other_way, apart-filtered, apart-taken, apart-placed, alone}

abbrev has_key_among : List CacheKey → Pair → Bool
has_key_among keys q = is_among keys q.key

-- the keys without one of them
abbrev keys_without : CacheKey → List CacheKey → List CacheKey
keys_without key keys = filter (λ k. not (same_key key k)) keys

still_among : (key : CacheKey) (keys : List CacheKey) (k : CacheKey) → same_key k key ≡ false → is_among keys k ≡ true → is_among (keys_without key keys) k ≡ true
still_among key keys k other among =
    let stays : (l : CacheKey) → same_key k l ≡ true → not (same_key key l) ≡ true = λ l same.
    let P : CacheKey → Type 0 = λ m. not (same_key key m) ≡ true in
    subst P ((keys_decided k l).0 same) (not_from_false (same_key key k) (other_way k key other)) in
    any-filter_same (same_key k) (λ l. not (same_key key l)) true stays keys ∙ among

all_still_among : (key : CacheKey) (keys : List CacheKey) (ps : List Pair) → list_any (is_of key) ps ≡ false → list_all (has_key_among keys) ps ≡ true → list_all (has_key_among (keys_without key keys)) ps ≡ true
all_still_among key keys [] none all = refl
all_still_among key keys (p ∷ ps) none all =
    let n = or_false (same_key p.key key) (list_any (is_of key) ps) none in
    let a = and_parts (is_among keys p.key) (list_all (has_key_among keys) ps) all in
    and_from (is_among (keys_without key keys) p.key) (list_all (has_key_among (keys_without key keys)) ps) (still_among key keys p.key n.0 a.0) (all_still_among key keys ps n.1 a.1)

-- Pairs whose keys are apart are no more than the keys that they have.
no_more : (ps : List Pair) (keys : List CacheKey) → KeysApart ps → list_all (has_key_among keys) ps ≡ true → length ps ≤ length keys
no_more [] keys apart all = omega arith
no_more (p ∷ ps) keys apart all =
    let a = and_parts (is_among keys p.key) (list_all (has_key_among keys) ps) all in
    let others_are = all_still_among p.key keys ps apart.0 a.1 in
    omega (arith, no_more ps (keys_without p.key keys) apart.1 others_are, fewer (same_key p.key) keys a.0)

-- In front of the pair are pairs of these keys alone.
record Stays (p : Pair) (keys : List CacheKey) (qs : List Pair) : Type 0 where
  front : List Pair
  back : List Pair
  whole : qs ≡ front ++ p ∷ back
  apart : KeysApart qs
  among : list_all (has_key_among keys) front ≡ true

stays-filtered : (p : Pair) (keys : List CacheKey) (qs : List Pair) (f : Pair → Bool) → f p ≡ true → Stays p keys qs → Stays p keys (filter f qs)
stays-filtered p keys qs f passes s =
    let kept : filter f (p ∷ s.back) ≡ p ∷ filter f s.back = rw passes refl in
    record {
      front = filter f s.front;
      back = filter f s.back;
      whole = ap (filter f) s.whole ∙ (filter-append f s.front (p ∷ s.back) ∙ ap (λ qs. filter f s.front ++ qs) kept);
      apart = apart-filtered f qs s.apart;
      among = all_filtered (has_key_among keys) f s.front s.among;
    }

stays-placed : (p : Pair) (keys : List CacheKey) (qs : List Pair) (r : Pair) → same_key p.key r.key ≡ false → is_among keys r.key ≡ true → Stays p keys qs → Stays p keys (r ∷ others r.key qs)
stays-placed p keys qs r other among s =
    let left = stays-filtered p keys qs (is_of_another r.key) (not_from_false (same_key p.key r.key) other) s in
    record {
      front = r ∷ left.front;
      back = left.back;
      whole = ap (λ qs. r ∷ qs) left.whole;
      apart = apart-placed r qs s.apart;
      among = and_from (is_among keys r.key) (list_all (has_key_among keys) left.front) among left.among;
    }

stays-taken : (p : Pair) (keys : List CacheKey) (qs : List Pair) (n : ℕ) → length keys < n → Stays p keys qs → Stays p keys (take n qs)
stays-taken p keys qs n few s =
    let parts = alone s.front p s.back (let P : List Pair → Type 0 = λ xs. KeysApart xs in subst P s.whole s.apart) in
    let cut = take-front s.front p s.back n (omega (arith, no_more s.front keys parts.apart s.among)) in
    record {
      front = s.front;
      back = take cut.0 s.back;
      whole = ap (take n) s.whole ∙ cut.1;
      apart = apart-taken n qs s.apart;
      among = s.among;
    }

-- what is found under its key
own : (p : Pair) (keys : List CacheKey) (qs : List Pair) (t : ℕ) → Stays p keys qs → find (is_fresh_under p.key t) qs ≡ cond (is_fresh t p.stored) (Some p) None
own p keys qs t s =
    let parts = alone s.front p s.back (let P : List Pair → Type 0 = λ xs. KeysApart xs in subst P s.whole s.apart) in
    let fresh : Pair → Bool = λ q. is_fresh t q.stored in
    let only = find-only (is_fresh_under p.key t) s.front p s.back (none_narrower (is_of p.key) fresh s.front parts.before) (none_narrower (is_of p.key) fresh s.back parts.behind) in
    ap (find (is_fresh_under p.key t)) s.whole ∙ (only ∙ rw (same_itself p.key) refl)

-- Another key that is used is one of the others.
other_among : (k l : CacheKey) (keys : List CacheKey) → same_key l k ≡ false → list_all (is_among (k ∷ keys)) (l ∷ []) ≡ true → is_among keys l ≡ true
other_among k l keys other used_is =
    let a = and_parts (is_among (k ∷ keys) l) true used_is in
    rw other at a.0

served_own : (b : Bool) (p : Pair) (keys : List CacheKey) (qs : List Pair) → Stays p keys qs → Stays p keys (with_first (cond b (Some p) None) qs)
served_own true p keys qs s = record { front = []; back = others p.key qs; whole = refl; apart = apart-placed p qs s.apart; among = refl }
served_own false p keys qs s = s

served_other : (p : Pair) (keys : List CacheKey) (qs : List Pair) (key : CacheKey) (t : ℕ) (o : Option Pair) → find (is_fresh_under key t) qs ≡ o → same_key key p.key ≡ false
    → list_all (is_among (p.key ∷ keys)) (option_to_list (option_map (λ (q : Pair). q.key) o)) ≡ true → Stays p keys qs → Stays p keys (with_first o qs)
served_other p keys qs key t None at other used_is s = s
served_other p keys qs key t (Some r) at other used_is s =
    let passes = and_parts (same_key r.key key) (is_fresh t r.stored) (found (is_fresh_under key t) qs r at) in
    let P : CacheKey → Type 0 = λ k. same_key k p.key ≡ false in
    let apart : same_key r.key p.key ≡ false = subst P (sym ((keys_decided r.key key).0 passes.0)) other in
    stays-placed p keys qs r (other_way r.key p.key apart) (other_among p.key r.key keys apart used_is) s

got : (b : Bool) (p : Pair) (keys : List CacheKey) (qs : List Pair) (key : CacheKey) (t : ℕ) → same_key key p.key ≡ b
    → list_all (is_among (p.key ∷ keys)) (option_to_list (used_by (Get key t) qs)) ≡ true → Stays p keys qs → Stays p keys (moved key t qs)
got true p keys qs key t same used_is s =
    let P : CacheKey → Type 0 = λ k. Stays p keys (moved k t qs) in
    subst P (sym ((keys_decided key p.key).0 same)) (rw (own p keys qs t s) (served_own (is_fresh t p.stored) p keys qs s))
got false p keys qs key t other used_is s = served_other p keys qs key t (find (is_fresh_under key t) qs) refl other used_is s

put : (b : Bool) (p : Pair) (keys : List CacheKey) (qs : List Pair) (key : CacheKey) (stored : Stored) → is_of_another key p ≡ true
    → list_all (is_among (p.key ∷ keys)) (option_to_list (cond b None (Some key))) ≡ true → Stays p keys qs → Stays p keys (cond b (others key qs) (record { key = key; stored = stored } ∷ others key qs))
put true p keys qs key stored spared used_is s = stays-filtered p keys qs (is_of_another key) spared s
put false p keys qs key stored spared used_is s =
    let other : same_key p.key key ≡ false = not-true (same_key p.key key) spared in
    stays-placed p keys qs (record { key = key; stored = stored }) other (other_among p.key key keys (other_way p.key key other) used_is) s

stays-after : (c : Call) (p : Pair) (keys : List CacheKey) (qs : List Pair) → spares p c ≡ true → list_all (is_among (p.key ∷ keys)) (option_to_list (used_by c qs)) ≡ true → length keys < MAX_STORED → Stays p keys qs → Stays p keys (after c qs)
stays-after (Get key t) p keys qs spared used_is few s = got (same_key key p.key) p keys qs key t refl used_is s
stays-after (Put key stored) p keys qs spared used_is few s = stays-taken p keys (placed key stored qs) MAX_STORED few (put (is_never_fresh stored) p keys qs key stored spared used_is s)
stays-after (Retire place) p keys qs spared used_is few s = stays-filtered p keys qs (is_elsewhere place) spared s

stays-after_all : (calls : List Call) (p : Pair) (keys : List CacheKey) (qs : List Pair) → list_all (spares p) calls ≡ true → list_all (is_among (p.key ∷ keys)) (used calls qs) ≡ true → length keys < MAX_STORED → Stays p keys qs → Stays p keys (after_all calls qs)
stays-after_all [] p keys qs spared used_is few s = s
stays-after_all (c ∷ calls) p keys qs spared used_is few s =
    let a = and_parts (spares p c) (list_all (spares p) calls) spared in
    let u = all_parts (is_among (p.key ∷ keys)) (option_to_list (used_by c qs)) (used calls (after c qs)) used_is in
    stays-after_all calls p keys (after c qs) a.1 u.1 few (stays-after c p keys qs a.0 u.0 few s)

pub last_used_stay : TheLastUsedStay
last_used_stay = λ p ps calls keys t apart spared used_is few fresh.
    let first : Stays p keys (p ∷ ps) = record { front = []; back = ps; whole = refl; apart = apart; among = refl } in
    let s = stays-after_all calls p keys (p ∷ ps) spared used_is few first in
    rw (own p keys (after_all calls (p ∷ ps)) t s, fresh) refl
