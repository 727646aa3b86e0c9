-- What looking for a pair finds, by the slot that it stands in.
use Rattle.std.proofs.Common.{◌≡◌, ℕ, Bool, true, false, not, cond, List, [], ◌∷◌, filter, Option, Some, None, refl, ap, sym, subst, ◌∙◌, ◌&&◌}
use Rattle.std.specs.Prelude.{is_some}
use Rattle.std.specs.List.{find, list_any}
use Rattle.std.proofs.lemmas.Bool.{and_parts, false≢true}
use Rattle.cache_key.specs.Keys.{CacheKey, same_key, same_place}
use Rattle.cache_key.specs.declared.place.Place.{Place}
use Rattle.cache_key.proofs.CallerLemmas.{keys_decided, places_decided}
use Rattle.resp_cache.specs.Slots.{holds, holds_near, pairs_in, slot_at, with_pair}
use Rattle.resp_cache.specs.Stored.{is_fresh}
use Rattle.resp_cache.specs.Stores.{KeysApart, is_elsewhere, is_fresh_under, is_of, is_stale_under, others}
use Rattle.resp_cache.specs.Tables.{AreStored}
use Rattle.resp_cache.specs.declared.names.Named.{Named}
use Rattle.resp_cache.specs.declared.pair.Pair.{Pair}
use Rattle.resp_cache.proofs.Lists.{find-nothing, none_dropped, none_narrower}
use Rattle.resp_cache.proofs.Slotted.{found_at, none_held}
use Rattle.resp_cache.proofs.Tabling.{is_there}

-- if it passes
abbrev pub kept_if : (Pair → Bool) → Option Pair → Option Pair
kept_if f None = None
kept_if f (Some p) = cond (f p) (Some p) None

-- Of the pairs of one key there is one at most.
pub find_both : (key : CacheKey) (f : Pair → Bool) (ps : List Pair) → KeysApart ps → find (λ q. is_of key q && f q) ps ≡ kept_if f (find (is_of key) ps)
find_both key f [] apart = refl
find_both key f (p ∷ ps) apart = by (is_of key p) refl (f p) refl (find_both key f ps apart.1)
  where
    by : (b : Bool) → is_of key p ≡ b → (c : Bool) → f p ≡ c → find (λ q. is_of key q && f q) ps ≡ kept_if f (find (is_of key) ps)
        → cond (b && f p) (Some p) (find (λ q. is_of key q && f q) ps) ≡ kept_if f (cond b (Some p) (find (is_of key) ps))
    by true is true passes h = rw passes refl
    by true is false passes h =
        let P : CacheKey → Type 0 = λ k. list_any (is_of k) ps ≡ false in
        let none : list_any (is_of key) ps ≡ false = subst P ((keys_decided p.key key).0 is) apart.0 in
        rw passes (find-nothing (λ q. is_of key q && f q) ps (none_narrower (is_of key) f ps none))
    by false is c passes h = h

pub some_of : (o : Option Pair) → is_some o ≡ true → (p : Pair) × (o ≡ Some p)
some_of None e = absurd (false≢true e)
some_of (Some p) e = (p, refl)

pub held : (key : CacheKey) (o : Option Pair) → holds key o ≡ true → (p : Pair) × (o ≡ Some p) × (p.key ≡ key)
held key None e = absurd (false≢true e)
held key (Some p) e = (p, refl, (keys_decided p.key key).0 e)

pub held_near : (key : CacheKey) (o : Option Pair) → holds_near key o ≡ true → (p : Pair) × (o ≡ Some p) × (p.key.place ≡ key.place)
held_near key None e = absurd (false≢true e)
held_near key (Some p) e = (p, refl, (places_decided p.key.place key.place).0 e)

pub found_in : (key : CacheKey) (slots : List (Option Pair)) (os : List ℕ) (ns : List Named) (s : ℕ) → AreStored slots os ns → holds key (slot_at slots s) ≡ true → find (is_of key) (pairs_in slots os) ≡ slot_at slots s
found_in key slots os ns s t e =
    let h = held key (slot_at slots s) e in
    let P : CacheKey → Type 0 = λ k. find (is_of k) (pairs_in slots os) ≡ Some h.0 in
    subst P h.2 (found_at slots os s h.0 (is_there slots os ns s h.0 t h.1) h.1 t.apart) ∙ sym h.1

pub none_in : (key : CacheKey) (slots : List (Option Pair)) (os : List ℕ) → ((s : ℕ) → holds key (slot_at slots s) ≡ false) → find (is_of key) (pairs_in slots os) ≡ None
none_in key slots os none = find-nothing (is_of key) (pairs_in slots os) (none_held key slots os none)

pub none_out : (key : CacheKey) (slots : List (Option Pair)) (os : List ℕ) → ((s : ℕ) → holds key (slot_at slots s) ≡ false) → others key (pairs_in slots os) ≡ pairs_in slots os
none_out key slots os none = none_dropped (is_of key) (pairs_in slots os) (none_held key slots os none)

near_none : (key : CacheKey) (slots : List (Option Pair)) (os : List ℕ) → ((s : ℕ) → holds_near key (slot_at slots s) ≡ false) → list_any (λ (p : Pair). same_place p.key.place key.place) (pairs_in slots os) ≡ false
near_none key slots [] none = refl
near_none key slots (x ∷ xs) none = by (slot_at slots x) (none x) (near_none key slots xs none)
  where
    by : (o : Option Pair) → holds_near key o ≡ false → list_any (λ (p : Pair). same_place p.key.place key.place) (pairs_in slots xs) ≡ false
        → list_any (λ (p : Pair). same_place p.key.place key.place) (with_pair o (pairs_in slots xs)) ≡ false
    by None un h = h
    by (Some p) un h = rw un h

-- Where no slot has one of a place, none is taken out.
pub none_near : (key : CacheKey) (slots : List (Option Pair)) (os : List ℕ) → ((s : ℕ) → holds_near key (slot_at slots s) ≡ false) → filter (is_elsewhere key.place) (pairs_in slots os) ≡ pairs_in slots os
none_near key slots os none = none_dropped (λ (p : Pair). same_place p.key.place key.place) (pairs_in slots os) (near_none key slots os none)

-- Where one of the place goes first, the others of the place go all the same.
pub one_by_one : (k : CacheKey) (place : Place) (ps : List Pair) → k.place ≡ place → filter (is_elsewhere place) (others k ps) ≡ filter (is_elsewhere place) ps
one_by_one k place [] same = refl
one_by_one k place (p ∷ ps) same = by (same_key p.key k) refl (is_elsewhere place p) refl (one_by_one k place ps same)
  where
    by : (b : Bool) → same_key p.key k ≡ b → (c : Bool) → is_elsewhere place p ≡ c → filter (is_elsewhere place) (others k ps) ≡ filter (is_elsewhere place) ps
        → filter (is_elsewhere place) (cond (not b) (p ∷ others k ps) (others k ps)) ≡ cond c (p ∷ filter (is_elsewhere place) ps) (filter (is_elsewhere place) ps)
    by true is true far h =
        let place_in : CacheKey → Place = λ l. l.place in
        let near : p.key.place ≡ place = ap place_in ((keys_decided p.key k).0 is) ∙ same in
        absurd (false≢true (sym (ap not ((places_decided p.key.place place).1 near)) ∙ far))
    by true is false far h = h
    by false is true far h = rw far (ap (λ (qs : List Pair). p ∷ qs) h)
    by false is false far h = rw far h

-- what is served, and what is out of date

pub served_none : (key : CacheKey) (t : ℕ) (ps : List Pair) → KeysApart ps → find (is_of key) ps ≡ None → find (is_fresh_under key t) ps ≡ None
served_none key t ps apart none = find_both key (λ q. is_fresh t q.stored) ps apart ∙ ap (kept_if (λ q. is_fresh t q.stored)) none

pub served_one : (key : CacheKey) (t : ℕ) (ps : List Pair) (p : Pair) → KeysApart ps → find (is_of key) ps ≡ Some p → is_fresh t p.stored ≡ true → find (is_fresh_under key t) ps ≡ Some p
served_one key t ps p apart found fresh =
    find_both key (λ q. is_fresh t q.stored) ps apart ∙ (ap (kept_if (λ q. is_fresh t q.stored)) found ∙ ap (λ (b : Bool). cond b (Some p) None) fresh)

pub served_not : (key : CacheKey) (t : ℕ) (ps : List Pair) (p : Pair) → KeysApart ps → find (is_of key) ps ≡ Some p → is_fresh t p.stored ≡ false → find (is_fresh_under key t) ps ≡ None
served_not key t ps p apart found fresh =
    find_both key (λ q. is_fresh t q.stored) ps apart ∙ (ap (kept_if (λ q. is_fresh t q.stored)) found ∙ ap (λ (b : Bool). cond b (Some p) None) fresh)

pub stale_none : (key : CacheKey) (t : ℕ) (ps : List Pair) → KeysApart ps → find (is_of key) ps ≡ None → find (is_stale_under key t) ps ≡ None
stale_none key t ps apart none = find_both key (λ q. not (is_fresh t q.stored)) ps apart ∙ ap (kept_if (λ q. not (is_fresh t q.stored))) none

pub stale_one : (key : CacheKey) (t : ℕ) (ps : List Pair) (p : Pair) (b : Bool) → KeysApart ps → find (is_of key) ps ≡ Some p → is_fresh t p.stored ≡ b → find (is_stale_under key t) ps ≡ cond (not b) (Some p) None
stale_one key t ps p b apart found fresh =
    find_both key (λ q. not (is_fresh t q.stored)) ps apart ∙ (ap (kept_if (λ q. not (is_fresh t q.stored))) found ∙ ap (λ (c : Bool). cond (not c) (Some p) None) fresh)

pub fresh_found : (key : CacheKey) (t : ℕ) (slots : List (Option Pair)) (os : List ℕ) (ns : List Named) (s : ℕ) (p : Pair) → AreStored slots os ns → slot_at slots s ≡ Some p → is_fresh_under key t p ≡ true
    → find (is_fresh_under key t) (pairs_in slots os) ≡ Some p
fresh_found key t slots os ns s p k here e =
    let parts = and_parts (is_of key p) (is_fresh t p.stored) e in
    let found : find (is_of key) (pairs_in slots os) ≡ Some p = found_in key slots os ns s k (ap (holds key) here ∙ parts.0) ∙ here in
    served_one key t (pairs_in slots os) p k.apart found parts.1
