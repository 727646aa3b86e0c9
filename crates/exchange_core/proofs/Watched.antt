-- What is observed, as the request of an ask and the end of exchanges change it.
use Rattle.std.proofs.Common.{◌≡◌, ℕ, zero, suc, ◌+◌, ◌<◌, Bool, true, false, cond, not, ◌&&◌, ◌||◌, List, [], ◌∷◌, ◌++◌, append-nil, length, map, drop, get_or, Option, Some, None, refl, sym, ap, ◌∙◌, arith}
use Rattle.std.specs.Prelude.{filter, nat_lt, ◌==◌}
use Rattle.std.specs.List.{list_any}
use Rattle.std.proofs.lemmas.Bool.{false≢true}
use Rattle.cache_key.specs.declared.place.Place.{Place}
use Rattle.cache_key.specs.Keys.{CacheKey}
use Rattle.observe_share.specs.declared.registration.Registration.{Registration}
use Rattle.observe_share.specs.Watches.{is_at, is_idle, is_of, without}
use Rattle.ask_model.specs.Requests.{CoapRequest, Sense, Requests, Refuses}
use Rattle.ask_model.specs.Sharing.{asked_key, asked_place, is_get, key_read, place_written}
use Rattle.journal_book.specs.Entries.{Written}
use Rattle.exchange_model.specs.declared.kept.Exchange.{Exchange}
use Rattle.exchange_model.specs.Matters.{asked_in, request_in}
use Rattle.exchange_model.specs.Hearing.{is_written_late}
use Rattle.exchange_model.specs.Watching.{is_renewed_by, is_written_by, token_of, tokens_of}
use Rattle.exchange_core.specs.Watching.{is_renewed_for, is_unwatched_by, may_watch}

-- Where none passes, all stay.
pub none-goes : {X : Type 0} (p : X → Bool) (xs : List X) → ((x : X) → p x ≡ false) → xs ≡ without p xs
none-goes p [] none = refl
none-goes p (x ∷ xs) none = rw (none x) (ap (λ (ys : List _). x ∷ ys) (none-goes p xs none))

-- by two tests that say the same
pub goes-same : {X : Type 0} (p q : X → Bool) (xs : List X) → ((x : X) → p x ≡ q x) → without p xs ≡ without q xs
goes-same p q [] same = refl
goes-same {X = X} p q (x ∷ xs) same = by (goes-same p q xs same) ∙ ap (λ (b : Bool). cond (not b) (x ∷ without q xs) (without q xs)) (same x)
  where
    by : without p xs ≡ without q xs → cond (not (p x)) (x ∷ without p xs) (without p xs) ≡ cond (not (p x)) (x ∷ without q xs) (without q xs)
    by e = ap (λ (ys : List X). cond (not (p x)) (x ∷ ys) ys) e

-- by either of two tests, one after the other
pub goes-either : {X : Type 0} (p q : X → Bool) (xs : List X) → without (λ x. p x || q x) xs ≡ without q (without p xs)
goes-either p q [] = refl
goes-either {X = X} p q (x ∷ xs) = by (p x) (q x) refl (goes-either p q xs)
  where
    by : (a b : Bool) → q x ≡ b → without (λ y. p y || q y) xs ≡ without q (without p xs)
        → cond (not (a || q x)) (x ∷ without (λ y. p y || q y) xs) (without (λ y. p y || q y) xs) ≡ without q (cond (not a) (x ∷ without p xs) (without p xs))
    by true b is ih = ih
    by false true is ih = rw (is) ih
    by false false is ih = rw (is) (ap (λ (ys : List X). x ∷ ys) ih)

or-turned : (a b : Bool) → (a || b) ≡ (b || a)
or-turned true true = refl
or-turned true false = refl
or-turned false true = refl
or-turned false false = refl

-- what a request reads

some-key : (k l : CacheKey) → Some k ≡ Some l → k ≡ l
some-key k l e = cc

none-key : (k : CacheKey) → None ≡ Some k → ⊥
none-key k e = cc

pub renews-none : (sense : Sense) (rs : List Registration) → None ≡ key_read sense → rs ≡ without (is_renewed_for sense) rs
renews-none sense rs e = none-goes (is_renewed_for sense) rs (by sense e)
  where
    by : (s : Sense) → None ≡ key_read s → (r : Registration) → is_renewed_for s r ≡ false
    by (Refuses cause status) h r = refl
    by (Requests q) h r = get (is_get q) h
      where
        get : (b : Bool) → None ≡ cond b (Some (asked_key q)) None → (b && is_of (asked_key q) r) ≡ false
        get true k = absurd (none-key (asked_key q) k)
        get false k = refl

pub watches-some : (sense : Sense) (key : CacheKey) (rs : List Registration) → Some key ≡ key_read sense
    → nat_lt (length (without (is_of key) rs)) 64 ≡ may_watch sense rs
watches-some (Refuses cause status) key rs e = absurd (none-key key (sym e))
watches-some (Requests q) key rs e = by (is_get q) refl e
  where
    by : (b : Bool) → is_get q ≡ b → Some key ≡ cond b (Some (asked_key q)) None
        → nat_lt (length (without (is_of key) rs)) 64 ≡ (b && nat_lt (length (without (is_renewed_by q) rs)) 64)
    by true get k =
        ap (λ (l : CacheKey). nat_lt (length (without (is_of l) rs)) 64) (some-key key (asked_key q) k)
        ∙ ap (λ (xs : List Registration). nat_lt (length xs) 64)
        (goes-same (is_of (asked_key q)) (is_renewed_by q) rs (λ r. ap (λ (b : Bool). b && is_of (asked_key q) r) (sym get)))
    by false get k = absurd (none-key key (sym k))

-- what has ended, and what it wrote

pub writes-none : (ws : List Written) (o : ℕ) (rs : List Registration) → None ≡ asked_in ws o → rs ≡ without (is_written_by (asked_in ws o)) rs
writes-none ws o rs e = none-goes (is_written_by (asked_in ws o)) rs (λ r. ap (λ (v : Option CoapRequest). is_written_by v r) (sym e))

pub writes-nothing : (ws : List Written) (o : ℕ) (sense : Sense) (rs : List Registration) → request_in sense ≡ asked_in ws o → None ≡ place_written sense
    → rs ≡ without (is_written_by (asked_in ws o)) rs
writes-nothing ws o sense rs is none =
    none-goes (is_written_by (asked_in ws o)) rs (λ r. ap (λ (v : Option CoapRequest). is_written_by v r) (sym is) ∙ by sense none r)
  where
    by : (s : Sense) → None ≡ place_written s → (r : Registration) → is_written_by (request_in s) r ≡ false
    by (Refuses cause status) h r = refl
    by (Requests q) h r = get (q.method == 1) h
      where
        get : (b : Bool) → None ≡ cond b None (Some (asked_place q)) → (not b && is_at (asked_place q) r) ≡ false
        get true k = refl
        get false k = absurd (cc (k))

-- one exchange after another

drop-next : {X : Type 0} (xs : List X) (i : ℕ) (d : X) → i < length xs → drop i xs ≡ get_or xs i d ∷ drop (suc i) xs
drop-next [] i d lt = absurd (omega (arith, lt))
drop-next (x ∷ xs) zero d lt = refl
drop-next (x ∷ xs) (suc i) d lt = drop-next xs i d (omega (arith, lt))

pub written-next : (ws : List Written) (over : List Exchange) (i : ℕ) (e : Exchange) (old now new : List Registration)
    → i < length over → e ≡ get_or over i e → without (is_written_late ws (drop i over)) now ≡ without (is_written_late ws over) old
    → new ≡ without (is_written_by (asked_in ws e.ask)) now
    → without (is_written_late ws (drop (i + 1) over)) new ≡ without (is_written_late ws over) old
written-next ws over i e old now new lt at here last =
    ap (without (is_written_late ws (drop (i + 1) over))) last
    ∙ sym (goes-either (is_written_by (asked_in ws e.ask)) (is_written_late ws (drop (i + 1) over)) now)
    ∙ (ap (λ (es : List Exchange). without (is_written_late ws es) now)
    (ap (λ (k : ℕ). e ∷ drop k over) more ∙ (ap (λ (x : Exchange). x ∷ drop (suc i) over) at ∙ sym (drop-next over i e lt)))
    ∙ here)
  where
    more : i + 1 ≡ suc i
    more = omega arith

drop-all : {X : Type 0} (xs : List X) (i : ℕ) → (i < length xs → ⊥) → drop i xs ≡ []
drop-all [] zero h = refl
drop-all [] (suc i) h = refl
drop-all (x ∷ xs) zero h = absurd (h (omega arith))
drop-all (x ∷ xs) (suc i) h = drop-all xs i (λ lt. h (omega (arith, lt)))

pub unwatched-all : (t : ℕ) (ws : List Written) (over : List Exchange) (i : ℕ) (old now new : List Registration) → (i < length over → ⊥)
    → without (is_written_late ws (drop i over)) now ≡ without (is_written_late ws over) old → new ≡ without (is_idle t) now
    → new ≡ without (is_unwatched_by t ws over) old
unwatched-all t ws over i old now new end here last =
    last ∙ ap (without (is_idle t)) (none-goes (is_written_late ws []) now (λ r. refl)
    ∙ (ap (λ (es : List Exchange). without (is_written_late ws es) now) (sym (drop-all over i end)) ∙ here))
    ∙ (sym (goes-either (is_written_late ws over) (is_idle t) old)
    ∙ goes-same (λ r. is_written_late ws over r || is_idle t r) (is_unwatched_by t ws over) old (λ r. or-turned (is_written_late ws over r) (is_idle t r)))

-- whether one of them passes

late-first : (q : Exchange → Bool) (over : List Exchange) (i : ℕ) (e : Exchange) → i < length over → e ≡ get_or over i e
    → list_any q (drop i over) ≡ (q e || list_any q (drop (i + 1) over))
late-first q over i e lt at =
    ap (list_any q) (drop-next over i e lt)
    ∙ (ap (λ (x : Exchange). q x || list_any q (drop (suc i) over)) (sym at)
    ∙ ap (λ (k : ℕ). q e || list_any q (drop k over)) more)
  where
    more : suc i ≡ i + 1
    more = omega arith

pub late-next : (q : Exchange → Bool) (over : List Exchange) (i : ℕ) (e : Exchange) → i < length over → e ≡ get_or over i e → q e ≡ false
    → list_any q (drop i over) ≡ list_any q over → list_any q (drop (i + 1) over) ≡ list_any q over
late-next q over i e lt at isnt here =
    ap (λ (b : Bool). b || list_any q (drop (i + 1) over)) (sym isnt) ∙ (sym (late-first q over i e lt at) ∙ here)

pub late-found : (q : Exchange → Bool) (over : List Exchange) (i : ℕ) (e : Exchange) → i < length over → e ≡ get_or over i e → q e ≡ true
    → list_any q (drop i over) ≡ list_any q over → true ≡ list_any q over
late-found q over i e lt at is here =
    ap (λ (b : Bool). b || list_any q (drop (i + 1) over)) (sym is) ∙ (sym (late-first q over i e lt at) ∙ here)

pub late-end : (q : Exchange → Bool) (over : List Exchange) (i : ℕ) → (i < length over → ⊥) → list_any q (drop i over) ≡ list_any q over
    → false ≡ list_any q over
late-end q over i end here = ap (list_any q) (sym (drop-all over i end)) ∙ here

-- the tokens of those that pass

some-none : {X Y : Type 0} (f : X → Y) (p : X → Bool) (xs : List X) → ((x : X) → p x ≡ false) → [] ≡ map f (filter p xs)
some-none f p [] none = refl
some-none f p (x ∷ xs) none = rw (none x) (some-none f p xs none)

some-same : {X : Type 0} (p q : X → Bool) (xs : List X) → ((x : X) → p x ≡ q x) → filter p xs ≡ filter q xs
some-same p q [] same = refl
some-same {X = X} p q (x ∷ xs) same =
    ap (λ (ys : List X). cond (p x) (x ∷ ys) ys) (some-same p q xs same) ∙ ap (λ (b : Bool). cond b (x ∷ filter q xs) (filter q xs)) (same x)

none-more : (ts us : List (List ℕ)) → [] ≡ us → ts ≡ ts ++ us
none-more ts us e = sym (append-nil ts) ∙ ap (λ (vs : List (List ℕ)). ts ++ vs) e

-- of what is read

unread : (s : Sense) → None ≡ key_read s → (r : Registration) → is_renewed_for s r ≡ false
unread (Refuses cause status) h r = refl
unread (Requests q) h r = get (is_get q) h
  where
    get : (b : Bool) → None ≡ cond b (Some (asked_key q)) None → (b && is_of (asked_key q) r) ≡ false
    get true k = absurd (none-key (asked_key q) k)
    get false k = refl

pub renewed-none : (s : Sense) (rs : List Registration) → None ≡ key_read s → [] ≡ tokens_of (is_renewed_for s) rs
renewed-none s rs e = some-none token_of (is_renewed_for s) rs (unread s e)

renews-by : (s : Sense) (key : CacheKey) → Some key ≡ key_read s → (r : Registration) → is_of key r ≡ is_renewed_for s r
renews-by (Refuses cause status) key e r = absurd (none-key key (sym e))
renews-by (Requests q) key e r = by (is_get q) e
  where
    by : (b : Bool) → Some key ≡ cond b (Some (asked_key q)) None → is_of key r ≡ (b && is_of (asked_key q) r)
    by true k = ap (λ (l : CacheKey). is_of l r) (some-key key (asked_key q) k)
    by false k = absurd (none-key key (sym k))

pub renewed-some : (s : Sense) (key : CacheKey) (near rs : List Registration) → Some key ≡ key_read s → filter (is_of key) near ≡ filter (is_of key) rs
    → tokens_of (is_of key) near ≡ tokens_of (is_renewed_for s) rs
renewed-some s key near rs e among = ap (map token_of) (among ∙ some-same (is_of key) (is_renewed_for s) rs (renews-by s key e))

-- of what was written

some-place : (p q : Place) → Some p ≡ Some q → p ≡ q
some-place p q e = cc

none-place : (p : Place) → None ≡ Some p → ⊥
none-place p e = cc

unwritten : (s : Sense) → None ≡ place_written s → (r : Registration) → is_written_by (request_in s) r ≡ false
unwritten (Refuses cause status) h r = refl
unwritten (Requests q) h r = put (q.method == 1) h
  where
    put : (b : Bool) → None ≡ cond b None (Some (asked_place q)) → (not b && is_at (asked_place q) r) ≡ false
    put true k = refl
    put false k = absurd (none-place (asked_place q) k)

pub written-none : (ws : List Written) (o : ℕ) (ts : List (List ℕ)) (rs : List Registration) → None ≡ asked_in ws o → ts ≡ ts ++ tokens_of (is_written_by (asked_in ws o)) rs
written-none ws o ts rs e =
    none-more ts (tokens_of (is_written_by (asked_in ws o)) rs) (some-none token_of (is_written_by (asked_in ws o)) rs (λ r. ap (λ (v : Option CoapRequest). is_written_by v r) (sym e)))

pub written-nothing : (ws : List Written) (o : ℕ) (sense : Sense) (ts : List (List ℕ)) (rs : List Registration) → request_in sense ≡ asked_in ws o → None ≡ place_written sense
    → ts ≡ ts ++ tokens_of (is_written_by (asked_in ws o)) rs
written-nothing ws o sense ts rs is none =
    none-more ts (tokens_of (is_written_by (asked_in ws o)) rs)
    (some-none token_of (is_written_by (asked_in ws o)) rs (λ r. ap (λ (v : Option CoapRequest). is_written_by v r) (sym is) ∙ unwritten sense none r))

writes-by : (s : Sense) (place : Place) → Some place ≡ place_written s → (r : Registration) → is_at place r ≡ is_written_by (request_in s) r
writes-by (Refuses cause status) place e r = absurd (none-place place (sym e))
writes-by (Requests q) place e r = by (q.method == 1) e
  where
    by : (b : Bool) → Some place ≡ cond b None (Some (asked_place q)) → is_at place r ≡ (not b && is_at (asked_place q) r)
    by true k = absurd (none-place place (sym k))
    by false k = ap (λ (p : Place). is_at p r) (some-place place (asked_place q) k)

pub written-some : (ws : List Written) (o : ℕ) (sense : Sense) (place : Place) (near rs : List Registration) → request_in sense ≡ asked_in ws o → Some place ≡ place_written sense
    → filter (is_at place) near ≡ filter (is_at place) rs → tokens_of (is_at place) near ≡ tokens_of (is_written_by (asked_in ws o)) rs
written-some ws o sense place near rs is e among =
    ap (map token_of) (among ∙ some-same (is_at place) (is_written_by (asked_in ws o)) rs (λ r. writes-by sense place e r ∙ ap (λ (v : Option CoapRequest). is_written_by v r) is))

-- of what a tick ends

idle-none : (t : ℕ) (ws : List Written) (rs : List Registration) → list_any (is_idle t) rs ≡ false → [] ≡ tokens_of (is_unwatched_by t ws []) rs
idle-none t ws [] none = refl
idle-none t ws (r ∷ rs) none = by (is_idle t r) refl none (idle-none t ws rs)
  where
    by : (b : Bool) → is_idle t r ≡ b → (b || list_any (is_idle t) rs) ≡ false → (list_any (is_idle t) rs ≡ false → [] ≡ tokens_of (is_unwatched_by t ws []) rs)
        → [] ≡ tokens_of (is_unwatched_by t ws []) (r ∷ rs)
    by true is h f = absurd (false≢true (sym h))
    by false is h f = rw (is) (f h)

pub unwatched-none : (t : ℕ) (ws : List Written) (over : List Exchange) (ts : List (List ℕ)) (rs : List Registration) → length over ≡ 0 → list_any (is_idle t) rs ≡ false
    → ts ≡ ts ++ tokens_of (is_unwatched_by t ws over) rs
unwatched-none t ws [] ts rs end none = none-more ts (tokens_of (is_unwatched_by t ws []) rs) (idle-none t ws rs none)
unwatched-none t ws (e ∷ es) ts rs end none = absurd (omega (arith, end))
