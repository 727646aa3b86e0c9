-- Where nothing is stored, observed or open, nothing is found there, and nothing changes.
use Rattle.std.proofs.Common.{◌≡◌, Bool, true, false, cond, List, [], ◌∷◌, ℕ, length, map, Option, Some, None, refl, sym, ap, subst, ◌∙◌, arith, take_all}
use Rattle.std.specs.Prelude.{filter, ◌&&◌, ◌==◌, option_map}
use Rattle.std.specs.List.{find}
use Rattle.std.proofs.lemmas.Bool.{and_right, eqb-true}
use Rattle.limits.specs.declared.TheConstants.{MAX_STORED}
use Rattle.uri_map.specs.declared.target.Host.{Host}
use Rattle.uri_map.specs.declared.target.Host.TheVariants.{Name, V4, V6}
use Rattle.cache_key.specs.Keys.{CacheKey}
use Rattle.resp_cache.specs.Stores.{is_elsewhere}
use Rattle.resp_cache.specs.declared.pair.Pair.{Pair}
use Rattle.observe_share.specs.declared.registration.Registration.{Registration}
use Rattle.observe_share.specs.Watches.{without}
use Rattle.ask_model.specs.Observing.{is_named}
use Rattle.ask_model.specs.Requests.{CoapRequest, Sense, Requests, Refuses}
use Rattle.ask_model.specs.Sharing.{asked_key, asked_place, is_get, key_read}
use Rattle.ask_model.specs.Views.{Mapping, Rules}
use Rattle.journal_book.specs.Entries.{Written}
use Rattle.exchange_model.specs.declared.kept.Exchange.{Exchange}
use Rattle.exchange_model.specs.Hearing.{put_by, settled, settled_by}
use Rattle.exchange_model.specs.Matters.{asked_in}
use Rattle.exchange_model.specs.Steps.{as_pieces}
use Rattle.exchange_model.specs.Watching.{tokens_of}
use Rattle.exchange_core.specs.Recalling.{served_for, served_under}
use Rattle.exchange_core.specs.Renewing.{stale_for, stale_read}
use Rattle.exchange_core.specs.Storing.{key_ended, outdated_under}
use Rattle.exchange_core.specs.Watching.{may_watch, observed_by}
use Rattle.exchange_core.specs.Wording.{wants_for}

none-in : {X : Type 0} (xs : List X) → (length xs == 0) ≡ true → [] ≡ xs
none-in [] e = refl
none-in (x ∷ xs) e =
    let f : length (x ∷ xs) ≡ 0 = eqb-true (length (x ∷ xs)) 0 e in
    absurd (omega (arith, f))

-- of any list

pub finds-none : {X : Type 0} (p : X → Bool) (xs : List X) → (length xs == 0) ≡ true → None ≡ find p xs
finds-none p xs none = ap (find p) (none-in xs none)

pub all-stay : {X : Type 0} (p : X → Bool) (xs : List X) → (length xs == 0) ≡ true → xs ≡ without p xs
all-stay {X} p xs none = subst (λ (ys : List X). ys ≡ without p ys) (none-in xs none) refl

pub stay-as-they-are : {X : Type 0} (f : X → X) (xs : List X) → (length xs == 0) ≡ true → xs ≡ map f xs
stay-as-they-are {X} f xs none = subst (λ (ys : List X). ys ≡ map f ys) (none-in xs none) refl

-- of what is stored

served-nowhere : (key : Option CacheKey) (t : ℕ) → None ≡ served_under key t []
served-nowhere None t = refl
served-nowhere (Some key) t = refl

pub served-none : (sense : Sense) (t : ℕ) (ps : List Pair) → (length ps == 0) ≡ true → None ≡ served_for sense t ps
served-none sense t ps none = served-nowhere (key_read sense) t ∙ ap (served_for sense t) (none-in ps none)

stale-nowhere : (key : Option CacheKey) (t : ℕ) (ws : List Written) → None ≡ option_map (as_pieces ws) (stale_read key t [])
stale-nowhere None t ws = refl
stale-nowhere (Some key) t ws = refl

pub stale-none : (sense : Sense) (t : ℕ) (ws : List Written) (ps : List Pair) → (length ps == 0) ≡ true → None ≡ stale_for sense t ws ps
stale-none sense t ws ps none = stale-nowhere (key_read sense) t ws ∙ ap (stale_for sense t ws) (none-in ps none)

settled-nowhere : (q : Option CoapRequest) (current : Bool) → [] ≡ settled_by q current None []
settled-nowhere None current = refl
settled-nowhere (Some q) current = by (q.method == 1) (is_get q && current)
  where
    by : (a b : Bool) → [] ≡ cond a (cond b (put_by None (asked_key q) []) []) (filter (is_elsewhere (asked_place q)) [])
    by true true = refl
    by true false = refl
    by false b = refl

pub settled-none : (ws : List Written) (e : Exchange) (ps : List Pair) → (length ps == 0) ≡ true → ps ≡ settled ws (Some e) None ps
settled-none ws e ps none =
    subst (λ (qs : List Pair). qs ≡ settled ws (Some e) None qs) (none-in ps none) (settled-nowhere (asked_in ws e.ask) e.current)

outdated-nowhere : (key : Option CacheKey) → [] ≡ outdated_under key []
outdated-nowhere None = refl
outdated-nowhere (Some key) = sym (take_all MAX_STORED [] (omega arith))

pub outdated-empty : (ws : List Written) (e : Exchange) (ps : List Pair) → (length ps == 0) ≡ true → ps ≡ outdated_under (key_ended ws (Some e)) ps
outdated-empty ws e ps none =
    subst (λ (qs : List Pair). qs ≡ outdated_under (key_ended ws (Some e)) qs) (none-in ps none) (outdated-nowhere (key_ended ws (Some e)))

-- of what is observed

pub no-tokens : (p : Registration → Bool) (rs : List Registration) → (length rs == 0) ≡ true → [] ≡ tokens_of p rs
no-tokens p rs none = ap (tokens_of p) (none-in rs none)

nobody-named : (h : Host) → is_named [] h ≡ false
nobody-named (Name name) = refl
nobody-named (V4 address) = refl
nobody-named (V6 address) = refl

observes-nobody : (rules : Rules) (sense : Sense) → [] ≡ rules.observed → observed_by rules sense ≡ false
observes-nobody rules (Requests q) none =
    and_right (is_get q) (is_named rules.observed q.target.host)
    (subst (λ (names : List (List ℕ)). is_named names q.target.host ≡ false) none (nobody-named q.target.host))
observes-nobody rules (Refuses cause status) none = refl

pub wants-none : (m : Mapping) (rs : List Registration) → (length m.rules.observed == 0) ≡ true → wants_for m rs ≡ false
wants-none m rs none =
    and_right (may_watch m.sense rs) (observed_by m.rules m.sense) (observes-nobody m.rules m.sense (none-in m.rules.observed none))
