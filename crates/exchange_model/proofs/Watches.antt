-- What an entry leaves of what is observed, and of the tokens under which something is expected.
use Rattle.std.proofs.Common.{◌≡◌, ℕ, Bool, true, false, cond, not, ◌&&◌, ◌||◌, ltb, List, [], ◌∷◌, length, map, None, refl, sym, ap, subst, ◌∙◌, arith}
use Rattle.std.specs.Prelude.{filter}
use Rattle.std.specs.List.{AllByRecursion, Contains, list_any}
use Rattle.std.specs.Str.{bytes_eq}
use Rattle.std.proofs.lemmas.Bool.{and_parts}
use Rattle.std.proofs.lemmas.Slice.Eq.{bytes_eq-Decides}
use Rattle.uri_map.specs.declared.peer.Peer.{Peer}
use Rattle.uri_map.specs.Peers.{same_peer}
use Rattle.cache_key.specs.Keys.{CacheKey}
use Rattle.observe_share.specs.declared.registration.Registration.{Registration}
use Rattle.observe_share.specs.Watches.{asked_at, is_of, without}
use Rattle.ask_model.specs.Requests.{CoapRequest}
use Rattle.ask_model.specs.Sharing.{asked_key, is_get}
use Rattle.history_laws.specs.Readings.{Noted}
use Rattle.history_laws.specs.Progress.{Reply}
use Rattle.history_laws.specs.Observing.{Watch, asked_again, counting, outdated, watches}
use Rattle.history_laws.specs.Justified.{Legal}
use Rattle.history_laws.proofs.CallerLemmas.{contains-mapped, filtered-from, find-any, find-some, watch-fits}
use Rattle.history_links.specs.Agrees.{awaits, notified}
use Rattle.history_links.specs.Steps.{Forgets, IsUnnoticed}
use Rattle.exchange_model.specs.Watching.{is_one_of, token_of, tokens_of, touched_for}
use Rattle.exchange_model.specs.Reads.{held_of, IsNewest}
use Rattle.exchange_model.proofs.Apart.{AreApart, comes_to, notified-tells, watch-unawaited, watches-apart}

-- An entry that is no notification that counts makes nothing out of date.
pub outdated-quiet : (x : Noted) (l : List Noted) (key : CacheKey) (n : ℕ) → counting l x.note ≡ None
    → outdated (x ∷ l) key n ≡ outdated l key n
outdated-quiet x l key n none = rw (none) (by (ltb n (length l)))
  where
    by : (b : Bool) → ((b && false) || outdated l key n) ≡ outdated l key n
    by true = refl
    by false = refl

pub newest-quiet : (x : Noted) (l : List Noted) (key : CacheKey) (rs : List Reply) (b : Bool) → counting l x.note ≡ None
    → IsNewest l key rs b → IsNewest (x ∷ l) key rs b
newest-quiet x l key [] b none h = tt
newest-quiet x l key (r ∷ rs) b none h = outdated-quiet x l key r.number none ∙ h

pub newest-same : (l n : List Noted) (key : CacheKey) (rs : List Reply) (b : Bool) → ((key : CacheKey) (i : ℕ) → outdated n key i ≡ outdated l key i)
    → IsNewest l key rs b → IsNewest n key rs b
newest-same l n key [] b same h = tt
newest-same l n key (r ∷ rs) b same h = same key r.number ∙ h

-- lists

pub map-filtered : {X Y : Type 0} (f : X → Y) (p : Y → Bool) (xs : List X) → map f (filter (λ (x : X). p (f x)) xs) ≡ filter p (map f xs)
map-filtered f p [] = refl
map-filtered f p (x ∷ xs) = by (p (f x)) (map-filtered f p xs)
  where
    by : (b : Bool) → map f (filter (λ (y : _). p (f y)) xs) ≡ filter p (map f xs)
        → map f (cond b (x ∷ filter (λ (y : _). p (f y)) xs) (filter (λ (y : _). p (f y)) xs)) ≡ cond b (f x ∷ filter p (map f xs)) (filter p (map f xs))
    by true ih = ap (λ (ys : List _). f x ∷ ys) ih
    by false ih = ih

pub map-length : {X Y : Type 0} (f : X → Y) (xs : List X) → length (map f xs) ≡ length xs
map-length f [] = refl
map-length f (x ∷ xs) = let ih = map-length f xs in omega (arith, ih)

pub eq-turn : (a b : List ℕ) → bytes_eq a b ≡ bytes_eq b a
eq-turn a b = by (bytes_eq a b) refl (bytes_eq b a) refl
  where
    by : (c : Bool) → bytes_eq a b ≡ c → (d : Bool) → bytes_eq b a ≡ d → c ≡ d
    by true e true f = refl
    by false e false f = refl
    by true e false f = sym ((bytes_eq-Decides b a).1 (sym ((bytes_eq-Decides a b).0 e))) ∙ f
    by false e true f = sym e ∙ (bytes_eq-Decides a b).1 (sym ((bytes_eq-Decides b a).0 f))

pub and-no : (b : Bool) → (b && false) ≡ false
and-no true = refl
and-no false = refl

pub or-no : (b : Bool) → (b || false) ≡ b
or-no true = refl
or-no false = refl

-- An ask for what is observed is noted.

touched-one : (q : CoapRequest) (t : ℕ) (w : Watch) (b : Bool) → is_get q ≡ b
    → held_of (asked_again q t w) ≡ cond b (asked_at (asked_key q) t w.held) w.held
touched-one q t w false e = rw (e) refl
touched-one q t w true e = rw (e) (by (is_of (asked_key q) w.held))
  where
    by : (c : Bool) → held_of (cond c (record w { held = record w.held { asked = t } }) w) ≡ cond c (record w.held { asked = t }) w.held
    by true = refl
    by false = refl

touched-by : (q : CoapRequest) (t : ℕ) (ws : List Watch) (b : Bool) → is_get q ≡ b
    → map held_of (map (asked_again q t) ws) ≡ cond b (map (asked_at (asked_key q) t) (map held_of ws)) (map held_of ws)
touched-by q t [] true e = refl
touched-by q t [] false e = refl
touched-by q t (w ∷ ws) true e =
    ap (λ (r : Registration). r ∷ map held_of (map (asked_again q t) ws)) (touched-one q t w true e)
    ∙ ap (λ (rs : List Registration). asked_at (asked_key q) t w.held ∷ rs) (touched-by q t ws true e)
touched-by q t (w ∷ ws) false e =
    ap (λ (r : Registration). r ∷ map held_of (map (asked_again q t) ws)) (touched-one q t w false e)
    ∙ ap (λ (rs : List Registration). w.held ∷ rs) (touched-by q t ws false e)

pub touched-tells : (q : CoapRequest) (t : ℕ) (ws : List Watch) → map held_of (map (asked_again q t) ws) ≡ touched_for t q (map held_of ws)
touched-tells q t ws = touched-by q t ws (is_get q) refl

-- Of those that go, the tokens are gone, and the others stay.

pub others-apart : (p : Peer) (token : List ℕ) (r : Registration) (rs : List Registration) → bytes_eq r.token token ≡ true
    → AllByRecursion (λ (s : Registration). bytes_eq s.token r.token ≡ false) rs → AllByRecursion (λ (s : Registration). bytes_eq s.token token ≡ false) rs
others-apart p token r [] e a = tt
others-apart p token r (s ∷ rs) e a =
    (subst (λ (k : List ℕ). bytes_eq s.token k ≡ false) ((bytes_eq-Decides r.token token).0 e) a.0, others-apart p token r rs e a.1)

pub no-one-comes : (p : Peer) (token : List ℕ) (drop : Registration → Bool) (rs : List Registration) → AllByRecursion (λ (s : Registration). bytes_eq s.token token ≡ false) rs
    → (list_any (comes_to p token) rs ≡ false) × (list_any (comes_to p token) (without drop rs) ≡ false) × (is_one_of (tokens_of drop rs) token ≡ false)
no-one-comes p token drop [] a = (refl, refl, refl)
no-one-comes p token drop (r ∷ rs) a = by (drop r) (no-one-comes p token drop rs a.1)
  where
    never : comes_to p token r ≡ false
    never = ap (λ (b : Bool). same_peer r.key.place.peer p && b) a.0 ∙ and-no (same_peer r.key.place.peer p)

    other : bytes_eq token r.token ≡ false
    other = eq-turn token r.token ∙ a.0

    by : (b : Bool) → (list_any (comes_to p token) rs ≡ false) × (list_any (comes_to p token) (without drop rs) ≡ false) × (is_one_of (tokens_of drop rs) token ≡ false)
        → (list_any (comes_to p token) (r ∷ rs) ≡ false) × (list_any (comes_to p token) (cond (not b) (r ∷ without drop rs) (without drop rs)) ≡ false)
        × (is_one_of (map token_of (cond b (r ∷ filter drop rs) (filter drop rs))) token ≡ false)
    by true ih = (rw (never) ih.0, ih.1, rw (other) ih.2)
    by false ih = (rw (never) ih.0, rw (never) ih.1, ih.2)

pub others-come : (p : Peer) (token : List ℕ) (drop : Registration → Bool) (rs : List Registration) → AreApart rs
    → list_any (comes_to p token) (without drop rs) ≡ (not (is_one_of (tokens_of drop rs) token) && list_any (comes_to p token) rs)
others-come p token drop [] a = refl
others-come p token drop (r ∷ rs) a = by (drop r) (bytes_eq r.token token) refl (others-come p token drop rs a.1)
  where
    Says : Bool → Type 0
    Says b =
        list_any (comes_to p token) (cond (not b) (r ∷ without drop rs) (without drop rs))
        ≡ (not (is_one_of (map token_of (cond b (r ∷ filter drop rs) (filter drop rs))) token) && list_any (comes_to p token) (r ∷ rs))

    by : (b c : Bool) → bytes_eq r.token token ≡ c
        → list_any (comes_to p token) (without drop rs) ≡ (not (is_one_of (tokens_of drop rs) token) && list_any (comes_to p token) rs) → Says b
    by true true e ih =
        let none = no-one-comes p token drop rs (others-apart p token r rs e a.0) in
        none.1 ∙ sym (ap (λ (g : Bool). not (g || is_one_of (tokens_of drop rs) token) && list_any (comes_to p token) (r ∷ rs)) (eq-turn token r.token ∙ e))
    by false true e ih =
        let none = no-one-comes p token drop rs (others-apart p token r rs e a.0) in
        ap (λ (b : Bool). comes_to p token r || b) none.1
        ∙ sym (ap (λ (g : Bool). not g && (comes_to p token r || list_any (comes_to p token) rs)) none.2
        ∙ ap (λ (b : Bool). comes_to p token r || b) none.0)
    by true false e ih =
        ih
        ∙ sym (ap (λ (g : Bool). not (g || is_one_of (tokens_of drop rs) token) && list_any (comes_to p token) (r ∷ rs)) (eq-turn token r.token ∙ e)
        ∙ ap (λ (c : Bool). not (is_one_of (tokens_of drop rs) token) && (c || list_any (comes_to p token) rs)) (apart-comes e))
      where
        apart-comes : bytes_eq r.token token ≡ false → comes_to p token r ≡ false
        apart-comes f = ap (λ (b : Bool). same_peer r.key.place.peer p && b) f ∙ and-no (same_peer r.key.place.peer p)
    by false false e ih =
        ap (λ (c : Bool). c || list_any (comes_to p token) (without drop rs)) (apart-comes e)
        ∙ (ih
        ∙ sym (ap (λ (c : Bool). not (is_one_of (tokens_of drop rs) token) && (c || list_any (comes_to p token) rs)) (apart-comes e)))
      where
        apart-comes : bytes_eq r.token token ≡ false → comes_to p token r ≡ false
        apart-comes f = ap (λ (b : Bool). same_peer r.key.place.peer p && b) f ∙ and-no (same_peer r.key.place.peer p)

-- Those that go leave what comes from a peer that they aren't at.
pub elsewhere-come : (p : Peer) (token : List ℕ) (drop : Registration → Bool) (rs : List Registration)
    → ((r : Registration) → drop r ≡ true → same_peer r.key.place.peer p ≡ false)
    → list_any (comes_to p token) (without drop rs) ≡ list_any (comes_to p token) rs
elsewhere-come p token drop [] apart = refl
elsewhere-come p token drop (r ∷ rs) apart = by (drop r) refl (elsewhere-come p token drop rs apart)
  where
    by : (b : Bool) → drop r ≡ b → list_any (comes_to p token) (without drop rs) ≡ list_any (comes_to p token) rs
        → list_any (comes_to p token) (cond (not b) (r ∷ without drop rs) (without drop rs)) ≡ list_any (comes_to p token) (r ∷ rs)
    by true e ih = ih ∙ sym (ap (λ (c : Bool). (c && bytes_eq r.token token) || list_any (comes_to p token) rs) (apart r e))
    by false e ih = ap (λ (b : Bool). comes_to p token r || b) ih

-- one that stands under the token
abbrev pub IsStanding : List Noted → List ℕ → Type 0
IsStanding l token = (w : Watch) × Contains (watches l) w × (w.held.token ≡ token)

pub gone-stands : (l : List Noted) (token : List ℕ) (drop : Registration → Bool) → is_one_of (tokens_of drop (map held_of (watches l))) token ≡ true → IsStanding l token
gone-stands l token drop gone =
    let tokens = tokens_of drop (map held_of (watches l)) in
    let one = find-any (bytes_eq token) tokens gone in
    let it = find-some (bytes_eq token) tokens one.0 one.1 in
    let r = contains-mapped token_of (filter drop (map held_of (watches l))) one.0 it.0 in
    let w = contains-mapped held_of (watches l) r.0 (filtered-from drop (map held_of (watches l)) r.0 r.1).0 in
    (w.0, w.1, ap token_of w.2 ∙ (r.2 ∙ sym ((bytes_eq-Decides token one.0).0 it.1)))

pub coming-stands : (l : List Noted) (p : Peer) (token : List ℕ) → list_any (comes_to p token) (map held_of (watches l)) ≡ true → IsStanding l token
coming-stands l p token comes =
    let one = find-any (comes_to p token) (map held_of (watches l)) comes in
    let it = find-some (comes_to p token) (map held_of (watches l)) one.0 one.1 in
    let w = contains-mapped held_of (watches l) one.0 it.0 in
    (w.0, w.1, ap token_of w.2 ∙ (bytes_eq-Decides one.0.token token).0 (and_parts (same_peer one.0.key.place.peer p) (bytes_eq one.0.token token) it.1).1)

-- Under the token of one that stands no reply is awaited.
pub gone-unawaited : (l : List Noted) (p : Peer) (token : List ℕ) (drop : Registration → Bool) → Legal l
    → is_one_of (tokens_of drop (map held_of (watches l))) token ≡ true → awaits l p token ≡ false
gone-unawaited l p token drop legal gone =
    let w = gone-stands l token drop gone in
    subst (λ (k : List ℕ). awaits l p k ≡ false) w.2 (watch-unawaited l w.0 p legal (watch-fits l w.0 legal w.1))

-- Where these end, and the replies that are awaited stay, their tokens are gone.
pub forgets-these : (l : List Noted) (x : Noted) (p : Peer) (drop : Registration → Bool) → Legal l → Legal (x ∷ l)
    → map held_of (watches (x ∷ l)) ≡ without drop (map held_of (watches l))
    → ((token : List ℕ) → awaits (x ∷ l) p token ≡ awaits l p token)
    → Forgets l x p (is_one_of (tokens_of drop (map held_of (watches l))))
forgets-these l x p drop legal longer left same token =
    ap (λ (b : Bool). b || notified (x ∷ l) p token) (same token)
    ∙ (ap (λ (b : Bool). awaits l p token || b) (notified-tells (x ∷ l) p token longer ∙ (ap (list_any (comes_to p token)) left ∙ others-come p token drop rs (watches-apart l legal)))
    ∙ (by (is_one_of (tokens_of drop rs) token) refl
    ∙ ap (λ (b : Bool). not (is_one_of (tokens_of drop rs) token) && (awaits l p token || b)) (sym (notified-tells l p token legal))))
  where
    rs : List Registration
    rs = map held_of (watches l)

    by : (g : Bool) → is_one_of (tokens_of drop rs) token ≡ g
        → (awaits l p token || (not g && list_any (comes_to p token) rs)) ≡ (not g && (awaits l p token || list_any (comes_to p token) rs))
    by false e = refl
    by true e = or-no (awaits l p token) ∙ gone-unawaited l p token drop legal e

pub unnoticed-these : (l : List Noted) (x : Noted) (p : Peer) (drop : Registration → Bool) → Legal l → Legal (x ∷ l)
    → map held_of (watches (x ∷ l)) ≡ without drop (map held_of (watches l))
    → ((r : Registration) → drop r ≡ true → same_peer r.key.place.peer p ≡ false) → IsUnnoticed l x p
unnoticed-these l x p drop legal longer left apart token =
    notified-tells (x ∷ l) p token longer
    ∙ (ap (list_any (comes_to p token)) left
    ∙ (elsewhere-come p token drop (map held_of (watches l)) apart ∙ sym (notified-tells l p token legal)))
