-- Requests that match have one key, and no others.
use Rattle.std.proofs.Common.{◌≡◌, ℕ, ◌+◌, ◌*◌, ◌/◌, ◌%◌, Bool, true, false, not, ◌==◌, nat_lt, cond, List, [], ◌∷◌, ◌++◌, Option, Some, None, refl, ap, sym, ◌∙◌, arith, append-nil}
use Rattle.std.proofs.lemmas.Bool.Decides.{Decides-eqb}
use Rattle.coap_codec.specs.Spelling.{Entry}
use Rattle.coap_codec.specs.Options.{is_no_cache_key_number}
use Rattle.coap_codec.specs.Values.{values}
use Rattle.uri_map.specs.Limits.{host_options, options_with}
use Rattle.uri_map.specs.declared.peer.Peer.{Peer}
use Rattle.uri_map.specs.declared.target.Host.{Host}
use Rattle.uri_map.specs.declared.target.Host.TheVariants.{Name, V4, V6}
use Rattle.uri_map.specs.declared.target.Target.{Target}
use Rattle.cache_key.specs.Keys.{CacheKey, key_of}
use Rattle.cache_key.specs.Requests.{format_bytes, accept_options, get_options, matched, IsServedAt, KeysMatchRequests}

-- the values of the options of one number that have to match
abbrev told : ℕ → List Entry → List (List ℕ)
told n os = values n (matched os)

joined-or-not : (s : Bool) (v : List ℕ) (both front back : List (List ℕ)) → both ≡ front ++ back → cond s (v ∷ both) both ≡ cond s (v ∷ front) front ++ back
joined-or-not true v both front back e = ap (λ (vs : List (List ℕ)). v ∷ vs) e
joined-or-not false v both front back e = e

kept-or-not : (out : Bool) (n : ℕ) (x : Entry) (both front back : List Entry) → values n both ≡ values n front ++ values n back
    → values n (cond (not out) (x ∷ both) both) ≡ values n (cond (not out) (x ∷ front) front) ++ values n back
kept-or-not true n x both front back e = e
kept-or-not false n x both front back e = joined-or-not (x.number == n) x.value (values n both) (values n front) (values n back) e

told-append : (n : ℕ) (xs ys : List Entry) → told n (xs ++ ys) ≡ told n xs ++ told n ys
told-append n [] ys = refl
told-append n (x ∷ xs) ys = kept-or-not (is_no_cache_key_number x.number) n x (matched (xs ++ ys)) (matched xs) (matched ys) (told-append n xs ys)

-- each kind of option is told by its number alone
path-told : (xs : List (List ℕ)) → told 11 (options_with 11 xs) ≡ xs
path-told [] = refl
path-told (x ∷ xs) = ap (λ (vs : List (List ℕ)). x ∷ vs) (path-told xs)

query-told : (xs : List (List ℕ)) → told 15 (options_with 15 xs) ≡ xs
query-told [] = refl
query-told (x ∷ xs) = ap (λ (vs : List (List ℕ)). x ∷ vs) (query-told xs)

path-only : (n : ℕ) → (11 == n) ≡ false → (xs : List (List ℕ)) → told n (options_with 11 xs) ≡ []
path-only n e [] = refl
path-only n e (x ∷ xs) = rw e (path-only n e xs)

query-only : (n : ℕ) → (15 == n) ≡ false → (xs : List (List ℕ)) → told n (options_with 15 xs) ≡ []
query-only n e [] = refl
query-only n e (x ∷ xs) = rw e (query-only n e xs)

host-only : (n : ℕ) → (3 == n) ≡ false → (h : Host) → told n (host_options h) ≡ []
host-only n e (Name a) = rw e refl
host-only n e (V4 a) = refl
host-only n e (V6 a) = refl

accept-only : (n : ℕ) → (17 == n) ≡ false → (a : Option ℕ) → told n (accept_options a) ≡ []
accept-only n e None = refl
accept-only n e (Some m) = rw e refl

parts : (n : ℕ) (t : Target) (a : Option ℕ) → told n (get_options t a)
    ≡ told n (host_options t.host) ++ told n (options_with 11 t.path) ++ told n (options_with 15 t.query) ++ told n (accept_options a)
parts n t a =
    rw (
      told-append n (host_options t.host ++ options_with 11 t.path ++ options_with 15 t.query) (accept_options a),
      told-append n (host_options t.host ++ options_with 11 t.path) (options_with 15 t.query),
      told-append n (host_options t.host) (options_with 11 t.path),
    ) refl

path-in : (t : Target) (a : Option ℕ) → told 11 (get_options t a) ≡ t.path
path-in t a =
    parts 11 t a ∙ rw (host-only 11 refl t.host, path-told t.path, query-only 11 refl t.query, accept-only 11 refl a, append-nil t.path, append-nil t.path) refl

query-in : (t : Target) (a : Option ℕ) → told 15 (get_options t a) ≡ t.query
query-in t a =
    parts 15 t a ∙ rw (host-only 15 refl t.host, path-only 15 refl t.path, query-told t.query, accept-only 15 refl a, append-nil t.query) refl

accept-in : (t : Target) (a : Option ℕ) → told 17 (get_options t a) ≡ told 17 (accept_options a)
accept-in t a = parts 17 t a ∙ rw (host-only 17 refl t.host, path-only 17 refl t.path, query-only 17 refl t.query) refl

host-in : (t : Target) (a : Option ℕ) → told 3 (get_options t a) ≡ told 3 (host_options t.host)
host-in t a =
    parts 3 t a ∙ rw (path-only 3 refl t.path, query-only 3 refl t.query, accept-only 3 refl a, append-nil (told 3 (host_options t.host)), append-nil (told 3 (host_options t.host)), append-nil (told 3 (host_options t.host))) refl

-- a format is told by its bytes
number-by : List ℕ → ℕ
number-by [] = 0
number-by (x ∷ []) = x
number-by (x ∷ y ∷ zs) = 256 * x + y

format-back : (n : ℕ) → number-by (format_bytes n) ≡ n
unfolding number-by
format-back n = by_tests (n == 0) refl (nat_lt n 256)
  where
    by_tests : (z : Bool) → (n == 0) ≡ z → (s : Bool) → number-by (cond z [] (cond s (n ∷ []) ((n / 256) ∷ (n % 256) ∷ []))) ≡ n
    by_tests true e s = sym ((Decides-eqb n 0).0 e)
    by_tests false e true = refl
    by_tests false e false = omega arith

first-of : List (List ℕ) → List ℕ
first-of [] = []
first-of (x ∷ xs) = x

accept-same : (a b : Option ℕ) → told 17 (accept_options a) ≡ told 17 (accept_options b) → a ≡ b
unfolding first-of
accept-same None None e = refl
accept-same None (Some n) e = absurd cc
accept-same (Some m) None e = absurd cc
accept-same (Some m) (Some n) e =
    let one : format_bytes m ≡ format_bytes n = ap first-of e in
    let made : ℕ → Option ℕ = λ x. Some x in
    ap made (sym (format-back m) ∙ (ap number-by one ∙ format-back n))

host-same : (p : Peer) (g h : Host) → IsServedAt g p → IsServedAt h p → told 3 (host_options g) ≡ told 3 (host_options h) → g ≡ h
unfolding first-of
host-same p (Name a) (Name b) x y e = let name : a ≡ b = ap first-of e in ap Name name
host-same p (Name a) (V4 b) x y e = absurd cc
host-same p (Name a) (V6 b) x y e = absurd cc
host-same p (V4 a) (Name b) x y e = absurd cc
host-same p (V6 a) (Name b) x y e = absurd cc
host-same p (V4 a) (V4 b) x y e = let same : a ≡ b = cc in ap V4 same
host-same p (V6 a) (V6 b) x y e = let same : a ≡ b = cc in ap V6 same
host-same p (V4 a) (V6 b) x y e = absurd cc
host-same p (V6 a) (V4 b) x y e = absurd cc

key-by : (p : Peer) (t u : Target) (a b : Option ℕ) → t.host ≡ u.host → t.path ≡ u.path → t.query ≡ u.query → a ≡ b → key_of p t a ≡ key_of p u b
key-by p t u a b host path query accept = rw (host, path, query, accept) refl

matching : (p : Peer) (t u : Target) (a b : Option ℕ) → IsServedAt t.host p → IsServedAt u.host p → matched (get_options t a) ≡ matched (get_options u b) → key_of p t a ≡ key_of p u b
matching p t u a b x y e =
    let same : (n : ℕ) → told n (get_options t a) ≡ told n (get_options u b) = λ n. ap (values n) e in
    key-by p t u a b
    (host-same p t.host u.host x y (sym (host-in t a) ∙ (same 3 ∙ host-in u b)))
    (sym (path-in t a) ∙ (same 11 ∙ path-in u b))
    (sym (query-in t a) ∙ (same 15 ∙ query-in u b))
    (accept-same a b (sym (accept-in t a) ∙ (same 17 ∙ accept-in u b)))

options-by : (t u : Target) (a b : Option ℕ) → t.host ≡ u.host → t.path ≡ u.path → t.query ≡ u.query → a ≡ b → get_options t a ≡ get_options u b
options-by t u a b host path query accept = rw (host, path, query, accept) refl

pub keys_match : KeysMatchRequests
keys_match p q t u a b x y = (
  λ (e : key_of p t a ≡ key_of q u b). (
    ap (λ (k : CacheKey). k.place.peer) e,
    ap matched (options-by t u a b (ap (λ (k : CacheKey). k.host) e) (ap (λ (k : CacheKey). k.place.path) e) (ap (λ (k : CacheKey). k.query) e) (ap (λ (k : CacheKey). k.accept) e)),
  ),
  λ (e : (p ≡ q) × (matched (get_options t a) ≡ matched (get_options u b))).
      matching p t u a b x (rw (e.0) y) e.1 ∙ ap (λ (r : Peer). key_of r u b) e.0,
)
