-- Requests that ask the same: their messages are equal, and what one asks the same as, the other does too.
use Rattle.std.proofs.Common.{◌≡◌, ℕ, Bool, true, false, cond, ◌&&◌, List, [], ◌∷◌, length, Option, Some, None, refl, sym, ap, ◌∙◌, arith}
use Rattle.std.specs.Prelude.{is_none, unwrap_or, ◌==◌}
use Rattle.std.proofs.lemmas.Bool.{and_parts}
use Rattle.std.proofs.lemmas.Bool.Decides.{Decides-eqb}
use Rattle.cache_key.specs.Digests.{digests_of}
use Rattle.cache_key.specs.Keys.{CacheKey, same_key}
use Rattle.cache_key.proofs.CallerLemmas.{keys_decided}
use Rattle.ask_model.specs.Requests.{CoapRequest, Sense, Requests, Refuses, Manner, Plainly, Observing, Validating, asking}
use Rattle.ask_model.specs.Sharing.{asked_digests, asked_key, asked_place, is_get, asks_same, asks_same_by, key_read}

-- a GET has the method 1, and neither format nor body
record IsGet (q : CoapRequest) : Type 0 where
  pub method : q.method ≡ 1
  pub format : q.format ≡ None
  pub body : q.body ≡ []

no-format : (f : Option ℕ) → is_none f ≡ true → f ≡ None
no-format None e = refl
no-format (Some n) e = cc

no-body : (b : List ℕ) → length b ≡ 0 → b ≡ []
no-body [] e = refl
no-body (x ∷ xs) e = absurd (omega (arith, e))

get-is : (q : CoapRequest) → is_get q ≡ true → IsGet q
get-is q e =
    let a = and_parts (q.method == 1) (is_none q.format && (length q.body == 0)) e in
    let b = and_parts (is_none q.format) (length q.body == 0) a.1 in
    record {
      method = (Decides-eqb q.method 1).0 a.0;
      format = no-format q.format b.0;
      body = no-body q.body ((Decides-eqb (length q.body) 0).0 b.1);
    }

record Parts (q r : CoapRequest) : Type 0 where
  pub first : is_get q ≡ true
  pub second : is_get r ≡ true
  pub key : asked_key q ≡ asked_key r

parts : (q r : CoapRequest) → asks_same q r ≡ true → Parts q r
parts q r e =
    let a = and_parts (is_get q) (is_get r && same_key (asked_key q) (asked_key r)) e in
    let b = and_parts (is_get r) (same_key (asked_key q) (asked_key r)) a.1 in
    record { first = a.0; second = b.0; key = (keys_decided (asked_key q) (asked_key r)).0 b.1 }

pub same-key : (q r : CoapRequest) → asks_same q r ≡ true → asked_key q ≡ asked_key r
same-key q r e = (parts q r e).key

pub same-place : (q r : CoapRequest) → asks_same q r ≡ true → asked_place q ≡ asked_place r
same-place q r e = ap (λ (k : CacheKey). k.place) (parts q r e).key

pub asks-alike : (q r : CoapRequest) → asks_same q r ≡ true
    → (q.peer ≡ r.peer)
    × ((manner : Manner) (mid : ℕ) (token : List ℕ) → asking manner q None mid token ≡ asking manner r None mid token)
asks-alike q r e = (ap (λ (k : CacheKey). k.place.peer) it.key, messages)
  where
    it : Parts q r
    it = parts q r e

    a : IsGet q
    a = get-is q it.first

    b : IsGet r
    b = get-is r it.second

    host : q.target.host ≡ r.target.host
    host = ap (λ (k : CacheKey). k.host) it.key

    path : q.target.path ≡ r.target.path
    path = ap (λ (k : CacheKey). k.place.path) it.key

    query : q.target.query ≡ r.target.query
    query = ap (λ (k : CacheKey). k.query) it.key

    accept : q.accept ≡ r.accept
    accept = ap (λ (k : CacheKey). k.accept) it.key

    messages : (manner : Manner) (mid : ℕ) (token : List ℕ) → asking manner q None mid token ≡ asking manner r None mid token
    messages Observing mid token = rw (a.method, b.method, a.format, b.format, a.body, b.body, host, path, query, accept) refl
    messages Plainly mid token = rw (a.method, b.method, a.format, b.format, a.body, b.body, host, path, query, accept) refl
    messages (Validating etag) mid token = rw (a.method, b.method, a.format, b.format, a.body, b.body, host, path, query, accept) refl

-- What asks the same as one request does, asks the same as another that does.
pub asks-onward : (q r s : CoapRequest) → asks_same q r ≡ true → asks_same q s ≡ true → asks_same r s ≡ true
asks-onward q r s e f =
    let a = parts q r e in
    let b = parts q s f in
    rw (a.second, b.second, (keys_decided (asked_key r) (asked_key s)).1 (sym a.key ∙ b.key)) refl

-- two GETs that read these
some-key : (k l : CacheKey) → Some k ≡ Some l → k ≡ l
some-key k l e = cc

both-gets : (b c : Bool) (k l m n : CacheKey) → Some k ≡ cond b (Some m) None → Some l ≡ cond c (Some n) None
    → same_key k l ≡ (b && (c && same_key m n))
both-gets true true k l m n e f = rw (some-key k m e, some-key l n f) refl
both-gets true false k l m n e f = absurd cc
both-gets false c k l m n e f = absurd cc

pub both-read : (s u : Sense) (k l : CacheKey) → Some k ≡ key_read s → Some l ≡ key_read u → same_key k l ≡ asks_same_by s u
both-read (Requests q) (Requests r) k l e f = both-gets (is_get q) (is_get r) k l (asked_key q) (asked_key r) e f
both-read (Requests q) (Refuses cause status) k l e f = absurd cc
both-read (Refuses cause status) u k l e f = absurd cc

-- What is read has the digests that were made of what is asked.
pub read_digests : (s : Sense) (key : CacheKey) → Some key ≡ key_read s → asked_digests s ≡ digests_of key
read_digests (Requests q) key e = by (is_get q) e
  where
    by : (b : Bool) → Some key ≡ cond b (Some (asked_key q)) None → digests_of (asked_key q) ≡ digests_of key
    by true is = ap digests_of (some_same (sym is))
      where
        some_same : Some (asked_key q) ≡ Some key → asked_key q ≡ key
        some_same k = ap (λ (o : Option CacheKey). unwrap_or o key) k
    by false is = absurd (cc is)
read_digests (Refuses cause status) key e = absurd (cc e)
