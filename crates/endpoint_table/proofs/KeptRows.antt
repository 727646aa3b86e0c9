-- The endpoints that are marked are kept, in place, and the others go.
use Rattle.std.proofs.Common.{◌≡◌, ℕ, zero, suc, ◌+◌, ◌<◌, ◌≤◌, Bool, true, false, cond, List, [], ◌∷◌, ◌++◌, length, map, take, drop, get_or, refl, sym, ap, subst, ◌∙◌, arith, append-nil}
use Rattle.std.specs.List.{SwappedAt}
use Rattle.std.proofs.Math.ListN.{set, length-set}
use Rattle.std.proofs.lemmas.List.{drop-set-lt, drop_more, length-map, map-append, take_all, take_more_set, take-set, take-set-le}
use Rattle.exchange_model.specs.Calls.{peer_of}
use Rattle.exchange_model.specs.Due.{timer}
use Rattle.exchange_model.specs.Room.{AreApart}
use Rattle.exchange_model.specs.Rotating.{keep_peer}
use Rattle.exchange_model.specs.State.{PeerLink}
use Rattle.endpoint_table.specs.declared.dues.Due.{Due}
use Rattle.endpoint_table.specs.declared.endpoint.Endpoint.{Endpoint}
use Rattle.endpoint_table.specs.Dues.{dues_from, AreDues}
use Rattle.endpoint_table.specs.Keeping.{marked}
use Rattle.endpoint_table.specs.Tables.{peer_link, AreOnce}
use Rattle.endpoint_table.proofs.Links.{peers-turned}
use Rattle.endpoint_table.proofs.Marking.{apart-marked, marked-fewer, marked-map, marked-more}

-- one is kept: it changes places with the first that goes, and is set there

module _ (xs zs : List Endpoint) (k i : ℕ) (le : k ≤ i) (lt : i < length xs)
    (swapped : SwappedAt xs zs k i) where
  pub long-kept : (y : Endpoint) → length (set zs k y) ≡ length xs
  long-kept y =
      length-set zs k y ∙ (ap length (swapped.3 y)
      ∙ (length-set (set xs k (get_or xs i y)) i (get_or xs k y)
      ∙ length-set xs k (get_or xs i y)))

  pub front-kept : (y : Endpoint) → map peer_link (take (k + 1) (set zs k y))
      ≡ map peer_link (take k xs) ++ peer_link y ∷ []
  front-kept y =
      let n : length zs ≡ length xs = sym (length-set zs k y) ∙ long-kept y in
      let same : take k zs ≡ take k xs =
      ap (take k) (swapped.3 y) ∙ (take-set-le k (set xs k (get_or xs i y)) i (get_or xs k y) le
      ∙ take-set xs k (get_or xs i y)) in
      ap (map peer_link) (take_more_set zs k y (omega (arith, n, le, lt)))
      ∙ (map-append peer_link (take k zs) (y ∷ [])
      ∙ ap (λ (es : List Endpoint). map peer_link es ++ peer_link y ∷ []) same)

  pub rest-kept : (y : Endpoint) → drop (i + 1) (set zs k y) ≡ drop (i + 1) xs
  rest-kept y =
      let below : k < i + 1 = omega (arith, le) in
      drop-set-lt (i + 1) zs k y below ∙ (ap (drop (i + 1)) (swapped.3 y)
      ∙ (drop-set-lt (i + 1) (set xs k (get_or xs i y)) i (get_or xs k y) (omega arith)
      ∙ drop-set-lt (i + 1) xs k (get_or xs i y) below))

-- So many are kept of those before a place, and the rest is as it was.
pub record KeptInPlace (t : ℕ) (ms : List Bool) (xs ys : List Endpoint) (k i : ℕ) : Type 0 where
  pub front : map peer_link (take k ys)
      ≡ map (keep_peer t) (marked ms (take i (map peer_link xs)))
  pub rest : drop i ys ≡ drop i xs
  pub before : k ≤ i
  pub long : length ys ≡ length xs

got-map : (xs : List Endpoint) (i : ℕ) (d : Endpoint)
    → get_or (map peer_link xs) i (peer_link d) ≡ peer_link (get_or xs i d)
got-map [] i d = refl
got-map (x ∷ xs) zero d = refl
got-map (x ∷ xs) (suc i) d = got-map xs i d

pub none-yet : (t : ℕ) (ms : List Bool) (xs : List Endpoint) → KeptInPlace t ms xs xs 0 0
none-yet t ms xs = record { front = none ms; rest = refl; before = omega arith; long = refl }
  where
    none : (ns : List Bool) → [] ≡ map (keep_peer t) (marked ns [])
    none [] = refl
    none (n ∷ ns) = refl

one-of : (ys : List Endpoint) (i : ℕ) → i < length ys → Endpoint
one-of [] i lt = absurd (omega (arith, lt))
one-of (y ∷ ys) i lt = y

module _ (t : ℕ) (ms : List Bool) (xs ys : List Endpoint) (k i : ℕ)
    (so_far : KeptInPlace t ms xs ys k i) (lt : i < length ys) where
  d : Endpoint
  d = one-of ys i lt

  abbrev here : List PeerLink
  here = cond (get_or ms i false) (peer_link (get_or xs i d) ∷ []) []

  more : marked ms (take (i + 1) (map peer_link xs))
      ≡ marked ms (take i (map peer_link xs)) ++ here
  more =
      let n = length-map xs peer_link in
      let long = so_far.long in
      marked-more ms (map peer_link xs) i (peer_link d) (omega (arith, n, long, lt))
      ∙ ap (λ (x : PeerLink). marked ms (take i (map peer_link xs))
      ++ cond (get_or ms i false) (x ∷ []) []) (got-map xs i d)

  same : get_or ys i d ∷ drop (i + 1) ys ≡ get_or xs i d ∷ drop (i + 1) xs
  same =
      let long = so_far.long in
      sym (drop_more ys i d lt) ∙ (so_far.rest ∙ drop_more xs i d (omega (arith, long, lt)))

  there : get_or ys i d ≡ get_or xs i d
  there = let e = same in cc

  rest : drop (i + 1) ys ≡ drop (i + 1) xs
  rest = let e = same in cc

  pub kept-more : (zs : List Endpoint) → get_or ms i false ≡ true
      → ((e : Endpoint) → map peer_link (take (k + 1) zs)
      ≡ map peer_link (take k ys) ++ keep_peer t (peer_link (get_or ys i e)) ∷ [])
      → drop (i + 1) zs ≡ drop (i + 1) ys → length zs ≡ length ys
      → KeptInPlace t ms xs zs (k + 1) (i + 1)
  kept-more zs is front left n = record {
    front = front d
        ∙ (ap (λ (ls : List PeerLink). ls ++ keep_peer t (peer_link (get_or ys i d)) ∷ [])
        so_far.front
        ∙ (ap (λ (x : Endpoint). map (keep_peer t) (marked ms (take i (map peer_link xs)))
        ++ keep_peer t (peer_link x) ∷ []) there
        ∙ (sym (map-append (keep_peer t) (marked ms (take i (map peer_link xs)))
        (peer_link (get_or xs i d) ∷ []))
        ∙ ap (map (keep_peer t))
        (ap (λ (b : Bool). marked ms (take i (map peer_link xs))
        ++ cond b (peer_link (get_or xs i d) ∷ []) []) (sym is) ∙ sym more))));
    rest = left ∙ rest;
    before = let le = so_far.before in omega (arith, le);
    long = n ∙ so_far.long;
  }

  pub kept-same : get_or ms i false ≡ false → KeptInPlace t ms xs ys k (i + 1)
  kept-same is = record {
    front = so_far.front ∙ ap (map (keep_peer t))
        (sym (more ∙ (ap (λ (b : Bool). marked ms (take i (map peer_link xs))
        ++ cond b (peer_link (get_or xs i d) ∷ []) []) is
        ∙ append-nil (marked ms (take i (map peer_link xs))))));
    rest = rest;
    before = let le = so_far.before in omega (arith, le);
    long = so_far.long;
  }

pub kept-all : (t : ℕ) (ms : List Bool) (xs ys : List Endpoint) (k i : ℕ)
    → KeptInPlace t ms xs ys k i → length xs ≤ i
    → map peer_link (take k ys) ≡ map (keep_peer t) (marked ms (map peer_link xs))
kept-all t ms xs ys k i kept le =
    let n = length-map xs peer_link in
    kept.front ∙ ap (λ (ls : List PeerLink). map (keep_peer t) (marked ms ls))
    (take_all i (map peer_link xs) (omega (arith, n, le)))

-- no timer runs, and there are no more of them

none-due : (t i : ℕ) (ls : List PeerLink) → dues_from i (map timer (map (keep_peer t) ls)) ≡ []
none-due t i [] = refl
none-due t i (x ∷ ls) = none-due t (i + 1) ls

pub undue : (t : ℕ) (ms : List Bool) (xs ys : List Endpoint) (ds es : List Due)
    (capacity more : ℕ) → AreDues xs ds capacity
    → map peer_link ys ≡ map (keep_peer t) (marked ms (map peer_link xs)) → es ≡ []
    → capacity ≤ more → AreDues ys es more
undue t ms xs ys ds es capacity more dues is none le =
    let ls : List PeerLink = marked ms (map peer_link xs) in
    record {
      are = none ∙ sym (ap (λ (zs : List PeerLink). dues_from 0 (map timer zs)) is
          ∙ none-due t 0 ls);
      room =
          let n = length-map ys peer_link in
          let m : length (map peer_link ys) ≡ length ls =
          ap length is ∙ length-map ls (keep_peer t) in
          let few = marked-fewer ms (map peer_link xs) in
          let all = length-map xs peer_link in
          let room = dues.room in
          omega (arith, n, m, few, all, room, le);
    }

-- each endpoint has one link still
pub once-kept : (t : ℕ) (ms : List Bool) (xs ys : List Endpoint) → AreOnce xs
    → map peer_link ys ≡ map (keep_peer t) (marked ms (map peer_link xs)) → AreOnce ys
once-kept t ms xs ys once is =
    subst AreApart
    (sym (ap (map peer_of) is
    ∙ (peers-turned (keep_peer t) (λ x. refl) (marked ms (map peer_link xs))
    ∙ marked-map peer_of ms (map peer_link xs))))
    (apart-marked ms (map peer_of (map peer_link xs)) once)
