-- The timers of the endpoints, of which one is set or added.
use Rattle.std.proofs.Common.{◌≡◌, ℕ, zero, suc, ◌<◌, ◌≤◌, true, List, [], ◌∷◌, ◌++◌, length, Option, Some, None, refl, sym, ap, subst, ◌∙◌, get_or, arith, zero-add, length-append}
use Rattle.std.specs.Prelude.{slice_get, slice_set, nat_lt, ◌&&◌}
use Rattle.std.proofs.Math.ListN.{set, length-set}
use Rattle.std.proofs.lemmas.Bool.{and_parts, ltb-true}
use Rattle.exchange_model.specs.Due.{timer}
use Rattle.message_layer.specs.Values.{LinkValue}
use Rattle.endpoint_table.specs.declared.dues.Due.{Due}
use Rattle.endpoint_table.specs.declared.endpoint.Endpoint.{Endpoint}
use Rattle.endpoint_table.specs.Dues.{Ordered, dues_from, put, removed, timers_of, AreDues}
use Rattle.endpoint_table.specs.Tables.{peer_link, spare_room}
use Rattle.endpoint_table.proofs.TimerOrder.{ordered-from}
use Rattle.endpoint_table.proofs.TimersSet.{few-from, push-from, put-length, set-from}

-- the timers of the endpoints, of which one changes

timers-set : (xs : List Endpoint) (i : ℕ) (e : Endpoint)
    → timers_of (slice_set xs i e) ≡ set (timers_of xs) i (timer (peer_link e))
timers-set [] i e = refl
timers-set (x ∷ xs) zero e = refl
timers-set (x ∷ xs) (suc i) e =
    ap (λ (ts : List (Option ℕ)). timer (peer_link x) ∷ ts) (timers-set xs i e)

timers-same : (xs : List Endpoint) (i : ℕ) (e d : Endpoint)
    → timer (peer_link e) ≡ timer (peer_link (get_or xs i d))
    → timers_of (slice_set xs i e) ≡ timers_of xs
timers-same [] i e d h = refl
timers-same (x ∷ xs) zero e d h = ap (λ (t : Option ℕ). t ∷ timers_of xs) h
timers-same (x ∷ xs) (suc i) e d h =
    ap (λ (ts : List (Option ℕ)). timer (peer_link x) ∷ ts) (timers-same xs i e d h)

timers-push : (xs : List Endpoint) (e : Endpoint)
    → timers_of (xs ++ e ∷ []) ≡ timers_of xs ++ timer (peer_link e) ∷ []
timers-push [] e = refl
timers-push (x ∷ xs) e =
    ap (λ (ts : List (Option ℕ)). timer (peer_link x) ∷ ts) (timers-push xs e)

as-many : (xs : List Endpoint) → length (timers_of xs) ≡ length xs
as-many [] = refl
as-many (x ∷ xs) = ap suc (as-many xs)

module _ (xs : List Endpoint) (ds : List Due) (capacity : ℕ) (h : AreDues xs ds capacity) where
  set-at : (i : ℕ) (t : Option ℕ) → i < length xs
      → dues_from 0 (set (timers_of xs) i t) ≡ put i t (removed i ds)
  set-at i t lt =
      let n = as-many xs in
      set-from 0 i (timers_of xs) t (omega (arith, lt, n))
      ∙ (ap (λ (p : ℕ). put p t (removed p (dues_from 0 (timers_of xs)))) (zero-add i)
      ∙ ap (λ (es : List Due). put i t (removed i es)) (sym h.are))

  pub in-order : Ordered ds
  in-order = subst Ordered (sym h.are) (ordered-from 0 (timers_of xs))

  -- the timer of the endpoint in a place is among them, if one runs
  pub was-there : (i : ℕ) (e : Endpoint) (t : Option ℕ) → i < length xs → e ≡ get_or xs i e
      → t ≡ timer (peer_link e) → ds ≡ put i t (removed i ds)
  was-there i e t lt is at =
      h.are ∙ (ap (dues_from 0)
      (sym (timers-same xs i e e (ap (λ (x : Endpoint). timer (peer_link x)) is))
      ∙ timers-set xs i e)
      ∙ (set-at i (timer (peer_link e)) lt ∙ ap (λ (u : Option ℕ). put i u (removed i ds)) (sym at)))

  pub place-for : (i m : ℕ) → i < length xs → length (removed i ds) < capacity
  place-for i m lt =
      let n = as-many xs in
      let few = few-from 0 (set (timers_of xs) i (Some m)) in
      let same : length (set (timers_of xs) i (Some m)) ≡ length (timers_of xs) =
      length-set (timers_of xs) i (Some m) in
      let all : length (dues_from 0 (set (timers_of xs) i (Some m)))
      ≡ length (put i (Some m) (removed i ds)) = ap length (set-at i (Some m) lt) in
      let one = put-length i m (removed i ds) in
      let room = h.room in
      omega (arith, n, few, same, all, one, room)

  pub place-more : length xs < capacity → length ds < capacity
  place-more lt =
      let n = as-many xs in
      let few = few-from 0 (timers_of xs) in
      let all : length ds ≡ length (dues_from 0 (timers_of xs)) = ap length h.are in
      omega (arith, lt, n, few, all)

  pub dues-set : (i : ℕ) (e : Endpoint) (es : List Due) (more : ℕ) → i < length xs
      → es ≡ put i (timer (peer_link e)) (removed i ds) → capacity ≤ more
      → AreDues (slice_set xs i e) es more
  dues-set i e es more lt is le = record {
    are = is ∙ (sym (set-at i (timer (peer_link e)) lt)
        ∙ ap (dues_from 0) (sym (timers-set xs i e)));
    room = let n : length (slice_set xs i e) ≡ length xs = length-set xs i e in
        let room = h.room in omega (arith, n, room, le);
  }

  pub dues-stay : (i : ℕ) (e d : Endpoint)
      → timer (peer_link e) ≡ timer (peer_link (get_or xs i d))
      → AreDues (slice_set xs i e) ds capacity
  dues-stay i e d same = record {
    are = h.are ∙ ap (dues_from 0) (sym (timers-same xs i e d same));
    room = let n : length (slice_set xs i e) ≡ length xs = length-set xs i e in
        let room = h.room in omega (arith, n, room);
  }

  pub dues-push : (e : Endpoint) (es : List Due) (more : ℕ) → length xs < more
      → es ≡ put (length xs) (timer (peer_link e)) ds → AreDues (xs ++ e ∷ []) es more
  dues-push e es more lt is = record {
    are = is ∙ (ap (put (length xs) (timer (peer_link e))) h.are
        ∙ (ap (λ (p : ℕ). put p (timer (peer_link e)) (dues_from 0 (timers_of xs)))
        (sym (zero-add (length (timers_of xs)) ∙ as-many xs))
        ∙ (sym (push-from 0 (timers_of xs) (timer (peer_link e)))
        ∙ ap (dues_from 0) (sym (timers-push xs e)))));
    room = let n = length-append xs (e ∷ []) in omega (arith, n, lt);
  }

-- an endpoint in its place
pub got-is : (xs : List Endpoint) (i : ℕ) (e d : Endpoint) → slice_get xs i ≡ Some e
    → get_or xs i d ≡ e
got-is [] i e d h = absurd cc
got-is (x ∷ xs) zero e d h = cc
got-is (x ∷ xs) (suc i) e d h = got-is xs i e d h

-- a place for one more
pub spare-slots : (len capacity slots : ℕ) (o : Option LinkValue) (link : LinkValue)
    → o ≡ Some link → spare_room len capacity slots o ≡ true → len < slots
spare-slots len capacity slots None link e h = absurd cc
spare-slots len capacity slots (Some l) link e h =
    let a = and_parts (nat_lt len capacity) (nat_lt len slots && l.room) h in
    let b = and_parts (nat_lt len slots) l.room a.1 in
    ltb-true len slots b.0
