-- The turns of the endpoints where something is due, done one after another, where nothing is gone.
use Rattle.std.proofs.Common.{◌≡◌, ℕ, suc, zero, false, List, [], ◌∷◌, ◌++◌, map, set, Option, Some, None, inl, inr, refl, sym, ap, subst, ◌∙◌, ◌⊎◌}
use Rattle.std.specs.Prelude.{filter, slice_get}
use Rattle.std.specs.Option.{option_map, option_to_list}
use Rattle.uri_map.specs.declared.peer.Peer.{Peer}
use Rattle.uri_map.specs.Peers.{same_peer}
use Rattle.uri_map.proofs.CallerLemmas.{same_peer-itself}
use Rattle.message_layer.specs.Values.{LinkState, Told}
use Rattle.message_layer.specs.Calls.{is_among, is_awaited_on, waits_on, without}
use Rattle.message_layer.specs.Prepared.{IsTicking}
use Rattle.message_layer.specs.declared.state.Awaited.{Awaited}
use Rattle.message_layer.specs.declared.state.Waiting.{Waiting}
use Rattle.exchange_model.specs.Calls.{link_due, peer_of}
use Rattle.exchange_model.specs.Entering.{link_after}
use Rattle.exchange_model.specs.Room.{AreApart}
use Rattle.exchange_model.specs.State.{PeerLink}
use Rattle.exchange_model.specs.Steps.{given_out}
use Rattle.endpoint_table.specs.declared.endpoint.Endpoint.{Endpoint}
use Rattle.endpoint_table.specs.declared.turns.Turn.{Turn}
use Rattle.endpoint_table.specs.Places.{HasNone, IsFirstAt}
use Rattle.endpoint_table.specs.Tables.{AreDrained, AreOnce, has_room, peer_link}
use Rattle.endpoint_table.specs.Turns.{AreTurns, IsTurnOf}
use Rattle.endpoint_table.proofs.Deeds.{not-due}
use Rattle.endpoint_table.proofs.Finding.{first-once}

-- A link at which nothing is due, and of which nothing is gone, stays as it is.

still-waiting : (ws : List Waiting) → filter (waits_on (is_among [])) ws ≡ ws
still-waiting [] = refl
still-waiting (w ∷ ws) = ap (λ (vs : List Waiting). w ∷ vs) (still-waiting ws)

still-awaited : (xs : List Awaited) → filter (is_awaited_on (is_among [])) xs ≡ xs
still-awaited [] = refl
still-awaited (x ∷ xs) = ap (λ (ys : List Awaited). x ∷ ys) (still-awaited xs)

nothing-gone : (s : LinkState) → without [] s ≡ s
nothing-gone s =
    ap (λ (ws : List Waiting). record s {
      waiting = ws;
      awaited = filter (is_awaited_on (is_among [])) s.awaited;
    }) (still-waiting s.waiting)
    ∙ ap (λ (xs : List Awaited). record s { awaited = xs }) (still-awaited s.awaited)

rests : (t : ℕ) (x : PeerLink) → x.link.out ≡ [] → link_due t x ≡ false
    → link_after t (is_among []) x ≡ x
rests t x out e =
    ap (λ (r : LinkState × Told). record { peer = x.peer; link = given_out r.0 })
    (not-due t (without [] x.link) x.link.outstanding e)
    ∙ (ap (λ (s : LinkState). record { peer = x.peer; link = given_out s }) (nothing-gone x.link)
    ∙ ap (λ (o : List (List ℕ)). record { peer = x.peer; link = record x.link { out = o } }) (sym out))

-- an endpoint stands first in one place
pub first-place : (p : Peer) (xs : List PeerLink) (i j : ℕ) → IsFirstAt p xs i → IsFirstAt p xs j
    → i ≡ j
first-place p [] i j f g = absurd f
first-place p (x ∷ xs) zero zero f g = refl
first-place p (x ∷ xs) zero (suc j) f g = let no = g.0 in absurd cc
first-place p (x ∷ xs) (suc i) zero f g = let no = f.0 in absurd cc
first-place p (x ∷ xs) (suc i) (suc j) f g = ap suc (first-place p xs i j f.1 g.1)

pub none-first : (p : Peer) (xs : List PeerLink) (i : ℕ) → HasNone p xs → IsFirstAt p xs i → ⊥
none-first p [] i h f = f
none-first p (x ∷ xs) zero h f = let no = h.0 in absurd cc
none-first p (x ∷ xs) (suc i) h f = none-first p xs i h.1 f.1

module _ (t : ℕ) (gone : List (List ℕ)) where
  abbrev done : PeerLink → PeerLink
  done = link_after t (is_among gone)

  -- the endpoint is as it was, and its turn is the first one
  pub record HasTurn (y z : Endpoint) (ks : List Turn) (AreOthers : List Turn → Type 0) : Type 0 where
    pub turn : Turn
    pub others : List Turn
    pub are : ks ≡ turn ∷ others
    pub same : y ≡ z
    pub is : IsTurnOf t gone (peer_link z) z.link.room (Some turn)
    pub rest : AreOthers others

  -- of the endpoints as they were some are done, and those are left whose turns these are
  abbrev pub AreLeft : List Endpoint → List Endpoint → List Turn → Type 0
  AreLeft [] [] ks = ks ≡ []
  AreLeft [] (z ∷ zs) ks = ⊥
  AreLeft (y ∷ ys) [] ks = ⊥
  AreLeft (y ∷ ys) (z ∷ zs) ks =
      ((peer_link y ≡ done (peer_link z)) × AreLeft ys zs ks)
      ⊎ HasTurn y z ks (AreLeft ys zs)

  pub all-left : (zs : List Endpoint) (ks : List Turn) → gone ≡ []
      → AreDrained (map peer_link zs)
      → AreTurns t gone (map peer_link zs) (map has_room zs) ks → AreLeft zs zs ks
  all-left [] ks none out a = a
  all-left (z ∷ zs) ks none out a = by a.turn a.are a.is (all-left zs a.others none out.1 a.rest)
    where
      by : (o : Option Turn) → ks ≡ option_to_list o ++ a.others
          → IsTurnOf t gone (peer_link z) z.link.room o → AreLeft zs zs a.others
          → ((peer_link z ≡ done (peer_link z)) × AreLeft zs zs ks) ⊎ HasTurn z z ks (AreLeft zs zs)
      by None are is rest = inl (
        sym (ap (λ (g : List (List ℕ)). link_after t (is_among g) (peer_link z)) none
            ∙ rests t (peer_link z) out.0 is),
        subst (AreLeft zs zs) (sym are) rest,
      )
      by (Some k) are is rest = inr (record {
        turn = k;
        others = a.others;
        are = are;
        same = refl;
        is = is;
        rest = rest;
      })

  pub left-none : (ys zs : List Endpoint) → AreLeft ys zs []
      → map peer_link ys ≡ map done (map peer_link zs)
  left-none [] [] a = refl
  left-none [] (z ∷ zs) a = absurd a
  left-none (y ∷ ys) [] a = absurd a
  left-none (y ∷ ys) (z ∷ zs) (inl a) =
      ap (λ (x : PeerLink). x ∷ map peer_link ys) a.0
      ∙ ap (λ (xs : List PeerLink). done (peer_link z) ∷ xs) (left-none ys zs a.1)
  left-none (y ∷ ys) (z ∷ zs) (inr h) = let are = h.are in absurd cc

  peers-left : (ys zs : List Endpoint) (ks : List Turn) → AreLeft ys zs ks
      → map peer_of (map peer_link ys) ≡ map peer_of (map peer_link zs)
  peers-left [] [] ks a = refl
  peers-left [] (z ∷ zs) ks a = absurd a
  peers-left (y ∷ ys) [] ks a = absurd a
  peers-left (y ∷ ys) (z ∷ zs) ks (inl a) =
      ap (λ (p : Peer). p ∷ map peer_of (map peer_link ys)) (ap (λ (x : PeerLink). x.peer) a.0)
      ∙ ap (λ (ps : List Peer). z.peer ∷ ps) (peers-left ys zs ks a.1)
  peers-left (y ∷ ys) (z ∷ zs) ks (inr h) =
      ap (λ (p : Peer). p ∷ map peer_of (map peer_link ys)) (ap (λ (x : Endpoint). x.peer) h.same)
      ∙ ap (λ (ps : List Peer). z.peer ∷ ps) (peers-left ys zs h.others h.rest)

  pub once-left : (ys zs : List Endpoint) (ks : List Turn) → AreLeft ys zs ks → AreOnce zs
      → AreOnce ys
  once-left ys zs ks a once = subst AreApart (sym (peers-left ys zs ks a)) once

  -- The first turn is that of the endpoint in this place, and once it is done the others are left.
  record IsNext (ys zs : List Endpoint) (k : Turn) (ks : List Turn) : Type 0 where
    place : ℕ
    endpoint : Endpoint
    there : slice_get ys place ≡ Some endpoint
    peer : k.peer ≡ endpoint.peer
    does : IsTicking t gone endpoint.link k.ticking
    after : (r : Endpoint) → peer_link r ≡ done (peer_link endpoint) → AreLeft (set ys place r) zs ks

  next : (ys zs : List Endpoint) (k : Turn) (ks : List Turn) → AreLeft ys zs (k ∷ ks)
      → IsNext ys zs k ks
  next [] [] k ks a = absurd cc
  next [] (z ∷ zs) k ks a = absurd a
  next (y ∷ ys) [] k ks a = absurd a
  next (y ∷ ys) (z ∷ zs) k ks (inl a) =
      let n = next ys zs k ks a.1 in record {
        place = suc n.place;
        endpoint = n.endpoint;
        there = n.there;
        peer = n.peer;
        does = n.does;
        after = λ r is. inl (a.0, n.after r is);
      }
  next (y ∷ ys) (z ∷ zs) k ks (inr h) =
      let are = h.are in
      let first : h.turn ≡ k = cc in
      let rest : h.others ≡ ks = cc in record {
        place = 0;
        endpoint = y;
        there = refl;
        peer = sym (ap (λ (j : Turn). j.peer) first) ∙ (h.is.1
            ∙ ap (λ (x : Endpoint). x.peer) (sym h.same));
        does = subst (λ (x : Endpoint). IsTicking t gone x.link k.ticking) (sym h.same)
            (subst (λ (j : Turn). IsTicking t gone z.link j.ticking) first h.is.2);
        after = λ r is. inl (
          is ∙ ap (λ (x : Endpoint). done (peer_link x)) h.same,
          subst (AreLeft ys zs) rest h.rest,
        );
      }

  module _ (ys zs : List Endpoint) (k : Turn) (ks : List Turn) (once : AreOnce zs)
      (a : AreLeft ys zs (k ∷ ks)) where
    abbrev n : IsNext ys zs k ks
    n = next ys zs k ks a

    first : IsFirstAt k.peer (map peer_link ys) n.place
    first =
        first-once k.peer ys n.place (once-left ys zs (k ∷ ks) a once)
        (ap (option_map (λ (x : Endpoint). same_peer x.peer k.peer)) n.there
        ∙ ap Some (ap (λ (p : Peer). same_peer p k.peer) (sym n.peer) ∙ same_peer-itself k.peer))

    pub turn-ready : (i : ℕ) (e : Endpoint) → IsFirstAt k.peer (map peer_link ys) i
        → slice_get ys i ≡ Some e → IsTicking t gone e.link k.ticking
    turn-ready i e f g =
        let at = first-place k.peer (map peer_link ys) n.place i first f in
        let there = n.there in
        let got : slice_get ys n.place ≡ Some e = ap (slice_get ys) at ∙ g in
        let same : n.endpoint ≡ e = cc in
        subst (λ (x : Endpoint). IsTicking t gone x.link k.ticking) same n.does

    pub turn-done : (xs : List Endpoint)
        → ((i : ℕ) (e : Endpoint) → IsFirstAt k.peer (map peer_link ys) i → slice_get ys i ≡ Some e
        → (y : Endpoint) × (xs ≡ set ys i y) × (peer_link y ≡ done (peer_link e)))
        → AreLeft xs zs ks
    turn-done xs row =
        let r = row n.place n.endpoint first n.there in
        subst (λ (vs : List Endpoint). AreLeft vs zs ks) (sym r.1) (n.after r.0 r.2)
