-- Where an endpoint stands: it has one link, so it stands first where it stands.
use Rattle.std.proofs.Common.{◌≡◌, ℕ, suc, zero, ◌<◌, Bool, true, false, List, [], ◌∷◌, length, take, get_or, map, Some, inl, inr, refl, sym, ap, ◌∙◌, arith}
use Rattle.std.specs.Prelude.{slice_get, option_map, ◌||◌}
use Rattle.std.specs.List.{list_any}
use Rattle.std.proofs.lemmas.Bool.{cases_Bool, false≢true, or_right}
use Rattle.std.proofs.lemmas.Option.{same_Some}
use Rattle.uri_map.specs.declared.peer.Peer.{Peer}
use Rattle.uri_map.specs.Peers.{same_peer}
use Rattle.uri_map.proofs.CallerLemmas.{same_peer-same}
use Rattle.exchange_model.specs.Calls.{peer_of}
use Rattle.endpoint_table.specs.declared.endpoint.Endpoint.{Endpoint}
use Rattle.endpoint_table.specs.Places.{HasNone, IsFirstAt}
use Rattle.endpoint_table.specs.Tables.{AreOnce, peer_link}

abbrev IsThere : Peer → List Endpoint → ℕ → Type 0
IsThere p xs i = option_map (λ (x : Endpoint). same_peer x.peer p) (slice_get xs i) ≡ Some true

-- one of them is in this place, so that the first is none
found-any : (p q : Peer) (xs : List Endpoint) (i : ℕ) → q ≡ p → IsThere p xs i
    → list_any (λ (r : Peer). same_peer r q) (map peer_of (map peer_link xs)) ≡ true
found-any p q [] i e h = absurd cc
found-any p q (x ∷ xs) zero e h =
    ap (λ (b : Bool). b || list_any (λ (r : Peer). same_peer r q) (map peer_of (map peer_link xs)))
    (ap (same_peer x.peer) e ∙ same_Some (same_peer x.peer p) true h)
found-any p q (x ∷ xs) (suc i) e h =
    rw (found-any p q xs i e h) (or_right (same_peer x.peer q) true refl)

pub first-once : (p : Peer) (xs : List Endpoint) (i : ℕ) → AreOnce xs → IsThere p xs i
    → IsFirstAt p (map peer_link xs) i
first-once p [] i once h = absurd cc
first-once p (x ∷ xs) zero once h = same_Some (same_peer x.peer p) true h
first-once p (x ∷ xs) (suc i) once h = (
  elim (cases_Bool (same_peer x.peer p)) [
    | inl so ↦ absurd (false≢true (sym once.0
        ∙ found-any p x.peer xs i (same_peer-same x.peer p so) h))
    | inr not_so ↦ not_so
  ],
  first-once p xs i once.1 h,
)

pub first-at : (p : Peer) (xs : List Endpoint) (i : ℕ) (x : Endpoint) → i < length xs
    → HasNone p (map peer_link (take i xs)) → same_peer (get_or xs i x).peer p ≡ true
    → IsFirstAt p (map peer_link xs) i
first-at p [] i x lt none same = absurd (omega (arith, lt))
first-at p (y ∷ ys) zero x lt none same = same
first-at p (y ∷ ys) (suc i) x lt none same =
    (none.0, first-at p ys i x (omega (arith, lt)) none.1 same)

pub none-more : (p : Peer) (xs : List Endpoint) (i : ℕ) (x : Endpoint) → i < length xs
    → HasNone p (map peer_link (take i xs)) → same_peer (get_or xs i x).peer p ≡ false
    → HasNone p (map peer_link (take (suc i) xs))
none-more p [] i x lt none same = absurd (omega (arith, lt))
none-more p (y ∷ ys) zero x lt none same = (same, tt)
none-more p (y ∷ ys) (suc i) x lt none same =
    (none.0, none-more p ys i x (omega (arith, lt)) none.1 same)

pub first-below : (p : Peer) (xs : List Endpoint) (i : ℕ) → IsFirstAt p (map peer_link xs) i
    → i < length xs
first-below p [] i f = absurd f
first-below p (x ∷ xs) zero f = omega arith
first-below p (x ∷ xs) (suc i) f = let ih = first-below p xs i f.1 in omega (arith, ih)
