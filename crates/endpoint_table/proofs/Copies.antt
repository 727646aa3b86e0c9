-- Where the endpoints of the copies are kept, the links are those of a turned state.
use Rattle.std.proofs.Common.{◌≡◌, ℕ, Bool, true, false, cond, List, [], ◌∷◌, map, refl, ap, ◌∙◌}
use Rattle.std.specs.Prelude.{filter}
use Rattle.uri_map.specs.declared.peer.Peer.{Peer}
use Rattle.journal_book.specs.Entries.{Written}
use Rattle.exchange_model.specs.Rotating.{has_copy, keep_peer}
use Rattle.exchange_model.specs.State.{PeerLink}
use Rattle.endpoint_table.specs.Keeping.{is_any, marked}

kept-by : (t : ℕ) (f : PeerLink → Bool) (ws : List Written) (xs : List PeerLink)
    → ((x : PeerLink) → f x ≡ has_copy ws x)
    → map (keep_peer t) (marked (map f xs) xs) ≡ filter (has_copy ws) (map (keep_peer t) xs)
kept-by t f ws [] same = refl
kept-by t f ws (x ∷ xs) same =
    ap (λ (b : Bool). map (keep_peer t) (cond b (x ∷ marked (map f xs) xs) (marked (map f xs) xs)))
    (same x)
    ∙ by (has_copy ws x) (kept-by t f ws xs same)
  where
    rest : List PeerLink
    rest = filter (has_copy ws) (map (keep_peer t) xs)

    by : (b : Bool) → map (keep_peer t) (marked (map f xs) xs) ≡ rest
        → map (keep_peer t) (cond b (x ∷ marked (map f xs) xs) (marked (map f xs) xs))
        ≡ cond b (keep_peer t x ∷ rest) rest
    by true ih = ap (λ (ys : List PeerLink). keep_peer t x ∷ ys) ih
    by false ih = ih

-- They were marked by a list of peers: an endpoint is one of these where something of it is copied.
pub copies-kept : (t : ℕ) (ps : List Peer) (ws : List Written) (xs ys : List PeerLink)
    (ms : List Bool) → ((x : PeerLink) → is_any ps x ≡ has_copy ws x) → ms ≡ map (is_any ps) xs
    → ys ≡ map (keep_peer t) (marked ms xs) → ys ≡ filter (has_copy ws) (map (keep_peer t) xs)
copies-kept t ps ws xs ys ms same are kept =
    kept ∙ (ap (λ (ns : List Bool). map (keep_peer t) (marked ns xs)) are
    ∙ kept-by t (is_any ps) ws xs same)
