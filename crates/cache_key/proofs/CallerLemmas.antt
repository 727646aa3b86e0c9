-- The lemmas on keys and places that other crates cite. Declares nothing, and no other module of proofs/ can be named from outside.
pub use Rattle.cache_key.proofs.Told.{keys_decided, keys_told_by, places_decided, places_told_by, ranked_by_place}
