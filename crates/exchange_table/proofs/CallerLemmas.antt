-- The lemmas on places in a list whose numbers rise, and on what goes on, that other crates cite. Declares nothing, and no other module of proofs/ can be named from outside.
pub use Rattle.exchange_table.proofs.Standing.{Tells, all-at, any-none, any-only, filter-none, filter-only, map-none, map-only, non-decreasing, none-past, none-there, only-at, only-is, put-back, rise-filter, rise-map}
pub use Rattle.exchange_table.proofs.Indexed.{went-so}
pub use Rattle.exchange_table.proofs.Searching.{all-found}
