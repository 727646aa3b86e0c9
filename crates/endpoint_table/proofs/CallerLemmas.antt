-- The lemmas on the table of endpoints that other crates cite. Declares nothing, and no other module of proofs/ can be named from outside.
pub use Rattle.endpoint_table.proofs.Copies.{copies-kept}
