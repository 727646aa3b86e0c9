-- The lemmas on requests that other crates cite. Declares nothing, and no other module of proofs/ can be named from outside.
pub use Rattle.ask_model.proofs.Sharing.{asks-alike, asks-onward, same-key, same-place}
pub use Rattle.ask_model.proofs.Sendable.{mapped_short}
