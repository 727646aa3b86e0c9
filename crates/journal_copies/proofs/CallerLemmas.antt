-- The lemmas on copies that other crates cite.
pub use Rattle.journal_copies.proofs.Copied.{peers-of}
