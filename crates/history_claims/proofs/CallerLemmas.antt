-- The lemmas on what a reader may claim of a journal that other crates cite. Declares nothing, and no other module of proofs/ can be named from outside.
pub use Rattle.history_claims.proofs.Apart.{answer-once}
pub use Rattle.history_claims.proofs.AtHand.{asks-once}
pub use Rattle.history_claims.proofs.Causes.{names-cause}
pub use Rattle.history_claims.proofs.Entries.{entries-at, entry-keeps}
pub use Rattle.history_claims.proofs.Keeping.{tellable-not, whole-tells}
pub use Rattle.history_claims.proofs.Messages.{moments-rise}
pub use Rattle.history_claims.proofs.Newest.{never-again}
pub use Rattle.history_claims.proofs.Resting.{rests-heard, rests-on-replies}
pub use Rattle.history_claims.proofs.Served.{rests-on-stored}
pub use Rattle.history_claims.proofs.Shared.{replies-once}
pub use Rattle.history_claims.proofs.Turns.{answers-an-ask, asked-in-turn}
