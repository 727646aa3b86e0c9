-- The lemmas on what a core keeps and adds that other crates cite. Declares nothing, and no other module of proofs/ can be named from outside.
pub use Rattle.exchange_core.proofs.Drafting.{answered-append, sent-append}
pub use Rattle.exchange_core.proofs.Stepping.{is-given-stays}
pub use Rattle.exchange_core.proofs.Renewals.{last-other}
