-- The lemmas on what a proxy does that other crates cite. Declares nothing, and no other module of proofs/ can be named from outside.
pub use Rattle.gateway_model.proofs.Apart.{served-after}
pub use Rattle.gateway_model.proofs.Asked.{asked-both, first-then}
pub use Rattle.gateway_model.proofs.Closers.{closed-gone}
pub use Rattle.gateway_model.proofs.Conns.{once-rising, same-conn, StandOnce}
pub use Rattle.gateway_model.proofs.Enters.{input-shows, tick-shows}
pub use Rattle.gateway_model.proofs.Forgoing.{AreKept, acts-keep, all-any}
pub use Rattle.gateway_model.proofs.Heeded.{CountsOpened, input-asks, input-counts}
pub use Rattle.gateway_model.proofs.Memory.{acts-hold}
pub use Rattle.gateway_model.proofs.Moves.{Nobody}
pub use Rattle.gateway_model.proofs.Moving.{denied-is}
pub use Rattle.gateway_model.proofs.Numbers.{numbered-all}
pub use Rattle.gateway_model.proofs.Opened.{asked-open, conn-open, denied-open, open-conn, keeps-for, keeps-out, keeps-then, KeepsOpen}
pub use Rattle.gateway_model.proofs.Order.{all-append, all-as, delivers-on, for-on, no-turns, out-on, sends-for-on, sends-on, told-for, turns-on}
pub use Rattle.gateway_model.proofs.Pacing.{Paced, paced-all, paced-none, paced-silent, paced-then}
pub use Rattle.gateway_model.proofs.Rested.{input-rests}
pub use Rattle.gateway_model.proofs.Rotated.{AreCopies, AreNoJournals, IsNoJournal, Rotation, answers-after, begins-copied, copies-ask, copies-mean, give-none, nobody-there, none-given, refused-so, rotation-is, sends-after}
pub use Rattle.gateway_model.proofs.Shown.{all-send-just, all-tell, did-send, paced-tell, TellsEach}
pub use Rattle.gateway_model.proofs.Shutting.{input-closes, input-silent}
pub use Rattle.gateway_model.proofs.Taken.{stay-one}
