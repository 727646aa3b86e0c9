-- The lemmas on links and a history that other crates cite. Declares nothing, and no other module of proofs/ can be named from outside.
pub use Rattle.history_links.proofs.Copying.{copy-follows, is-outstanding, still-copy}
pub use Rattle.history_links.proofs.Facts.{none-by}
pub use Rattle.history_links.proofs.HeardElsewhere.{says-elsewhere}
pub use Rattle.history_links.proofs.Judging.{is_ended, Judged, out-first, out-peer, token-found}
pub use Rattle.history_links.proofs.Mids.{Falling, firsts-falling, none-recent}
pub use Rattle.history_links.proofs.Nexts.{next-follows}
pub use Rattle.history_links.proofs.OtherPeers.{ask-elsewhere, copy-elsewhere, send-elsewhere}
pub use Rattle.history_links.proofs.Passing.{going-passed, pass-agrees, passed-quiet, waits-passed}
pub use Rattle.history_links.proofs.Queueing.{asked-expects, awaited-same, begun-here, given-kept, kept-here, manner-here, opens-for, queued-agrees, wants-here}
pub use Rattle.history_links.proofs.Remembering.{count-kept, none-before, repeats-kept}
pub use Rattle.history_links.proofs.Repeating.{garbled-agrees, repeat-agrees}
pub use Rattle.history_links.proofs.Replying.{ends_by, ends_what, going-still, hit, is_to, issued-none, none-goes, queue-after, still-after, waits-after}
pub use Rattle.history_links.proofs.GoingOn.{goes-last, goes-on-agrees, onward, Onward}
pub use Rattle.history_links.proofs.Saying.{awaits-after, judge, said-so, says-agrees}
pub use Rattle.history_links.proofs.Sent.{ends-sent, sent, sent-quiet, waits-sent}
pub use Rattle.history_links.proofs.Silence.{silent-agrees, still}
pub use Rattle.history_links.proofs.Still.{first_at-still, kept-keeps, manner-keep, manner-same, observes-keep, Still}
pub use Rattle.history_links.proofs.Tokens.{one-token}
