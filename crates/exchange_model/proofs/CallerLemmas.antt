-- The lemmas on a core's state and its steps that other crates cite. Declares nothing, and no other module of proofs/ can be named from outside.
pub use Rattle.exchange_model.proofs.Begun.{begins-enter, busy-enters, joins-enter, not-under, refusals-enter, served-enters}
pub use Rattle.exchange_model.proofs.ConnsTell.{conns-tell}
pub use Rattle.exchange_model.proofs.Counting.{count-cons, one}
pub use Rattle.exchange_model.proofs.Dropped.{dropped-stays, gone-tokens}
pub use Rattle.exchange_model.proofs.Due.{any-came, next-due}
pub use Rattle.exchange_model.proofs.ToldAdds.{AreWaiting, few-waiting, for-served, kept-served, late-served, Served, still-waits}
pub use Rattle.exchange_model.proofs.Entered.{entered-both, entries-more, sent-both}
pub use Rattle.exchange_model.proofs.Grown.{asks-add, asks-answer, conns-both, hears-add, hears-answer, opens-add, opens-alone, ticks-add, ticks-answer}
pub use Rattle.exchange_model.proofs.Heeded.{garbled-enters, message-enters, given-conns, next-conns}
pub use Rattle.exchange_model.proofs.Heeding.{is-bytes}
pub use Rattle.exchange_model.proofs.Here.{asks-here, gives-here, hears-here, opens-here, shuts-here, ticks-here}
pub use Rattle.exchange_model.proofs.Giving.{gives-keeps}
pub use Rattle.exchange_model.proofs.Behind.{more-behind, next-behind, some-behind}
pub use Rattle.exchange_model.proofs.Held.{held-before}
pub use Rattle.exchange_model.proofs.InRoom.{asks-in-room, fits-parts, hears-in-room, opens-in-room, shuts-in-room, start-in-room, ticks-in-room, ticks-promptly, within-limits}
pub use Rattle.exchange_model.proofs.Known.{readers-known, readers-rise}
pub use Rattle.exchange_model.proofs.HeardIn.{stales-below, stales-heard, store-heard}
pub use Rattle.exchange_model.proofs.Tags.{kept-short, tags-short}
pub use Rattle.exchange_model.proofs.Readers.{Apart}
pub use Rattle.exchange_model.proofs.LinksTicked.{Few, few-copies}
pub use Rattle.exchange_model.proofs.Lists.{all-map, all-mapped}
pub use Rattle.exchange_model.proofs.Numbered.{conns-below, conns-rise}
pub use Rattle.exchange_model.proofs.Outrun.{left-all, left-each, none-left}
pub use Rattle.exchange_model.proofs.Passed.{below, moved-conns}
pub use Rattle.exchange_model.proofs.Stepping.{kept-stands}
pub use Rattle.exchange_model.proofs.Tallies.{busy-count}
pub use Rattle.exchange_model.proofs.Telling.{readers_in, tells-enter}
pub use Rattle.exchange_model.proofs.Tellings.{late_reads, over_in, readers-for, readers-late, reads_it}
pub use Rattle.exchange_model.proofs.TickAdds.{ticked-adds}
pub use Rattle.exchange_model.proofs.TickEnters.{stays-drained, ticks-enter}
pub use Rattle.exchange_model.proofs.Ticking.{ticks-do}
pub use Rattle.exchange_model.proofs.TurnedRoom.{rotates-drained, rotates-in-room}
pub use Rattle.exchange_model.proofs.OverTold.{EndsConfirmed, EndsWhole, over-heard, over-renewed}
pub use Rattle.exchange_model.proofs.Works.{all-asked-for, all-digested, all-watched-for, comes-get, restarts-few, work-of}
pub use Rattle.exchange_model.proofs.Opened.{OpenIn, open-ones}
pub use Rattle.exchange_model.proofs.Handed.{asks-get, fetched-count, reset-notes}
