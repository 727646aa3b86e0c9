use Rattle.std.proofs.Common.{sym}
use Rattle.message_layer.specs.Calls.{is_among, waits_on}
use Rattle.message_layer.proofs.Preparing.{found-none, found-some, found-all}
use Rattle.message_layer.specs.Values.{IsSoundWaiting}
use Rattle.message_layer.proofs.sending.prepared_but.Goals as goal

pub launch-requires : goal.launch-requires
launch-requires c =
    found-all IsSoundWaiting (waits_on (is_among c.args.gone.now)) c.args.s.now.waiting.items _ c.requires.waiting (sym (rw (c.in-Some.is, c.deref.ensures.value) at c.first_without.ensures))

pub returns-in-None : goal.returns-in-None
returns-in-None c =
    found-none c.args.moment c.args.s.now.last_mid (waits_on (is_among c.args.gone.now)) c.args.s.now.waiting.items
    (sym (rw (c.in-None.is, c.deref.ensures.value) at c.first_without.ensures))

pub returns-in_ok-next-in-Some : goal.returns-in_ok-next-in-Some
returns-in_ok-next-in-Some c =
    let e = rw (c.in-Some.is, c.deref.ensures.value) at c.first_without.ensures in
    let made = c.in_ok-next-in-Some.ensures in
    found-some c.args.moment c.args.s.now.last_mid (waits_on (is_among c.args.gone.now)) c.args.s.now.waiting.items _ _
    (sym e) made.message made.datagram
