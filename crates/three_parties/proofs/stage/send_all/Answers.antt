-- All that the device gives was sent.
use Rattle.std.proofs.Common.{[], ◌∷◌, map, ap, ◌∙◌}
use Rattle.demo_origin.specs.Origins.{device}
use Rattle.three_parties.specs.Flights.{going}
use Rattle.three_parties.proofs.Sending.{given-one, gives-more, gives-shorter, mapped-both, none-given}
use Rattle.three_parties.proofs.stage.send_all.Goals as goal

pub each-init : goal.each-init
each-init g c = (c.requires, none-given c.args.moment (device c.args.origin.now) (map going c.args.flights.now.items))

pub each-preserved : goal.each-preserved
each-preserved g c =
    let old = device c.each.origin in
    let new = device c.take_send.new.self in
    let given = given-one old new c.take_send.result c.in-Some.datagram c.take_send.ensures.sent c.in-Some.is in (
      c.take_send.ensures.sound,
      gives-more c.args.moment (device c.args.origin.now) old new (map going c.args.flights.now.items) (map going c.each.flights.items)
          (map going c.push.new.self.items) c.in-Some.datagram c.each.invariant.1 given
          (ap (map going) c.in_ok-push.ensures.items ∙ mapped-both going c.each.flights.items (_ ∷ [])),
    )

pub each-smaller : goal.each-smaller
each-smaller g c =
    gives-shorter (device c.each.origin) (device c.take_send.new.self) c.in-Some.datagram
    (given-one (device c.each.origin) (device c.take_send.new.self) c.take_send.result c.in-Some.datagram c.take_send.ensures.sent c.in-Some.is)
