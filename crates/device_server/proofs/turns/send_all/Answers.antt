use Rattle.std.proofs.Common.{ℕ, List, [], ◌∷◌, subst, ◌∙◌}
use Rattle.demo_origin.specs.Origins.{device}
use Rattle.device_server.specs.Turns.{Grown, datagram}
use Rattle.device_server.proofs.Going.{given_one, gives_more}
use Rattle.device_server.proofs.turns.send_all.Goals as goal

pub each-preserved : goal.each-preserved
each-preserved g c =
    let start = device c.args.origin.now in
    let old = device c.each.origin in
    let new = device c.take_send.new.self in
    let first = g.L.Wire.sent c.args.wire.now in
    let before = g.L.Wire.sent c.each.wire in
    let after = g.L.Wire.sent c.send.new.self in
    let P : List ℕ → Type 0 = λ bytes.
    Grown before after (datagram c.in-Some.datagram.peer bytes ∷ []) in
    let given = given_one old new c.take_send.result c.in-Some.datagram c.take_send.ensures.sent
    c.in-Some.is in (
      c.take_send.ensures.sound,
      gives_more start old new first before after c.in-Some.datagram c.each.invariant.1 given
          (subst P c.as_slice.ensures c.send.ensures.sends),
      c.send.ensures.quiet ∙ c.each.invariant.2,
      c.send.ensures.sound ∙ c.each.invariant.3,
    )
