use Rattle.std.proofs.Common.{List, [], ◌∷◌, Option, refl, sym, subst}
use Rattle.demo_origin.specs.Origins.{device}
use Rattle.demo_origin.specs.declared.state.Datagram.{Datagram}
use Rattle.device_server.specs.Turns.{Grown, listed, received}
use Rattle.device_server.proofs.Going.{grown_join}
use Rattle.device_server.proofs.turns.turn.Goals as goal

pub returns-clause-goes_on : goal.returns-clause-goes_on
returns-clause-goes_on g c =
    let looked = device c.look-looks.new.origin in
    let came = received c.receive.new.buffer c.in_ok-came.came in
    let B : Option (List Datagram) → Type 0 = λ o.
    Grown (g.L.Wire.came c.args.wire.now) o (listed came) in
    let S : Option (List Datagram) → Type 0 = λ o.
    Grown o (g.L.Wire.sent c.send_all.new.wire) looked.out in
    record {
      turn = record {
        begun = c.in_ok-begun.begun;
        moment = c.in_ok-moment.moment;
        came = came;
        turned = record { hears = c.hear-hears.result; looks = c.look-looks.result };
        sent = looked.out;
      };
      turned_is = refl;
      takes = record {
        heard = device c.hear-hears.new.origin;
        looked = looked;
        hears = c.hear-hears.ensures.hears;
        looks = c.look-looks.ensures.looks;
        sends = refl;
        is = c.send_all.ensures.gives;
      };
      tells = grown_join (g.C.Clock.told c.args.clock.now) (g.C.Clock.told c.moment.new.self)
          (g.C.Clock.told c.moment-2.new.self) (c.in_ok-begun.begun ∷ [])
          (c.in_ok-moment.moment ∷ []) c.in_ok-begun.ensures.ok c.in_ok-moment.ensures.ok;
      brings = subst B (sym c.send_all.ensures.quiet) c.in_ok-came.ensures.brings;
      sends = subst S c.in_ok-came.ensures.same c.send_all.ensures.sends;
    }
