-- Between turns all that was whole of what came in is answered, no device failed, and the gate said no never.
use Rattle.std.specs.Prelude.{◌≡◌}
use Rattle.std.specs.Arc.{arc_value}
use Rattle.ask_model.specs.Views.{rules_of}
use Rattle.sessions.proofs.SoFar.{SoFar}
use Rattle.sessions.proofs.session.talk.Given as goal

abbrev pub invariant-loop : goal.invariant-loop
invariant-loop g l =
    (goal.iterator-loop g).can_next l.iterator' × (goal.iterator-loop g).is_finite l.iterator'
    × (g.S.Stream.count l.stream ≡ g.S.Stream.count l.fn.stream) × (g.G.Gate.nays l.gate ≡ g.G.Gate.nays l.fn.gate)
    × SoFar g.R.Relation.holds g.R.Relation.takes (rules_of (arc_value l.fn.gateway.settings.now)) l.fn.pass.lines l.pass.lines
    (g.S.Stream.gave l.fn.stream) (g.S.Stream.gave l.stream) (g.S.Stream.written l.fn.stream) (g.S.Stream.written l.stream) l.reading.edge
