-- What is put with what is left are the asks of all notes.
use Rattle.std.proofs.Common.{◌≡◌, ◌++◌, drop, map}
use Rattle.gateway_desk.specs.Lines.{line_of}
use Rattle.std.specs.List.{flat_map}
use Rattle.gateway_desk.specs.Settled.{answered_by, answered_in}
use Rattle.gateway_desk.proofs.settling.put_all_answered.Given as goal

abbrev pub invariant-each : goal.invariant-each
invariant-each g l =
    l.numbers.items ++ flat_map (λ n. answered_by (line_of n)) (drop l.note-index l.notes) ≡ l.initial.numbers.items ++ answered_in (map line_of l.notes)
