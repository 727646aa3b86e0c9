use Rattle.std.proofs.Common.{◌≡◌, ◌++◌, drop, map}
use Rattle.exchange_core.specs.Giving.{number_of}
use Rattle.exchange_core.proofs.giving.name_pieces.Given as goal

abbrev pub invariant-each : goal.invariant-each
invariant-each l = l.numbers.items ++ map number_of (drop l.piece-index l.pieces)
    ≡ l.initial.numbers.items ++ map number_of l.pieces
