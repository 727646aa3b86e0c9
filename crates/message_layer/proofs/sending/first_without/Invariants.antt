-- Each of those that were looked at has a token of these.
use Rattle.std.proofs.Common.{◌≡◌, drop}
use Rattle.std.specs.List.{find}
use Rattle.message_layer.specs.Calls.{is_among, waits_on}
use Rattle.message_layer.proofs.sending.first_without.Given as goal

abbrev pub invariant-each : goal.invariant-each
invariant-each l =
    find (waits_on (is_among l.gone)) l.waiting
    ≡ find (waits_on (is_among l.gone)) (drop l.w-index l.waiting)
