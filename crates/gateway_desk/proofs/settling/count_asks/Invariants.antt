-- The asks among the entries so far are counted.
use Rattle.std.proofs.Common.{◌≡◌, ◌≤◌, take}
use Rattle.std.specs.Prelude.{count_by}
use Rattle.gateway_desk.specs.Running.{is_ask}
use Rattle.gateway_desk.proofs.settling.count_asks.Given as goal

abbrev pub invariant-each : goal.invariant-each
invariant-each g l = record {
  counted : l.asks ≡ count_by is_ask (take l.number l.journal.entries);
  few : l.asks ≤ l.number;
}
