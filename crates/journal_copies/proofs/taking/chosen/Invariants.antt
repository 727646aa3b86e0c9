use Rattle.std.proofs.Common.{◌≡◌, drop}
use Rattle.journal_copies.specs.Carrying.{IsChoice, backed_in, few_in, taken_with}
use Rattle.journal_copies.proofs.taking.chosen.Given as goal

abbrev pub invariant-each : goal.invariant-each
invariant-each g l = record {
  choice : IsChoice l.moment l.journal.entries l.trial l.choice;
  rest : taken_with l.moment l.journal.entries
      (backed_in l.moment l.journal.entries (drop l.pair-index l.pairs)) l.choice
      ≡ few_in l.moment l.journal.entries l.pairs;
}
