use Rattle.std.proofs.Common.{◌≡◌, ◌++◌, take}
use Rattle.exchange_model.specs.Watching.{tokens_of}
use Rattle.exchange_core.specs.Watching.{is_unwatched_by}
use Rattle.exchange_core.proofs.watching.add_ending.Given as goal

abbrev pub invariant-each : goal.invariant-each
invariant-each g l = l.tokens.items ≡ l.initial.tokens.items
    ++ tokens_of (is_unwatched_by l.moment l.journal.entries l.over) (take l.watch-index l.watches)
