use Rattle.std.proofs.Common.{◌≡◌, ◌++◌, take}
use Rattle.cache_key.specs.Keys.{key_of}
use Rattle.observe_share.specs.Watches.{is_of}
use Rattle.exchange_model.specs.Watching.{tokens_of}
use Rattle.exchange_core.proofs.watching.add_renewed.Given as goal

abbrev pub invariant-each : goal.invariant-each
invariant-each l = l.tokens.items ≡ l.initial.tokens.items
    ++ tokens_of (is_of (key_of l.reading.peer l.reading.target.now l.reading.accept)) (take l.watch-index l.near)
