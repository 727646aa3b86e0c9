use Rattle.std.proofs.Common.{◌≡◌, ◌++◌, take}
use Rattle.cache_key.specs.Keys.{place_of}
use Rattle.observe_share.specs.Watches.{is_at}
use Rattle.exchange_model.specs.Watching.{tokens_of}
use Rattle.exchange_core.proofs.watching.add_at.Given as goal

abbrev pub invariant-each : goal.invariant-each
invariant-each l = l.tokens.items ≡ l.initial.tokens.items
    ++ tokens_of (is_at (place_of l.writing.peer l.writing.target.now)) (take l.watch-index l.near)
