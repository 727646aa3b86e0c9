use Rattle.std.proofs.Common.{sym, ◌∙◌}
use Rattle.exchange_core.proofs.Empty.{stale-none}
use Rattle.exchange_core.proofs.Listed.{stale-askable, stale-here}
use Rattle.exchange_core.proofs.renewing.find_stale.Goals as goal

pub returns-then-is_empty : goal.returns-then-is_empty
returns-then-is_empty g c =
    stale-none c.args.mapped.now.sense c.args.moment c.args.journal.now.entries c.args.store.now.pairs (sym c.is_empty.ensures ∙ c.if-is_empty.true)

pub as_pieces-requires-clause-listed : goal.as_pieces-requires-clause-listed
as_pieces-requires-clause-listed g c =
    (stale-askable c.args.journal.now.entries _ c.args.moment c.in-Some-stale.stored.now c.args.store.now.pairs c.requires.askable (sym c.in-Some-stale.ensures)).1

pub as_pieces-requires-clause-here : goal.as_pieces-requires-clause-here
as_pieces-requires-clause-here g c =
    stale-here c.args.journal.now.given c.args.journal.now.kept _ c.args.moment c.in-Some-stale.stored.now
    c.args.store.now.pairs c.requires.here (sym c.in-Some-stale.ensures)
