use Rattle.std.proofs.Common.{List, ℕ, ap, sym, ◌∙◌}
use Rattle.std.proofs.lemmas.List.Filters.{dedup_is}
use Rattle.exchange_core.specs.States.{state_of}
use Rattle.exchange_core.proofs.Naming.{named-parts, names-rise, names-same}
use Rattle.exchange_core.proofs.giving.names.Goals as goal

pub returns-clause-rise : goal.returns-clause-rise
returns-clause-rise g c =
    names-rise c.sort_unstable.new.self.items c.dedup.new.self.items c.sort_unstable.ensures.sorted
    (dedup_is _ _ _ c.dedup.ensures.filtered)

pub returns-clause-names : goal.returns-clause-names
returns-clause-names g c = λ n.
    names-same c.name_pairs.new.numbers.items c.sort_unstable.new.self.items c.dedup.new.self.items n c.sort_unstable.ensures.permutation
    (dedup_is _ _ _ c.dedup.ensures.filtered)
    ∙ named-parts (state_of c.args.s.now) _ _ _ _ _
    (rw (c.as_slice.ensures.all, c.new-numbers.ensures.items) at c.in_ok-name_exchanges.ensures)
    (rw (c.as_slice-2.ensures) at c.in_ok-name_pieces.ensures)
    (rw (c.as_slice-3.ensures) at c.in_ok-name_readers.ensures)
    (rw (c.as_slice-4.ensures.all) at c.in_ok-name_watches.ensures)
    (rw (c.deref.ensures.value, c.in_ok-pairs.ensures.pairs) at c.in_ok-name_pairs.ensures) n
