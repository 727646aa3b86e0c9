use Rattle.std.proofs.Common.{◌∷◌, [], ℕ, List, length, sym, ap, subst, ◌∙◌}
use Rattle.std.specs.List.{AllByRecursion}
use Rattle.history_laws.proofs.CallerLemmas.{all-filter}
use Rattle.exchange_model.specs.declared.kept.Exchange.{Exchange}
use Rattle.exchange_model.specs.Matters.{IsDigested, is_other, left_by}
use Rattle.exchange_core.specs.Hearing.{first_number, note_next}
use Rattle.exchange_core.specs.States.{state_of}
use Rattle.exchange_core.proofs.Apart.{tables-by}
use Rattle.exchange_core.proofs.Settling.{stored-over}
use Rattle.exchange_table.specs.Asks.{IsAskedHere}
use Rattle.exchange_core.proofs.ends.change_tables.Goals as goal

pub outrun-requires-clause-digested : goal.outrun-requires-clause-digested
outrun-requires-clause-digested g c =
    let ws = c.args.s.now.journal.entries in
    subst (AllByRecursion (IsDigested ws)) (sym c.remove.ensures)
    (all-filter (IsDigested ws) (is_other c.args.exchange.now.token) c.args.s.now.exchanges.exchanges c.requires.digests)

pub returns-clause-state : goal.returns-clause-state
returns-clause-state g c = λ x ended k is.
    let S = state_of c.args.s.now in
    let e = c.args.exchange.now in
    let h = c.args.heeding in
    let n = length S.entries in
    tables-by c.args.moment c.args.peer h e ended x S k _ _ _ _ _ _
    (c.note_next.ensures
    ∙ (ap (λ (j : ℕ). note_next j h.next c.outrun.new.exchanges.exchanges) (c.first_number.ensures ∙ ap (λ (m : ℕ). first_number m h) c.len-number.ensures)
    ∙ ap (λ (es : List Exchange). note_next (first_number n h) h.next es) (c.outrun.ensures ∙ ap (λ (es : List Exchange). left_by S.entries (e ∷ []) es) c.remove.ensures)))
    c.drop_of.ensures.pieces c.drop_of-2.ensures.stales c.retire.ensures
    (c.settle.ensures ∙ stored-over n c.args.moment S.entries x.numbers e ended x.matter c.args.put S.store k.matter is)
    c.heed.ensures

pub outrun-requires-clause-here : goal.outrun-requires-clause-here
outrun-requires-clause-here g c =
    let here = IsAskedHere c.args.s.now.journal.given c.args.s.now.journal.kept in
    subst (AllByRecursion here) (sym c.remove.ensures)
    (all-filter here (is_other c.args.exchange.now.token) c.args.s.now.exchanges.exchanges c.requires.here)
