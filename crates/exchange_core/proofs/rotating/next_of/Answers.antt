use Rattle.std.proofs.Common.{◌≡◌, ℕ, List, map, ap, ◌∙◌}
use Rattle.std.specs.Prelude.{filter}
use Rattle.resp_cache.specs.declared.pair.Pair.{Pair}
use Rattle.exchange_model.specs.Hearing.{retired}
use Rattle.exchange_core.specs.Renewing.{ends_as_heard}
use Rattle.exchange_model.specs.State.{State}
use Rattle.exchange_model.specs.Rotating.{Backed, carried_numbers, copies_with, pair_at, taken}
use Rattle.journal_copies.specs.Carrying.{few_in}
use Rattle.exchange_core.specs.States.{state_of}
use Rattle.exchange_core.proofs.Carries.{askable-retired, taken-are}
use Rattle.exchange_core.proofs.Listed.{filter-ends}
use Rattle.exchange_core.proofs.Turning.{if-ok}
use Rattle.exchange_core.proofs.rotating.next_of.Goals as goal

pub returns-clause-copied : goal.returns-clause-copied
returns-clause-copied g c =
    let t : ℕ = c.args.moment in
    let S : State = state_of c.args.s.now in
    let same : few_in t S.entries c.deref.result.now ≡ taken t S =
    taken-are t S c.deref.result.now (c.deref.ensures.value ∙ (c.keep_heard.ensures.pairs
    ∙ (ap (λ (ps : List Pair). filter (ends_as_heard S.entries) ps) c.in_ok-pairs.ensures.pairs
    ∙ filter-ends S.entries (retired S.entries S.exchanges S.store) (askable-retired S.entries S.exchanges S.store c.requires.askable)))) in
    if-ok c.begin.result
    (λ b is. is ∙ ap (λ (bs : List Backed). copies_with t S.entries (carried_numbers bs)) same)
    c.begin.ensures.entries

pub returns-clause-pairs : goal.returns-clause-pairs
returns-clause-pairs g c =
    let t : ℕ = c.args.moment in
    let S : State = state_of c.args.s.now in
    let same : few_in t S.entries c.deref.result.now ≡ taken t S =
    taken-are t S c.deref.result.now (c.deref.ensures.value ∙ (c.keep_heard.ensures.pairs
    ∙ (ap (λ (ps : List Pair). filter (ends_as_heard S.entries) ps) c.in_ok-pairs.ensures.pairs
    ∙ filter-ends S.entries (retired S.entries S.exchanges S.store) (askable-retired S.entries S.exchanges S.store c.requires.askable)))) in
    if-ok c.begin.result
    (λ b is. is ∙ ap (λ (bs : List Backed). map (pair_at b.copies.journal.entries) bs) same)
    c.begin.ensures.pairs
