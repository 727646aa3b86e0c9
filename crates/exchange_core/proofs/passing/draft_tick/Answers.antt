use Rattle.std.proofs.Common.{◌≡◌, ◌+◌, ◌∷◌, ◌++◌, [], ℕ, List, length, map, sym, ap, subst, ◌∙◌, arith}
use Rattle.journal_book.specs.Entries.{Deed, Passes}
use Rattle.exchange_model.specs.declared.kept.Exchange.{Exchange}
use Rattle.exchange_model.specs.State.{State}
use Rattle.exchange_model.specs.Hearing.{expires, is_gone}
use Rattle.exchange_model.specs.Calls.{told_late}
use Rattle.exchange_model.specs.Entering.{all_deeds, answer_of}
use Rattle.endpoint_table.specs.Turns.{turns_deeds}
use Rattle.exchange_table.specs.Places.{RiseBy}
use Rattle.exchange_table.specs.Tables.{opening_of}
use Rattle.exchange_table.proofs.CallerLemmas.{rise-filter}
use Rattle.exchange_core.specs.Drafts.{Drafts, IsDrafted}
use Rattle.exchange_core.specs.States.{state_of}
use Rattle.exchange_core.proofs.Drafting.{answers-none}
use Rattle.exchange_core.proofs.Ordered.{exchanges-ordered}
use Rattle.exchange_core.proofs.Readers.{all-asked, readers-connected}
use Rattle.exchange_core.proofs.Sounding.{place-left}
use Rattle.exchange_core.proofs.Read.{readers-here}
use Rattle.exchange_core.proofs.passing.draft_tick.Goals as goal

pub enter-requires-clause-next : goal.enter-requires-clause-next
enter-requires-clause-next g c =
    let n = (c.start-draft.ensures.drafts c.args.moment).next in
    let left = place-left _ _ _ _ c.requires.sound in
    omega (arith, n, left)

pub start-draft-requires : goal.start-draft-requires
start-draft-requires g c = let left = place-left _ _ _ _ c.requires.sound in omega (arith, left)

pub draft_turns-requires-clause-room : goal.draft_turns-requires-clause-room
draft_turns-requires-clause-room g c =
    let passed : Drafts c.args.moment (state_of c.args.s.now) (Passes ∷ []) c.enter.new.self =
    c.in_ok-enter.ensures.drafts (state_of c.args.s.now) [] tt (c.start-draft.ensures.drafts c.args.moment) in
    let next = passed.next in
    let few = c.requires.few in omega (arith, next, few)

pub draft_timeouts-requires-clause-ordered : goal.draft_timeouts-requires-clause-ordered
draft_timeouts-requires-clause-ordered g c =
    let S : State = state_of c.args.s.now in
    subst (RiseBy opening_of) (sym c.requires.over)
    (rise-filter opening_of (expires c.args.moment S.links) S.exchanges (exchanges-ordered S c.requires.sound.kept.kept))

pub draft_timeouts-requires-clause-asked : goal.draft_timeouts-requires-clause-asked
draft_timeouts-requires-clause-asked g c = all-asked (state_of c.args.s.now) c.requires.sound.kept

pub draft_timeouts-requires-clause-room : goal.draft_timeouts-requires-clause-room
draft_timeouts-requires-clause-room g c =
    let S : State = state_of c.args.s.now in
    let passed : Drafts c.args.moment S (Passes ∷ []) c.enter.new.self =
    c.in_ok-enter.ensures.drafts S [] tt (c.start-draft.ensures.drafts c.args.moment) in
    let turned : Drafts c.args.moment S (Passes ∷ turns_deeds c.args.turns.now.items) c.draft_turns.new.draft =
    c.in_ok-draft_turns.ensures.drafts S (Passes ∷ []) passed in
    let next = turned.next in
    let few = c.requires.few in
    let readers = readers-connected S c.requires.sound.kept c.requires.sound.few in
    omega (arith, next, few, readers)

pub returns : goal.returns
returns g c =
    let t = c.args.moment in
    let S : State = state_of c.args.s.now in
    let passed : Drafts t S (Passes ∷ []) c.enter.new.self =
    c.in_ok-enter.ensures.drafts S [] tt (c.start-draft.ensures.drafts t) in
    let turned : Drafts t S (Passes ∷ turns_deeds c.args.turns.now.items) c.draft_turns.new.draft =
    c.in_ok-draft_turns.ensures.drafts S (Passes ∷ []) passed in
    let ds = all_deeds t (is_gone t S) S.links in
    let whole : Drafts t S (Passes ∷ ds) c.draft_turns.new.draft =
    subst (λ (es : List Deed). Drafts t S (Passes ∷ es) c.draft_turns.new.draft) c.requires.deeds turned in
    let none = c.in_ok-draft_turns.ensures.answers ∙ c.in_ok-enter.ensures.answers ∙ c.start-draft.ensures.answers in
    subst (λ (es : List Exchange). IsDrafted t S
    (Passes ∷ (ds ++ map answer_of (told_late es S.readers))) c.draft_timeouts.new.draft) c.requires.over
    (c.in_ok-draft_timeouts.ensures (Passes ∷ ds) (answers-none t S (Passes ∷ ds) _ whole none))

pub draft_timeouts-requires-clause-here : goal.draft_timeouts-requires-clause-here
draft_timeouts-requires-clause-here g c = readers-here (state_of c.args.s.now) c.requires.sound.kept.here
