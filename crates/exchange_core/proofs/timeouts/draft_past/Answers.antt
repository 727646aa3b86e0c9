use Rattle.std.proofs.Common.{◌≡◌, ◌++◌, List, map, refl, sym, subst, arith}
use Rattle.std.specs.Prelude.{OnOk, filter}
use Rattle.exchange_model.specs.declared.kept.Exchange.{Exchange}
use Rattle.exchange_model.specs.State.{State}
use Rattle.exchange_model.specs.Hearing.{is_past}
use Rattle.exchange_model.specs.Calls.{told_late}
use Rattle.exchange_model.specs.Entering.{answer_of}
use Rattle.exchange_table.specs.Places.{RiseBy}
use Rattle.exchange_table.specs.Tables.{opening_of}
use Rattle.exchange_table.proofs.CallerLemmas.{rise-filter}
use Rattle.exchange_core.specs.Drafts.{IsDrafted}
use Rattle.exchange_core.specs.States.{state_of}
use Rattle.exchange_core.proofs.Ordered.{exchanges-ordered}
use Rattle.exchange_core.proofs.Readers.{all-asked, few-readers}
use Rattle.exchange_core.proofs.Sinces.{open-later}
use Rattle.exchange_core.proofs.Sounding.{place-left}
use Rattle.exchange_core.proofs.Read.{readers-here}
use Rattle.exchange_core.proofs.timeouts.draft_past.Goals as goal

pub draft_timeouts-requires-clause-room : goal.draft_timeouts-requires-clause-room
draft_timeouts-requires-clause-room g c =
    let left = place-left _ _ _ _ c.requires.sound in
    let readers = few-readers (state_of c.args.s.now) c.requires.sound.kept in
    let few = c.requires.few in
    omega (arith, left, readers, few)

pub draft_timeouts-requires-clause-ordered : goal.draft_timeouts-requires-clause-ordered
draft_timeouts-requires-clause-ordered g c =
    let S : State = state_of c.args.s.now in
    let past : c.deref.result.now ≡ filter (is_past c.args.moment) S.exchanges =
    rw (c.deref.ensures.value, c.in_ok-past.ensures, c.as_slice.ensures.all) refl in
    subst (RiseBy opening_of) (sym past)
    (rise-filter opening_of (is_past c.args.moment) S.exchanges (exchanges-ordered S c.requires.sound.kept.kept))

pub draft_timeouts-requires-clause-asked : goal.draft_timeouts-requires-clause-asked
draft_timeouts-requires-clause-asked g c = all-asked (state_of c.args.s.now) c.requires.sound.kept

pub returns : goal.returns
returns g c = λ ds h.
    let t = c.args.moment in
    let S : State = state_of c.args.s.now in
    let past : c.deref.result.now ≡ filter (is_past t) S.exchanges =
    rw (c.deref.ensures.value, c.in_ok-past.ensures, c.as_slice.ensures.all) refl in
    subst (λ (es : List Exchange). OnOk c.draft_timeouts.result
    (IsDrafted t S (ds ++ map answer_of (told_late es S.readers)) c.draft_timeouts.new.draft)) past
    (c.draft_timeouts.ensures ds h)

pub past_exchanges-requires : goal.past_exchanges-requires
past_exchanges-requires g c = rw (c.as_slice.ensures.all) (open-later (state_of c.args.s.now) c.requires.sound.kept.kept)

pub draft_timeouts-requires-clause-here : goal.draft_timeouts-requires-clause-here
draft_timeouts-requires-clause-here g c = readers-here (state_of c.args.s.now) c.requires.sound.kept.here
