use Rattle.std.proofs.Common.{◌∷◌, true, length, refl, sym, ap, subst, ◌∙◌, arith}
use Rattle.journal_book.specs.Entries.{Seals}
use Rattle.exchange_model.specs.State.{State}
use Rattle.exchange_model.specs.Entering.{IsDrained}
use Rattle.exchange_model.specs.Room.{KeptInRoom}
use Rattle.exchange_core.specs.Ending.{late_deeds}
use Rattle.exchange_core.specs.Places.{IsOrdered}
use Rattle.exchange_core.specs.Sound.{SoundState}
use Rattle.exchange_core.specs.States.{state_of, seen, given_in, outgoing, with_draft, core_of}
use Rattle.exchange_core.specs.Values.{stepped}
use Rattle.exchange_core.proofs.Ordered.{ordered}
use Rattle.exchange_core.proofs.Sounding.{few-in, sound-drafted}
use Rattle.exchange_core.proofs.Stepping.{committed}
use Rattle.exchange_core.proofs.TickSound.{sealed-late, seals-drained, seals-late-in-room}
use Rattle.exchange_core.proofs.ticking.tick_full.Goals as goal

pub commit-requires-clause-few : goal.commit-requires-clause-few
commit-requires-clause-few g c =
    let t = c.args.moment in
    let S : State = state_of c.args.s.now in
    let q = c.requires in
    let d = c.in_ok-draft.draft in
    let is = sealed-late t S d c.in_ok-draft.ensures.drafts in
    let few = few-in S (let U = with_draft t d S in record U { sealed = true }) d refl
    (subst KeptInRoom (sym is) (seals-late-in-room t S q.sound.kept q.later q.unsealed q.full)) in
    let same = ap (λ (V : State). length V.entries) c.in_ok-make_places.ensures.same.state in
    omega (arith, few, same)

pub commit-requires-clause-ordered : goal.commit-requires-clause-ordered
commit-requires-clause-ordered g c =
    subst IsOrdered (sym c.in_ok-make_places.ensures.same.state) (ordered (state_of c.args.s.now) c.requires.sound.kept)

pub returns-clause-sound : goal.returns-clause-sound
returns-clause-sound g c =
    let t = c.args.moment in
    let S : State = state_of c.args.s.now in
    let q = c.requires in
    let d = c.in_ok-draft.draft in
    let same = c.in_ok-make_places.ensures.same in
    let is = sealed-late t S d c.in_ok-draft.ensures.drafts in
    let new = ap (λ (W : State). record W { sealed = true }) (c.commit.ensures.state ∙ ap (with_draft t d) same.state) in
    subst (λ (W : State). SoundState W c.commit.new.s.bytes c.commit.new.s.journal.room
    (given_in c.commit.new.s)) (sym new)
    (sound-drafted t S (let U = with_draft t d S in record U { sealed = true }) _ _ _ _ _ _ _ d q.sound
    c.in_ok-draft.ensures refl refl q.early refl
    (subst KeptInRoom (sym is) (seals-late-in-room t S q.sound.kept q.later q.unsealed q.full))
    (subst IsDrained (sym is) (seals-drained t S q.sound.drained))
    (c.commit.ensures.bytes ∙ rw (same.bytes) refl)
    (let held = c.commit.ensures.held in let conns = ap (λ (V : State). length V.conns) same.state in omega (arith, held, conns))
    (c.commit.ensures.answers ∙ rw (same.answers) refl))

pub returns-clause-ticks : goal.returns-clause-ticks
returns-clause-ticks g c =
    let t = c.args.moment in
    let S : State = state_of c.args.s.now in
    let d = c.in_ok-draft.draft in
    let same = c.in_ok-make_places.ensures.same in
    let is = sealed-late t S d c.in_ok-draft.ensures.drafts in
    let new = ap (λ (W : State). record W { sealed = true }) (c.commit.ensures.state ∙ ap (with_draft t d) same.state) in
    ap (λ (W : State). core_of W (given_in c.commit.new.s) (outgoing c.commit.new.s)) new
    ∙ committed t S (let U = with_draft t d S in record U { sealed = true }) (Seals ∷ late_deeds t S) d
    (given_in c.args.s.now) (given_in c.commit.new.s)
    (outgoing c.args.s.now) (outgoing c.commit.new.s) c.in_ok-draft.ensures.drafts refl
    (c.commit.ensures.answers ∙ rw (same.answers) refl)
    (c.commit.ensures.sends ∙ rw (same.sends) refl)
    ∙ ap (λ (V : State). stepped V (seen c.args.s.now)) is
