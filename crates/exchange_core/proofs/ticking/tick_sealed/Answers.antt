use Rattle.std.proofs.Common.{◌≡◌, ◌<◌, length, refl, sym, ap, subst, ◌∙◌, arith}
use Rattle.exchange_model.specs.State.{State}
use Rattle.exchange_model.specs.Entering.{IsDrained}
use Rattle.exchange_model.specs.Room.{KeptInRoom}
use Rattle.exchange_model.specs.Sealing.{late}
use Rattle.exchange_core.specs.Ending.{late_deeds}
use Rattle.exchange_core.specs.Places.{IsOrdered}
use Rattle.exchange_core.specs.Sound.{SoundState}
use Rattle.exchange_core.specs.States.{state_of, seen, given_in, outgoing, with_draft, core_of}
use Rattle.exchange_core.specs.Values.{stepped}
use Rattle.exchange_core.proofs.Ordered.{ordered}
use Rattle.exchange_core.proofs.Sounding.{few-in, sound-drafted}
use Rattle.exchange_core.proofs.Stepping.{committed, stepped-same}
use Rattle.exchange_core.proofs.TickSound.{with-none, with-some, late-is, late-drained, late-in-room}
use Rattle.exchange_core.proofs.ticking.tick_sealed.Goals as goal

pub returns-then-len-eq0-clause-ticks : goal.returns-then-len-eq0-clause-ticks
returns-then-len-eq0-clause-ticks g c =
    let t = c.args.moment in
    let S : State = state_of c.args.s.now in
    let h = c.in_ok-draft.ensures.drafts in
    let stays : late t S ≡ S =
    late-is t S ∙ with-none t S (late_deeds t S) c.in_ok-draft.draft h (sym c.len.ensures.len ∙ c.if-len-eq0.true) in
    sym (ap (λ (V : State). stepped V (seen c.args.s.now)) stays
    ∙ stepped-same S (given_in c.args.s.now) (outgoing c.args.s.now))

pub commit-requires-clause-few : goal.commit-requires-clause-few
commit-requires-clause-few g c =
    let t = c.args.moment in
    let S : State = state_of c.args.s.now in
    let d = c.in_ok-draft.draft in
    let count : c.len.result ≡ length d.entries = c.len.ensures.len in
    let other = c.if-len-eq0.false in
    let some : 0 < length d.entries = omega (arith, count, other) in
    let is = with-some t S (late_deeds t S) d c.in_ok-draft.ensures.drafts some ∙ sym (late-is t S) in
    let few = few-in S (with_draft t d S) d refl
    (subst KeptInRoom (sym is) (late-in-room t S c.requires.sound.kept c.requires.later c.requires.sealed)) in
    let same = ap (λ (V : State). length V.entries) c.in_ok-make_places.ensures.same.state in
    omega (arith, few, same)

pub commit-requires-clause-ordered : goal.commit-requires-clause-ordered
commit-requires-clause-ordered g c =
    subst IsOrdered (sym c.in_ok-make_places.ensures.same.state) (ordered (state_of c.args.s.now) c.requires.sound.kept)

pub returns-clause-sound : goal.returns-clause-sound
returns-clause-sound g c =
    let t = c.args.moment in
    let S : State = state_of c.args.s.now in
    let d = c.in_ok-draft.draft in
    let same = c.in_ok-make_places.ensures.same in
    let count : c.len.result ≡ length d.entries = c.len.ensures.len in
    let other = c.if-len-eq0.false in
    let some : 0 < length d.entries = omega (arith, count, other) in
    let is = with-some t S (late_deeds t S) d c.in_ok-draft.ensures.drafts some ∙ sym (late-is t S) in
    let q = c.requires in
    subst (λ (V : State). SoundState V c.commit.new.s.bytes c.commit.new.s.journal.room
    (given_in c.commit.new.s)) (sym (c.commit.ensures.state ∙ ap (with_draft t d) same.state))
    (sound-drafted t S (with_draft t d S) _ _ _ _ _ _ _ d q.sound c.in_ok-draft.ensures refl refl q.early refl
    (subst KeptInRoom (sym is) (late-in-room t S q.sound.kept q.later q.sealed))
    (subst IsDrained (sym is) (late-drained t S q.sound.drained))
    (c.commit.ensures.bytes ∙ rw (same.bytes) refl)
    (let held = c.commit.ensures.held in let conns = ap (λ (V : State). length V.conns) same.state in omega (arith, held, conns))
    (c.commit.ensures.answers ∙ rw (same.answers) refl))

pub returns-clause-ticks : goal.returns-clause-ticks
returns-clause-ticks g c =
    let t = c.args.moment in
    let S : State = state_of c.args.s.now in
    let d = c.in_ok-draft.draft in
    let same = c.in_ok-make_places.ensures.same in
    let count : c.len.result ≡ length d.entries = c.len.ensures.len in
    let other = c.if-len-eq0.false in
    let some : 0 < length d.entries = omega (arith, count, other) in
    let is = with-some t S (late_deeds t S) d c.in_ok-draft.ensures.drafts some ∙ sym (late-is t S) in
    let new = c.commit.ensures.state ∙ ap (with_draft t d) same.state in
    ap (λ (V : State). core_of V (given_in c.commit.new.s) (outgoing c.commit.new.s)) new
    ∙ committed t S (with_draft t d S) (late_deeds t S) d (given_in c.args.s.now) (given_in c.commit.new.s)
    (outgoing c.args.s.now) (outgoing c.commit.new.s) c.in_ok-draft.ensures.drafts refl
    (c.commit.ensures.answers ∙ rw (same.answers) refl)
    (c.commit.ensures.sends ∙ rw (same.sends) refl)
    ∙ ap (λ (V : State). stepped V (seen c.args.s.now)) is
