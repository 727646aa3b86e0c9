use Rattle.std.proofs.Common.{ℕ, ◌+◌, ◌++◌, List, length, refl, sym, ap, subst, ◌∙◌, arith}
use Rattle.std.specs.Prelude.{sum_by}
use Rattle.std.specs.Arc.{arc_value}
use Rattle.ask_model.specs.Sizes.{capped}
use Rattle.journal_book.specs.Entries.{entry_size}
use Rattle.journal_book.specs.Views.{ask_of}
use Rattle.exchange_model.specs.State.{State}
use Rattle.exchange_model.specs.Steps.{seals}
use Rattle.exchange_model.specs.Entering.{refusal_deeds, entered_all}
use Rattle.exchange_model.specs.Room.{fits}
use Rattle.exchange_core.specs.Answering.{Given}
use Rattle.exchange_core.specs.Places.{IsOrdered}
use Rattle.exchange_core.specs.Refusing.{refused}
use Rattle.exchange_core.specs.Sound.{SoundState}
use Rattle.exchange_core.specs.States.{state_of, given_in, outgoing, with_draft, core_of}
use Rattle.exchange_core.specs.Values.{Outgoing, stepped}
use Rattle.exchange_core.proofs.Ordered.{conns-ordered, ordered}
use Rattle.exchange_core.proofs.Refusals.{asks-entered, asks-sealed, refusal-so, touched-after}
use Rattle.exchange_core.proofs.Sounding.{sound-drafted, few-for, sound-seal, first-of, second-of}
use Rattle.exchange_core.proofs.Stepping.{committed, stepped-seal, with-draft, same-core}
use Rattle.exchange_core.proofs.refusing.refuse.Goals as goal

pub returns-then-not-taken-clause-sound : goal.returns-then-not-taken-clause-sound
returns-then-not-taken-clause-sound g c =
    let e = c.seal.ensures in
    let t = c.args.moment in
    let S : State = state_of c.args.s.now in
    let U : State = refused t c.args.conn (ask_of (arc_value c.args.mapped)) c.args.cause S in
    let is = with-draft t S _ _ c.in_ok-draft.draft c.in_ok-draft.ensures.drafts in
    let fit = sym (ap fits is) ∙ sym (c.in_ok-taken.ensures t) ∙ c.if-not-taken.true in
    sound-seal t S _ _ _ _ _ _ _ c.requires.sound c.requires.unsealed (second-of (fits U) U (seals t S) fit c.requires.refused.kept)
    c.requires.early e.state e.bytes e.room e.answers

pub returns-then-not-taken-clause-is : goal.returns-then-not-taken-clause-is
returns-then-not-taken-clause-is g c = λ ne n.
    let e = c.seal.ensures in
    let t = c.args.moment in
    let S : State = state_of c.args.s.now in
    let U : State = refused t c.args.conn (ask_of (arc_value c.args.mapped)) c.args.cause S in
    let is = with-draft t S _ _ c.in_ok-draft.draft c.in_ok-draft.ensures.drafts in
    let fit = sym (ap fits is) ∙ sym (c.in_ok-taken.ensures t) ∙ c.if-not-taken.true in
    same-core _ (seals t S) _ (given_in c.args.s.now) _ (outgoing c.args.s.now) e.state e.answers e.sends
    ∙ stepped-seal t S (given_in c.args.s.now) (outgoing c.args.s.now)
    ∙ ap (λ (V : State). stepped V (core_of S (given_in c.args.s.now) (outgoing c.args.s.now)))
    (sym (asks-sealed t c.args.conn (ask_of (arc_value c.args.mapped)) n S U c.requires.unsealed (c.requires.refused.is n) fit))

pub commit-requires-clause-few : goal.commit-requires-clause-few
commit-requires-clause-few g c =
    let t = c.args.moment in
    let left = few-for t (state_of c.args.s.now) c.in_ok-draft.draft c.requires.sound.kept (sym (c.in_ok-taken.ensures t) ∙ c.if-not-taken.false) in
    let same = ap (λ (V : State). length V.entries) c.make_places.ensures.same.state in
    omega (arith, left, same)

pub commit-requires-clause-ordered : goal.commit-requires-clause-ordered
commit-requires-clause-ordered g c =
    subst IsOrdered (sym c.make_places.ensures.same.state) (ordered (state_of c.args.s.now) c.requires.sound.kept)

pub takes-requires-clause-ordered : goal.takes-requires-clause-ordered
takes-requires-clause-ordered g c = conns-ordered (state_of c.args.s.now) c.requires.sound.kept

pub returns-clause-sound : goal.returns-clause-sound
returns-clause-sound g c =
    let e = c.commit.ensures in
    let m = c.make_places.ensures.same in
    let t = c.args.moment in
    let S : State = state_of c.args.s.now in
    let d = c.in_ok-draft.draft in
    let U : State = refused t c.args.conn (ask_of (arc_value c.args.mapped)) c.args.cause S in
    let is = with-draft t S _ _ d c.in_ok-draft.ensures.drafts in
    let fit = sym (ap fits is) ∙ sym (c.in_ok-taken.ensures t) ∙ c.if-not-taken.false in
    let new = touched-after (state_of c.commit.new.s) (entered_all t (refusal_deeds c.args.conn (ask_of (arc_value c.args.mapped)) c.args.cause S) S) _ (arc_value c.args.mapped) t
    c.touch.new.watches.standing (e.state ∙ ap (λ (V : State). with_draft t d V) m.state ∙ is) c.touch.ensures c.deref.ensures in
    let drained = c.requires.sound.drained in
    subst (λ (V : State). SoundState V c.commit.new.s.bytes c.commit.new.s.journal.room (given_in c.commit.new.s)) (sym new)
    (sound-drafted t S U _ _ _ _ _ _ _ d c.requires.sound
    (refusal-so t c.args.conn S _ c.args.cause d c.in_ok-draft.ensures.drafts c.in_ok-draft.ensures.answers)
    (ap (λ (V : State). V.entries) (sym is)) (ap (λ (V : State). V.given) (sym is)) c.requires.early (ap (λ (V : State). V.conns) (sym is))
    (first-of (fits U) U (seals t S) fit c.requires.refused.kept) (record { once = drained.once; out = drained.out })
    (e.bytes ∙ ap (λ (b : ℕ). capped (b + capped (sum_by entry_size d.entries))) m.bytes)
    (let held = e.held in let conns = ap (λ (V : State). length V.conns) m.state in omega (arith, held, conns)) (e.answers ∙ ap (λ (gs : List Given). gs ++ d.answers) m.answers))

pub returns-clause-is : goal.returns-clause-is
returns-clause-is g c = λ ne n.
    let e = c.commit.ensures in
    let m = c.make_places.ensures.same in
    let t = c.args.moment in
    let S : State = state_of c.args.s.now in
    let d = c.in_ok-draft.draft in
    let gs : List Given = given_in c.args.s.now in
    let os : List Outgoing = outgoing c.args.s.now in
    let U : State = refused t c.args.conn (ask_of (arc_value c.args.mapped)) c.args.cause S in
    let is = with-draft t S _ _ d c.in_ok-draft.ensures.drafts in
    let fit = sym (ap fits is) ∙ sym (c.in_ok-taken.ensures t) ∙ c.if-not-taken.false in
    let new = touched-after (state_of c.commit.new.s) (entered_all t (refusal_deeds c.args.conn (ask_of (arc_value c.args.mapped)) c.args.cause S) S) _ (arc_value c.args.mapped) t
    c.touch.new.watches.standing (e.state ∙ ap (λ (V : State). with_draft t d V) m.state ∙ is) c.touch.ensures c.deref.ensures in
    same-core _ U _ (given_in c.commit.new.s) _ (outgoing c.commit.new.s) new refl refl
    ∙ committed t S U _ d gs _ os _ c.in_ok-draft.ensures.drafts (ap (λ (V : State). V.entries) (sym is))
    (e.answers ∙ ap (λ (xs : List Given). xs ++ d.answers) m.answers) (e.sends ∙ ap (λ (xs : List Outgoing). xs ++ d.sends) m.sends)
    ∙ ap (λ (V : State). stepped V (core_of S gs os)) (sym (asks-entered t c.args.conn (ask_of (arc_value c.args.mapped)) n S U c.requires.unsealed (c.requires.refused.is n) fit))
