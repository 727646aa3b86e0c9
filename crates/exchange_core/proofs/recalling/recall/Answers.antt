use Rattle.std.proofs.Common.{ℕ, ◌+◌, ◌++◌, List, length, sym, ap, subst, ◌∙◌, arith}
use Rattle.std.specs.Prelude.{sum_by}
use Rattle.std.specs.Arc.{arc_value}
use Rattle.ask_model.specs.Sizes.{capped}
use Rattle.journal_book.specs.Entries.{entry_size}
use Rattle.exchange_model.specs.State.{State}
use Rattle.exchange_core.specs.Answering.{Given}
use Rattle.exchange_core.specs.Places.{IsOrdered}
use Rattle.exchange_core.specs.States.{state_of, given_in, outgoing, with_draft}
use Rattle.exchange_core.specs.Values.{Outgoing}
use Rattle.exchange_core.proofs.Ordered.{conns-ordered, ordered}
use Rattle.exchange_core.proofs.Recalls.{recall-sealed, recall-seals, recall-sound, recall-steps, used-after}
use Rattle.exchange_core.proofs.Sounding.{few-for}
use Rattle.exchange_core.proofs.recalling.recall.Goals as goal

pub takes-requires-clause-ordered : goal.takes-requires-clause-ordered
takes-requires-clause-ordered g c = conns-ordered (state_of c.args.s.now) c.requires.sound.kept

pub returns-then-not-taken-clause-sound : goal.returns-then-not-taken-clause-sound
returns-then-not-taken-clause-sound g c =
    let e = c.seal.ensures in
    let fit = sym (c.in_ok-taken.ensures c.args.moment) ∙ c.if-not-taken.true in
    recall-sealed c.args.moment c.args.conn (arc_value c.args.mapped) c.args.stored (state_of c.args.s.now) c.in_ok-draft.draft c.in_ok-draft.ensures.drafts
    c.requires.recalls c.in_ok-draft.ensures.answers
    _ _ _ (outgoing c.args.s.now) c.requires.sound c.requires.unsealed
    (state_of c.seal.new.s) _ _ _ c.requires.early fit e.state e.bytes e.room e.answers

pub returns-then-not-taken-clause-is : goal.returns-then-not-taken-clause-is
returns-then-not-taken-clause-is g c = λ ne n.
    let e = c.seal.ensures in
    let fit = sym (c.in_ok-taken.ensures c.args.moment) ∙ c.if-not-taken.true in
    recall-seals c.args.moment c.args.conn (arc_value c.args.mapped) c.args.stored (state_of c.args.s.now) c.in_ok-draft.draft c.in_ok-draft.ensures.drafts
    c.requires.recalls c.in_ok-draft.ensures.answers
    _ _ _ (outgoing c.args.s.now) c.requires.sound c.requires.unsealed
    (state_of c.seal.new.s) (given_in c.seal.new.s) (outgoing c.seal.new.s) n fit e.state e.answers e.sends

pub commit-requires-clause-few : goal.commit-requires-clause-few
commit-requires-clause-few g c =
    let t = c.args.moment in
    let left = few-for t (state_of c.args.s.now) c.in_ok-draft.draft c.requires.sound.kept (sym (c.in_ok-taken.ensures t) ∙ c.if-not-taken.false) in
    let same = ap (λ (V : State). length V.entries) c.make_places.ensures.same.state in
    omega (arith, left, same)

pub commit-requires-clause-ordered : goal.commit-requires-clause-ordered
commit-requires-clause-ordered g c =
    subst IsOrdered (sym c.make_places.ensures.same.state) (ordered (state_of c.args.s.now) c.requires.sound.kept)

pub returns-clause-sound : goal.returns-clause-sound
returns-clause-sound g c =
    let e = c.commit.ensures in
    let m = c.make_places.ensures.same in
    let t = c.args.moment in
    let S : State = state_of c.args.s.now in
    let d = c.in_ok-draft.draft in
    let fit = sym (c.in_ok-taken.ensures t) ∙ c.if-not-taken.false in
    let new = used-after (state_of c.commit.new.s) (with_draft t d S) _ _ (arc_value c.args.mapped) t c.touch.new.store.pairs c.touch-2.new.watches.standing
    (e.state ∙ ap (λ (V : State). with_draft t d V) m.state) c.touch.ensures c.deref.ensures c.touch-2.ensures c.deref-2.ensures in
    recall-sound t c.args.conn (arc_value c.args.mapped) c.args.stored S d c.in_ok-draft.ensures.drafts
    c.requires.recalls c.in_ok-draft.ensures.answers
    _ _ _ (outgoing c.args.s.now) c.requires.sound c.requires.unsealed
    _ _ _ _ c.requires.early fit new
    (e.bytes ∙ ap (λ (b : ℕ). capped (b + capped (sum_by entry_size d.entries))) m.bytes)
    (let held = e.held in let conns = ap (λ (V : State). length V.conns) m.state in omega (arith, held, conns)) (e.answers ∙ ap (λ (gs : List Given). gs ++ d.answers) m.answers)

pub returns-clause-is : goal.returns-clause-is
returns-clause-is g c = λ ne n.
    let e = c.commit.ensures in
    let m = c.make_places.ensures.same in
    let t = c.args.moment in
    let S : State = state_of c.args.s.now in
    let d = c.in_ok-draft.draft in
    let fit = sym (c.in_ok-taken.ensures t) ∙ c.if-not-taken.false in
    let new = used-after (state_of c.commit.new.s) (with_draft t d S) _ _ (arc_value c.args.mapped) t c.touch.new.store.pairs c.touch-2.new.watches.standing
    (e.state ∙ ap (λ (V : State). with_draft t d V) m.state) c.touch.ensures c.deref.ensures c.touch-2.ensures c.deref-2.ensures in
    recall-steps t c.args.conn (arc_value c.args.mapped) c.args.stored S d c.in_ok-draft.ensures.drafts
    c.requires.recalls c.in_ok-draft.ensures.answers
    _ _ _ (outgoing c.args.s.now) c.requires.sound c.requires.unsealed
    _ _ _ n fit new
    (e.answers ∙ ap (λ (gs : List Given). gs ++ d.answers) m.answers) (e.sends ∙ ap (λ (xs : List Outgoing). xs ++ d.sends) m.sends)
