use Rattle.std.proofs.Common.{◌≡◌, ℕ, ◌+◌, ◌++◌, ◌∷◌, [], List, length, map, sym, ap, subst, ◌∙◌, arith}
use Rattle.std.specs.Prelude.{sum_by}
use Rattle.std.specs.Arc.{arc_value}
use Rattle.observe_share.specs.declared.registration.Registration.{Registration}
use Rattle.ask_model.specs.Sizes.{capped}
use Rattle.ask_model.specs.Views.{Mapping}
use Rattle.journal_book.specs.Entries.{entry_size}
use Rattle.exchange_model.specs.declared.kept.Reader.{Reader}
use Rattle.exchange_model.specs.declared.kept.Exchange.{Exchange}
use Rattle.exchange_model.specs.State.{State}
use Rattle.exchange_model.specs.Steps.{read_at}
use Rattle.exchange_model.specs.Watching.{touched}
use Rattle.exchange_core.specs.Answering.{Given}
use Rattle.exchange_core.specs.Places.{IsOrdered}
use Rattle.exchange_core.specs.States.{state_of, given_in, outgoing, with_draft}
use Rattle.exchange_core.specs.Values.{Outgoing}
use Rattle.exchange_core.proofs.Joins.{join-sealed, join-seals, join-sound, join-steps, reader_of, with_reader}
use Rattle.exchange_core.proofs.Ordered.{conns-ordered, ordered}
use Rattle.exchange_core.proofs.Sounding.{few-for}
use Rattle.exchange_core.proofs.joining.join.Goals as goal

pub takes-requires-clause-ordered : goal.takes-requires-clause-ordered
takes-requires-clause-ordered g c = conns-ordered (state_of c.args.s.now) c.requires.sound.kept

pub returns-then-not-taken-clause-sound : goal.returns-then-not-taken-clause-sound
returns-then-not-taken-clause-sound g c =
    let e = c.seal.ensures in
    let fit = sym (c.in_ok-taken.ensures c.args.moment) ∙ c.if-not-taken.true in
    join-sealed c.args.moment c.args.conn c.args.opening _ (state_of c.args.s.now) c.in_ok-draft.draft c.in_ok-draft.ensures.drafts
    _ _ _ (outgoing c.args.s.now) c.requires.sound c.requires.unsealed c.requires.joins c.in_ok-draft.ensures.answers
    (state_of c.seal.new.s) _ _ _ c.requires.early fit e.state e.bytes e.room e.answers

pub returns-then-not-taken-clause-is : goal.returns-then-not-taken-clause-is
returns-then-not-taken-clause-is g c = λ ne n.
    let e = c.seal.ensures in
    let fit = sym (c.in_ok-taken.ensures c.args.moment) ∙ c.if-not-taken.true in
    join-seals c.args.moment c.args.conn c.args.opening _ (state_of c.args.s.now) c.in_ok-draft.draft c.in_ok-draft.ensures.drafts
    _ _ _ (outgoing c.args.s.now) c.requires.sound c.requires.unsealed c.requires.joins c.in_ok-draft.ensures.answers
    (state_of c.seal.new.s) (given_in c.seal.new.s) (outgoing c.seal.new.s) n fit e.state e.answers e.sends

pub commit-requires-clause-few : goal.commit-requires-clause-few
commit-requires-clause-few g c =
    let t = c.args.moment in
    let left = few-for t (state_of c.args.s.now) c.in_ok-draft.draft c.requires.sound.kept (sym (c.in_ok-taken.ensures t) ∙ c.if-not-taken.false) in
    let same = ap (λ (V : State). length V.entries) c.make_places.ensures.same.state in
    omega (arith, left, same)

-- the state once places were made, also for a reader
placed : (S S1 : State) (rs : List Reader) → S1 ≡ S → rs ≡ S1.readers → record S1 { readers = rs } ≡ S
placed S S1 rs is same = rw (same) is

-- ... and once the ask and the reader came
after : (t : ℕ) (m n : Mapping) (S S1 V : State) (es : List Exchange) (rs : List Reader) (ws : List Registration) (c o k : ℕ) → S1 ≡ V
    → es ≡ map (read_at t o) S1.exchanges → rs ≡ S1.readers ++ record { ask = k; conn = c; opening = o } ∷ [] → ws ≡ touched t n.sense S1.watches
    → n ≡ m → k ≡ length S.entries
    → record S1 { exchanges = es; readers = rs; watches = ws } ≡ with_reader t m.sense (reader_of (length S.entries) c o) V
after t m n S S1 V es rs ws c o k is read more noted same at =
    ap (λ (xs : List Exchange). record S1 { exchanges = xs; readers = rs; watches = ws }) read
    ∙ ap (λ (xs : List Reader). record S1 { exchanges = map (read_at t o) S1.exchanges; readers = xs; watches = ws })
    (more ∙ ap (λ (j : ℕ). S1.readers ++ reader_of j c o ∷ []) at)
    ∙ ap (λ (xs : List Registration). record S1 { exchanges = map (read_at t o) S1.exchanges; readers = S1.readers ++ reader_of (length S.entries) c o ∷ []; watches = xs })
    (noted ∙ ap (λ (x : Mapping). touched t x.sense S1.watches) same)
    ∙ ap (with_reader t m.sense (reader_of (length S.entries) c o)) is

pub commit-requires-clause-ordered : goal.commit-requires-clause-ordered
commit-requires-clause-ordered g c =
    subst IsOrdered (sym (placed (state_of c.args.s.now) (state_of c.make_places.new.s) c.make_room.new.self.items c.make_places.ensures.same.state c.make_room.ensures.same))
    (ordered (state_of c.args.s.now) c.requires.sound.kept)

pub returns-clause-sound : goal.returns-clause-sound
returns-clause-sound g c =
    let e = c.commit.ensures in
    let m = c.make_places.ensures.same in
    let t = c.args.moment in
    let S : State = state_of c.args.s.now in
    let d = c.in_ok-draft.draft in
    let fit = sym (c.in_ok-taken.ensures t) ∙ c.if-not-taken.false in
    let made = placed S (state_of c.make_places.new.s) c.make_room.new.self.items m.state c.make_room.ensures.same in
    let new = after t (arc_value c.args.mapped) _ S (state_of c.commit.new.s) (with_draft t d S) c.read.new.self.exchanges c.push_in_room.new.self.items
    c.touch.new.watches.standing c.args.conn c.args.opening c.len-ask.result
    (e.state ∙ ap (λ (V : State). with_draft t d V) made) c.read.ensures.exchanges c.push_in_room.ensures c.touch.ensures c.deref.ensures c.len-ask.ensures in
    join-sound t c.args.conn c.args.opening _ S d c.in_ok-draft.ensures.drafts
    _ _ _ (outgoing c.args.s.now) c.requires.sound c.requires.unsealed c.requires.joins c.in_ok-draft.ensures.answers
    _ _ _ _ c.requires.early fit new
    (e.bytes ∙ ap (λ (b : ℕ). capped (b + capped (sum_by entry_size d.entries))) m.bytes)
    (let held = e.held in let conns = ap (λ (V : State). length V.conns) m.state in omega (arith, held, conns)) (e.answers ∙ ap (λ (gs : List Given). gs ++ d.answers) m.answers)

pub returns-clause-is : goal.returns-clause-is
returns-clause-is g c = λ ne n.
    let e = c.commit.ensures in
    let m = c.make_places.ensures.same in
    let t = c.args.moment in
    let S : State = state_of c.args.s.now in
    let d = c.in_ok-draft.draft in
    let fit = sym (c.in_ok-taken.ensures t) ∙ c.if-not-taken.false in
    let made = placed S (state_of c.make_places.new.s) c.make_room.new.self.items m.state c.make_room.ensures.same in
    let new = after t (arc_value c.args.mapped) _ S (state_of c.commit.new.s) (with_draft t d S) c.read.new.self.exchanges c.push_in_room.new.self.items
    c.touch.new.watches.standing c.args.conn c.args.opening c.len-ask.result
    (e.state ∙ ap (λ (V : State). with_draft t d V) made) c.read.ensures.exchanges c.push_in_room.ensures c.touch.ensures c.deref.ensures c.len-ask.ensures in
    join-steps t c.args.conn c.args.opening _ S d c.in_ok-draft.ensures.drafts
    _ _ _ (outgoing c.args.s.now) c.requires.sound c.requires.unsealed c.requires.joins c.in_ok-draft.ensures.answers
    _ _ _ n fit new
    (e.answers ∙ ap (λ (gs : List Given). gs ++ d.answers) m.answers) (e.sends ∙ ap (λ (xs : List Outgoing). xs ++ d.sends) m.sends)
