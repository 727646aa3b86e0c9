use Rattle.std.proofs.Common.{◌∷◌, [], ℕ, List, length, refl, sym, ap, ◌∙◌, arith}
use Rattle.endpoint_table.specs.Tables.{link_at}
use Rattle.message_layer.specs.declared.prepared.Hearing.{Hearing}
use Rattle.observe_share.specs.Watches.{without}
use Rattle.exchange_model.specs.State.{State}
use Rattle.exchange_model.specs.Matters.{Matter, asked_in}
use Rattle.exchange_model.specs.Watching.{is_written_by}
use Rattle.exchange_model.proofs.CallerLemmas.{all-digested}
use Rattle.exchange_core.specs.declared.matter.Matter.{Matter as RustMatter}
use Rattle.exchange_core.specs.declared.matter.Matter.TheVariants as M
use Rattle.exchange_core.specs.Matters.{more_in}
use Rattle.exchange_core.specs.States.{state_of}
use Rattle.exchange_core.specs.Storing.{put_in}
use Rattle.exchange_core.proofs.Apart.{apart}
use Rattle.exchange_core.proofs.Heard.{next-timed}
use Rattle.exchange_core.proofs.Heeds.{bytes-small, effect}
use Rattle.exchange_core.proofs.HeardSteps.{sound-sealed, seen-sealed, sound-heard, seen-heard, tells-so}
use Rattle.exchange_core.proofs.Ordered.{conns-ordered, ordered}
use Rattle.exchange_core.proofs.Readers.{readers-connected}
use Rattle.exchange_core.proofs.Sounding.{few-for, few-entries}
use Rattle.exchange_core.proofs.Read.{asks-here, readers-here}
use Rattle.exchange_core.proofs.ends.end.Goals as goal

pub draft_end-requires-clause-readers : goal.draft_end-requires-clause-readers
draft_end-requires-clause-readers g c = readers-connected (state_of c.args.s.now) c.requires.sound.kept c.requires.sound.few

pub draft_end-requires-clause-timed : goal.draft_end-requires-clause-timed
draft_end-requires-clause-timed g c =
    let j = c.requires.judged.1.by in
    next-timed c.args.moment c.args.peer (state_of c.args.s.now) (link_at c.args.s.now.endpoints c.args.peer) c.args.heeding
    (more_in (M.Over c.args.exchange.now c.args.ended)) j.hears.ready j.prepared.follows refl c.requires.sound.kept.kept

pub draft_end-requires-clause-tells : goal.draft_end-requires-clause-tells
draft_end-requires-clause-tells g c =
    let j = c.requires.judged.1.by in
    let h : Hearing = record { heeding = c.args.heeding; up = j.up } in
    tells-so c.args.moment c.requires.judged.1.word c.args.peer c.args.datagram.now (state_of c.args.s.now) (link_at c.args.s.now.endpoints c.args.peer) h _ _ _
    c.requires.sound c.requires.unsealed c.requires.later c.requires.early
    (bytes-small c.args.datagram.now (λ i. omega (arith, c.type_inv.datagram i)))
    j.hears refl (M.Over c.args.exchange.now c.args.ended) j.prepared

pub takes-requires-clause-ordered : goal.takes-requires-clause-ordered
takes-requires-clause-ordered g c = conns-ordered (state_of c.args.s.now) c.requires.sound.kept

pub add_end-requires-clause-ordered : goal.add_end-requires-clause-ordered
add_end-requires-clause-ordered g c = ordered (state_of c.args.s.now) c.requires.sound.kept

pub add_end-requires-clause-digests : goal.add_end-requires-clause-digests
add_end-requires-clause-digests g c = all-digested (state_of c.args.s.now) c.requires.sound.kept.kept

pub add_end-requires-clause-ready : goal.add_end-requires-clause-ready
add_end-requires-clause-ready g c = c.requires.judged.1.by.hears.ready

pub add_end-requires-clause-known : goal.add_end-requires-clause-known
add_end-requires-clause-known g c = c.requires.judged.1.by.hears.known

pub add_end-requires-clause-few : goal.add_end-requires-clause-few
add_end-requires-clause-few g c =
    few-for c.args.moment (state_of c.args.s.now) c.draft_end.new.draft c.requires.sound.kept
    (sym (c.in_ok-is_taken.ensures c.args.moment) ∙ c.if-not-is_taken.false)

pub returns-then-not-is_taken-clause-sound : goal.returns-then-not-is_taken-clause-sound
returns-then-not-is_taken-clause-sound g c =
    let S : State = state_of c.args.s.now in
    let e = c.seal.ensures in let j = c.requires.judged.1.by in let made = j.prepared in let h : Hearing = record { heeding = c.args.heeding; up = j.up } in
    let k : RustMatter = M.Over c.args.exchange.now c.args.ended in let link = link_at c.args.s.now.endpoints c.args.peer in
    sound-sealed c.args.moment c.requires.judged.1.word c.args.peer c.args.datagram.now
    S link h _ _ _ c.requires.sound c.requires.unsealed c.requires.later c.requires.early
    (bytes-small c.args.datagram.now (λ i. omega (arith, c.type_inv.datagram i)))
    j.hears refl k made
    c.draft_end.new.draft (c.in_ok-draft_end.ensures made.numbers _ made.is) _ _
    (apart c.args.moment c.requires.judged.1.word c.args.peer c.args.datagram.now S link h c.args.exchange.now c.args.ended j.hears refl made c.requires.observes c.requires.writes) _ _ _ _
    (sym (c.in_ok-is_taken.ensures c.args.moment) ∙ c.if-not-is_taken.true) e.state e.bytes e.room e.answers

pub returns-then-not-is_taken-clause-heard : goal.returns-then-not-is_taken-clause-heard
returns-then-not-is_taken-clause-heard g c = λ word notice j.
    let S : State = state_of c.args.s.now in
    let e = c.seal.ensures in let made = j.prepared in let h : Hearing = record { heeding = c.args.heeding; up = j.up } in
    let k : RustMatter = M.Over c.args.exchange.now c.args.ended in let link = link_at c.args.s.now.endpoints c.args.peer in
    seen-sealed c.args.moment word c.args.peer c.args.datagram.now
    S link h _ _ _ c.requires.sound c.requires.unsealed c.requires.later c.requires.early
    (bytes-small c.args.datagram.now (λ i. omega (arith, c.type_inv.datagram i)))
    j.hears refl k made
    c.draft_end.new.draft (c.in_ok-draft_end.ensures made.numbers _ made.is) _ _
    (apart c.args.moment word c.args.peer c.args.datagram.now S link h c.args.exchange.now c.args.ended j.hears refl made c.requires.observes c.requires.writes) _ _ _ _
    (sym (c.in_ok-is_taken.ensures c.args.moment) ∙ c.if-not-is_taken.true) e.state e.answers e.sends

pub returns-clause-sound : goal.returns-clause-sound
returns-clause-sound g c =
    let S : State = state_of c.args.s.now in
    let e = c.in_ok-add_end.ensures in let j = c.requires.judged.1.by in let made = j.prepared in let h : Hearing = record { heeding = c.args.heeding; up = j.up } in
    let k : RustMatter = M.Over c.args.exchange.now c.args.ended in let link = link_at c.args.s.now.endpoints c.args.peer in
    let ws = without (is_written_by (asked_in S.entries c.args.exchange.now.ask)) S.watches in
    let gone : List (List ℕ) = c.args.exchange.now.token ∷ [] in
    sound-heard c.args.moment c.requires.judged.1.word c.args.peer c.args.datagram.now
    S link h _ _ _ c.requires.sound c.requires.unsealed c.requires.later c.requires.early
    (bytes-small c.args.datagram.now (λ i. omega (arith, c.type_inv.datagram i)))
    j.hears refl k made
    c.draft_end.new.draft (c.in_ok-draft_end.ensures made.numbers _ made.is) ws gone
    (apart c.args.moment c.requires.judged.1.word c.args.peer c.args.datagram.now S link h c.args.exchange.now c.args.ended j.hears refl made c.requires.observes c.requires.writes) _ _ _ _
    (sym (c.in_ok-is_taken.ensures c.args.moment) ∙ c.if-not-is_taken.false)
    (e.state (effect c.args.moment c.requires.judged.1.word c.args.peer c.args.datagram.now S link h k j.hears refl made ws gone) c.args.ended
    (record { matter = made.is; watches = refl; gone = refl }) (c.in_ok-put.ensures (length S.entries) made.is.0 made.is.2 ∙ sym (ap (λ (y : Matter). put_in S.entries c.args.moment y) made.is.1))) e.bytes e.held e.answers

pub returns-clause-heard : goal.returns-clause-heard
returns-clause-heard g c = λ word notice j.
    let S : State = state_of c.args.s.now in
    let e = c.in_ok-add_end.ensures in let made = j.prepared in let h : Hearing = record { heeding = c.args.heeding; up = j.up } in
    let k : RustMatter = M.Over c.args.exchange.now c.args.ended in let link = link_at c.args.s.now.endpoints c.args.peer in
    let ws = without (is_written_by (asked_in S.entries c.args.exchange.now.ask)) S.watches in
    let gone : List (List ℕ) = c.args.exchange.now.token ∷ [] in
    seen-heard c.args.moment word c.args.peer c.args.datagram.now
    S link h _ _ _ c.requires.sound c.requires.unsealed c.requires.later c.requires.early
    (bytes-small c.args.datagram.now (λ i. omega (arith, c.type_inv.datagram i)))
    j.hears refl k made
    c.draft_end.new.draft (c.in_ok-draft_end.ensures made.numbers _ made.is) ws gone
    (apart c.args.moment word c.args.peer c.args.datagram.now S link h c.args.exchange.now c.args.ended j.hears refl made c.requires.observes c.requires.writes) _ _ _ _
    (sym (c.in_ok-is_taken.ensures c.args.moment) ∙ c.if-not-is_taken.false)
    (e.state (effect c.args.moment word c.args.peer c.args.datagram.now S link h k j.hears refl made ws gone) c.args.ended
    (record { matter = made.is; watches = refl; gone = refl }) (c.in_ok-put.ensures (length S.entries) made.is.0 made.is.2 ∙ sym (ap (λ (y : Matter). put_in S.entries c.args.moment y) made.is.1))) e.answers e.sends

pub draft_end-requires-clause-few : goal.draft_end-requires-clause-few
draft_end-requires-clause-few g c = few-entries (state_of c.args.s.now) c.requires.sound.kept

pub draft_end-requires-clause-waiting : goal.draft_end-requires-clause-waiting
draft_end-requires-clause-waiting g c = readers-here (state_of c.args.s.now) c.requires.sound.kept.here

pub add_end-requires-clause-here : goal.add_end-requires-clause-here
add_end-requires-clause-here g c = asks-here (state_of c.args.s.now) c.requires.sound.kept.here
