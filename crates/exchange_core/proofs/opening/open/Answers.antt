use Rattle.std.proofs.Common.{ℕ, List, sym, ap, ◌∙◌, arith}
use Rattle.journal_book.specs.Entries.{Written}
use Rattle.exchange_model.specs.declared.kept.Conn.{Conn}
use Rattle.exchange_model.specs.State.{State}
use Rattle.exchange_model.specs.Steps.{opens}
use Rattle.exchange_core.specs.States.{state_of}
use Rattle.exchange_core.proofs.Sounding.{opened-below, seal-place, sound-open, sound-seal, unopened}
use Rattle.exchange_core.proofs.opening.open.Goals as goal

pub seal-requires : goal.seal-requires
seal-requires g c = seal-place _ _ _ _ c.requires.sound c.if-s.false

pub add_conn-id-requires-clause-few : goal.add_conn-id-requires-clause-few
add_conn-id-requires-clause-few g c = opened-below _ _ _ _ c.requires.sound

pub returns-then-not-takes_conn-clause-sound : goal.returns-then-not-takes_conn-clause-sound
returns-then-not-takes_conn-clause-sound g c =
    let e = c.seal.ensures in
    let fit = sym (c.takes_conn.ensures c.args.moment) ∙ c.if-not-takes_conn.true in
    sound-seal c.args.moment _ _ _ _ _ _ _ _ c.requires.sound c.if-s.false
    (unopened c.args.moment _ c.requires.sound.kept c.if-s.false fit c.requires.later) c.requires.early e.state e.bytes e.room e.answers

pub returns-clause-sound : goal.returns-clause-sound
returns-clause-sound g c =
    let e = c.add_conn-id.ensures in
    let S : State = state_of c.args.s.now in
    let j = c.make_room.new.self in
    let same = ap (λ (h : List Written). opens c.args.moment (record S { entries = h; given = j.given; kept = j.kept; conns = c.try_reserve.new.self.items })) c.make_room.ensures.same
    ∙ ap (λ (n : ℕ). opens c.args.moment (record S { given = n; kept = j.kept; conns = c.try_reserve.new.self.items })) c.make_room.ensures.given
    ∙ ap (λ (ks : List ℕ). opens c.args.moment (record S { kept = ks; conns = c.try_reserve.new.self.items })) c.make_room.ensures.kept
    ∙ ap (λ (cs : List Conn). opens c.args.moment (record S { conns = cs })) c.in_ok-try_reserve.ensures.items in
    let fit = sym (c.takes_conn.ensures c.args.moment) ∙ c.if-not-takes_conn.false in
    let few = c.if-len-ge-MAX_CONNECTIONS.false in
    let len = c.len.ensures in
    let places = c.in_ok-make_room.ensures.ok in
    let count = c.len-2.ensures in
    let size = c.args.s.now.conns.ok.0 in
    let left = e.room in
    sound-open c.args.moment _ _ _ _ _ _ _ _ c.requires.sound c.if-s.false fit c.requires.later c.requires.early (omega (arith, few, len))
    (e.state ∙ same) e.bytes (omega (arith, places, count, size, left)) e.answers
