-- What a turn adds is put after what was served before it.
use Rattle.std.proofs.Common.{◌≡◌, ◌∙◌, ℕ, true, false, Some, None, Ok, refl, sym, ap, subst}
use Rattle.http_edge.specs.declared.request.Incoming.{Incoming}
use Rattle.http_edge.specs.Edges.{Stands, item, is_told}
use Rattle.http_edge.specs.Reading.{closes}
use Rattle.sessions.specs.Devices.{Rises}
use Rattle.sessions.proofs.Ending.{ends_unread, ends_between, ends_cut, ends_closed, ends_reading}
use Rattle.sessions.proofs.Ends.{memory_other, finished_no_read_fault, finished_no_write_fault, finished_no_held}
use Rattle.sessions.proofs.Growing.{grown_none}
use Rattle.sessions.proofs.Items.{item_given, none_given, read_out, of_given, goes_on}
use Rattle.sessions.specs.Asking.{as_last}
use Rattle.sessions.proofs.Turns.{open_before}
use Rattle.sessions.proofs.SoFar.{far_none, far_edge, far_on, far_turn}
use Rattle.sessions.proofs.session.talk.Goals as goal

pub loop-init : goal.loop-init
loop-init g c = (tt, tt, refl, refl, far_none _ _ _ _ _ _ c.in-Ok.reading.edge c.in-Ok.ensures.stands c.in-Ok.ensures.told)

pub read_on-requires-clause-room : goal.read_on-requires-clause-room
read_on-requires-clause-room g c =
    let e : c.next-in-loop.result ≡ Ok None = cc in
    c.next-in-loop.ensures.room c.loop.invariant.4.stands.0 e

pub read_on-requires-clause-waits : goal.read_on-requires-clause-waits
read_on-requires-clause-waits g c =
    let e : c.next-in-loop.result ≡ Ok None = cc in
    c.next-in-loop.ensures.waits c.loop.invariant.4.stands.0 e

pub loop-preserved-in-Ok-Some : goal.loop-preserved-in-Ok-Some
loop-preserved-in-Ok-Some g c =
    let s = c.loop.invariant.4 in
    let e : c.next-in-loop.result ≡ Ok (Some c.in-Ok-Some.incoming) = c.in-Ok-Some.is ∙ ap Ok c.in-Ok-Some.field-0-is in
    let given = item_given _ _ s.rest c.in-Ok-Some.incoming e (c.next-in-loop.ensures.steps s.rest s.stands) in
    let i = item c.in-Ok-Some.incoming in
    let last = c.is_closing.result in
    let shut : closes (as_last last i) ≡ false = sym (ap closes c.last_if-request.ensures) ∙ sym c.is_last-last.ensures ∙ c.if-last.false in
    let goes = open_before last i shut in
    let fresh = of_given (λ (i : Incoming). closes (item i) ≡ false → is_told c.next-in-loop.new.self ≡ false) _ _ e c.next-in-loop.ensures.fresh goes in (
      tt,
      tt,
      c.turn.ensures.counted c.in_default-turn.is ∙ c.loop.invariant.2,
      c.turn.ensures.passed c.in_default-turn.is ∙ c.loop.invariant.3,
      far_turn _ _ _ c.args.pass.now.lines c.loop.pass.lines _ _ (g.S.Stream.gave c.loop.stream) _ _ (g.S.Stream.written c.loop.stream) _ c.loop.reading.edge c.next-in-loop.new.self i last given.0 s given.1 shut
          (goes_on i _ _ goes given.2) fresh c.turn.ensures.quiet (rw c.last_if-request.ensures at (c.turn.ensures.answered c.in_default-turn.is)),
    )

pub loop-preserved : goal.loop-preserved
loop-preserved g c =
    let s = c.loop.invariant.4 in
    let e : c.next-in-loop.result ≡ Ok None = cc in
    let stands : Stands c.next-in-loop.new.self s.rest = none_given _ _ s.rest e (c.next-in-loop.ensures.steps s.rest s.stands) in
    let far = far_edge _ _ _ _ _ _ _ _ _ c.loop.reading.edge c.next-in-loop.new.self s stands (c.next-in-loop.ensures.still_told e) in (
      tt,
      tt,
      c.read_on.ensures.counted c.in_default-read_on.is ∙ c.loop.invariant.2,
      c.loop.invariant.3,
      far_on _ _ _ c.args.pass.now.lines c.loop.pass.lines _ (g.S.Stream.gave c.loop.stream) _ _ (g.S.Stream.written c.loop.stream) _ c.next-in-loop.new.self _ far (c.read_on.ensures.goes_on c.in_default-read_on.is),
    )

pub returns-in_default : goal.returns-in_default
returns-in_default g c = record {
  serves = ends_unread _ _ _ _ c.args.pass.now.lines _ _ (λ e. memory_other.read.finished (ap Some e));
  read_fault = λ e. absurd (memory_other.read.read_fault (ap Some e));
  write_fault = λ e. absurd (memory_other.write_fault (ap Some e));
  held = λ e. absurd (memory_other.held (ap Some e));
}

pub returns-in-Err : goal.returns-in-Err
returns-in-Err g c = record {
  serves =
      ends_between _ _ _ _ c.args.pass.now.lines c.loop.pass.lines _ (g.S.Stream.gave c.loop.stream) _ _ (g.S.Stream.written c.loop.stream) _ c.loop.reading.edge c.loop.invariant.4 (grown_none (g.S.Stream.gave c.loop.stream)) (grown_none (g.S.Stream.written c.loop.stream))
      (λ e. memory_other.read.finished (ap Some e));
  read_fault = λ e. absurd (memory_other.read.read_fault (ap Some e));
  write_fault = λ e. absurd (memory_other.write_fault (ap Some e));
  held = λ e. absurd (memory_other.held (ap Some e));
}

pub returns-in-Some-turn : goal.returns-in-Some-turn
returns-in-Some-turn g c = record {
  serves =
      let s = c.loop.invariant.4 in
      let e : c.next-in-loop.result ≡ Ok (Some c.in-Ok-Some.incoming) = c.in-Ok-Some.is ∙ ap Ok c.in-Ok-Some.field-0-is in
      let given = item_given _ _ s.rest c.in-Ok-Some.incoming e (c.next-in-loop.ensures.steps s.rest s.stands) in
      ends_cut _ _ _ _ c.args.pass.now.lines c.loop.pass.lines _ _ (g.S.Stream.gave c.loop.stream) _ _ (g.S.Stream.written c.loop.stream) _ c.loop.reading.edge (item c.in-Ok-Some.incoming) c.is_closing.result given.0 s given.1 c.turn.ensures.quiet
      (rw c.last_if-request.ensures at c.in-Some-turn.ensures.cut) (λ x. c.turn.ensures.others.0 (c.in-Some-turn.is ∙ ap Some x));
  read_fault = λ e. absurd (c.turn.ensures.others.1 (c.in-Some-turn.is ∙ ap Some e));
  write_fault = λ e.
      subst (λ (n : ℕ). Rises n (g.S.Stream.count c.turn.new.stream)) c.loop.invariant.2 (c.turn.ensures.write_fault (c.in-Some-turn.is ∙ ap Some e));
  held = λ e.
      subst (λ (n : ℕ). Rises n (g.G.Gate.nays c.turn.new.gate)) c.loop.invariant.3 (c.turn.ensures.held (c.in-Some-turn.is ∙ ap Some e));
}

pub returns-then-last : goal.returns-then-last
returns-then-last g c = record {
  serves =
      let s = c.loop.invariant.4 in
      let e : c.next-in-loop.result ≡ Ok (Some c.in-Ok-Some.incoming) = c.in-Ok-Some.is ∙ ap Ok c.in-Ok-Some.field-0-is in
      let given = item_given _ _ s.rest c.in-Ok-Some.incoming e (c.next-in-loop.ensures.steps s.rest s.stands) in
      let closed : closes (as_last c.is_closing.result (item c.in-Ok-Some.incoming)) ≡ true =
      sym (ap closes c.last_if-request.ensures) ∙ sym c.is_last-last.ensures ∙ c.if-last.true in
      ends_closed _ _ _ c.args.pass.now.lines c.loop.pass.lines _ _ (g.S.Stream.gave c.loop.stream) _ _ (g.S.Stream.written c.loop.stream) _ c.loop.reading.edge (item c.in-Ok-Some.incoming) c.is_closing.result given.0 s given.1 closed c.turn.ensures.quiet
      (rw c.last_if-request.ensures at (c.turn.ensures.answered c.in_default-turn.is));
  read_fault = λ e. absurd (finished_no_read_fault (ap Some e));
  write_fault = λ e. absurd (finished_no_write_fault (ap Some e));
  held = λ e. absurd (finished_no_held (ap Some e));
}

pub returns-in-Some-read_on : goal.returns-in-Some-read_on
returns-in-Some-read_on g c = record {
  serves =
      let s = c.loop.invariant.4 in
      let e : c.next-in-loop.result ≡ Ok None = cc in
      let stands : Stands c.next-in-loop.new.self s.rest = none_given _ _ s.rest e (c.next-in-loop.ensures.steps s.rest s.stands) in
      let far = far_edge _ _ _ _ _ _ _ _ _ c.loop.reading.edge c.next-in-loop.new.self s stands (c.next-in-loop.ensures.still_told e) in
      let out = read_out _ _ s.rest e (c.next-in-loop.ensures.steps s.rest s.stands) in
      ends_reading _ _ _ _ c.args.pass.now.lines c.loop.pass.lines _ (g.S.Stream.gave c.loop.stream) _ _ (g.S.Stream.written c.loop.stream) _ c.next-in-loop.new.self _ far out c.in-Some-read_on.ensures.ends;
  read_fault = λ e.
      subst (λ (n : ℕ). Rises n (g.S.Stream.count c.read_on.new.stream)) c.loop.invariant.2 (c.read_on.ensures.faults (c.in-Some-read_on.is ∙ ap Some e));
  write_fault = λ e.
      subst (λ (n : ℕ). Rises n (g.S.Stream.count c.read_on.new.stream)) c.loop.invariant.2 (c.read_on.ensures.write_fault (c.in-Some-read_on.is ∙ ap Some e));
  held = λ e. absurd (c.read_on.ensures.others (c.in-Some-read_on.is ∙ ap Some e));
}
