-- The ask and its answer are noted one after the other, and what is written says that answer.
use Rattle.std.proofs.Common.{ℕ, refl, subst, ◌∙◌}
use Rattle.std.specs.Arc.{arc_value}
use Rattle.http_edge.specs.Edges.{item}
use Rattle.ask_model.specs.Views.{rules_of}
use Rattle.gateway_desk.specs.Lines.{slip_of}
use Rattle.sessions.specs.Devices.{Rises}
use Rattle.sessions.proofs.Cuts.{ask_of, turn_taken, cut_nothing, cut_ask, cut_answer, cut_part}
use Rattle.sessions.proofs.Ends.{some_no_none, none_no_some, write_no_read, held_no_read, write_no_held, held_no_write, memory_other, sealed_other, closed_other}
use Rattle.sessions.proofs.Growing.{grown_none}
use Rattle.sessions.proofs.session.turn.Goals as goal

pub returns-in_default : goal.returns-in_default
returns-in_default g c = record {
  answered = λ e. absurd (some_no_none _ e);
  cut = cut_nothing _ _ _ _ (item c.args.incoming) _ _ _ _ refl (grown_none (g.S.Stream.written c.args.stream.now));
  write_fault = λ e. absurd (memory_other.write_fault e);
  held = λ e. absurd (memory_other.held e);
  others = (memory_other.read.finished, memory_other.read.read_fault);
  counted = λ e. absurd (some_no_none _ e);
  passed = λ e. absurd (some_no_none _ e);
  quiet = grown_none (g.S.Stream.gave c.args.stream.now);
}

pub returns-in_default-new : goal.returns-in_default-new
returns-in_default-new g c = record {
  answered = λ e. absurd (some_no_none _ e);
  cut = cut_nothing _ _ _ _ (item c.args.incoming) _ _ _ _ refl (grown_none (g.S.Stream.written c.args.stream.now));
  write_fault = λ e. absurd (memory_other.write_fault e);
  held = λ e. absurd (memory_other.held e);
  others = (memory_other.read.finished, memory_other.read.read_fault);
  counted = λ e. absurd (some_no_none _ e);
  passed = λ e. absurd (some_no_none _ e);
  quiet = grown_none (g.S.Stream.gave c.args.stream.now);
}

pub returns-in-Err-Memory : goal.returns-in-Err-Memory
returns-in-Err-Memory g c = record {
  answered = λ e. absurd (some_no_none _ e);
  cut = cut_nothing _ _ _ _ (item c.args.incoming) _ _ _ _ c.in-Err-Memory.ensures.none (grown_none (g.S.Stream.written c.args.stream.now));
  write_fault = λ e. absurd (memory_other.write_fault e);
  held = λ e. absurd (memory_other.held e);
  others = (memory_other.read.finished, memory_other.read.read_fault);
  counted = λ e. absurd (some_no_none _ e);
  passed = λ e. absurd (some_no_none _ e);
  quiet = grown_none (g.S.Stream.gave c.args.stream.now);
}

pub returns-in-Err : goal.returns-in-Err
returns-in-Err g c = record {
  answered = λ e. absurd (some_no_none _ e);
  cut = cut_nothing _ _ _ _ (item c.args.incoming) _ _ _ _ c.in-Err.ensures.none (grown_none (g.S.Stream.written c.args.stream.now));
  write_fault = λ e. absurd (sealed_other.write_fault e);
  held = λ e. absurd (sealed_other.held e);
  others = (sealed_other.read.finished, sealed_other.read.read_fault);
  counted = λ e. absurd (some_no_none _ e);
  passed = λ e. absurd (some_no_none _ e);
  quiet = grown_none (g.S.Stream.gave c.args.stream.now);
}

pub returns-then-not-pass : goal.returns-then-not-pass
returns-then-not-pass g c = record {
  answered = λ e. absurd (some_no_none _ e);
  cut = cut_ask _ _ _ _ (item c.args.incoming) _ _ c.in-Ok-ask.ticket.number _ _ c.in-Ok-ask.ensures.lines (grown_none (g.S.Stream.written c.args.stream.now));
  write_fault = λ e. absurd (held_no_write e);
  held = λ e. c.pass.ensures.no c.if-not-pass.true;
  others = (held_no_read.finished, held_no_read.read_fault);
  counted = λ e. absurd (some_no_none _ e);
  passed = λ e. absurd (some_no_none _ e);
  quiet = grown_none (g.S.Stream.gave c.args.stream.now);
}

pub returns-in_default-answer : goal.returns-in_default-answer
returns-in_default-answer g c = record {
  answered = λ e. absurd (some_no_none _ e);
  cut = cut_ask _ _ _ _ (item c.args.incoming) _ _ c.in-Ok-ask.ticket.number _ _ c.in-Ok-ask.ensures.lines (grown_none (g.S.Stream.written c.args.stream.now));
  write_fault = λ e. absurd (closed_other.write_fault e);
  held = λ e. absurd (closed_other.held e);
  others = (closed_other.read.finished, closed_other.read.read_fault);
  counted = λ e. absurd (some_no_none _ e);
  passed = λ e. absurd (some_no_none _ e);
  quiet = grown_none (g.S.Stream.gave c.args.stream.now);
}

pub returns-then-not-pass-2 : goal.returns-then-not-pass-2
returns-then-not-pass-2 g c = record {
  answered = λ e. absurd (some_no_none _ e);
  cut =
      cut_answer _ _ _ _ (item c.args.incoming) _ c.ask.new.pass.lines _ c.in-Ok-ask.ticket.number (slip_of c.in-Some.receipt) _ _ c.in-Ok-ask.ensures.lines
      c.keep.ensures.lines c.in-Some.ensures.number.0
      (ask_of _ _ _ c.args.incoming (arc_value c.in-Some.receipt.answer.mapped) c.in-Ok.mapped
      (c.in-Some.ensures.request ∙ c.in-Ok-ask.ensures.ticket.1 ∙ c.in-Ok-new.ensures.ok) c.in-Ok.ensures.came c.in-Ok.ensures.rules c.in-Ok.ensures.maps)
      (grown_none (g.S.Stream.written c.args.stream.now));
  write_fault = λ e. absurd (held_no_write e);
  held = λ e.
      subst (λ (n : ℕ). Rises n (g.G.Gate.nays c.pass-2.new.self)) (c.pass.ensures.yes c.if-not-pass.false) (c.pass-2.ensures.no c.if-not-pass-2.true);
  others = (held_no_read.finished, held_no_read.read_fault);
  counted = λ e. absurd (some_no_none _ e);
  passed = λ e. absurd (some_no_none _ e);
  quiet = grown_none (g.S.Stream.gave c.args.stream.now);
}

pub returns-in_default-reply : goal.returns-in_default-reply
returns-in_default-reply g c = record {
  answered = λ e. absurd (some_no_none _ e);
  cut =
      cut_answer _ _ _ _ (item c.args.incoming) _ c.ask.new.pass.lines _ c.in-Ok-ask.ticket.number (slip_of c.in-Some.receipt) _ _ c.in-Ok-ask.ensures.lines
      c.keep.ensures.lines c.in-Some.ensures.number.0
      (ask_of _ _ _ c.args.incoming (arc_value c.in-Some.receipt.answer.mapped) c.in-Ok.mapped
      (c.in-Some.ensures.request ∙ c.in-Ok-ask.ensures.ticket.1 ∙ c.in-Ok-new.ensures.ok) c.in-Ok.ensures.came c.in-Ok.ensures.rules c.in-Ok.ensures.maps)
      (grown_none (g.S.Stream.written c.args.stream.now));
  write_fault = λ e. absurd (memory_other.write_fault e);
  held = λ e. absurd (memory_other.held e);
  others = (memory_other.read.finished, memory_other.read.read_fault);
  counted = λ e. absurd (some_no_none _ e);
  passed = λ e. absurd (some_no_none _ e);
  quiet = grown_none (g.S.Stream.gave c.args.stream.now);
}

pub returns-in-Ok-write : goal.returns-in-Ok-write
returns-in-Ok-write g c = record {
  answered = λ e.
      let s = c.in-Ok-reply.ensures (rules_of (arc_value c.args.gateway.now.settings.now)) c.requires.suits in
      turn_taken _ _ _ (item c.args.incoming) _ c.ask.new.pass.lines _ c.in-Ok-ask.ticket.number (slip_of c.in-Some.receipt) c.as_slice.result.now _ _
      c.in-Ok-ask.ensures.lines c.keep.ensures.lines c.in-Some.ensures.number.0
      (ask_of _ _ _ c.args.incoming (arc_value c.in-Some.receipt.answer.mapped) c.in-Ok.mapped
      (c.in-Some.ensures.request ∙ c.in-Ok-ask.ensures.ticket.1 ∙ c.in-Ok-new.ensures.ok) c.in-Ok.ensures.came c.in-Ok.ensures.rules c.in-Ok.ensures.maps)
      (s.0, s.1, c.as_slice.ensures.value ∙ s.2) c.in-Ok-write.ensures.ok.0;
  cut = tt;
  write_fault = λ e. absurd (none_no_some _ e);
  held = λ e. absurd (none_no_some _ e);
  others = (none_no_some _, none_no_some _);
  counted = λ e. c.in-Ok-write.ensures.ok.1;
  passed = λ e. c.pass-2.ensures.yes c.if-not-pass-2.false ∙ c.pass.ensures.yes c.if-not-pass.false;
  quiet = c.in-Ok-write.ensures.quiet;
}

pub returns : goal.returns
returns g c = record {
  answered = λ e. absurd (some_no_none _ e);
  cut =
      let s = c.in-Ok-reply.ensures (rules_of (arc_value c.args.gateway.now.settings.now)) c.requires.suits in
      let part = c.in-Err-write.ensures.err.0 in
      cut_part _ _ _ (item c.args.incoming) _ c.ask.new.pass.lines _ c.in-Ok-ask.ticket.number (slip_of c.in-Some.receipt) c.as_slice.result.now part.0 _ _
      c.in-Ok-ask.ensures.lines c.keep.ensures.lines c.in-Some.ensures.number.0
      (ask_of _ _ _ c.args.incoming (arc_value c.in-Some.receipt.answer.mapped) c.in-Ok.mapped
      (c.in-Some.ensures.request ∙ c.in-Ok-ask.ensures.ticket.1 ∙ c.in-Ok-new.ensures.ok) c.in-Ok.ensures.came c.in-Ok.ensures.rules c.in-Ok.ensures.maps)
      (s.0, s.1, c.as_slice.ensures.value ∙ s.2) part.1;
  write_fault = λ e. c.in-Err-write.ensures.err.1;
  held = λ e. absurd (write_no_held e);
  others = (write_no_read.finished, write_no_read.read_fault);
  counted = λ e. absurd (some_no_none _ e);
  passed = λ e. absurd (some_no_none _ e);
  quiet = c.in-Err-write.ensures.quiet;
}
