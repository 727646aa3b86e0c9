use Rattle.std.proofs.Common.{arith, ◌≡◌, ◌+◌, ◌*◌, ℕ, List, length, drop, inl, refl, sym, ap, subst}
use Rattle.std.specs.Prelude.{if◌then◌else◌}
use Rattle.std.proofs.lemmas.List.{length-drop}
use Rattle.http_edge.specs.declared.head.Start.{Start}
use Rattle.http_edge.specs.declared.head.Start.TheVariants.{Head}
use Rattle.http_edge.specs.Requests.{content}
use Rattle.http_edge.specs.Reading.{First, asked}
use Rattle.http_edge.specs.Edges.{IsStart, begun_len, work_left}
use Rattle.http_edge.proofs.Edging as law
use Rattle.http_edge.proofs.edge.Edge.begin.Goals as goal

pub returns-in-Bad-clause-steps : goal.returns-in-Bad-clause-steps
returns-in-Bad-clause-steps c =
    let st : IsStart c.args.self.now.unread c.in_ok-start_of.field-0 = rw (← c.as_slice.ensures.bytes) c.in_ok-start_of.ensures in
    λ text s. (text, (law.refused c.args.self.now.begun c.args.self.now.unread text c.in_ok-start_of.field-0 c.in-Bad.kind c.requires.none c.in-Bad.is st s.1, refl), inl (refl, refl))

pub returns-then-is_all-clause-steps : goal.returns-then-is_all-clause-steps
returns-then-is_all-clause-steps c =
    let st : IsStart c.args.self.now.unread c.in_ok-start_of.field-0 = rw (← c.as_slice.ensures.bytes) c.in_ok-start_of.ensures in
    λ text s.
    let whole : First text (asked (content c.in-Head.begun.request)) (drop c.in-Head.len c.args.self.now.unread) =
    law.whole_at c.args.self.now.begun c.args.self.now.unread text c.in_ok-start_of.field-0 c.in-Head.begun c.in-Head.len c.requires.none c.in-Head.is (c.is_all.ensures c.if-is_all.true) st s.1 in (
      c.skip.new.self,
      subst (λ (rest : List ℕ). First text (asked (content c.in-Head.begun.request)) rest) (sym c.skip.ensures) whole,
      law.stays_open c.in-Head.begun.request.close c.args.self.now.waits c.args.self.now.begun c.skip.new.self c.requires.reads c.requires.none,
    )

pub returns-else-is_all-clause-less : goal.returns-else-is_all-clause-less
returns-else-is_all-clause-less c =
    let st : IsStart c.args.self.now.unread c.in_ok-start_of.field-0 = rw (← c.as_slice.ensures.bytes) c.in_ok-start_of.ensures in
    let x : IsStart c.args.self.now.unread (Head c.in-Head.begun c.in-Head.len) = subst (λ (y : Start). IsStart c.args.self.now.unread y) c.in-Head.is st in
    let size : length c.skip.new.self ≡ length (drop c.in-Head.len c.args.self.now.unread) = ap length c.skip.ensures in
    let cut = length-drop c.in-Head.len c.args.self.now.unread in
    let none : begun_len c.args.self.now.begun ≡ 0 = ap begun_len c.requires.none in
    law.falls_from c.go_on.result (work_left c.args.self.now) (2 * length c.skip.new.self + 1 + (if c.args.self.now.ended then 0 else 1)) _ (omega (arith, size, cut, none, x.2, x.7)) c.go_on.ensures.less
