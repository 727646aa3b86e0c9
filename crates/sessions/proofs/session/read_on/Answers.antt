-- The client is told to go on, or more is read.
use Rattle.std.proofs.Common.{◌∙◌, ◌||◌, Bool, inl, inr, sym, ap}
use Rattle.http_edge.specs.Edges.{is_told}
use Rattle.sessions.proofs.Items.{takes_from}
use Rattle.sessions.proofs.session.read_on.Goals as goal

pub returns-in-Ok-clause-goes_on : goal.returns-in-Ok-clause-goes_on
returns-in-Ok-clause-goes_on g c e = inl (record {
  gave = c.write_continue.ensures.quiet;
  wrote = c.in-Ok.ensures.ok.0;
  waits = λ text stands. (c.wants_continue.ensures.asks text stands).0 c.if-wants_continue.true;
  stands = c.wants_continue.ensures.stands;
  told = c.wants_continue.ensures.told ∙ ap (λ (b : Bool). b || is_told c.args.reading.now.edge) c.if-wants_continue.true;
})

pub returns-in-Err-clause-ends : goal.returns-in-Err-clause-ends
returns-in-Err-clause-ends g c = (
  c.write_continue.ensures.quiet,
  c.in-Err.ensures.err.0,
  λ text stands. (c.wants_continue.ensures.asks text stands).0 c.if-wants_continue.true,
)

pub returns-in-Ok-true-clause-goes_on : goal.returns-in-Ok-true-clause-goes_on
returns-in-Ok-true-clause-goes_on g c e =
    let told = c.wants_continue.ensures.told ∙ ap (λ (b : Bool). b || is_told c.args.reading.now.edge) c.if-wants_continue.false in
    inr (takes_from _ _ c.in-Ok-true.field-0-test c.args.reading.now.edge c.wants_continue.new.self _ _ _ c.wants_continue.ensures.stands told c.in-Ok-true.ensures.takes, c.more.ensures.same)

pub returns-in-Ok-false-clause-ends : goal.returns-in-Ok-false-clause-ends
returns-in-Ok-false-clause-ends g c =
    let told = c.wants_continue.ensures.told ∙ ap (λ (b : Bool). b || is_told c.args.reading.now.edge) c.if-wants_continue.false in
    let waits = c.wants_continue.ensures.waits ∙ c.requires.waits in (
      takes_from _ _ c.in-Ok-false.field-0-test c.args.reading.now.edge c.wants_continue.new.self _ _ _ c.wants_continue.ensures.stands told c.in-Ok-false.ensures.takes,
      c.more.ensures.same,
      λ text stands expects. sym told ∙ (c.wants_continue.ensures.expects text (c.wants_continue.ensures.stands text stands) waits).1 expects,
    )

pub returns-in-Err-more-clause-ends : goal.returns-in-Err-more-clause-ends
returns-in-Err-more-clause-ends g c = (c.in-Err-more.ensures.none, c.more.ensures.same)
