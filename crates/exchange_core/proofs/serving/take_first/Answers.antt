use Rattle.std.proofs.Common.{sym, ◌∙◌}
use Rattle.exchange_core.proofs.Served.{first-of}
use Rattle.exchange_core.proofs.serving.take_first.Goals as goal

pub returns : goal.returns
returns g c =
    first-of c.take_answer.result c.in-Some.ask c.args.answers.now.items _ (sym c.in-Some.is ∙ rw (c.as_slice.ensures.value) at c.least_ask.ensures)
    c.take_answer.ensures.some c.take_answer.ensures.none c.take_answer.ensures.others
