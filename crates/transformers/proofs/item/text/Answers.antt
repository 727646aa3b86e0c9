use Rattle.std.proofs.Common.{arith, sym, ◌∙◌}
use Rattle.transformers.proofs.Texts.{text_read, text_refused}
use Rattle.transformers.proofs.item.text.Goals as goal

pub returns-in-Ok : goal.returns-in-Ok
returns-in-Ok c =
    let cases = c.in-Ok.ensures.cases in
    let read = text_read c.args.length c.args.bytes.now c.in-Ok.text.now (omega (arith, c.if-length-bytes.false)) (cases.0 ∙ c.split_at.ensures.front) (rw cases.0 cases.1) in
    rw c.split_at.ensures.back (sym read)

pub returns-in-Err : goal.returns-in-Err
returns-in-Err c =
    let none = rw c.split_at.ensures.front at c.in-Err.ensures.cases.0 in
    sym (text_refused c.args.length c.args.bytes.now (omega (arith, c.if-length-bytes.false)) none)
