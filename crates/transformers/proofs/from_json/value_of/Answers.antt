use Rattle.std.proofs.Common.{Some, arith, ap, ◌∙◌}
use Rattle.json.specs.Value.{value_view}
use Rattle.transformers.proofs.Made.{read_whole, read_more, read_invalid}
use Rattle.transformers.proofs.from_json.value_of.Goals as goal

pub returns-in-Err-Invalid-clause-content : goal.returns-in-Err-Invalid-clause-content
returns-in-Err-Invalid-clause-content c said =
    read_invalid c.args.text.now _ c.in_ok-reader.ensures.ok (c.read.ensures.invalid (grind arith))

pub returns-in-Some-clause-content : goal.returns-in-Some-clause-content
returns-in-Some-clause-content c said =
    read_more c.args.text.now _ (value_view c.in-Ok.value) _ c.next.new.self c.in_ok-reader.ensures.ok (c.in-Ok.ensures.ok ∙ ap (λ ts. Some (value_view c.in-Ok.value, ts)) c.in-Some.ensures.value)

pub returns-clause-is : goal.returns-clause-is
returns-clause-is c =
    read_whole c.args.text.now _ (value_view c.in-Ok.value) c.in_ok-reader.ensures.ok (c.in-Ok.ensures.ok ∙ ap (λ ts. Some (value_view c.in-Ok.value, ts)) c.in_default.ensures.value.0)
