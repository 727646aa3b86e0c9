use Rattle.std.proofs.Common.{arith, sym, true≢false}
use Rattle.transformers.proofs.Made.{put_alone, nothing_refused}
use Rattle.transformers.proofs.Putting.{as_refused}
use Rattle.transformers.proofs.from_json.cbor_of.Goals as goal

pub put-requires : goal.put-requires
put-requires c h = absurd (true≢false (sym h))

pub returns-in_err-value-clause-content : goal.returns-in_err-value-clause-content
returns-in_err-value-clause-content c said = nothing_refused _ (c.value_of.ensures.content (grind arith))

pub returns-in_err-put-clause-content : goal.returns-in_err-put-clause-content
returns-in_err-put-clause-content c said = as_refused 32 _ _ (sym c.in_ok-value.ensures.is) (c.put.ensures.content (grind arith))

pub returns-clause-ok : goal.returns-clause-ok
returns-clause-ok c = put_alone _ _ _ _ c.in_ok-value.ensures.is c.new-out.ensures.items c.in_ok-put.ensures.ok
