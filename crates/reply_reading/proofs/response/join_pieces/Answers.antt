use Rattle.std.proofs.Common.{◌∙◌, ◌++◌, List, ℕ, ap, map}
use Rattle.coap_codec.specs.Spelling.{content}
use Rattle.blockwise.specs.Joins.{payloads}
use Rattle.reply_reading.proofs.Joining.{joined-many}
use Rattle.reply_reading.proofs.response.join_pieces.Goals as goal

pub returns : goal.returns
returns c =
    let all = payloads (map content c.args.earlier.now) in
    joined-many c.args.first.now c.args.earlier.now (content c.args.last) c.in_ok-response.response _ _ c.requires
    c.in_ok-response.ensures c.max_age_of-response.ensures
    (c.of.ensures ∙ c.in_ok-body.ensures ∙ ap (λ (bytes : List ℕ). all ++ bytes) c.deref.ensures.value)
