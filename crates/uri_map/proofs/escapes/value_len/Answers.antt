use Rattle.std.proofs.Common.{sym, ◌∙◌}
use Rattle.uri_map.proofs.PlainTexts.{plain_measured}
use Rattle.uri_map.proofs.escapes.value_len.Goals as goal

pub returns-then-not-is_refused : goal.returns-then-not-is_refused
returns-then-not-is_refused c =
    plain_measured c.args.part c.args.text.now (c.is_plain.ensures c.if-is_plain.true) (sym c.is_refused.ensures ∙ c.if-not-is_refused.true)
