use Rattle.std.proofs.Common.{sym, ◌∙◌}
use Rattle.uri_map.proofs.TextLists.{text_good}
use Rattle.uri_map.proofs.escapes.escaped_len.Goals as goal

pub returns : goal.returns
returns c = (
  text_good c.args.part c.args.text.now c.in_ok-check_escapes.ensures (sym c.is_utf8.ensures ∙ c.if-not-is_utf8.false) (sym c.is_refused.ensures ∙ c.if-is_refused.false),
  c.decoded_len.ensures,
)
