use Rattle.std.proofs.Common.{◌∙◌, sym}
use Rattle.media_map.proofs.Scanning.{closes_never, left_false, right_false}
use Rattle.media_map.proofs.text.closes_quotes.Goals.{then-is_plain-via-then-is_plain, then-is_plain-via-else-is_plain+then-not-is_text}
use Rattle.media_map.proofs.text.closes_quotes.Goals as goal

pub returns-then-is_plain : goal.returns-then-is_plain
returns-then-is_plain c =
    sym (c.each.invariant ∙ closes_never c.each.scan c.args.text.now c.each.byte-index c.each-test.true
    (elim c.then-is_plain.branch [ then-is_plain-via-then-is_plain w ↦ left_false _ _ (sym c.is_plain.ensures ∙ w.if-is_plain.true) | then-is_plain-via-else-is_plain+then-not-is_text w ↦ right_false _ _ (sym w.is_text.ensures ∙ w.if-not-is_text.true) ]))
