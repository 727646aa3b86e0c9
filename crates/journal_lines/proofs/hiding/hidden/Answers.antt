-- As many bytes are kept as stand before the payload.
use Rattle.std.proofs.Common.{rules, ◌≡◌, ◌-◌, length, refl, ◌∙◌}
use Rattle.coap_codec.specs.Spelling.{content}
use Rattle.journal_lines.proofs.Starring.{hides_message}
use Rattle.journal_lines.proofs.hiding.hidden.Goals as goal

pub returns-in_ok-shown-in-Ok : goal.returns-in_ok-shown-in-Ok
returns-in_ok-shown-in-Ok c =
    let kept : c.saturating_sub-kept.result ≡ length c.args.bytes.now - length c.in-Ok.message.payload.items = search rules in
    hides_message (content c.in-Ok.message) c.args.bytes.now c.in_ok-shown-in-Ok.shown.items c.in-Ok.ensures.found c.in-Ok.ensures.only (c.in_ok-shown-in-Ok.ensures ∙ rw kept refl)
