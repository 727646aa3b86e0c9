use Rattle.std.proofs.Common.{◌≡◌, true, false, ◌==◌, nat_le, length, sym, ◌∙◌, refl}
use Rattle.std.proofs.lemmas.Bool.{le-leb}
use Rattle.std.specs.Str.{is_utf8}
use Rattle.media_map.specs.Formats.{media_text}
use Rattle.http_mapping.proofs.Rules.{content_type_of_format, content_type_of_text}
use Rattle.http_mapping.proofs.fields.format_shown.Goals as goal

pub returns-in-Some : goal.returns-in-Some
returns-in-Some c =
    let w = c.args.response.now in
    let body : (length w.body == 0) ≡ false = rw (← c.as_slice-body.ensures) (sym c.is_empty.ensures ∙ c.if-is_empty.false) in
    rw (content_type_of_format w c.in-Some.format (media_text c.in-Some.format) body c.in-Some.is refl) refl

pub returns-in-None : goal.returns-in-None
returns-in-None c =
    let w = c.args.response.now in
    let body : (length w.body == 0) ≡ false = rw (← c.as_slice-body.ensures) (sym c.is_empty.ensures ∙ c.if-is_empty.false) in
    let error : nat_le 128 w.code ≡ true = le-leb 128 w.code c.if-response-ge-ERROR.true in
    let utf8 : is_utf8 w.body ≡ true = rw (← c.as_slice-body.ensures) (sym c.is_text.ensures ∙ c.if-is_text.true) in
    rw (content_type_of_text w (media_text 0) body c.in-None.is error utf8 refl) refl
