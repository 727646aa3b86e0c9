use Rattle.std.proofs.Common.{◌≡◌, ◌∷◌, ◌++◌, [], List, ℕ, codes, string_bytes, refl, sym, ap, ◌∙◌}
use Rattle.hex.specs.Hex.{encode_lower}
use Rattle.http_mapping.specs.Means.{Pairs, only, entity_tag}
use Rattle.http_mapping.specs.Writes.{lines}
use Rattle.http_mapping.proofs.Rules.{entity_tag_of}
use Rattle.http_mapping.proofs.Written.{then_adds, one_line}
use Rattle.http_mapping.proofs.lines.add_entity_tag.Goals as goal

pub returns-in_ok-value-in-Some : goal.returns-in_ok-value-in-Some
returns-in_ok-value-in-Some c =
    let out = c.args.out.now.items in
    let w = c.args.response.now in
    let text = string_bytes c.in_ok-value-in-Some.value in
    let digits : string_bytes c.in_ok-encode-in-Some.field-0 ≡ encode_lower c.in-Some.tag = rw (← c.as_slice.ensures) c.in_ok-encode-in-Some.ensures in
    let is : text ≡ 34 ∷ encode_lower c.in-Some.tag ++ 34 ∷ [] = rw (← digits) c.in_ok-value-in-Some.ensures.ok in
    let rule : entity_tag w ≡ only (codes "ETag") text = entity_tag_of w c.in-Some.tag text c.if-response-eq-CONTENT.true c.in-Some.is is in
    then_adds c.add_line.result out _ _ _ c.add_line.ensures
    (one_line out (codes "\r\nETag: ") c.as_bytes.result.now (codes "ETag") refl
    ∙ ap (λ (v : List ℕ). out ++ codes "\r\n" ++ lines (only (codes "ETag") v)) c.as_bytes.ensures.value
    ∙ ap (λ (p : Pairs). out ++ codes "\r\n" ++ lines p) (sym rule))
