use Rattle.std.proofs.Common.{◌≡◌, ◌++◌, List, ℕ, codes, decimal, IsNone, refl, sym, ap, ◌∙◌}
use Rattle.media_map.specs.Formats.{media_text}
use Rattle.http_mapping.specs.Means.{only}
use Rattle.http_mapping.specs.Writes.{lines}
use Rattle.http_mapping.proofs.Written.{then_adds, one_line, number_line}
use Rattle.http_mapping.proofs.lines.add_format.Goals as goal

pub returns-in-Some : goal.returns-in-Some
returns-in-Some c =
    let out = c.args.out.now.items in
    let text : c.as_bytes.result.now ≡ media_text c.args.format = c.as_bytes.ensures.value ∙ c.in-Some.ensures.named in
    then_adds c.add_line.result out _ _ (only (codes "Content-Type") (media_text c.args.format)) c.add_line.ensures
    (one_line out (codes "\r\nContent-Type: ") c.as_bytes.result.now (codes "Content-Type") refl ∙ ap (λ (v : List ℕ). out ++ codes "\r\n" ++ lines (only (codes "Content-Type") v)) text)

pub returns-in-None : goal.returns-in-None
returns-in-None c =
    let out = c.args.out.now.items in
    let front = codes "application/coap-payload;cf=" in
    let number = c.from.result in
    let none : IsNone c.media_named.result = rw c.in-None.is refl in
    let text : media_text c.args.format ≡ front ++ decimal number = rw c.from.ensures (c.media_named.ensures.numbered none) in
    then_adds c.add_number.result out _ _ (only (codes "Content-Type") (media_text c.args.format)) c.add_number.ensures
    (number_line out (codes "\r\nContent-Type: application/coap-payload;cf=") (decimal number) (codes "Content-Type") front refl
    ∙ ap (λ (v : List ℕ). out ++ codes "\r\n" ++ lines (only (codes "Content-Type") v)) (sym text))
