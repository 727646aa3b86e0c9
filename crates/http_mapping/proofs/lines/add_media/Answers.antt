use Rattle.std.proofs.Common.{◌≡◌, ◌++◌, List, ℕ, codes, refl, ap, ◌∙◌}
use Rattle.http_mapping.specs.Means.{only}
use Rattle.http_mapping.specs.Writes.{lines}
use Rattle.http_mapping.proofs.Written.{then_adds, one_line}
use Rattle.http_mapping.proofs.lines.add_media.Goals as goal

pub returns : goal.returns
returns c =
    let out = c.args.out.now.items in
    let text : c.as_bytes.result.now ≡ c.args.media.now = c.as_bytes.ensures.value ∙ c.as_str.ensures in
    then_adds c.add_line.result out _ _ (only (codes "Content-Type") c.args.media.now) c.add_line.ensures
    (one_line out (codes "\r\nContent-Type: ") c.as_bytes.result.now (codes "Content-Type") refl ∙ ap (λ (v : List ℕ). out ++ codes "\r\n" ++ lines (only (codes "Content-Type") v)) text)
