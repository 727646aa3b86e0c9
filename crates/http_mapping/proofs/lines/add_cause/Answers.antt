use Rattle.std.proofs.Common.{◌≡◌, ◌++◌, List, ℕ, codes, decimal, refl, sym, ap, ◌∙◌, append_assoc}
use Rattle.ask_model.specs.Causes.{cause_text}
use Rattle.http_mapping.specs.Means.{only}
use Rattle.http_mapping.specs.Writes.{lines}
use Rattle.http_mapping.proofs.Written.{then_adds, one_line}
use Rattle.http_mapping.proofs.lines.add_cause.Goals as goal

pub returns : goal.returns
returns c =
    let out = c.args.out.now.items in
    let cause = cause_text c.args.cause in
    let text = cause ++ codes " " ++ decimal c.args.number in
    let is : c.as_bytes.result.now ≡ text = c.as_bytes.ensures.value ∙ c.in_ok-value.ensures.ok ∙ sym (append_assoc cause (codes " ") (decimal c.args.number)) in
    then_adds c.add_line.result out _ _ (only (codes "HC-Cause") text) c.add_line.ensures
    (one_line out (codes "\r\nHC-Cause: ") c.as_bytes.result.now (codes "HC-Cause") refl
    ∙ ap (λ (v : List ℕ). out ++ codes "\r\n" ++ lines (only (codes "HC-Cause") v)) is)
