use Rattle.std.proofs.Common.{◌≡◌, ◌++◌, [], false, ◌==◌, codes, decimal, refl, sym, ap, ◌∙◌}
use Rattle.std.proofs.lemmas.Bool.{ne_eqb}
use Rattle.code_map.specs.Statuses.{number_of}
use Rattle.http_mapping.specs.Means.{Pairs, only, content_length}
use Rattle.http_mapping.specs.Writes.{lines}
use Rattle.http_mapping.proofs.Rules.{content_length_of}
use Rattle.http_mapping.proofs.Written.{then_adds, number_line}
use Rattle.http_mapping.proofs.lines.add_content_length.Goals as goal

pub returns : goal.returns
returns c =
    let out = c.args.out.now.items in
    let n = c.args.len in
    let other : (number_of c.args.status == 204) ≡ false = rw (← c.number.ensures.number) (ne_eqb c.number.result 204 c.if-number-eq-NO_CONTENT.false) in
    let rule : content_length c.args.status n ≡ only (codes "Content-Length") (decimal n) = content_length_of c.args.status n (decimal n) other refl in
    then_adds c.add_number.result out _ _ _ c.add_number.ensures
    (number_line out (codes "\r\nContent-Length: ") (decimal n) (codes "Content-Length") [] refl ∙ ap (λ (p : Pairs). out ++ codes "\r\n" ++ lines p) (sym rule))
