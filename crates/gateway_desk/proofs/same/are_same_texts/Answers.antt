-- Lists of texts are equal just where all their bytes are.
use Rattle.std.proofs.Common.{refl, nat_eq}
use Rattle.std.specs.Cmp.Lexicographic.{pointwise}
use Rattle.std.proofs.lemmas.Bool.Decides.{Decides-eqb}
use Rattle.std.proofs.lemmas.Slice.Eq.{slice_eq-Decides}
use Rattle.gateway_desk.proofs.same.are_same_texts.Goals as goal

pub returns : goal.returns
returns c = slice_eq-Decides (λ x y. slice_eq-Decides Decides-eqb x y (pointwise nat_eq x y) refl) c.args.a.now c.args.b.now c.eq.result c.eq.ensures
