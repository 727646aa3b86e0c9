-- A code of class 2 that stands in no row has the status of the class.
use Rattle.std.proofs.Common.{refl, ◌∙◌}
use Rattle.code_map.proofs.Unrecognised.{by_class}
use Rattle.code_map.proofs.laws.unrecognised_success.Goals as goal

pub returns : goal.returns
returns c = λ code has_body class other. by_class code has_body other ∙ rw class (refl)
