-- A code of class 4 that stands in no row has the status of the class.
use Rattle.std.proofs.Common.{◌∙◌}
use Rattle.code_map.proofs.Unrecognised.{by_class, always}
use Rattle.code_map.proofs.laws.unrecognised_client_error.Goals as goal

pub returns : goal.returns
returns c = λ code has_body class other. by_class code has_body other ∙ rw class (always has_body _)
