use Rattle.code_map.proofs.Named.{has_the_name}
use Rattle.code_map.specs.Methods.{methods}
use Rattle.code_map.proofs.laws.names_are_exact.Goals as goal

pub returns-clause-only : goal.returns-clause-only
returns-clause-only c = λ name m e. has_the_name methods name m e
