-- The code of a request is never that of an Empty message.
use Rattle.std.proofs.Common.{◌≢◌, arith}
use Rattle.code_map.specs.declared.method.Method.{Method}
use Rattle.code_map.specs.declared.method.Method.TheVariants.{Get, Head, Post, Put, Delete}
use Rattle.code_map.specs.Methods.{request_code}

pub code_is_not_zero : (m : Method) → request_code m ≢ 0
code_is_not_zero Get e = absurd (omega arith)
code_is_not_zero Head e = absurd (omega arith)
code_is_not_zero Post e = absurd (omega arith)
code_is_not_zero Put e = absurd (omega arith)
code_is_not_zero Delete e = absurd (omega arith)
