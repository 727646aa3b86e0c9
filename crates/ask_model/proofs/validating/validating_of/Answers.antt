use Rattle.std.proofs.Common.{◌∙◌, sym}
use Rattle.ask_model.proofs.Codes.{code_is_not_zero}
use Rattle.ask_model.proofs.validating.validating_of.Goals as goal

pub validating_bytes-requires-clause-code : goal.validating_bytes-requires-clause-code
validating_bytes-requires-clause-code c = λ zero. code_is_not_zero c.in-Ask.method (sym c.code-code.ensures ∙ zero)

pub validating_bytes-requires-clause-fits : goal.validating_bytes-requires-clause-fits
validating_bytes-requires-clause-fits c =
    let sendable = rw c.in-Ask.is at c.requires.sendable in
    sendable.target
