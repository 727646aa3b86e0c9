use Rattle.std.proofs.Common.{◌∙◌, sym}
use Rattle.ask_model.proofs.Codes.{code_is_not_zero}
use Rattle.ask_model.proofs.request.observing_of.Goals as goal

pub observing_bytes-requires-clause-code : goal.observing_bytes-requires-clause-code
observing_bytes-requires-clause-code c = λ zero. code_is_not_zero c.in-Ask.method (sym c.code-code.ensures ∙ zero)

pub observing_bytes-requires-clause-fits : goal.observing_bytes-requires-clause-fits
observing_bytes-requires-clause-fits c =
    let sendable = rw c.in-Ask.is at c.requires.sendable in
    sendable.target
