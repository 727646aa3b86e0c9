-- None of those that were looked at is the token.
use Rattle.std.proofs.Common.{◌≡◌, false, take}
use Rattle.message_layer.specs.Calls.{is_among}
use Rattle.message_layer.proofs.calls.is_among.Given as goal

abbrev pub invariant-each : goal.invariant-each
invariant-each l = is_among (take l.other-index l.tokens) l.token ≡ false
