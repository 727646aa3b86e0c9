use Rattle.std.proofs.Common.{drop}
use Rattle.coap_codec.specs.Spelling.{entries}
use Rattle.coap_codec.proofs.Encodable.{Checked}
use Rattle.coap_codec.proofs.writing.options_are_encodable.Given as goal

abbrev pub invariant-each : goal.invariant-each
invariant-each l = Checked (entries l.options) l.before (entries (drop l.option-index l.options))
