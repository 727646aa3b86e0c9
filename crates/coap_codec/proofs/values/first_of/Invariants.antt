use Rattle.std.proofs.Common.{◌≡◌, drop}
use Rattle.coap_codec.specs.Values.{values}
use Rattle.coap_codec.specs.Spelling.{entries}
use Rattle.coap_codec.proofs.values.first_of.Given as goal

abbrev pub invariant-each : goal.invariant-each
invariant-each l = values l.number (entries (drop l.option-index l.option-items)) ≡ values l.number (entries l.m.options.items)
