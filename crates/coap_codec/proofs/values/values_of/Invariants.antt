use Rattle.std.proofs.Common.{◌≡◌, ◌++◌, map, drop}
use Rattle.coap_codec.specs.Values.{values}
use Rattle.coap_codec.specs.Spelling.{entries}
use Rattle.coap_codec.proofs.values.values_of.Given as goal

abbrev pub invariant-each : goal.invariant-each
invariant-each l = map (λ x. x.now) l.values.items ++ values l.number (entries (drop l.o-index l.o-items)) ≡ values l.number (entries l.m.options.items)
