use Rattle.std.proofs.Common.{◌≡◌, ◌<◌, ◌^◌, take}
use Rattle.coap_codec.specs.Values.{uint}
use Rattle.coap_codec.proofs.uint.uint_of.Given as goal

abbrev pub invariant-each : goal.invariant-each
invariant-each l = (l.n ≡ uint (take l.b-index l.value)) × (l.n < 256 ^ l.b-index)
