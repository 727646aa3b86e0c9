use Rattle.std.proofs.Common.{◌≡◌, length}
use Rattle.coap_codec.specs.Reading.{options_at, only_rest}
use Rattle.coap_codec.proofs.OptionSteps.{rest_of}
use Rattle.coap_codec.proofs.reading.after_options.Given as goal

abbrev pub invariant-each : goal.invariant-each
invariant-each l = rest_of (options_at (length l.rest) l.number l.rest) ≡ only_rest l.bytes

abbrev pub decreases-each : goal.decreases-each
decreases-each l = length l.rest
