use Rattle.std.proofs.Common.{◌≡◌, length}
use Rattle.coap_codec.specs.Spelling.{entries}
use Rattle.coap_codec.specs.Reading.{options_at, all_options_at}
use Rattle.coap_codec.proofs.OptionSteps.{with_front}
use Rattle.coap_codec.proofs.reading.options_of.Given as goal

abbrev pub invariant-each : goal.invariant-each
invariant-each l = with_front (entries l.options.items) (options_at (length l.rest) l.number l.rest) ≡ all_options_at l.bytes

abbrev pub decreases-each : goal.decreases-each
decreases-each l = length l.rest
