-- Worked runs.
use Rattle.std.proofs.Common.{refl}
use Rattle.coap_codec.specs.Reading.{message_at}
use Rattle.coap_codec.specs.Reading as X
use Rattle.exchange_model.specs.Worked.{AnsweredRun, GivenUpRun}

pub answered-run : AnsweredRun
unfolding message_at X.options_at X.option_at
answered-run = refl

pub given-up-run : GivenUpRun
given-up-run = refl
