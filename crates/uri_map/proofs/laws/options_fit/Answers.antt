use Rattle.uri_map.proofs.OptionBytes.{named_fits}
use Rattle.uri_map.proofs.laws.options_fit.Goals as goal

pub returns : goal.returns
returns c = λ base text bytes t e spelled. named_fits base text bytes t e spelled
