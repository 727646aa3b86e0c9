use Rattle.std.proofs.Common.{rules}
use Rattle.std.proofs.lemmas.Fn.{filter_same}
use Rattle.message_layer.specs.Calls.{is_among, waits_on}
use Rattle.message_layer.proofs.calls.drop_gone_waiting.Goals as goal

pub returns-clause-items : goal.returns-clause-items
returns-clause-items c = filter_same _ (waits_on (is_among c.args.gone.now)) _ (λ x b f' k. search rules) _ _ c.retain.ensures.filtered
