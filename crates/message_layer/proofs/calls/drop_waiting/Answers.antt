use Rattle.std.proofs.Common.{rules}
use Rattle.std.proofs.lemmas.Fn.{filter_same}
use Rattle.message_layer.specs.Calls.{waits_not_under}
use Rattle.message_layer.proofs.calls.drop_waiting.Goals as goal

pub returns : goal.returns
returns c = filter_same _ (waits_not_under c.args.token.now) _ (λ x b f' k. search rules) _ _ c.retain.ensures.filtered
