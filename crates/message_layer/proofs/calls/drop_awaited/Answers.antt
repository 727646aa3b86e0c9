use Rattle.std.proofs.Common.{rules}
use Rattle.std.proofs.lemmas.Fn.{filter_same}
use Rattle.message_layer.specs.Calls.{is_other}
use Rattle.message_layer.proofs.calls.drop_awaited.Goals as goal

pub returns : goal.returns
returns c = filter_same _ (is_other c.args.token.now) _ (λ x b f' k. search rules) _ _ c.retain.ensures.filtered
