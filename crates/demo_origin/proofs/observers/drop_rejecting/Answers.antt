use Rattle.std.proofs.Common.{rules}
use Rattle.std.proofs.lemmas.Fn.{filter_same}
use Rattle.demo_origin.specs.Observing.{is_not_sent_as}
use Rattle.demo_origin.proofs.observers.drop_rejecting.Goals as goal

pub returns : goal.returns
returns c =
    filter_same _ (is_not_sent_as c.args.peer.now c.args.mid) _ (λ x b f' k. search rules) _ _
    c.retain.ensures.filtered
