use Rattle.std.proofs.Common.{rules}
use Rattle.std.proofs.lemmas.Fn.{filter_same}
use Rattle.demo_origin.specs.Observing.{is_no_entry}
use Rattle.demo_origin.proofs.observers.drop_entry.Goals as goal

pub returns : goal.returns
returns c =
    filter_same _ (is_no_entry c.args.peer.now c.args.place c.args.token.now) _
    (λ x b f' k. search rules) _ _ c.retain.ensures.filtered
