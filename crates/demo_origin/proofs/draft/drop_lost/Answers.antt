use Rattle.std.proofs.Common.{rules}
use Rattle.std.proofs.lemmas.Fn.{filter_same}
use Rattle.demo_origin.specs.Notifying.{is_reached}
use Rattle.demo_origin.proofs.draft.drop_lost.Goals as goal

pub returns : goal.returns
returns c =
    filter_same _ (is_reached c.args.moment) _ (λ x b f' k. search rules) _ _
    c.retain.ensures.filtered
