use Rattle.std.proofs.Common.{rules}
use Rattle.std.proofs.lemmas.Fn.{filter_same}
use Rattle.demo_origin.specs.Arrivals.{is_kept}
use Rattle.demo_origin.proofs.answer.drop_unknown.Goals as goal

pub returns : goal.returns
returns c =
    filter_same _ (is_kept c.args.moment c.args.observers.now) _ (λ x b f' k. search rules) _ _
    c.retain.ensures.filtered
