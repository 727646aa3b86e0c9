use Rattle.std.proofs.Common.{rules}
use Rattle.std.proofs.lemmas.Fn.{filter_same}
use Rattle.demo_origin.specs.Arrivals.{is_live}
use Rattle.demo_origin.proofs.answer.drop_old.Goals as goal

pub returns-clause-items : goal.returns-clause-items
returns-clause-items c =
    filter_same _ (is_live c.args.moment) _ (λ x b f' k. search rules) _ _
    c.retain.ensures.filtered
