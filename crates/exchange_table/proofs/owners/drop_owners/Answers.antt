use Rattle.std.proofs.Common.{rules}
use Rattle.std.proofs.lemmas.Fn.{filter_same}
use Rattle.exchange_table.specs.Fetched.{is_of_another}
use Rattle.exchange_table.proofs.owners.drop_owners.Goals as goal

pub returns-clause-owners : goal.returns-clause-owners
returns-clause-owners c = filter_same _ (is_of_another c.args.over.now) _ (λ x b f' k. search rules) _ _ c.retain.ensures.filtered
