use Rattle.std.proofs.Common.{rules}
use Rattle.std.proofs.lemmas.Fn.{filter_same}
use Rattle.exchange_table.specs.Fetched.{is_not_of}
use Rattle.exchange_table.proofs.fetched.drop_pieces_of.Goals as goal

pub returns-clause-pieces : goal.returns-clause-pieces
returns-clause-pieces c =
    filter_same _ (is_not_of c.args.opening) _ (λ x b f' k. search rules) _ _ c.retain.ensures.filtered
