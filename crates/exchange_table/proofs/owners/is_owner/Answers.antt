use Rattle.std.proofs.Common.{◌∙◌}
use Rattle.exchange_table.specs.Fetched.{is_number}
use Rattle.exchange_table.proofs.Owning.{any-some}
use Rattle.exchange_table.proofs.owners.is_owner.Goals as goal

pub returns : goal.returns
returns c =
    c.is_some.ensures ∙ any-some (is_number c.args.opening) c.args.owners.now c.owner_place.result c.owner_place.ensures.some c.owner_place.ensures.none
