-- The map has the name exactly where a row of it does.
use Rattle.http_mapping.proofs.Names.{has_field_is}
use Rattle.http_mapping.proofs.mapping.has.Goals as goal

pub returns : goal.returns
returns c = has_field_is c.contains_key.result c.args.request.now.fields c.args.name.now (rw c.requires at c.contains_key.ensures)
