use Rattle.std.proofs.Common.{sym}
use Rattle.uri_map.proofs.Numbered.{address_of_text}
use Rattle.uri_map.proofs.authority.host_named.Goals as goal

pub returns-in-Some : goal.returns-in-Some
returns-in-Some c = address_of_text c.args.text.now c.in-Some.address (sym c.in-Some.ensures)
