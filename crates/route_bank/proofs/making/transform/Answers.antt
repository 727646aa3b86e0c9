use Rattle.std.proofs.Common.{rules}
use Rattle.route_bank.proofs.making.transform.Goals as goal

pub returns-in-Some-CborToJson : goal.returns-in-Some-CborToJson
returns-in-Some-CborToJson c = search rules
