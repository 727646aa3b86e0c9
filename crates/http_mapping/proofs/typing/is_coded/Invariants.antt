-- Whether one of the values that are left is a coding is whether one of all is.
use Rattle.std.proofs.Common.{◌≡◌}
use Rattle.http_edge.specs.Requests.{content}
use Rattle.ask_model.specs.Maps.{is_coded}
use Rattle.http_mapping.proofs.Codings.{any_coding}
use Rattle.http_mapping.proofs.typing.is_coded.Given as goal

abbrev pub invariant-each : goal.invariant-each
invariant-each l = any_coding l.value-iterator ≡ is_coded (content l.request)
