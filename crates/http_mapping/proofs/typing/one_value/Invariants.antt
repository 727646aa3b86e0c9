-- What is put so far with the values that are left is all of them.
use Rattle.std.proofs.Common.{◌≡◌, map}
use Rattle.http_edge.specs.Requests.{content}
use Rattle.ask_model.specs.Maps.{one_value}
use Rattle.http_mapping.proofs.Values.{with_values}
use Rattle.http_mapping.proofs.typing.one_value.Given as goal

abbrev pub invariant-each : goal.invariant-each
invariant-each l = with_values l.begun l.all.items (map (λ v. v.bytes) l.value-iterator) ≡ one_value l.name (content l.request)
