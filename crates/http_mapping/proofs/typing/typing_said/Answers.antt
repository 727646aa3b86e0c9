-- The route that was found is one of those listed.
use Rattle.std.proofs.Common.{◌≡◌, Some, rules}
use Rattle.media_map.specs.declared.form.Form.TheVariants.{Format}
use Rattle.media_map.specs.Accepting.{route_at}
use Rattle.http_mapping.proofs.Routes.{route_stands}
use Rattle.http_mapping.proofs.typing.typing_said.Goals as goal

pub returns-in-Some-default-Format-clause-along : goal.returns-in-Some-default-Format-clause-along
returns-in-Some-default-Format-clause-along c =
    let p = c.in-Some-default-Format in
    let e : route_at c.args.settings.now.routes c.args.value.now ≡ Some (p.field-0.now.0, Format p.format) = search rules in
    route_stands c.args.settings.now.routes c.args.value.now (p.field-0.now.0, Format p.format) e
