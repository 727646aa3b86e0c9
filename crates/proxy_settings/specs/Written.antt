-- The rows that stand for what functions read before any memory is taken for it.
use Rattle.std.specs.Prelude.{ℕ, List, codes}
use Rattle.std.specs.Str.{str_to_ascii_lowercase}
use Rattle.media_map.specs.declared.form.Form.{Form}
use Rattle.media_map.specs.declared.form.Form.TheVariants.{Format, Media}
use Rattle.proxy_settings.specs.declared.origin.Origin.{Origin}
use Rattle.proxy_settings.specs.declared.origin.WrittenOrigin.{WrittenOrigin}
use Rattle.proxy_settings.specs.declared.route.Route.{Route}
use Rattle.proxy_settings.specs.declared.route.Way.{Way}
use Rattle.proxy_settings.specs.declared.route.Way.TheVariants.{Down, Up}
use Rattle.proxy_settings.specs.declared.route.WrittenRoute.{WrittenRoute}
use Rattle.proxy_settings.specs.declared.resource.Resource.{Resource}
use Rattle.proxy_settings.specs.declared.resource.WrittenResource.{WrittenResource}

abbrev pub origin_of : WrittenOrigin → Origin
origin_of w = record {
  host = str_to_ascii_lowercase w.host.now;
  address = w.address;
  observe = w.observe;
}

abbrev pub way_key : Way → List ℕ
way_key Down = codes "down"
way_key Up = codes "up"

abbrev pub from_of : Way → ℕ → List ℕ → Form
from_of Down format media = Format format
from_of Up format media = Media media

abbrev pub to_of : Way → ℕ → List ℕ → Form
to_of Down format media = Media media
to_of Up format media = Format format

abbrev pub route_of : Way → WrittenRoute → Route
route_of way w = record {
  from = from_of way w.format w.media.now;
  to = to_of way w.format w.media.now;
  by = w.by;
}

abbrev pub resource_of : WrittenResource → Resource
resource_of w = record {
  path = w.path.now;
  kind = w.kind;
  state = w.state.now;
  format = w.format;
  max_age = w.max_age;
}
