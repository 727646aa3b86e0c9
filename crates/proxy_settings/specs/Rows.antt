-- The tables [[origin]], [[down]], [[up]] and [[resource]], a line for each key.
use Rattle.std.specs.Prelude.{◌≡◌, true, false, [], codes, Option}
use Rattle.std.specs.Option.{option_map}
use Rattle.toml.specs.Data.{Data, Members, as_str, as_bool}
use Rattle.media_map.specs.declared.form.Form.{Form}
use Rattle.media_map.specs.declared.form.Form.TheVariants.{Format, Media}
use Rattle.proxy_settings.specs.declared.keys.Keys.TheVariants as Keys
use Rattle.proxy_settings.specs.declared.by.By.{By}
use Rattle.proxy_settings.specs.declared.by.By.TheVariants.{CborJson, JsonCbor, OctetsHex}
use Rattle.proxy_settings.specs.declared.origin.Origin.{Origin}
use Rattle.proxy_settings.specs.declared.route.Route.{Route}
use Rattle.proxy_settings.specs.declared.route.Way.{Way}
use Rattle.proxy_settings.specs.declared.route.Way.TheVariants.{Down, Up}
use Rattle.proxy_settings.specs.declared.resource.Resource.{Resource}
use Rattle.proxy_settings.specs.Keys.{has_only}
use Rattle.proxy_settings.specs.Members.{Has, HasOr}
use Rattle.proxy_settings.specs.Values.{text_that, number_at, host_at, address_at, is_media, by_at, kind_at, is_state}

pub record IsOrigin (t : Members) (o : Origin) : Type 0 where
  pub keys : has_only Keys.Origin t ≡ true
  pub host : Has t (codes "host") host_at o.host
  pub address : Has t (codes "address") address_at o.address
  pub observe : HasOr t (codes "observe") as_bool false o.observe

-- a content format, and a media type
abbrev pub format_at : Data → Option Form
format_at d = option_map (λ n. Format n) (number_at 65535 d)

abbrev pub media_at : Data → Option Form
media_at d = option_map (λ m. Media m) (text_that is_media d)

-- down from a format to a media type, up from a media type to a format
abbrev pub from_form : Way → Data → Option Form
from_form Down = format_at
from_form Up = media_at

abbrev pub to_form : Way → Data → Option Form
to_form Down = media_at
to_form Up = format_at

-- CBOR is 60 and JSON `application/json`; octets-hex takes bytes, 42, to anything.
abbrev pub Suits : By → Form → Form → Type 0
Suits CborJson from to = (from ≡ Format 60) × (to ≡ Media (codes "application/json"))
Suits JsonCbor from to = (from ≡ Media (codes "application/json")) × (to ≡ Format 60)
Suits OctetsHex from to = from ≡ Format 42

pub record IsRoute (way : Way) (t : Members) (r : Route) : Type 0 where
  pub keys : has_only Keys.Route t ≡ true
  pub from : Has t (codes "from") (from_form way) r.from
  pub to : Has t (codes "to") (to_form way) r.to
  pub by : Has t (codes "by") by_at r.by
  pub pair : Suits r.by r.from r.to

pub record IsResource (t : Members) (r : Resource) : Type 0 where
  pub keys : has_only Keys.Resource t ≡ true
  pub path : Has t (codes "path") as_str r.path
  pub kind : Has t (codes "kind") kind_at r.kind
  pub state : HasOr t (codes "state") (text_that is_state) [] r.state
  pub format : HasOr t (codes "format") (number_at 65535) 0 r.format
  pub max_age : HasOr t (codes "max_age") (number_at 4294967295) 60 r.max_age
