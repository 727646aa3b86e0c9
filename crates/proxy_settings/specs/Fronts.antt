-- What is read of a table before any memory is taken: its single values, and that its lists can be
-- read.
use Rattle.std.specs.Prelude.{◌≡◌, true, false, List, codes}
use Rattle.toml.specs.Data.{Members, as_bool}
use Rattle.proxy_settings.specs.declared.keys.Keys.TheVariants as Keys
use Rattle.proxy_settings.specs.declared.origin.Origin.{Origin}
use Rattle.proxy_settings.specs.declared.route.Route.{Route}
use Rattle.proxy_settings.specs.declared.resource.Resource.{Resource}
use Rattle.proxy_settings.specs.declared.route.Way.TheVariants.{Down, Up}
use Rattle.proxy_settings.specs.declared.serve.Front.{Front}
use Rattle.proxy_settings.specs.declared.device.DeviceFront.{DeviceFront}
use Rattle.proxy_settings.specs.Keys.{has_only}
use Rattle.proxy_settings.specs.Members.{Has, HasOr, HasRows}
use Rattle.proxy_settings.specs.Values.{text_that, number_at, endpoint_at, is_base}
use Rattle.proxy_settings.specs.Rows.{IsOrigin, IsRoute, IsResource}

pub record IsFront (t : Members) (f : Front) : Type 0 where
  pub keys : has_only Keys.Serve t ≡ true
  pub listen : Has t (codes "listen") endpoint_at f.listen
  pub udp : Has t (codes "udp") endpoint_at f.udp
  pub base : HasOr t (codes "base") (text_that is_base) (codes "/hc/") f.base.now
  pub literals : HasOr t (codes "literals") as_bool true f.literals
  pub loose : HasOr t (codes "loose") as_bool false f.policy.loose
  pub pass : HasOr t (codes "pass") as_bool false f.policy.pass
  pub origins : (xs : List Origin) × HasRows t (codes "origin") IsOrigin xs
  pub down : (xs : List Route) × HasRows t (codes "down") (IsRoute Down) xs
  pub up : (xs : List Route) × HasRows t (codes "up") (IsRoute Up) xs

pub record IsDeviceFront (t : Members) (f : DeviceFront) : Type 0 where
  pub keys : has_only Keys.Device t ≡ true
  pub listen : Has t (codes "listen") endpoint_at f.listen
  pub block : HasOr t (codes "block") (number_at 6) 6 f.block
  pub resources : (xs : List Resource) × HasRows t (codes "resource") IsResource xs
