-- The settings that a file stands for, a line for each key.
use Rattle.std.specs.Prelude.{◌≡◌, ℕ, true, false, List, codes, Some}
use Rattle.toml.specs.Data.{Members, as_bool}
use Rattle.toml.specs.Parse.{parse_document}
use Rattle.proxy_settings.specs.declared.keys.Keys.TheVariants as Keys
use Rattle.proxy_settings.specs.declared.origin.Origin.{Origin}
use Rattle.proxy_settings.specs.declared.resource.Resource.{Resource}
use Rattle.proxy_settings.specs.declared.route.Way.TheVariants.{Down, Up}
use Rattle.proxy_settings.specs.declared.serve.Serve.{Serve}
use Rattle.proxy_settings.specs.declared.device.Device.{Device}
use Rattle.proxy_settings.specs.declared.part.Part.{Part}
use Rattle.proxy_settings.specs.declared.part.Part.TheVariants as part
use Rattle.proxy_settings.specs.declared.part.Setup.{Setup}
use Rattle.proxy_settings.specs.declared.part.Setup.TheVariants as setup
use Rattle.proxy_settings.specs.Keys.{has_only}
use Rattle.proxy_settings.specs.Members.{Has, HasOr, HasRows}
use Rattle.proxy_settings.specs.Values.{text_that, number_at, endpoint_at, is_base}
use Rattle.proxy_settings.specs.Rows.{IsOrigin, IsRoute, IsResource}
use Rattle.proxy_settings.specs.Firsts.{firsts}

-- the settings of the proxy
pub record IsServe (t : Members) (s : Serve) : Type 0 where
  pub keys : has_only Keys.Serve t ≡ true
  pub listen : Has t (codes "listen") endpoint_at s.listen
  pub udp : Has t (codes "udp") endpoint_at s.udp
  pub base : HasOr t (codes "base") (text_that is_base) (codes "/hc/") s.base
  pub literals : HasOr t (codes "literals") as_bool true s.literals
  pub loose : HasOr t (codes "loose") as_bool false s.policy.loose
  pub pass : HasOr t (codes "pass") as_bool false s.policy.pass
  pub written : List Origin
  pub origins : HasRows t (codes "origin") IsOrigin written
  pub first_hosts : s.origins ≡ firsts (λ o. o.host) written
  pub down : HasRows t (codes "down") (IsRoute Down) s.down
  pub up : HasRows t (codes "up") (IsRoute Up) s.up

-- the settings of the demonstration device
pub record IsDevice (t : Members) (d : Device) : Type 0 where
  pub keys : has_only Keys.Device t ≡ true
  pub listen : Has t (codes "listen") endpoint_at d.listen
  pub block : HasOr t (codes "block") (number_at 6) 6 d.block
  pub written : List Resource
  pub resources : HasRows t (codes "resource") IsResource written
  pub first_paths : d.resources ≡ firsts (λ r. r.path) written

-- the settings of either part
abbrev pub IsSetup : Part → Members → Setup → Type 0
IsSetup part.Serve t (setup.Serve s) = IsServe t s
IsSetup part.Serve t (setup.Origin d) = ⊥
IsSetup part.Origin t (setup.Serve s) = ⊥
IsSetup part.Origin t (setup.Origin d) = IsDevice t d

-- A text stands for settings where it is TOML, and its table does.
pub record StandsFor (which : Part) (text : List ℕ) (s : Setup) : Type 0 where
  pub table : Members
  pub read : parse_document text ≡ Some table
  pub settings : IsSetup which table s
