-- The keys that the tables of a file may have.
use Rattle.std.specs.Prelude.{ℕ, Bool, true, ◌&&◌, List, [], ◌∷◌, codes}
use Rattle.std.specs.List.{list_any}
use Rattle.std.specs.Str.{bytes_eq}
use Rattle.toml.specs.Data.{Members, no_members, member}
use Rattle.proxy_settings.specs.declared.keys.Keys.{Keys}
use Rattle.proxy_settings.specs.declared.keys.Keys.TheVariants.{Serve, Origin, Route, Device, Resource}

abbrev pub keys_of : Keys → List (List ℕ)
keys_of Serve =
    codes "listen" ∷ codes "udp" ∷ codes "base" ∷ codes "literals" ∷ codes "loose" ∷ codes "pass"
    ∷ codes "origin" ∷ codes "down" ∷ codes "up" ∷ []
keys_of Origin = codes "host" ∷ codes "address" ∷ codes "observe" ∷ []
keys_of Route = codes "from" ∷ codes "to" ∷ codes "by" ∷ []
keys_of Device = codes "listen" ∷ codes "block" ∷ codes "resource" ∷ []
keys_of Resource =
    codes "path" ∷ codes "kind" ∷ codes "state" ∷ codes "format" ∷ codes "max_age" ∷ []

abbrev pub is_key : Keys → List ℕ → Bool
is_key keys key = list_any (bytes_eq key) (keys_of keys)

-- no other key stands in the table
abbrev pub has_only : Keys → Members → Bool
has_only keys no_members = true
has_only keys (member key value others) = is_key keys key && has_only keys others
