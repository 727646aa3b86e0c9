-- None of the names that were looked at is the key.
use Rattle.std.proofs.Common.{◌≡◌, map, drop}
use Rattle.std.specs.List.{list_any}
use Rattle.std.specs.Str.{bytes_eq}
use Rattle.proxy_settings.proofs.keys.is_among.Given as goal

abbrev pub invariant-each : goal.invariant-each
invariant-each l =
    list_any (bytes_eq l.key) (map (λ name. name.now) l.names)
    ≡ list_any (bytes_eq l.key) (map (λ name. name.now) (drop l.name-index l.names))
