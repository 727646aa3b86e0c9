-- What a host gives.
use Rattle.std.specs.Prelude.{⊤, ℕ, List, [], Option}
use Rattle.gateway_loop.specs.declared.host.Accepted.{Accepted}
use Rattle.gateway_loop.specs.declared.host.Accepted.TheVariants as A
use Rattle.gateway_loop.specs.Sockets.{Are}

-- Nothing was moved on a connection that is taken, where that can be known.
abbrev pub IsUnused : {S : Type 0} → (S → Option (List ℕ)) → Accepted S → Type 0
IsUnused moved (A.Client s) = Are (moved s) []
IsUnused moved A.Later = ⊤
IsUnused moved A.Refused = ⊤
