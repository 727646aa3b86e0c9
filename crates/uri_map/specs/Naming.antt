-- Which target a text names below a base (RFC 8075, section 5.3; RFC 7252, section 6.4).
use Rattle.std.specs.Prelude.{ℕ, List, Result}
use Rattle.std.specs.List.{before_first}
use Rattle.uri_map.specs.declared.fault.UriFault.{UriFault}
use Rattle.uri_map.specs.declared.escapes.Part.TheVariants.{Path, Query}
use Rattle.uri_map.specs.declared.target.Target.{Target}
use Rattle.uri_map.specs.Marks.{ends_authority}
use Rattle.uri_map.specs.Steps.{◌>>=◌}
use Rattle.uri_map.specs.Splitting.{from_first, behind_base, behind_scheme, written_path, written_query}
use Rattle.uri_map.specs.Escapes.{part_at}
use Rattle.uri_map.specs.Authority.{authority_at}
use Rattle.uri_map.specs.Limits.{within_limits}

-- The target, or the first fault, in this order: of the base, the scheme, the authority, the path,
-- the query, the limits.
unfoldable pub target_at : List ℕ → List ℕ → Result Target UriFault
target_at base text = do
  below ← behind_base base text
  rest ← behind_scheme below
  place ← authority_at (before_first ends_authority rest)
  path ← part_at Path (written_path (from_first ends_authority rest))
  query ← part_at Query (written_query (from_first ends_authority rest))
  within_limits (record { host = place.0; port = place.1; path = path; query = query })
