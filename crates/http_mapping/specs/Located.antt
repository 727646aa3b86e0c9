-- Where a created resource is hosted (RFC 8075, section 5.3; RFC 7252, section 5.10.7).
use Rattle.std.specs.Prelude.{ℕ, Bool, not, ◌&&◌, ◌==◌, List, [], ◌∷◌, length, Option, Some, None, is_ok, if◌then◌else◌}
use Rattle.std.specs.List.{list_all}
use Rattle.std.specs.Str.{is_utf8}
use Rattle.uri_map.specs.declared.target.Target.{Target}
use Rattle.uri_map.specs.Hosting.{hosting}
use Rattle.uri_map.specs.Naming.{target_at}
use Rattle.ask_model.specs.Requests.{Sense, Requests, Refuses}
use Rattle.ask_model.specs.Views.{Rules}
use Rattle.history_laws.specs.Responses.{Response}

-- a single empty segment counts as none
abbrev pub segments : List (List ℕ) → List (List ℕ)
segments [] = []
segments (only ∷ []) = if length only == 0 then [] else only ∷ []
segments (first ∷ second ∷ others) = first ∷ second ∷ others

-- the response names something, in texts
abbrev pub names : List (List ℕ) → List (List ℕ) → Bool
names path query = not ((length path == 0) && (length query == 0))
    && (list_all is_utf8 path && list_all is_utf8 query)

-- the text under which the target is hosted, if the proxy takes that text
abbrev pub hosted : List ℕ → Target → Option (List ℕ)
hosted base t = if is_ok (target_at base (hosting base t)) then Some (hosting base t) else None

-- the target with another path and query
abbrev pub with_parts : Target → List (List ℕ) → List (List ℕ) → Target
with_parts asked path query = record {
  host = asked.host;
  port = asked.port;
  path = path;
  query = query;
}

abbrev pub beside : List ℕ → Target → List (List ℕ) → List (List ℕ) → Option (List ℕ)
beside base asked path query =
    if names path query then hosted base (with_parts asked path query) else None

-- what 2.01 says was created is hosted at the host and port that were asked
abbrev pub located : Rules → Sense → Response → Option (List ℕ)
located rules (Requests q) w =
    if w.code == 65 then beside rules.base q.target (segments w.location.path) w.location.query
    else None
located rules (Refuses cause status) w = None
