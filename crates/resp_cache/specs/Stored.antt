-- Responses that are stored, and how long they are fresh.
use Rattle.std.specs.Prelude.{ℕ, ◌+◌, ◌*◌, Bool, List, Option, unwrap_or, nat_lt, ◌==◌}
use Rattle.resp_cache.specs.declared.response.Response.{Response}

-- A response, the number of the entry that opened its exchange, the moment from which its freshness
-- counts, and the numbers of the entries that it rests on.
pub record Stored : Type 0 where
  pub response : Response
  pub opening : ℕ
  pub heard : ℕ
  pub list : List ℕ

abbrev pub stored_of : Response → ℕ → ℕ → List ℕ → Stored
stored_of r opening heard list =
    record { response = r; opening = opening; heard = heard; list = list }

-- in milliseconds; Max-Age is in seconds, and 60 where it is absent (RFC 7252 section 5.10.5)
abbrev pub lifetime : Option ℕ → ℕ
lifetime max_age = 1000 * unwrap_or max_age 60

-- It may be served at this moment (RFC 7252 section 5.6.1).
abbrev pub is_fresh : ℕ → Stored → Bool
is_fresh t s = nat_lt t (s.heard + lifetime s.response.max_age)

-- It isn't even fresh when it is heard.
abbrev pub has_no_lifetime : Response → Bool
has_no_lifetime r = lifetime r.max_age == 0

abbrev pub is_never_fresh : Stored → Bool
is_never_fresh s = has_no_lifetime s.response
