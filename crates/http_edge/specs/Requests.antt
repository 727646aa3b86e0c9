-- A request as plain data, and what its head says of it.
use Rattle.std.specs.Prelude.{ℕ, ◌≤◌, List, [], length, All, map, flat_map, Bool, ◌==◌, ◌&&◌, ◌||◌, codes, if◌then◌else◌}
use Rattle.http_header.specs.FieldValue.{FieldValue, plain_value}
use Rattle.http_header.specs.HeaderMap.{append_all}
use Rattle.http_header.specs.Token.{lowercase}
use Rattle.httparse.specs.Grammar.{RequestHead, IsToken, AllPass, is_value_byte}
use Rattle.httparse.specs.Spans.{name_and_value, header_bytes}
use Rattle.httparse.specs.declared.spans.HeaderSpan.{HeaderSpan}
use Rattle.http_edge.specs.declared.request.Version.{Version}
use Rattle.http_edge.specs.declared.request.Version.TheVariants.{Http10, Http11}
use Rattle.http_edge.specs.declared.request.Request.{Request}
use Rattle.http_edge.specs.Lists.{lists}

-- A request without where it lies in memory.
pub record Content : Type 0 where
  pub method : List ℕ
  pub target : List ℕ
  pub version : Version
  pub fields : List (List ℕ × List FieldValue)
  pub body : List ℕ
  pub close : Bool

abbrev pub content : Request → Content
content r = record {
  method = r.method.items;
  target = r.target.items;
  version = r.version;
  fields = r.fields;
  body = r.body.items;
  close = r.close;
}

-- The version HTTP/1.minor.
abbrev pub version_of : ℕ → Version
version_of minor = if minor == 0 then Http10 else Http11

-- Fields as the map of them: appended in order, names in lower case.
abbrev pub fields_from : List (List ℕ × List ℕ) → List (List ℕ × List FieldValue)
fields_from fields = append_all [] (map (λ f. (lowercase f.0, plain_value f.1)) fields)

-- Their values, one after the other.
abbrev pub values_in : List (List ℕ × List ℕ) → List ℕ
values_in fields = flat_map (λ f. f.1) fields

-- The connection is closed after the answer (RFC 9112, section 9.3).
abbrev pub closes_of : ℕ → List (List ℕ × List ℕ) → Bool
closes_of minor fields = (minor == 0) || lists (codes "connection") (codes "close") fields

-- The client waits for 100 before it sends the body (RFC 9110, section 10.1.1).
abbrev pub expects_of : ℕ → List (List ℕ × List ℕ) → Bool
expects_of minor fields = (minor == 1) && lists (codes "expect") (codes "100-continue") fields

-- A request without its body.
abbrev pub request_from : List ℕ → List ℕ → ℕ → List (List ℕ × List ℕ) → Content
request_from method target minor fields = record {
  method = method;
  target = target;
  version = version_of minor;
  fields = fields_from fields;
  body = [];
  close = closes_of minor fields;
}

-- The request that a head begins, with that body.
abbrev pub content_of : RequestHead → List ℕ → Content
content_of h body =
    record (request_from h.method h.target h.minor (map name_and_value h.fields)) { body = body }

abbrev pub expects : RequestHead → Bool
expects h = expects_of h.minor (map name_and_value h.fields)

-- The name is a token, and the value has no control byte but the tab.
pub record IsFieldOf (f : List ℕ × List ℕ) : Type 0 where
  pub name : IsToken f.0
  pub short : length f.0 ≤ 8192
  pub value : AllPass is_value_byte f.1

abbrev pub AreFields : List ℕ → List HeaderSpan → Type 0
AreFields buf spans = All (λ s. IsFieldOf (header_bytes buf s)) spans
