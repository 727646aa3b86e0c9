-- The text under which a target is hosted (RFC 8075, section 5.3).
use Rattle.std.specs.Prelude.{ℕ, ◌==◌, List, [], ◌∷◌, ◌++◌, codes, decimal, flat_map, if◌then◌else◌}
use Rattle.std.specs.Net.Addr.{ipv4_octets, ipv6_segments}
use Rattle.std.specs.Net.Text.{ipv4_text, groups_text}
use Rattle.percent_encoding.specs.declared.ascii_set.AsciiSet.{AsciiSet}
use Rattle.percent_encoding.specs.Percent.{percent_encode}
use Rattle.uri_map.specs.declared.hosting.TheConstants.{SEGMENT, ARGUMENT}
use Rattle.uri_map.specs.declared.target.Host.{Host}
use Rattle.uri_map.specs.declared.target.Host.TheVariants.{Name, V4, V6}
use Rattle.uri_map.specs.declared.target.Target.{Target}

-- an IPv6 address has all eight groups, in escaped brackets
abbrev pub host_text : Host → List ℕ
host_text (Name name) = percent_encode SEGMENT name
host_text (V4 address) = ipv4_text (ipv4_octets address)
host_text (V6 address) = codes "%5B" ++ groups_text (ipv6_segments address) ++ codes "%5D"

-- the port, unless it is that of CoAP
abbrev pub port_text : ℕ → List ℕ
port_text port = if port == 5683 then [] else codes ":" ++ decimal port

-- each text, escaped, after the byte
abbrev pub texts_behind : AsciiSet → ℕ → List (List ℕ) → List ℕ
texts_behind set mark texts = flat_map (λ text. mark ∷ percent_encode set text) texts

-- `?` before the first argument, `&` before each other
abbrev pub query_text : List (List ℕ) → List ℕ
query_text [] = []
query_text (first ∷ others) = 63 ∷ percent_encode ARGUMENT first ++ texts_behind ARGUMENT 38 others

abbrev pub hosting : List ℕ → Target → List ℕ
hosting base t =
    base ++ codes "coap://" ++ host_text t.host ++ port_text t.port
    ++ texts_behind SEGMENT 47 t.path ++ query_text t.query
