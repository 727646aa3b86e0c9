-- The host and the port of an authority (RFC 3986, section 3.2; RFC 7252, section 6.4).
use Rattle.std.specs.Prelude.{ℕ, Bool, ◌&&◌, ◌||◌, ◌==◌, nat_le, List, [], ◌∷◌, length, Option, Some, None, option_map, option_and_then, Result, Ok, Err, if◌then◌else◌}
use Rattle.std.specs.List.{before_first, list_any}
use Rattle.std.specs.Option.{ok_or}
use Rattle.std.specs.Str.{is_utf8, all_ascii_digits, str_to_ascii_lowercase}
use Rattle.std.specs.Str.Parse.{digits_value}
use Rattle.std.specs.Net.Reader.{read_ipv4, read_ipv6, whole_value}
use Rattle.std.specs.declared.net.ipv4_addr.Ipv4Addr.{Ipv4Addr}
use Rattle.std.specs.declared.net.ipv6_addr.Ipv6Addr.{Ipv6Addr}
use Rattle.percent_encoding.specs.Percent.{percent_decode}
use Rattle.uri_map.specs.declared.fault.UriFault.{UriFault}
use Rattle.uri_map.specs.declared.fault.UriFault.TheVariants as Fault
use Rattle.uri_map.specs.declared.target.Host.{Host}
use Rattle.uri_map.specs.declared.target.Host.TheVariants.{Name, V4, V6}
use Rattle.uri_map.specs.Marks.{ends_address}
use Rattle.uri_map.specs.Steps.{◌>>=◌}
use Rattle.uri_map.specs.Splitting.{from_first}
use Rattle.uri_map.specs.Escapes.{well_escaped}

-- The address that the whole text writes: four numbers of 0 to 255 without leading zeros.
unfoldable pub ipv4_of : List ℕ → Option Ipv4Addr
ipv4_of text = option_map (λ octets. record { octets = octets }) (whole_value (read_ipv4 text))

-- The address that the whole text writes (RFC 4291, section 2.2).
unfoldable pub ipv6_of : List ℕ → Option Ipv6Addr
ipv6_of text =
    option_map (λ segments. record { segments = segments }) (whole_value (read_ipv6 text))

-- what stands after `[` or `%5B`
abbrev pub behind_opening : List ℕ → Option (List ℕ)
behind_opening [] = None
behind_opening (a ∷ []) = if a == 91 then Some [] else None
behind_opening (a ∷ b ∷ []) = if a == 91 then Some (b ∷ []) else None
behind_opening (a ∷ b ∷ c ∷ rest) =
    if a == 91 then Some (b ∷ c ∷ rest)
    else (if a == 37 && b == 53 && (c == 66 || c == 98) then Some rest else None)

-- what stands after `]` or `%5D`
abbrev pub behind_closing : List ℕ → Option (List ℕ)
behind_closing [] = None
behind_closing (a ∷ []) = if a == 93 then Some [] else None
behind_closing (a ∷ b ∷ []) = if a == 93 then Some (b ∷ []) else None
behind_closing (a ∷ b ∷ c ∷ rest) =
    if a == 93 then Some (b ∷ c ∷ rest)
    else (if a == 37 && b == 53 && (c == 68 || c == 100) then Some rest else None)

-- the address at the front, and what stands after its digits and colons
unfoldable pub address_at : List ℕ → Option (Ipv6Addr × List ℕ)
address_at text =
    option_map (λ a. (a, from_first ends_address text)) (ipv6_of (before_first ends_address text))

abbrev pub closed : Ipv6Addr × List ℕ → Option (Ipv6Addr × List ℕ)
closed x = option_map (λ rest. (x.0, rest)) (behind_closing x.1)

-- the address in brackets at the front, and what stands after it
unfoldable pub bracketed_at : List ℕ → Option (Ipv6Addr × List ℕ)
bracketed_at text =
    option_and_then (λ inner. option_and_then closed (address_at inner)) (behind_opening text)

-- the number that decimal digits write
abbrev pub decimal : List ℕ → Option ℕ
decimal digits = if all_ascii_digits digits then Some (digits_value 10 digits) else None

-- a port from 1 to 65535
abbrev pub in_range : ℕ → Option ℕ
in_range n = if nat_le 1 n && nat_le n 65535 then Some n else None

-- the port that 1 to 5 digits write
abbrev pub port : List ℕ → Option ℕ
port digits =
    if nat_le 1 (length digits) && nat_le (length digits) 5
    then option_and_then in_range (decimal digits) else None

-- the port that is written after a colon
abbrev pub written_port : List ℕ → Option ℕ
written_port [] = None
written_port (b ∷ digits) = if b == 58 then port digits else None

-- the port that is written, or where nothing is, that of CoAP (RFC 7252, section 6.1)
abbrev pub port_at : List ℕ → Result ℕ UriFault
port_at [] = Ok 5683
port_at (b ∷ rest) = ok_or (written_port (b ∷ rest)) Fault.Authority

-- the escaped name in lower case
abbrev pub lowered : List ℕ → List ℕ
lowered text = str_to_ascii_lowercase (percent_decode text)

abbrev pub is_name : List ℕ → Bool
is_name name = nat_le 1 (length name) && nat_le (length name) 255 && is_utf8 name

-- a name is an address where it writes one
abbrev pub host_of_name : List ℕ → Option Ipv4Addr → Host
host_of_name name None = Name name
host_of_name name (Some address) = V4 address

-- the host that a text without brackets names
unfoldable pub named_at : List ℕ → Result Host UriFault
named_at text =
    if well_escaped text && is_name (lowered text)
    then Ok (host_of_name (lowered text) (ipv4_of (lowered text))) else Err Fault.Authority

-- What stands before the first colon is a name, and after it a port.
unfoldable pub name_and_port : List ℕ → Result (Host × ℕ) UriFault
name_and_port text = do
  port ← port_at (from_first (λ b. b == 58) text)
  host ← named_at (before_first (λ b. b == 58) text)
  Ok (host, port)

abbrev pub host_and_port : Option (Ipv6Addr × List ℕ) → List ℕ → Result (Host × ℕ) UriFault
host_and_port None text = name_and_port text
host_and_port (Some x) text = port_at x.1 >>= λ port. Ok (V6 x.0, port)

-- An address in brackets or a name, and a port. There is no user information.
unfoldable pub authority_at : List ℕ → Result (Host × ℕ) UriFault
authority_at text =
    if list_any (λ b. b == 64) text then Err Fault.Authority
    else host_and_port (bracketed_at text) text
