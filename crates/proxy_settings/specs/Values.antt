-- What values of a file stand for.
use Rattle.std.specs.Prelude.{ℕ, ℤ, pos, negsuc, Bool, true, false, ◌&&◌, ◌||◌, ◌==◌, nat_le, nat_lt, nat_eq, is_none, List, length, Option, Some, None, Result, Ok, Err, codes, if◌then◌else◌}
use Rattle.std.specs.Option.{option_and_then, option_map}
use Rattle.std.specs.List.{list_all, list_any, starts_with, ends_with}
use Rattle.std.specs.Char.{is_ascii_alphanumeric}
use Rattle.std.specs.Str.{bytes_eq, str_to_ascii_lowercase}
use Rattle.std.specs.declared.net.ipv4_addr.Ipv4Addr.{Ipv4Addr}
use Rattle.std.specs.declared.net.ipv6_addr.Ipv6Addr.{Ipv6Addr}
use Rattle.std.specs.declared.net.ip_addr.IpAddr.{IpAddr}
use Rattle.std.specs.declared.net.ip_addr.IpAddr.TheVariants as Ip
use Rattle.limits.specs.declared.TheConstants.{MAX_BODY_LEN}
use Rattle.toml.specs.Data.{Data, as_str, as_integer}
use Rattle.uri_map.specs.declared.peer.Peer.{Peer}
pub use Rattle.uri_map.specs.Authority.{ipv4_of, ipv6_of}
use Rattle.uri_map.specs.Peers.{peer_named}
use Rattle.media_map.specs.declared.fault.MediaFault.{MediaFault}
use Rattle.media_map.specs.Formats.{format_at}
use Rattle.proxy_settings.specs.declared.by.By.{By}
use Rattle.proxy_settings.specs.declared.by.By.TheVariants.{CborJson, JsonCbor, OctetsHex}
use Rattle.proxy_settings.specs.declared.kind.Kind.{Kind}
use Rattle.proxy_settings.specs.declared.kind.Kind.TheVariants.{Cell, Counter}

-- a text that passes
abbrev pub passing : (List ℕ → Bool) → List ℕ → Option (List ℕ)
passing p text = if p text then Some text else None

abbrev pub text_that : (List ℕ → Bool) → Data → Option (List ℕ)
text_that p d = option_and_then (passing p) (as_str d)

-- a whole number from 0 to the greatest
abbrev pub up_to : ℕ → ℤ → Option ℕ
up_to most (pos n) = if nat_le n most then Some n else None
up_to most (negsuc n) = None

abbrev pub number_at : ℕ → Data → Option ℕ
number_at most d = option_and_then (up_to most) (as_integer d)

-- an address and a port, as `192.0.2.1:5683` or `[2001:db8::1]:5683`
abbrev pub endpoint_at : Data → Option Peer
endpoint_at d = option_and_then peer_named (as_str d)

-- an address, as `192.0.2.1` or `2001:db8::1`; an IPv6 address has no dots
abbrev pub undotted : List ℕ → Option Ipv6Addr
undotted text = if list_any (λ b. b == 46) text then None else ipv6_of text

abbrev pub either_address : Option Ipv4Addr → Option Ipv6Addr → Option IpAddr
either_address (Some a) other = Some (Ip.V4 a)
either_address None other = option_map (λ a. Ip.V6 a) other

unfoldable pub address_named : List ℕ → Option IpAddr
address_named text = either_address (ipv4_of text) (undotted text)

abbrev pub address_at : Data → Option IpAddr
address_at d = option_and_then address_named (as_str d)

-- a base: letters, digits, `-`, `.`, `_`, `~` and `/`, the first and the last of which is `/`
unfoldable pub is_base_byte : ℕ → Bool
is_base_byte b = is_ascii_alphanumeric b || list_any (λ c. b == c) (codes "-._~/")

unfoldable pub is_base : List ℕ → Bool
is_base text = starts_with nat_eq text (codes "/") && ends_with nat_eq text (codes "/")
    && list_all is_base_byte text

-- a host's name that a target can have: not empty, no longer than a Uri-Host (RFC 7252
-- section 5.10), and no address
unfoldable pub is_host : List ℕ → Bool
is_host text = nat_lt 0 (length text) && nat_le (length text) 255 && is_none (ipv4_of text)

-- the name in lower case, as targets have it
abbrev pub host_at : Data → Option (List ℕ)
host_at d = option_map str_to_ascii_lowercase (text_that is_host d)

-- a media type, as a Content-Type may name it (RFC 9110, section 8.3.1)
abbrev pub names_media : Result (Option ℕ) MediaFault → Bool
names_media (Ok (Some format)) = true
names_media (Ok None) = false
names_media (Err fault) = false

unfoldable pub is_media : List ℕ → Bool
is_media text = names_media (format_at (record { loose = true; pass = true }) text)

abbrev pub by_named : List ℕ → Option By
by_named text =
    if bytes_eq text (codes "cbor-json") then Some CborJson
    else (if bytes_eq text (codes "json-cbor") then Some JsonCbor
    else (if bytes_eq text (codes "octets-hex") then Some OctetsHex else None))

abbrev pub by_at : Data → Option By
by_at d = option_and_then by_named (as_str d)

abbrev pub kind_named : List ℕ → Option Kind
kind_named text =
    if bytes_eq text (codes "cell") then Some Cell
    else (if bytes_eq text (codes "counter") then Some Counter else None)

abbrev pub kind_at : Data → Option Kind
kind_at d = option_and_then kind_named (as_str d)

-- at most 65,536 bytes
abbrev pub is_state : List ℕ → Bool
is_state text = nat_le (length text) MAX_BODY_LEN
