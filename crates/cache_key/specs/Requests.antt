-- Which requests a stored response may answer: those that match the one that it answered (RFC 7252
-- section 5.6).
use Rattle.std.specs.Prelude.{◌≡◌, ◌↔◌, ℕ, ◌/◌, ◌%◌, ◌++◌, not, List, [], ◌∷◌, filter, Option, Some, None, nat_lt, ◌==◌, if◌then◌else◌}
use Rattle.std.specs.declared.net.ip_addr.IpAddr.TheVariants as Ip
use Rattle.coap_codec.specs.Spelling.{Entry}
use Rattle.coap_codec.specs.Options.{is_no_cache_key_number}
use Rattle.uri_map.specs.Limits.{uri_options, option_with}
use Rattle.uri_map.specs.declared.peer.Peer.{Peer}
use Rattle.uri_map.specs.declared.target.Host.{Host}
use Rattle.uri_map.specs.declared.target.Host.TheVariants.{Name, V4, V6}
use Rattle.uri_map.specs.declared.target.Target.{Target}
use Rattle.cache_key.specs.Keys.{key_of}

-- a number of a format as an option's value, without leading zeros (RFC 7252 section 3.2)
abbrev pub format_bytes : ℕ → List ℕ
format_bytes n =
    if n == 0 then [] else (if nat_lt n 256 then n ∷ [] else (n / 256) ∷ (n % 256) ∷ [])

-- Accept is 17.
abbrev pub accept_options : Option ℕ → List Entry
accept_options None = []
accept_options (Some n) = option_with 17 (format_bytes n) ∷ []

-- the options of a GET of the target, with that Accept (RFC 7252 section 5.10)
abbrev pub get_options : Target → Option ℕ → List Entry
get_options t accept = uri_options t ++ accept_options accept

-- those that have to match: all but the ones that are no part of the cache key (RFC 7252 section
-- 5.4.6)
abbrev pub matched : List Entry → List Entry
matched os = filter (λ (o : Entry). not (is_no_cache_key_number o.number)) os

-- A target that gives an address is served there.
abbrev pub IsServedAt : Host → Peer → Type 0
IsServedAt (Name name) p = Unit {0}
IsServedAt (V4 a) p = p.address ≡ Ip.V4 a
IsServedAt (V6 a) p = p.address ≡ Ip.V6 a

-- Two GETs have one key exactly where they ask the same server with equal options that have to
-- match.
abbrev pub KeysMatchRequests : Type 0
KeysMatchRequests =
    (p q : Peer) (t u : Target) (a b : Option ℕ) → IsServedAt t.host p → IsServedAt u.host q
    → (key_of p t a ≡ key_of q u b)
    ↔ ((p ≡ q) × (matched (get_options t a) ≡ matched (get_options u b)))
