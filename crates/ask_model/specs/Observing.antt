-- Whose resources the proxy may observe (RFC 7641 section 1.2), and what it asks for that.
use Rattle.std.specs.Prelude.{◌≡◌, ℕ, Bool, true, false, ◌&&◌, List, Option, Some, None}
use Rattle.std.specs.List.{list_any}
use Rattle.std.specs.Str.{bytes_eq}
use Rattle.coap_codec.specs.Spelling.{Spells}
use Rattle.uri_map.specs.declared.target.Host.{Host}
use Rattle.uri_map.specs.declared.target.Host.TheVariants.{Name, V4, V6}
use Rattle.ask_model.specs.Requests.{CoapRequest, Sense, Requests, Refuses, observe_message}
use Rattle.ask_model.specs.Sharing.{is_get}
use Rattle.ask_model.specs.Views.{Rules}

-- It is one of these names: an address is none.
abbrev pub is_named : List (List ℕ) → Host → Bool
is_named names (Name name) = list_any (bytes_eq name) names
is_named names (V4 address) = false
is_named names (V6 address) = false

-- what is read of a server whose resources are to be observed
abbrev pub may_observe : Rules → CoapRequest → Bool
may_observe s q = is_get q && is_named s.observed q.target.host

-- Of such a one this is sent to be told of changes, and of any other nothing.
abbrev pub IsObserving : Rules → Sense → ℕ → List ℕ → Option (List ℕ) → Type 0
IsObserving s (Requests q) mid token None = may_observe s q ≡ false
IsObserving s (Requests q) mid token (Some bytes) =
    (may_observe s q ≡ true) × Spells (observe_message q mid token) bytes
IsObserving s (Refuses cause status) mid token sent = sent ≡ None
