-- What the proxy asks a server to learn whether what it has of it is valid still.
use Rattle.std.specs.Prelude.{◌≡◌, ℕ, true, false, List, Option, Some, None}
use Rattle.coap_codec.specs.Spelling.{Spells}
use Rattle.ask_model.specs.Requests.{Sense, Requests, Refuses, validate_message}
use Rattle.ask_model.specs.Sharing.{is_get}

-- For a GET this is sent with the ETag of what the proxy has (RFC 7252 section 5.10.6.2), and for
-- any other request nothing.
abbrev pub IsValidating : List ℕ → Sense → ℕ → List ℕ → Option (List ℕ) → Type 0
IsValidating etag (Requests q) mid token None = is_get q ≡ false
IsValidating etag (Requests q) mid token (Some bytes) =
    (is_get q ≡ true) × Spells (validate_message etag q mid token) bytes
IsValidating etag (Refuses cause status) mid token sent = sent ≡ None
