-- Options that are written into a datagram one after the other (RFC 7252 section 3.1).
use Rattle.std.specs.Prelude.{◌≡◌, ℕ, List, [], ◌∷◌, ◌++◌, Option}
use Rattle.coap_codec.specs.Spelling.{Entry, SpellsOptions}
use Rattle.uri_map.specs.declared.target.Target.{Target}
use Rattle.uri_map.specs.Limits.{options_with}
use Rattle.ask_model.specs.Requests.{optional}

-- the number of the last option, or the one before where there is none
abbrev pub last_number : ℕ → List Entry → ℕ
last_number before [] = before
last_number before (o ∷ os) = last_number o.number os

-- new is old with the bytes of the options after it, which follow one of the number before; the
-- number of the last is this
pub record AreAppended (before : ℕ) (os : List Entry) (last : ℕ) (old new : List ℕ) : Type 0 where
  pub text : List ℕ
  pub is : new ≡ old ++ text
  pub spelled : SpellsOptions before os text
  pub ends : last_number before os ≡ last

-- what stands behind the host of a request: each Uri-Path, Content-Format, each Uri-Query, and
-- Accept
abbrev pub resource_options : Target → Option ℕ → Option ℕ → List Entry
resource_options t format accept =
    options_with 11 t.path
    ++ (optional 12 format ++ (options_with 15 t.query ++ optional 17 accept))
