-- What a world gives out, as plain data.
use Rattle.std.specs.Prelude.{◌≡◌, ℕ, Bool, true, false, List, [], ◌∷◌, flat_map, map}
use Rattle.journal_book.specs.Entries.{Written}
use Rattle.exchange_core.specs.declared.fault.RotateFault.{RotateFault}
use Rattle.exchange_core.specs.Values.{Outgoing, outgoing_of}
use Rattle.gateway_model.specs.declared.input.Output.{Output}
use Rattle.gateway_model.specs.declared.input.Output.TheVariants as Out

pub data Emission : Type 0 where
  -- bytes for a connection
  Says : ℕ → List ℕ → Emission
  -- a datagram
  Goes : Outgoing → Emission
  -- the proxy closes a connection
  Closed : ℕ → Emission
  -- memory is refused for what a connection asks, or is told, and the proxy closes it
  GivenUp : ℕ → Emission
  -- a client is turned away
  Turned : Emission
  -- the journal that was sealed, after which the proxy goes on with a new one
  Rotated : List Written → Emission
  -- why it isn't given out
  Unrotated : RotateFault → Emission

abbrev pub emission_of : {R : Type 0} → Output R → Emission
emission_of (Out.Bytes c bytes) = Says c bytes.items
emission_of (Out.Datagram d) = Goes (outgoing_of d)
emission_of (Out.Closed c) = Closed c
emission_of (Out.GivenUp c) = GivenUp c
emission_of Out.Turned = Turned
emission_of (Out.Rotated journal) = Rotated journal.entries
emission_of (Out.Unrotated fault) = Unrotated fault

abbrev pub emissions : {R : Type 0} → List (Output R) → List Emission
emissions outputs = map emission_of outputs

-- the connections that are given up
abbrev pub given_up_by : Emission → List ℕ
given_up_by (GivenUp c) = c ∷ []
given_up_by _ = []

abbrev pub given_up_in : List Emission → List ℕ
given_up_in out = flat_map given_up_by out

-- None is.
abbrev pub IsWhole : List Emission → Type 0
IsWhole out = given_up_in out ≡ []

abbrev pub is_end : Emission → Bool
is_end (GivenUp c) = true
is_end _ = false
