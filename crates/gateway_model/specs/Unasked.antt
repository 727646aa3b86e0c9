-- What of the bytes of connections isn't asked yet.
use Rattle.std.specs.Prelude.{◌≡◌, ◌⊎◌, ⊤, ℕ, ◌+◌, ◌==◌, Bool, true, false, not, if◌then◌else◌, List, [], ◌∷◌, ◌++◌, length, map, filter, Option, Some, None}
use Rattle.http_edge.specs.Reading.{Item, First, closes}
use Rattle.http_edge.specs.Edges.{Expects, LeavesBytes}
use Rattle.gateway_connections.specs.Inlets.{Inlet}
use Rattle.gateway_connections.specs.Reads.{IsIdle}

-- An open connection: its number; its bytes that aren't asked yet; whether its client was told to
-- go on with the request that is next; whether the last request was read, after which there are
-- none; and how many count as unread where they are read as they come in.
pub record Unasked : Type 0 where
  pub number : ℕ
  pub text : List ℕ
  pub told : Bool
  pub closing : Bool
  pub unread : ℕ

abbrev pub unasked_of : Inlet → Unasked
unasked_of x = record {
  number = x.number;
  text = x.text;
  told = x.told;
  closing = x.closing;
  unread = x.unread;
}

abbrev pub unasked_in : List Inlet → List Unasked
unasked_in xs = map unasked_of xs

-- that of the connection, if it is open
abbrev pub unasked_at : ℕ → List Unasked → Option Unasked
unasked_at c [] = None
unasked_at c (x ∷ xs) = if x.number == c then Some x else unasked_at c xs

-- a connection that opens: no bytes came yet
abbrev pub no_bytes : ℕ → Unasked
no_bytes c = record { number = c; text = []; told = false; closing = false; unread = 0 }

abbrev pub without : ℕ → List Unasked → List Unasked
without c xs = filter (λ (x : Unasked). not (x.number == c)) xs

-- the connection changes so, and the others stay
abbrev pub changed_at : ℕ → (Unasked → Unasked) → List Unasked → List Unasked
changed_at c change xs = map (λ (x : Unasked). if x.number == c then change x else x) xs

-- Bytes come after those that wait; after the last request none are kept.
abbrev pub extended : List ℕ → Unasked → Unasked
extended bytes x =
    if x.closing then x
    else record x { text = x.text ++ bytes; unread = x.unread + length bytes }

abbrev pub taken : ℕ → List ℕ → List Unasked → List Unasked
taken c bytes xs = changed_at c (extended bytes) xs

-- what an item leaves
abbrev pub left_after : ℕ → Item → List ℕ → Unasked
left_after c i rest = record {
  number = c;
  text = if closes i then [] else rest;
  told = false;
  closing = closes i;
  unread = length (if closes i then [] else rest);
}

-- The item that stands first in the text of the connection is taken off it.
pub record TakesItem (c : ℕ) (i : Item) (old new : List Unasked) : Type 0 where
  pub before : Unasked
  pub stands : unasked_at c old ≡ Some before
  pub goes_on : before.closing ≡ false
  pub rest : List ℕ
  pub first : First before.text i rest
  pub left : new ≡ changed_at c (λ (x : Unasked). left_after c i rest) old

-- The client that waits with its body is told to go on (RFC 9110 section 10.1.1), once for a
-- request. Just the bytes that the text leaves count as unread.
pub record TellsToGoOn (c : ℕ) (old new : List Unasked) : Type 0 where
  pub before : Unasked
  pub stands : unasked_at c old ≡ Some before
  pub goes_on : before.closing ≡ false
  pub untold : before.told ≡ false
  pub expects : Expects before.text
  pub idle : IsIdle before.text
  pub unread : ℕ
  pub counted : LeavesBytes before.text unread
  pub left :
      new ≡ changed_at c (λ (x : Unasked). record before { told = true; unread = unread }) old

-- Only how many bytes of the connection count as unread changes.
pub record Recounted (c : ℕ) (old new : List Unasked) : Type 0 where
  pub before : Unasked
  pub stands : unasked_at c old ≡ Some before
  pub unread : ℕ
  pub left : new ≡ changed_at c (λ (x : Unasked). record before { unread = unread }) old

abbrev pub Recounts : ℕ → List Unasked → List Unasked → Type 0
Recounts c old new = (new ≡ old) ⊎ Recounted c old new

-- Nothing of what the connection's bytes ask is left, nor a client that could be told to go on; and
-- just the bytes that its text leaves count as unread.
abbrev pub IsReadOut : Option Unasked → Type 0
IsReadOut None = ⊤
IsReadOut (Some x) =
    (x.closing ≡ true)
    ⊎ (IsIdle x.text × (Expects x.text → x.told ≡ true) × LeavesBytes x.text x.unread)
