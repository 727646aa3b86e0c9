-- What the bytes of a connection ask next (RFC 9112, sections 2.2 and 9.3.2).
use Rattle.std.specs.Prelude.{◌≡◌, ◌⊎◌, ℕ, ◌+◌, ◌<◌, true, false, if◌then◌else◌, length, List, []}
use Rattle.std.specs.Prelude.{Some, None, Result, Ok, Err}
use Rattle.http_edge.specs.declared.memory.Memory.{Memory}
use Rattle.http_edge.specs.Reading.{Item, First, HasNone, closes}
use Rattle.http_edge.specs.Edges.{Waits, Expects, LeavesBytes, item}
use Rattle.gateway_connections.specs.declared.inbox.Next.{Next}
use Rattle.gateway_connections.specs.declared.inbox.Next.TheVariants as N
use Rattle.gateway_connections.specs.Inlets.{Inlet, inlet_at, with_inlet, left_by}

-- Nothing of the text can be asked: there is none, no request in it is whole, or the parser can't
-- say more yet.
abbrev pub IsIdle : List ℕ → Type 0
IsIdle text = (text ≡ []) ⊎ (HasNone text ⊎ Waits text)

-- what is left to read at most: it falls with each request
abbrev pub work_of : Inlet → ℕ
work_of x = length x.text + (if x.closing then 0 else 1)

abbrev pub inlet_after : ℕ → Item → List ℕ → Inlet
inlet_after n i rest = record {
  number = n;
  text = left_by i rest;
  told = false;
  closing = closes i;
  unread = length (left_by i rest);
}

-- The first request of the text is asked, or the refusal of what stands in its place, and the rest
-- is left, all of it unread.
pub record Asks (i : Item) (x y : Inlet) : Type 0 where
  pub rest : List ℕ
  pub goes_on : x.closing ≡ false
  pub first : First x.text i rest
  pub left : y ≡ inlet_after x.number i rest
  pub less : work_of y < work_of x

-- Nothing can be asked, and the client is told to go on, which it wasn't before. Just the bytes
-- that the text leaves count as unread.
pub record Continues (x y : Inlet) : Type 0 where
  pub goes_on : x.closing ≡ false
  pub idle : IsIdle x.text
  pub expects : Expects x.text
  pub untold : x.told ≡ false
  pub counted : LeavesBytes x.text y.unread
  pub left : y ≡ record x { told = true; unread = y.unread }

-- Nothing can be asked, and the client was told to go on where it expects that. Just the bytes that
-- the text leaves count as unread.
pub record AwaitsMore (x y : Inlet) : Type 0 where
  pub idle : IsIdle x.text
  pub told : Expects x.text → x.told ≡ true
  pub counted : LeavesBytes x.text y.unread

-- All stays but the count of the unread.
abbrev pub Stays : Inlet → Inlet → Type 0
Stays x y = y ≡ record x { unread = y.unread }

-- The last request was read, or more bytes are awaited.
pub record Settles (x y : Inlet) : Type 0 where
  pub why : (x.closing ≡ true) ⊎ AwaitsMore x y
  pub left : Stays x y

abbrev pub ReadsInlet : Result Next Memory → Inlet → Inlet → Type 0
ReadsInlet (Ok (N.Request incoming)) x y = Asks (item incoming) x y
ReadsInlet (Ok N.Continue) x y = Continues x y
ReadsInlet (Ok N.Nothing) x y = Settles x y
ReadsInlet (Err m) x y = Stays x y

-- The connection of that number stands, and changes so; the others stay.
pub record ChangesAt (Goes : Inlet → Inlet → Type 0) (n : ℕ) (old new : List Inlet) : Type 0 where
  pub before : Inlet
  pub after : Inlet
  pub stands : inlet_at n old ≡ Some before
  pub goes : Goes before after
  pub left : new ≡ with_inlet after old

-- No connection has the number, and all stays.
abbrev pub IsAbsent : ℕ → List Inlet → List Inlet → Type 0
IsAbsent n old new = (inlet_at n old ≡ None) × (new ≡ old)

-- what reading next on a connection does to the connections
abbrev pub ReadsOf : ℕ → Result Next Memory → List Inlet → List Inlet → Type 0
ReadsOf n (Ok (N.Request incoming)) old new = ChangesAt (Asks (item incoming)) n old new
ReadsOf n (Ok N.Continue) old new = ChangesAt Continues n old new
ReadsOf n (Ok N.Nothing) old new = IsAbsent n old new ⊎ ChangesAt Settles n old new
ReadsOf n (Err m) old new = ChangesAt Stays n old new
