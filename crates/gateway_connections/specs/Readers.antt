-- What a reader holds of a connection's bytes.
use Rattle.std.specs.Prelude.{◌≡◌, ℕ, ◌+◌, ◌-◌, ◌<◌, true, false, vec_len}
use Rattle.std.specs.Prelude.{List, [], take, drop, length, Option, Some, None, Result, Ok, Err}
use Rattle.http_edge.specs.declared.memory.Memory.{Memory}
use Rattle.http_edge.specs.declared.request.Incoming.{Incoming}
use Rattle.http_edge.specs.Reading.{Item, First, closes}
use Rattle.http_edge.specs.Edges.{Stands, is_told, item, unread_len}
use Rattle.gateway_connections.specs.declared.reader.Reader.{Reader}
use Rattle.gateway_connections.specs.Inlets.{left_by}

-- the bytes that aren't asked yet
abbrev pub text_of : Reader → List ℕ
text_of r = drop r.start r.bytes.items

-- those of them that the edge was given
abbrev pub given_of : Reader → List ℕ
given_of r = take (r.taken - r.start) (text_of r)

-- how many wait unread: those that the edge didn't read, and those that it has no room for
abbrev pub unread_of : Reader → ℕ
unread_of r = unread_len r.edge + (vec_len r.bytes - r.taken)

-- The edge stands for what it was given.
abbrev pub IsInStep : Reader → Type 0
IsInStep r = Stands r.edge (given_of r)

-- It was given all bytes, and waits for more.
abbrev pub Rests : Reader → Type 0
Rests r = (drop r.taken r.bytes.items ≡ []) × (r.edge.waits ≡ true)

-- The item is the first of the text, and what stands after it is left, all of it unread: less,
-- where it isn't the last.
pub record ReadsItem (i : Item) (text : List ℕ) (r : Reader) : Type 0 where
  pub rest : List ℕ
  pub first : First text i rest
  pub left : text_of r ≡ left_by i rest
  pub counted : unread_of r ≡ length (text_of r)
  pub shorter : closes i ≡ false → length (text_of r) < length text
  pub untold : is_told r.edge ≡ false

-- Where nothing is read, the text stays.
abbrev pub ReadsNext : Result (Option Incoming) Memory → List ℕ → Reader → Type 0
ReadsNext (Ok (Some i)) text r = ReadsItem (item i) text r
ReadsNext (Ok None) text r = text_of r ≡ text
ReadsNext (Err m) text r = text_of r ≡ text
