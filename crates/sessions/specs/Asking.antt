-- What a session asks of the bytes that come in on its connection (RFC 9112 sections 2.2, 9.3.2).
use Rattle.std.specs.Prelude.{◌≡◌, ◌⊎◌, ⊤, ℕ, Bool, true, false, List, [], ◌∷◌, ◌++◌}
use Rattle.http_edge.specs.Edges.{Waits}
use Rattle.http_edge.specs.Reading.{Item, asked, bad, HasNone}
use Rattle.media_map.specs.declared.form.Form.{Form}
use Rattle.ask_model.specs.Requests.{Came, Whole, Bad}
use Rattle.ask_model.specs.Maps.{Maps}
use Rattle.ask_model.specs.Views.{Mapping, Rules}
use Rattle.http_mapping.specs.Limits.{limited}

-- what an item of a text brings: a request, too large a one, or bytes that are none
abbrev pub came_at : Item → Came
came_at (asked r) = limited (Whole r)
came_at (bad kind) = limited (Bad kind)

-- The item as the last one of its connection, where it is made that: its answer says that the
-- connection is closed then (RFC 9112 section 9.6).
abbrev pub as_last : Bool → Item → Item
as_last true (asked r) = asked (record r { close = true })
as_last true (bad kind) = bad kind
as_last false i = i

-- What is asked is what the item brings, with its meaning by these rules; and it bears these rules,
-- by which a Location of its answer is told.
pub record IsAskOf (holds : Form → Form → List ℕ → List ℕ → Type 0)
    (takes : Form → Form → List ℕ → Type 0) (rules : Rules) (i : Item) (m : Mapping) : Type 0 where
  pub came : m.came ≡ came_at i
  pub meant : Maps holds takes rules m.came m.sense
  pub by_rules : m.rules ≡ rules

-- Nothing can be asked of the text: no request is whole, and the parser can't say more yet.
abbrev pub IsReadOut : List ℕ → Type 0
IsReadOut rest = HasNone rest ⊎ Waits rest

-- What reads gave, one after the other. A read that gives nothing is the end of what comes in.
abbrev pub IsFilled : List ℕ → Type 0
IsFilled bytes = bytes ≡ [] → ⊥

-- It ends once: nothing is read after the end.
abbrev pub EndOnce : List (List ℕ) → Type 0
EndOnce [] = ⊤
EndOnce (bytes ∷ []) = ⊤
EndOnce (bytes ∷ next ∷ reads) = IsFilled bytes × EndOnce (next ∷ reads)

-- The last of them met the end.
abbrev pub HaveEnded : List (List ℕ) → Type 0
HaveEnded reads = (front : List (List ℕ)) × (reads ≡ front ++ [] ∷ [])
