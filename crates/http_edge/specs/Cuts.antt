-- Any order of pieces that are fed and requests that are asked for.
use Rattle.std.specs.Prelude.{◌≡◌, ◌⊎◌, ℕ, List, [], ◌∷◌, ◌++◌, true, false, Option, Some, None, Result, Ok, Err, ⊤}
use Rattle.http_edge.specs.declared.memory.Memory.{Memory}
use Rattle.http_edge.specs.declared.request.Incoming.{Incoming}
use Rattle.http_edge.specs.declared.edge.Edge.{Edge}
use Rattle.http_edge.specs.Reading.{Item, First, closes, Reads}
use Rattle.http_edge.specs.Edges.{item, Stands, Steps, Waits}

-- The edge took those bytes.
abbrev pub Fed : Edge → List ℕ → Edge → Type 0
Fed old bytes new = ((text : List ℕ) → Stands old text → Stands new (text ++ bytes))
    × (new.ended ≡ old.ended)

-- The edge gave that.
abbrev pub Gave : Edge → Result (Option Incoming) Memory → Edge → Type 0
Gave old result new = ((text : List ℕ) → Stands old text → Steps result new text)
    × (old.ended ≡ true → (result ≡ Ok None) × (new.ended ≡ true))

-- A call, and the edge after it.
pub data Act : Type 0 where
  fed : List ℕ → Edge → Act
  gave : Result (Option Incoming) Memory → Edge → Act

abbrev pub Run : Edge → List Act → Type 0
Run e [] = ⊤
Run e (fed bytes new ∷ acts) = Fed e bytes new × Run new acts
Run e (gave result new ∷ acts) = Gave e result new × Run new acts

abbrev pub text_of : List Act → List ℕ
text_of [] = []
text_of (fed bytes new ∷ acts) = bytes ++ text_of acts
text_of (gave result new ∷ acts) = text_of acts

abbrev pub given : Result (Option Incoming) Memory → List Item → List Item
given (Ok (Some i)) others = item i ∷ others
given (Ok None) others = others
given (Err m) others = others

abbrev pub items_of : List Act → List Item
items_of [] = []
items_of (fed bytes new ∷ acts) = items_of acts
items_of (gave result new ∷ acts) = given result (items_of acts)

-- However the text is cut, what is given is the first of what it reads as.
abbrev pub HoweverCut : Type 0
HoweverCut =
    (e : Edge) (acts : List Act) (text : List ℕ) (items : List Item) (rest : List ℕ)
    → Stands e text → Run e acts
    → Reads (text ++ text_of acts) items rest
    → (others : List Item) × (items ≡ items_of acts ++ others)

-- The items stand at the front, one after the other, and each leaves the connection open.
abbrev pub Taken : List ℕ → List Item → List ℕ → Type 0
Taken text [] rest = rest ≡ text
Taken text (i ∷ items) rest = (behind : List ℕ) × First text i behind × (closes i ≡ false)
    × Taken behind items rest

-- The items are those that the text reads as, or the parser waits behind them.
abbrev pub ReadsAll : List ℕ → List Item → Type 0
ReadsAll text items = ((rest : List ℕ) × Reads text items rest)
    ⊎ ((rest : List ℕ) × Taken text items rest × Waits rest)

-- The last call answered None.
abbrev pub EndsInNone : List Act → Type 0
EndsInNone [] = ⊥
EndsInNone (fed bytes new ∷ acts) = EndsInNone acts
EndsInNone (gave result new ∷ []) = result ≡ Ok None
EndsInNone (gave result new ∷ act ∷ acts) = EndsInNone (act ∷ acts)

-- However the text is cut, nothing that can be read is held back.
abbrev pub NoneHeldBack : Type 0
NoneHeldBack =
    (e : Edge) (acts : List Act) (text : List ℕ) → Stands e text → Run e acts → EndsInNone acts
    → ReadsAll (text ++ text_of acts) (items_of acts)
