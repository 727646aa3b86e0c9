-- What connections ask is what their bytes spell, however these are cut: their requests, in order,
-- each with its meaning (RFC 9112 sections 2.2 and 9.3.2).
use Rattle.std.specs.Prelude.{◌≡◌, ◌⊎◌, ⊤, ℕ, ◌+◌, ◌≤◌, ◌==◌, Bool, true, false, if◌then◌else◌}
use Rattle.std.specs.Prelude.{List, [], ◌∷◌, ◌++◌, Option, Some, None}
use Rattle.http_edge.specs.Reading.{Item, ReadsFirst, AllOpen, closes}
use Rattle.media_map.specs.declared.form.Form.{Form}
use Rattle.ask_model.specs.Views.{Ask, Rules}
use Rattle.journal_book.specs.Entries.{Deed, Asks, Written}
use Rattle.gateway_model.specs.declared.input.Happening.{Happening}
use Rattle.gateway_model.specs.declared.input.Happening.TheVariants as H
use Rattle.gateway_model.specs.declared.input.When.{When}
use Rattle.gateway_model.specs.Acts.{Act, Served, DoesAll, came_at}
use Rattle.gateway_model.specs.Emissions.{Emission}
use Rattle.gateway_model.specs.Orders.{IsInOrder}
use Rattle.gateway_model.specs.Tellings.{IsMapped, terms_of}
use Rattle.gateway_model.specs.Unasked.{Unasked, unasked_at, no_bytes}

abbrev pub closes_last : List Item → Bool
closes_last [] = false
closes_last (i ∷ []) = closes i
closes_last (i ∷ j ∷ items) = closes_last (j ∷ items)

-- what entries ask on a connection, in order
abbrev pub asked_by : ℕ → Deed → List Ask
asked_by c (Asks d a) = if d == c then a ∷ [] else []
asked_by c _ = []

abbrev pub asked_on : ℕ → List Written → List Ask
asked_on c [] = []
asked_on c (w ∷ ws) = asked_by c w.deed ++ asked_on c ws

-- what an input brings a connection
abbrev pub brought_by : ℕ → Happening → List ℕ
brought_by c (H.Bytes d bytes) = if d == c then bytes.now else []
brought_by c _ = []

-- What these items leave of a text waits; or the last of them closes the connection, and nothing
-- more of it is read; or it isn't open any more.
abbrev pub IsLeft : List Item → List ℕ → Option Unasked → Type 0
IsLeft items rest None = ⊤
IsLeft items rest (Some u) =
    (AllOpen items × (u.closing ≡ false) × (u.text ≡ rest))
    ⊎ ((closes_last items ≡ true) × (u.closing ≡ true))

-- It isn't open, or its last request was read.
abbrev pub IsOver : Option Unasked → Type 0
IsOver None = ⊤
IsOver (Some u) = u.closing ≡ true

-- A connection opens, under the next number: no bytes of it came yet.
pub record Begins (c : ℕ) (x : Happening) (old new : Served) : Type 0 where
  pub wants : x ≡ H.Open
  pub fresh : c ≡ old.core.state.opened
  pub opened : new.core.state.opened ≡ c + 1
  pub waits : unasked_at c new.unasked ≡ Some (no_bytes c)

-- as what a request may be asked
module _ (IsMeaning : Ask → Type 0) where
  -- In order, each ask is what its item brings, as that may be asked.
  abbrev pub AreAsked : List Item → List Ask → Type 0
  AreAsked [] [] = ⊤
  AreAsked (i ∷ items) (a ∷ asks) = (a.came ≡ came_at i) × IsMeaning a × AreAsked items asks
  AreAsked _ _ = ⊥

  -- The entries ask the first items of the text on the connection.
  pub record AsksFirst (c : ℕ) (text : List ℕ) (more : List Written) (after : Option Unasked)
      : Type 0 where
    pub items : List Item
    pub rest : List ℕ
    pub reads : ReadsFirst text items rest
    pub asks : AreAsked items (asked_on c more)
    pub left : IsLeft items rest after

  -- At an input a connection asks of what waited and of what comes. After its last request it asks
  -- nothing; nor where it isn't open, but it may open then.
  pub record Heeds (c : ℕ) (x : Happening) (old new : Served) (more : List Written) : Type 0 where
    pub reads :
        (u : Unasked) → unasked_at c old.unasked ≡ Some u → u.closing ≡ false
        → AsksFirst c (u.text ++ brought_by c x) more (unasked_at c new.unasked)
    pub last :
        (u : Unasked) → unasked_at c old.unasked ≡ Some u → u.closing ≡ true
        → (asked_on c more ≡ []) × IsOver (unasked_at c new.unasked)
    pub gone :
        unasked_at c old.unasked ≡ None
        → (asked_on c more ≡ []) × ((unasked_at c new.unasked ≡ None) ⊎ Begins c x old new)

  -- So does each, by the entries that the input adds.
  pub record AllHeed (x : Happening) (old new : Served) : Type 0 where
    pub more : List Written
    pub added : new.core.state.entries ≡ old.core.state.entries ++ more
    pub opened : old.core.state.opened ≤ new.core.state.opened
    pub each : (c : ℕ) → Heeds c x old new more

-- So it is at every input, with what requests mean by the rules.
abbrev pub InputsAsk : (Form → Form → List ℕ → List ℕ → Type 0) → (Form → Form → List ℕ → Type 0)
    → Type 0
InputsAsk holds takes =
    (rules : Rules) (w : When) (x : Happening) (acts : List Act)
    (old : Served) (out : List Emission) (new : Served)
    → DoesAll (terms_of holds takes rules) w acts old out new → IsInOrder x acts
    → AllHeed (IsMapped holds takes rules) x old new
