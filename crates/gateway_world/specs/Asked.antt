-- What connections ask in a whole run, said of its inputs, of what it gave out and of its entries.
use Rattle.std.specs.Prelude.{◌≡◌, ℕ, ◌+◌, ⊤, Bool, true, false, if◌then◌else◌, nat_lt}
use Rattle.std.specs.Prelude.{List, [], ◌∷◌, ◌++◌}
use Rattle.http_edge.specs.Reading.{Item, ReadsFirst}
use Rattle.ask_model.specs.Views.{Ask}
use Rattle.journal_book.specs.Entries.{Written}
use Rattle.gateway_model.specs.declared.input.Happening.{Happening}
use Rattle.gateway_model.specs.declared.input.Happening.TheVariants as H
use Rattle.gateway_model.specs.declared.input.Input.{Input}
use Rattle.gateway_model.specs.Asking.{AreAsked, asked_on, brought_by}
use Rattle.gateway_model.specs.Emissions.{Emission, Turned}

-- how many clients were turned away
abbrev pub turned_in : List Emission → ℕ
turned_in [] = 0
turned_in (Turned ∷ out) = turned_in out + 1
turned_in (e ∷ out) = turned_in out

-- A connection opens at such an input only where a client wants one; who wants one else is turned
-- away.
abbrev pub MayOpen : Bool → Happening → Type 0
MayOpen true x = x ≡ H.Open
MayOpen false x = ⊤

abbrev pub turned_by : Bool → Happening → ℕ
turned_by false H.Open = 1
turned_by _ _ = 0

-- At each input a connection opens or doesn't, and so many clients were turned away.
abbrev pub AreOpened : List Bool → List Input → ℕ → Type 0
AreOpened [] [] n = n ≡ 0
AreOpened (b ∷ bs) (i ∷ is) n =
    (m : ℕ) × MayOpen b i.happening × AreOpened bs is m × (n ≡ turned_by b i.happening + m)
AreOpened _ _ n = ⊥

abbrev pub opened_by : Bool → ℕ → ℕ
opened_by true n = n + 1
opened_by false n = n

-- what inputs bring a connection after it opened, where this many opened before them
abbrev pub text_on : ℕ → ℕ → List Bool → List Input → List ℕ
text_on c n (b ∷ bs) (i ∷ is) =
    (if nat_lt c n then brought_by c i.happening else []) ++ text_on c (opened_by b n) bs is
text_on c n _ _ = []

-- as what a request may be asked
module _ (IsMeaning : Ask → Type 0) where
  -- The entries ask the first items of the text on the connection.
  pub record AsksIts (c : ℕ) (text : List ℕ) (h : List Written) : Type 0 where
    pub items : List Item
    pub rest : List ℕ
    pub reads : ReadsFirst text items rest
    pub asks : AreAsked IsMeaning items (asked_on c h)

  -- Each connection asks the first items of what inputs bring it after it opened.
  pub record AsksInRun (is : List Input) (out : List Emission) (h : List Written) : Type 0 where
    pub opened : List Bool
    pub are : AreOpened opened is (turned_in out)
    pub each : (c : ℕ) → AsksIts c (text_on c 0 opened is) h
