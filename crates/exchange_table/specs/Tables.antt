-- The open exchanges, and the index of the tokens of their latest messages.
use Rattle.std.specs.Prelude.{◌≡◌, ℕ, ◌<◌, Bool, true, false, ◌&&◌, ◌||◌, ◌==◌, nat_lt, not, List, [], ◌∷◌, ◌++◌, Option, Some, None, option_map, filter, if◌then◌else◌}
use Rattle.std.specs.List.{AllByRecursion, find, list_any}
use Rattle.history_laws.specs.Numbering.{token_number}
use Rattle.exchange_model.specs.declared.kept.Exchange.{Exchange}
use Rattle.exchange_model.specs.declared.kept.Work.{Work}
use Rattle.exchange_model.specs.Steps.{is_under}
use Rattle.exchange_table.specs.declared.index.Named.{Named}
use Rattle.exchange_table.specs.Places.{RiseBy}

abbrev pub opening_of : Exchange → ℕ
opening_of e = e.opening

-- how many tokens were issued before that of its latest message
abbrev pub number_of : Exchange → ℕ
number_of e = token_number e.token

abbrev pub is_opened_at : ℕ → Exchange → Bool
is_opened_at o e = e.opening == o

-- an exchange's row of the index
abbrev pub name_of : Exchange → Named
name_of e = record { number = number_of e; opening = e.opening }

abbrev pub number_in : Named → ℕ
number_in x = x.number

abbrev pub has_number : ℕ → Named → Bool
has_number n x = x.number == n

abbrev pub opening_in : Named → ℕ
opening_in x = x.opening

-- the opening of the exchange whose token has this number
abbrev pub opening_under : ℕ → List Named → Option ℕ
opening_under n names = option_map opening_in (find (has_number n) names)

abbrev pub is_named : Named → Exchange → Bool
is_named x e = is_opened_at x.opening e && (number_of e == x.number)

-- The name with this number is taken out, and one more of its exchange put last.
abbrev pub named_anew : ℕ → ℕ → Option ℕ → List Named → List Named
named_anew n next None names = names
named_anew n next (Some o) names =
    filter (λ (x : Named). not (has_number n x)) names ++ record { number = next; opening = o } ∷ []

-- The index has each exchange under its token's number, and nothing else; both are in order.
pub record IsIndexed (es : List Exchange) (names : List Named) : Type 0 where
  pub openings : RiseBy opening_of es
  pub numbers : RiseBy number_in names
  pub each : AllByRecursion (λ (e : Exchange).
      find (has_number (number_of e)) names ≡ Some (name_of e)) es
  pub none_beside : AllByRecursion (λ (x : Named). list_any (is_named x) es ≡ true) names

-- The token was issued after those of all of these.
abbrev pub IsNewest : List ℕ → List Exchange → Type 0
IsNewest token es = AllByRecursion (λ (f : Exchange). number_of f < token_number token) es

-- Its latest message goes under none of the tokens of these.
abbrev pub is_under_none : List Exchange → Exchange → Bool
is_under_none over e = not (list_any (λ (f : Exchange). is_under f.token e) over)

-- It was opened after all of these, and its token issued after theirs.
pub record IsLatest (e : Exchange) (es : List Exchange) : Type 0 where
  pub opening : AllByRecursion (λ (f : Exchange). f.opening < e.opening) es
  pub token : IsNewest e.token es

-- The exchange under this token goes on with its next message under the next one, having come so
-- far by its replies, of which this is the first or not.
abbrev pub carried_on : List ℕ → Work → Bool → Exchange → Exchange
carried_on next work first x = record x {
  token = next;
  awaits = false;
  observes = false;
  newest = first || x.newest;
  work = work;
}

abbrev pub went_on : List ℕ → List ℕ → Work → Bool → Exchange → Exchange
went_on token next work first x = if is_under token x then carried_on next work first x else x

-- the exchanges, and whether one more can be opened without memory
pub record TableValue : Type 0 where
  pub exchanges : List Exchange
  pub room : Bool

-- where so many rows and names stand in vectors of these capacities
abbrev pub has_room : ℕ → ℕ → ℕ → ℕ → Bool
has_room rows places names slots = nat_lt rows places && nat_lt names slots
