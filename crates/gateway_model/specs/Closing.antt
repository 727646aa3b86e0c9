-- Whom the proxy closes, and why.
use Rattle.std.specs.Prelude.{◌≡◌, ◌≢◌, ◌⊎◌, ⊤, ℕ, true, Option, Some, None}
use Rattle.std.specs.Prelude.{List, [], ◌∷◌, ◌++◌, flat_map}
use Rattle.std.specs.List.{AllByRecursion, Contains}
use Rattle.http_edge.specs.Answers.{answer_text}
use Rattle.http_edge.specs.declared.answer.HttpAnswer.{HttpAnswer}
use Rattle.ask_model.specs.Views.{Ask}
use Rattle.journal_book.specs.Entries.{Deed, Asks, Answers, Shuts, Written}
use Rattle.journal_book.specs.Views.{ask_of}
use Rattle.http_mapping.specs.Means.{closes}
use Rattle.history_claims.specs.Headline.{IsEntry}
use Rattle.exchange_model.specs.State.{State}
use Rattle.exchange_core.specs.Answering.{Given}
use Rattle.gateway_model.specs.declared.input.Happening.{Happening}
use Rattle.gateway_model.specs.declared.input.Happening.TheVariants as H
use Rattle.gateway_model.specs.declared.input.When.{When}
use Rattle.gateway_model.specs.Acts.{Act, Served, Terms, DoesAll}
use Rattle.gateway_model.specs.Emissions.{Emission, Says, Closed, GivenUp, Turned}
use Rattle.gateway_model.specs.Orders.{IsInOrder}
use Rattle.gateway_model.specs.Resting.{any_terms}

-- the connections that the proxy closes, in order, and those that entries shut
abbrev pub closed_by : Emission → List ℕ
closed_by (Closed c) = c ∷ []
closed_by (GivenUp c) = c ∷ []
closed_by _ = []

abbrev pub closed_in : List Emission → List ℕ
closed_in out = flat_map closed_by out

abbrev pub shut_by : Deed → List ℕ
shut_by (Shuts c) = c ∷ []
shut_by _ = []

abbrev pub shut_in : List Written → List ℕ
shut_in [] = []
shut_in (w ∷ ws) = shut_by w.deed ++ shut_in ws

-- The connection gets no bytes, and isn't closed.
abbrev pub IsNotTo : ℕ → Emission → Type 0
IsNotTo c (Says d bytes) = d ≢ c
IsNotTo c (Closed d) = d ≢ c
IsNotTo c (GivenUp d) = d ≢ c
IsNotTo c _ = ⊤

-- After a connection is closed nothing more is said to it.
abbrev pub StayClosed : List Emission → Type 0
StayClosed [] = ⊤
StayClosed (Closed c ∷ out) = AllByRecursion (IsNotTo c) out × StayClosed out
StayClosed (GivenUp c ∷ out) = AllByRecursion (IsNotTo c) out × StayClosed out
StayClosed (_ ∷ out) = StayClosed out

-- After an answer to such an ask its connection is closed.
abbrev pub ClosesAfter : List Written → List Emission → Deed → Type 0
ClosesAfter h out (Answers c k g) =
    (t : ℕ) (a : Ask) → IsEntry h k t (Asks c a) → closes a.came ≡ true → Contains (closed_in out) c
ClosesAfter h out _ = ⊤

abbrev pub IsNoTurn : Emission → Type 0
IsNoTurn Turned = ⊥
IsNoTurn _ = ⊤

-- by these terms
module _ (M : Terms) where
  -- The bytes are of a response that tells an answer of the entries: to an ask after which its
  -- connection is closed (RFC 9112 section 9.6).
  pub record IsLastAnswer (h : List Written) (c : ℕ) (bytes : List ℕ) : Type 0 where
    pub answer : Given
    pub before : ℕ
    pub asked : IsEntry h answer.ask before (Asks c (ask_of answer.mapping))
    pub last : closes answer.mapping.came ≡ true
    pub answered : IsEntry h answer.number answer.moment (Answers c answer.ask answer.found.grounds)
    pub response : HttpAnswer
    pub tells : M.IsTelling answer response
    pub text : bytes ≡ answer_text response

  -- Right before it is closed a connection was told the answer to its last request; or the journal
  -- takes nothing more. That memory is refused is told with the end of a connection that is given
  -- up.
  abbrev pub IsClosedFor : State → ℕ → Option Emission → Type 0
  IsClosedFor S c (Some (Says d bytes)) =
      ((d ≡ c) × IsLastAnswer S.entries c bytes) ⊎ (S.sealed ≡ true)
  IsClosedFor S c _ = S.sealed ≡ true

  -- So it is of all that come after this.
  abbrev pub AreClosedFor : State → Option Emission → List Emission → Type 0
  AreClosedFor S before [] = ⊤
  AreClosedFor S before (Closed c ∷ out) =
      IsClosedFor S c before × AreClosedFor S (Some (Closed c)) out
  AreClosedFor S before (e ∷ out) = AreClosedFor S (Some e) out

  -- Closed are just those whom the new entries shut: each after the answer to its last request,
  -- with nothing after that, and all that were answered so; or since the journal takes nothing
  -- more; or it is given up.
  pub record ClosesJust (S S1 : State) (out : List Emission) : Type 0 where
    pub more : List Written
    pub entries : S1.entries ≡ S.entries ++ more
    pub shut : closed_in out ≡ shut_in more
    pub why : AreClosedFor S1 None out
    pub last : StayClosed out
    pub all : AllByRecursion (λ (w : Written). ClosesAfter S1.entries out w.deed) more
    pub turned : AllByRecursion IsNoTurn out

  -- Who is closed at an input. Only a client that wants a connection is turned away, and who leaves
  -- is told nothing.
  abbrev pub Closes : Happening → State → State → List Emission → Type 0
  Closes H.Open S S1 out = (out ≡ []) ⊎ (out ≡ Turned ∷ [])
  Closes (H.Close c) S S1 out = out ≡ []
  Closes _ S S1 out = ClosesJust S S1 out

abbrev pub InputsClose : Type 0
InputsClose =
    (w : When) (x : Happening) (acts : List Act) (old : Served) (out : List Emission) (new : Served)
    → DoesAll any_terms w acts old out new → IsInOrder x acts
    → old.core.untaken ≡ [] → new.core.untaken ≡ []
    → Closes any_terms x old.core.state new.core.state out
