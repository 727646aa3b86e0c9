-- No act gives entries of the journal out.
use Rattle.std.proofs.Common.{◌≡◌, ◌⊎◌, inl, inr, ℕ, Bool, true, false, List, [], ◌∷◌, Some, Err, ap, ◌∙◌}
use Rattle.ask_model.specs.Views.{Ask}
use Rattle.http_mapping.specs.Means.{closes}
use Rattle.exchange_model.specs.State.{State}
use Rattle.exchange_model.specs.Growing.{Adds}
use Rattle.exchange_model.proofs.CallerLemmas.{asks-add, hears-add, opens-add, ticks-add}
use Rattle.exchange_core.specs.Calls.{AsksSo, IsClosed, IsOpened}
use Rattle.exchange_core.specs.declared.fault.OpenFault.TheVariants as Open
use Rattle.exchange_core.specs.Values.{CoreValue, stepped}
use Rattle.gateway_model.specs.declared.input.When.{When}
use Rattle.gateway_model.specs.Acts.{Act, Opens, TurnsAway, Takes, Hears, Passes, Asks, Denies, Sends, Tells, GoesOn, GivesUp, Forgoes, Rests, Leaves, Misses, Served, Terms, Does, DoesAll, Ends, IsClosing, at}
use Rattle.gateway_model.specs.Emissions.{Emission}

abbrev given_in : CoreValue → ℕ
given_in v = v.state.given

steps-hold : (t : ℕ) (old new : CoreValue) (S : State) → new ≡ stepped S old → Adds t old.state S → given_in new ≡ given_in old
steps-hold t old new S e a = ap given_in e ∙ a.given

asked-holds : (t word c : ℕ) (a : Ask) (old new : CoreValue) → AsksSo t word c a old new → given_in new ≡ given_in old
asked-holds t word c a old new h = steps-hold t old new _ h.is (asks-add t c a h.numbers old.state)

closed-holds : (w : When) (c : ℕ) (old new : Served) → IsClosing w c old new → given_in new.core ≡ given_in old.core
closed-holds w c old new h = ap given_in h.0.1

module _ (M : Terms) (w : When) where
  ends-hold : (c : ℕ) (b : Bool) (old : Served) (out : List Emission) (new : Served) → Ends w c b old out new
      → given_in new.core ≡ given_in old.core
  ends-hold c true old out new h = closed-holds w c old new h.0
  ends-hold c false old out new h = ap (λ (s : Served). given_in s.core) h.0

  act-holds : (a : Act) (old : Served) (out : List Emission) (new : Served) → Does M w a old out new
      → given_in new.core ≡ given_in old.core
  act-holds (Opens c) old out new h =
      steps-hold (at w old) old.core new.core _ h.0.1 (opens-add (at w old) old.core.state)
  act-holds TurnsAway old out new h = by h.0
    where
      by : IsOpened (Err Open.Full) (at w old) old.core new.core ⊎ IsOpened (Err Open.Sealed) (at w old) old.core new.core
          → given_in new.core ≡ given_in old.core
      by (inl full) = ap given_in full.0
      by (inr sealed) = steps-hold (at w old) old.core new.core _ sealed.0 (opens-add (at w old) old.core.state)
  act-holds (Takes c bytes) old out new h = ap (λ (s : Served). given_in s.core) h.0
  act-holds (Hears p bytes) old out new h =
      steps-hold (at w old) old.core new.core _ h.0.is (hears-add (at w old) p bytes h.0.numbers old.core.state)
  act-holds Passes old out new h =
      ap (λ (s : Served). given_in s.core) h.0 ∙ (ticks-add (at w old) old.core.state).given
  act-holds (Asks c) old out new h = asked-holds (at w old) w.word c h.0.ask old.core new.core h.0.asked.2
  act-holds (Denies c) old out new h = closed-holds w c h.0 new h.2 ∙ by h.1.denied.2
    where
      by : ((old.core.state.sealed ≡ true) × (h.0.core ≡ old.core)) ⊎ AsksSo (at w old) w.word c h.1.ask old.core h.0.core
          → given_in h.0.core ≡ given_in old.core
      by (inl same) = ap given_in same.1
      by (inr so) = asked-holds (at w old) w.word c h.1.ask old.core h.0.core so
  act-holds Sends old out new h = ap given_in h.sent.1
  act-holds (Tells c k) old out new h =
      ends-hold c (closes h.answer.mapping.came) h.told h.after new h.ends ∙ ap given_in h.taken.3
  act-holds (GoesOn c) old out new h = ap given_in h.1
  act-holds (GivesUp c) old out new h = closed-holds w c old new h.0
  act-holds (Forgoes c k) old out new h = closed-holds w c h.0 new h.2 ∙ ap given_in h.1.taken.3
  act-holds (Rests c) old out new h = ap given_in h.0
  act-holds (Leaves c) old out new h = closed-holds w c old new h.0
  act-holds (Misses c) old out new h = ap (λ (s : Served). given_in s.core) h.0

  pub acts-hold : (acts : List Act) (old : Served) (out : List Emission) (new : Served) → DoesAll M w acts old out new
      → new.core.state.given ≡ old.core.state.given
  acts-hold [] old out new h = ap (λ (s : Served). given_in s.core) h.0
  acts-hold (a ∷ acts) old out new h = acts-hold acts h.0 h.2 new h.4 ∙ act-holds a old h.1 h.0 h.3
