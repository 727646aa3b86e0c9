-- Which datagrams go out.
use Rattle.std.specs.Prelude.{◌≡◌, ℕ, List, [], ◌∷◌, ◌++◌, flat_map}
use Rattle.media_map.specs.declared.form.Form.{Form}
use Rattle.ask_model.specs.Views.{Rules}
use Rattle.journal_book.specs.Entries.{Written}
use Rattle.exchange_core.specs.Values.{CoreValue, Outgoing, sent_in}
use Rattle.gateway_model.specs.declared.input.When.{When}
use Rattle.gateway_model.specs.Acts.{Act, Served, DoesAll}
use Rattle.gateway_model.specs.Emissions.{Emission, Goes}
use Rattle.gateway_model.specs.Tellings.{terms_of}

abbrev pub goes_by : Emission → List Outgoing
goes_by (Goes d) = d ∷ []
goes_by _ = []

abbrev pub goes_in : List Emission → List Outgoing
goes_in out = flat_map goes_by out

-- Entries were only added. The datagrams that went out, and then those that wait still, are those
-- that waited before, and then those that the new entries send.
pub record GoesOut (old : CoreValue) (out : List Emission) (new : CoreValue) : Type 0 where
  pub more : List Written
  pub added : new.state.entries ≡ old.state.entries ++ more
  pub sent : goes_in out ++ new.unsent ≡ old.unsent ++ sent_in more

-- From none that waits to none that waits just those of the new entries went out, each once and in
-- their order.
pub record SendsJust (old : CoreValue) (out : List Emission) (new : CoreValue) : Type 0 where
  pub more : List Written
  pub added : new.state.entries ≡ old.state.entries ++ more
  pub sent : goes_in out ≡ sent_in more

module _ (holds : Form → Form → List ℕ → List ℕ → Type 0)
    (takes : Form → Form → List ℕ → Type 0) where
  abbrev pub AllGoOut : Type 0
  AllGoOut =
      (rules : Rules) (w : When) (acts : List Act)
      (old : Served) (out : List Emission) (new : Served)
      → DoesAll (terms_of holds takes rules) w acts old out new → GoesOut old.core out new.core

  abbrev pub AllSendJust : Type 0
  AllSendJust =
      (rules : Rules) (w : When) (acts : List Act)
      (old : Served) (out : List Emission) (new : Served)
      → DoesAll (terms_of holds takes rules) w acts old out new
      → old.core.unsent ≡ [] → new.core.unsent ≡ [] → SendsJust old.core out new.core
