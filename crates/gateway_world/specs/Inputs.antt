-- What is promised of an input that is taken, and of inputs that are taken one after another.
use Rattle.std.specs.Prelude.{◌≡◌, ◌⊎◌, ℕ, List, [], ◌∷◌, ◌++◌}
use Rattle.media_map.specs.declared.form.Form.{Form}
use Rattle.ask_model.specs.Views.{Rules}
use Rattle.journal_book.specs.Entries.{Written}
use Rattle.history_laws.specs.Justified.{Stands}
use Rattle.history_claims.specs.Causes.{AreCaused}
use Rattle.history_claims.specs.Once.{AreAskedOnce}
use Rattle.history_claims.specs.Order.{AreInOrder}
use Rattle.gateway_model.specs.declared.input.Happening.TheVariants as H
use Rattle.gateway_model.specs.declared.input.Input.{Input}
use Rattle.gateway_model.specs.Acts.{at}
use Rattle.gateway_model.specs.Asking.{AllHeed}
use Rattle.gateway_model.specs.Closing.{Closes}
use Rattle.gateway_model.specs.Emissions.{Emission}
use Rattle.gateway_model.specs.Going.{SendsJust}
use Rattle.gateway_model.specs.Rotating.{Rotates}
use Rattle.gateway_model.specs.Tellings.{AreMapped, IsMapped, terms_of}
use Rattle.gateway_model.specs.Told.{TellsAll}
use Rattle.gateway_world.specs.Worlds.{WorldValue, Handles, IsAtRest, IsTooMuch, Memory, Shows, counted, new_world, served_in, when_in, with_memory}

module _ (holds : Form → Form → List ℕ → List ℕ → Type 0)
    (takes : Form → Form → List ℕ → Type 0) where
  -- An input is taken that doesn't bring too much. What it leads to are acts in order; what is
  -- told, asked and sent is what the new entries say; the own errors in the journal name their
  -- causes, its asks cost a device no more than they have to, and its messages go out in order;
  -- what came in shows in the new entries; who is closed has a reason; and after it nothing waits.
  pub record TakesActs (i : Input) (old : WorldValue) (out : List Emission) (new : WorldValue)
      : Type 0 where
    pub room : IsTooMuch i.happening (served_in old) → ⊥
    pub handles : Handles (terms_of holds takes old.rules) i old out new
    pub told : TellsAll holds takes old.rules old.core new.core out
    pub causes : AreCaused new.core.state.entries
    pub once : AreAskedOnce new.core.state.entries
    pub in_order : AreInOrder new.core.state.entries
    pub asks :
        AllHeed (IsMapped holds takes old.rules) i.happening (served_in old) (served_in new)
    pub sends : SendsJust old.core out new.core
    pub shows : Shows i old new
    pub closes :
        Closes (terms_of holds takes old.rules) i.happening old.core.state new.core.state out
    pub rests : IsAtRest new

  -- Or the journal, which stands, is to be given out: it is, and the world goes on with a new one;
  -- or it isn't, and only the moment goes on. In the journal that there is then what was asked is
  -- mapped, own errors name their causes, asks cost no more than they have to, and messages went
  -- out in order; and nothing waits.
  pub record TakesRotation (i : Input) (old : WorldValue) (out : List Emission) (new : WorldValue)
      : Type 0 where
    pub wants : i.happening ≡ H.Rotate
    pub stands : Stands old.core.state.entries
    pub rotates : Rotates (at (when_in old i) (served_in old)) old.core out new.core
    pub inlets : new.inlets ≡ old.inlets
    pub rules : new.rules ≡ old.rules
    pub moment : new.moment ≡ counted old.moment i.moment
    pub mapped : AreMapped holds takes old.rules new.core.state.entries
    pub causes : AreCaused new.core.state.entries
    pub once : AreAskedOnce new.core.state.entries
    pub in_order : AreInOrder new.core.state.entries
    pub rests : IsAtRest new

  abbrev pub Takes : Input → WorldValue → List Emission → WorldValue → Type 0
  Takes i old out new = TakesActs i old out new ⊎ TakesRotation i old out new

  -- Inputs are, one after another. Before each, and after the last, entries may have left memory.
  abbrev pub TakesAll : List Input → WorldValue → List Emission → WorldValue → Type 0
  TakesAll [] old out new = (m : Memory) × (new ≡ with_memory m old) × (out ≡ [])
  TakesAll (i ∷ is) old out new =
      (m : Memory) × (mid : WorldValue) × (first : List Emission) × (rest : List Emission)
      × Takes i (with_memory m old) first mid × TakesAll is mid rest new × (out ≡ first ++ rest)

  -- They are from a world to which nothing has happened on, and this is its journal after them.
  abbrev pub RunsTo : Rules → List Input → List Emission → List Written → Type 0
  RunsTo rules is out h =
      (w : WorldValue) × TakesAll is (new_world rules) out w × (h ≡ w.core.state.entries)

  -- All inputs before one are taken, and this one brings more bytes than may wait unread.
  pub record IsRefusedAfter (is : List Input) (old : WorldValue) : Type 0 where
    pub before : List Input
    pub input : Input
    pub after : List Input
    pub are : is ≡ before ++ input ∷ after
    pub out : List Emission
    pub world : WorldValue
    pub taken : TakesAll before old out world
    pub full : IsTooMuch input.happening (served_in world)
