-- What is promised of all that a world took, from the beginning on.
use Rattle.std.specs.Prelude.{ℕ, List}
use Rattle.media_map.specs.declared.form.Form.{Form}
use Rattle.ask_model.specs.Views.{Rules}
use Rattle.journal_book.specs.Entries.{Written}
use Rattle.history_laws.specs.Justified.{Stands}
use Rattle.history_claims.specs.Causes.{AreCaused}
use Rattle.history_claims.specs.Once.{AreAskedOnce}
use Rattle.history_claims.specs.Order.{AreInOrder}
use Rattle.gateway_model.specs.declared.input.Input.{Input}
use Rattle.gateway_model.specs.Emissions.{Emission, IsWhole}
use Rattle.gateway_model.specs.Tellings.{AreMapped, IsMapped}
use Rattle.gateway_world.specs.Asked.{AsksInRun}
use Rattle.gateway_world.specs.Inputs.{TakesAll}
use Rattle.gateway_world.specs.Journals.{AllLiveOnce, AreSent, AreTold, EachJournal, EachPart, all_entries}
use Rattle.gateway_world.specs.Worlds.{WorldValue, new_world}

module _ (holds : Form → Form → List ℕ → List ℕ → Type 0)
    (takes : Form → Form → List ℕ → Type 0) where
  -- Of these inputs, what was given out, and the last journal: each journal stands, and has what was
  -- told and sent while it was added to; its asks are mapped by the rules, and cost a device no more
  -- than they have to; own errors name their causes; messages go out in order; connections ask just
  -- what the inputs bring, and each lives while one journal is added to.
  pub record KeepsPromises (rules : Rules) (is : List Input) (out : List Emission)
      (last : List Written) : Type 0 where
    pub stands : EachJournal Stands out last
    pub told : EachPart (AreTold holds takes) out last
    pub mapped : EachJournal (AreMapped holds takes rules) out last
    pub causes : EachJournal AreCaused out last
    pub once : EachJournal AreAskedOnce out last
    pub in_order : EachJournal AreInOrder out last
    pub asks : AsksInRun (IsMapped holds takes rules) is out (all_entries out last)
    pub sends : EachPart AreSent out last
    pub lives : AllLiveOnce out last

  -- So it is of whatever inputs a world took to which nothing had happened, where nobody was given
  -- up and its journal stands.
  abbrev pub WorldsKeepPromises : Type 0
  WorldsKeepPromises =
      (rules : Rules) (is : List Input) (out : List Emission) (w : WorldValue)
      → TakesAll holds takes is (new_world rules) out w
      → IsWhole out → Stands w.core.state.entries
      → KeepsPromises rules is out w.core.state.entries
