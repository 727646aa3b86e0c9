-- What is promised of all that a proxy, a network and a device do, from the beginning on.
use Rattle.std.specs.Prelude.{ℕ, List}
use Rattle.media_map.specs.declared.form.Form.{Form}
use Rattle.ask_model.specs.Views.{Rules}
use Rattle.journal_book.specs.Entries.{Written}
use Rattle.history_laws.specs.Justified.{Stands}
use Rattle.demo_origin.specs.Origins.{fresh}
use Rattle.demo_origin.specs.Values.{Device, Relation}
use Rattle.demo_origin.specs.declared.state.Held.{Held}
use Rattle.gateway_model.specs.Emissions.{Emission}
use Rattle.story_laws.specs.Reads.{AreNew}
use Rattle.three_parties.specs.Flights.{Going}
use Rattle.three_parties.specs.Promises.{PostsOnceInTime}
use Rattle.three_parties.specs.Reads.{GetsShowInTime, WholesShowInTime}
use Rattle.three_parties.specs.Stories.{IsStory}
use Rattle.three_parties.specs.declared.story.Execution.{Execution}
use Rattle.three_parties.specs.declared.turn.Turn.{Turn}

-- Of these turns, of what the proxy gave out and its last journal, of the datagrams that were sent
-- and what the device executed, whose resources these were at first.
pub record KeepsPromises (turns : List Turn) (resources : List Held) (out : List Emission)
    (last : List Written) (flights : List Going) (taken : List Execution) : Type 0 where
  pub posts : PostsOnceInTime turns out last flights taken
  pub reads : GetsShowInTime turns resources out last flights taken
  pub wholes : AreNew resources → WholesShowInTime turns resources out last flights taken

-- So it is of whatever turns there were with a new device.
abbrev pub StoriesKeepPromises : (Form → Form → List ℕ → List ℕ → Type 0)
    → (Form → Form → List ℕ → Type 0) → Relation → Type 0
StoriesKeepPromises holds takes R =
    (rules : Rules) (block : ℕ) (resources : List Held) (turns : List Turn) (out : List Emission)
    (flights : List Going) (h : List Written) (last : Device) (taken : List Execution)
    → IsStory holds takes R rules (fresh block resources) turns out flights h last taken
    → Stands h → KeepsPromises turns resources out h flights taken
