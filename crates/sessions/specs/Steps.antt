-- What the steps of a session do to the edge of its connection, to what its stream gave and what is
-- written to it, and to its notes.
use Rattle.std.specs.Prelude.{◌≡◌, ℕ, Bool, true, false, List, [], ◌∷◌, ◌++◌, Option}
use Rattle.http_edge.specs.declared.edge.Edge.{Edge}
use Rattle.http_edge.specs.Edges.{Stands, Expects, IsAsking, is_told}
use Rattle.http_edge.specs.Reading.{Item}
use Rattle.media_map.specs.declared.form.Form.{Form}
use Rattle.ask_model.specs.Views.{Rules}
use Rattle.gateway_desk.specs.Lines.{Line, Slip, made, got}
use Rattle.sessions.specs.declared.session.End.{End}
use Rattle.sessions.specs.declared.session.End.TheVariants.{Finished, ReadFault, WriteFault}
use Rattle.sessions.specs.Asking.{IsAskOf, IsFilled}
use Rattle.sessions.specs.Devices.{Grown, GrownPartly}
use Rattle.sessions.specs.Serving.{Undone, written_of, noted_of, IsUndoneOf}
use Rattle.sessions.specs.Telling.{continue_text, SaysAnswer}

-- A read gave these bytes, which are none at the end, and the edge stands for them after what it
-- stood for.
pub record TakesRead (goes_on : Bool) (old new : Edge) (before after : Option (List (List ℕ)))
    : Type 0 where
  pub bytes : List ℕ
  pub gave : Grown before after (bytes ∷ [])
  pub stands : (text : List ℕ) → Stands old text → Stands new (text ++ bytes)
  pub told : is_told new ≡ is_told old
  pub filled : goes_on ≡ true → IsFilled bytes
  pub ended : goes_on ≡ false → bytes ≡ []

-- The request begun waits for 100 Continue, and its client wasn't told yet.
abbrev pub WaitsToGoOn : Edge → Type 0
WaitsToGoOn e = (text : List ℕ) → Stands e text → IsAsking e text

-- If it waits, its client was told.
abbrev pub WasToldToGoOn : Edge → Type 0
WasToldToGoOn e = (text : List ℕ) → Stands e text → Expects text → is_told e ≡ true

-- It is told, and nothing is read.
pub record TellsToGoOn (old new : Edge) (gave_before gave_after : Option (List (List ℕ)))
    (before after : Option (List ℕ)) : Type 0 where
  pub gave : Grown gave_before gave_after []
  pub wrote : Grown before after continue_text
  pub waits : WaitsToGoOn old
  pub stands : (text : List ℕ) → Stands old text → Stands new text
  pub told : is_told new ≡ true

-- A session that ends so ended as it read on.
abbrev pub EndsReading : End → Edge → Edge → Option (List (List ℕ)) → Option (List (List ℕ))
    → Option (List ℕ) → Option (List ℕ) → Type 0
EndsReading Finished old new gave_before gave_after before after =
    TakesRead false old new gave_before gave_after × Grown before after [] × WasToldToGoOn old
EndsReading ReadFault old new gave_before gave_after before after =
    Grown gave_before gave_after [] × Grown before after []
EndsReading WriteFault old new gave_before gave_after before after =
    Grown gave_before gave_after [] × GrownPartly before after continue_text × WaitsToGoOn old
EndsReading _ old new gave_before gave_after before after = ⊥

module _ (holds : Form → Form → List ℕ → List ℕ → Type 0) (takes : Form → Form → List ℕ → Type 0)
    (rules : Rules) where
  -- An item is asked and answered, and the answer is written.
  pub record TakesTurn (i : Item) (old new : List Line) (before after : Option (List ℕ))
      : Type 0 where
    pub slip : Slip
    pub bytes : List ℕ
    pub notes : new ≡ old ++ (made slip.number ∷ got slip ∷ [])
    pub asked : IsAskOf holds takes rules i slip.given.mapping
    pub says : SaysAnswer holds takes rules slip.given bytes
    pub wrote : Grown before after bytes

  -- A session that ends so leaves it undone.
  pub record CutsTurn (end : End) (i : Item) (old new : List Line) (before after : Option (List ℕ))
      : Type 0 where
    pub undone : Undone
    pub of_item : IsUndoneOf holds takes rules i undone
    pub notes : new ≡ old ++ noted_of undone
    pub wrote : Grown before after (written_of undone)
    pub whole : (end ≡ WriteFault → ⊥) → written_of undone ≡ []
