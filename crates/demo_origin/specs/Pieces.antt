-- What a piece that isn't the last leaves (RFC 7959, section 2.9).
use Rattle.std.specs.Prelude.{◌≡◌, ℕ, List, []}
use Rattle.coap_codec.specs.Spelling.{Entry}
use Rattle.coap_codec.specs.declared.block.Block.{Block}
use Rattle.demo_origin.specs.Values.{Device}
use Rattle.demo_origin.specs.Answers.{Answers}
use Rattle.demo_origin.specs.Uploads.{upload_of, put_at, without, AsksForMore}
use Rattle.demo_origin.specs.declared.answer.Asker.{Asker}

-- the device with that piece
abbrev pub holding : Asker → ℕ → Block → List ℕ → Device → Device
holding to i b payload s = record s {
  uploads = put_at to.peer i (upload_of to.peer i s.uploads) b payload s.uploads;
}

-- It is kept, and answered by 2.31 (Continue).
pub record KeepsPiece (to : Asker) (i : ℕ) (b : Block) (payload : List ℕ) (old new : Device)
    : Type 0 where
  pub options : List Entry
  pub asks : AsksForMore b old.block options
  pub answers : Answers to 95 options [] (holding to i b payload old) new

-- It is refused by that code, and those before it are dropped.
pub record GivesUp (to : Asker) (i : ℕ) (code : ℕ) (old new : Device) : Type 0 where
  pub middle : Device
  pub answers : Answers to code [] [] old middle
  pub is : new ≡ without to.peer i middle
