-- What the code's types show.
use Rattle.media_map.specs.declared.media_type.MediaType.{MediaType}
use Rattle.media_map.specs.declared.value.Value.{Value}
use Rattle.media_map.specs.MediaTypes.{Named, bytes_from}
use Rattle.media_map.specs.Texts.{behind}
use Rattle.std.specs.Prelude.{ℕ, true, List, [], ◌∷◌, Option, Some, None}

abbrev pub named_of : MediaType → Named
named_of m = record { essence = m.essence.now; parameters = behind true 59 m.parameters.now }

-- the bytes that what is left of a value stands for
abbrev pub bytes_of : Value → List ℕ
bytes_of v = bytes_from v.quoted v.text.now

abbrev pub bytes_before : Option (ℕ × Value) → List ℕ
bytes_before None = []
bytes_before (Some x) = x.0 ∷ bytes_of x.1
