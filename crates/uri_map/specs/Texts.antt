-- The bytes of a text, wherever they are kept.
use Rattle.std.specs.Prelude.{ℕ, List}
use Rattle.std.specs.String.{string_bytes}
use Rattle.uri_map.specs.declared.text.Held.{Held}
use Rattle.uri_map.specs.declared.text.Held.TheVariants.{Short, Long}

abbrev pub held_bytes : Held → List ℕ
held_bytes (Short text) = text
held_bytes (Long text) = string_bytes text
