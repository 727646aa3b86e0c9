-- What is left says what is left of the text.
use Rattle.std.proofs.Common.{◌≡◌, drop}
use Rattle.media_map.specs.MediaTypes.{same}
use Rattle.media_map.specs.Views.{bytes_of}
use Rattle.media_map.proofs.value.Value.says.Given as goal

abbrev pub invariant-each : goal.invariant-each
invariant-each l = same (bytes_of l.self) l.text ≡ same (bytes_of l.rest) (drop l.byte-index l.text)
