-- The relation of the banks in the tests, between content formats (RFC 7252 section 12.3): 60 is CBOR, 50 JSON, 42 any bytes, 0 text.
use Rattle.std.specs.Prelude.{◌==◌, ◌&&◌, ℕ, List, MatchBool}
use Rattle.media_map.specs.declared.form.Form.{Form}
use Rattle.media_map.specs.declared.form.Form.TheVariants.{Format, Media}
use Rattle.transformers.specs.Kinds.{CborToJson, JsonToCbor, OctetsToHex, TakesCbor, TakesJson, TakesOctets}

abbrev pub FormatsHold : Form → Form → List ℕ → List ℕ → Type 0
FormatsHold (Format a) (Format b) x y =
    MatchBool ((a == 60) && (b == 50)) (CborToJson x y) (MatchBool ((a == 50) && (b == 60)) (JsonToCbor x y) (MatchBool ((a == 42) && (b == 0)) (OctetsToHex x y) ⊥))
FormatsHold (Format a) (Media m) x y = ⊥
FormatsHold (Media m) to x y = ⊥

abbrev pub FormatsTake : Form → Form → List ℕ → Type 0
FormatsTake (Format a) (Format b) x =
    MatchBool ((a == 60) && (b == 50)) (TakesCbor x) (MatchBool ((a == 50) && (b == 60)) (TakesJson x) (MatchBool ((a == 42) && (b == 0)) (TakesOctets x) ⊥))
FormatsTake (Format a) (Media m) x = ⊥
FormatsTake (Media m) to x = ⊥
