-- Between which forms there is a transformer, and what it makes of bodies.
use Rattle.std.specs.Prelude.{◌≡◌, ℕ, ◌==◌, ◌&&◌, Bool, List, map, codes, Option, Some, None}
use Rattle.std.specs.Prelude.{if◌then◌else◌}
use Rattle.std.specs.Str.{bytes_eq}
use Rattle.media_map.specs.declared.form.Form.{Form}
use Rattle.media_map.specs.declared.form.Form.TheVariants.{Format, Media}
use Rattle.transformers.specs.Kinds as kinds
use Rattle.transformers.specs.Keeps.{AllKeep, pair_of}
use Rattle.transformers.specs.declared.stored.Stored.{Stored}
use Rattle.route_bank.specs.declared.kind.Kind.{Kind}
use Rattle.route_bank.specs.declared.kind.Kind.TheVariants.{CborToJson, JsonToCbor, OctetsToHex}

-- CBOR is 60 and JSON `application/json`; bytes, 42, go to any media type.
abbrev pub is_json : List ℕ → Bool
is_json media = bytes_eq media (codes "application/json")

abbrev pub down_kind : ℕ → List ℕ → Option Kind
down_kind format media =
    if format == 42 then Some OctetsToHex
    else (if (format == 60) && is_json media then Some CborToJson else None)

abbrev pub up_kind : List ℕ → ℕ → Option Kind
up_kind media format = if (format == 60) && is_json media then Some JsonToCbor else None

abbrev pub kind_of : Form → Form → Option Kind
kind_of (Format format) (Media media) = down_kind format media
kind_of (Media media) (Format format) = up_kind media format
kind_of _ _ = None

-- what each makes of a body, and which bodies it takes
abbrev pub kind_holds : Option Kind → List ℕ → List ℕ → Type 0
kind_holds (Some CborToJson) input output = kinds.CborToJson input output
kind_holds (Some JsonToCbor) input output = kinds.JsonToCbor input output
kind_holds (Some OctetsToHex) input output = kinds.OctetsToHex input output
kind_holds None input output = ⊥

abbrev pub kind_takes : Option Kind → List ℕ → Type 0
kind_takes (Some CborToJson) input = kinds.TakesCbor input
kind_takes (Some JsonToCbor) input = kinds.TakesJson input
kind_takes (Some OctetsToHex) input = kinds.TakesOctets input
kind_takes None input = ⊥

abbrev pub profile_holds : Form → Form → List ℕ → List ℕ → Type 0
profile_holds from to = kind_holds (kind_of from to)

abbrev pub profile_takes : Form → Form → List ℕ → Type 0
profile_takes from to = kind_takes (kind_of from to)

-- Transformers stand for routes, one for each in their order: each makes of bodies what they become
-- between its two forms.
abbrev pub StandFor : {R X : Type 0} {F : X → Type 0} {g : _}
    → List (Form × Form) → List (Stored R X F g) → Type 0
StandFor routes stored = AllKeep profile_holds profile_takes stored × (map pair_of stored ≡ routes)
