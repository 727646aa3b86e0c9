-- What tells one representation from another.
use Rattle.std.specs.Prelude.{ℕ, Bool, true, false, ◌&&◌, List, Option, Some, None, option_map, ◌==◌}
use Rattle.std.specs.Str.{bytes_eq}
use Rattle.coap_codec.specs.Spelling.{Content}
use Rattle.coap_codec.specs.Values.{uint}
use Rattle.coap_codec.specs.Recognition.{value_of}
use Rattle.blockwise.specs.declared.representation.EntityTag.{EntityTag}
use Rattle.blockwise.specs.declared.representation.Representation.{Representation}

abbrev pub tag_by : List ℕ → EntityTag
tag_by value = record { bytes = value }

-- Pieces of one representation agree in code, Content-Format and ETag (RFC 7959, section 2.4).
abbrev pub representation_of : Content → Representation
representation_of m = record {
  code = m.code;
  format = option_map uint (value_of 12 m);
  etag = option_map tag_by (value_of 4 m);
}

abbrev pub same_format : Option ℕ → Option ℕ → Bool
same_format (Some a) (Some b) = a == b
same_format None None = true
same_format _ _ = false

abbrev pub same_tag : Option EntityTag → Option EntityTag → Bool
same_tag (Some a) (Some b) = bytes_eq a.bytes b.bytes
same_tag None None = true
same_tag _ _ = false

abbrev pub same_representation : Representation → Representation → Bool
same_representation a b =
    (a.code == b.code) && (same_format a.format b.format && same_tag a.etag b.etag)
