use Rattle.std.proofs.Common.{◌≡◌, refl, Some, Ok}
use Rattle.std.proofs.lemmas.List.Elements.{All-from_recursion}
use Rattle.media_map.specs.Texts.{trim, is_tchar, is_blank}
use Rattle.media_map.specs.MediaTypes.{media_at, slash_in, equals_in, is_essence, is_pair, is_parameter, has_name, value_of, unquoted}
use Rattle.media_map.specs.Formats.{Row, table, media_text, format_at, table_format, is_foreign_text}
use Rattle.media_map.proofs.laws.table_returns.Goals as goal

pub returns : goal.returns
unfolding trim is_tchar is_blank media_at slash_in equals_in is_essence is_pair is_parameter has_name value_of unquoted media_text format_at table_format is_foreign_text
returns c = λ policy. All-from_recursion (λ (row : Row). format_at policy (media_text row.0) ≡ Ok (Some row.0)) table (refl, (refl, (refl, (refl, (refl, (refl, (refl, tt)))))))
