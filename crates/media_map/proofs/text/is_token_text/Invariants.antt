-- The bytes so far are those of a token.
use Rattle.std.proofs.Common.{◌≡◌, drop}
use Rattle.std.specs.List.{list_all}
use Rattle.media_map.specs.Texts.{is_tchar}
use Rattle.media_map.proofs.text.is_token_text.Given as goal

abbrev pub invariant-each : goal.invariant-each
invariant-each l = list_all is_tchar l.text ≡ list_all is_tchar (drop l.byte-index l.text)
