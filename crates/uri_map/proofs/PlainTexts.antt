-- Plain texts stand for themselves.
use Rattle.std.proofs.Common.{◌≡◌, ◌≢◌, ℕ, ◌<◌, true, false, IsAscii, List, [], ◌∷◌, length, Ok, refl, ap, ◌∙◌, ne_eqb}
use Rattle.std.specs.Str.{is_utf8}
use Rattle.std.proofs.lemmas.List.Elements.{All-head, All-tail, All-weaker}
use Rattle.std.proofs.lemmas.Str.{IsUtf8-from_ascii, is_utf8-from_IsUtf8}
use Rattle.std.proofs.lemmas.Str.Ascii.{IsAscii-from_all}
use Rattle.percent_encoding.specs.Percent.{percent_decode}
use Rattle.percent_encoding.proofs.PercentLemmas.{percent_decode-nil, percent_decode_not_percent}
use Rattle.uri_map.specs.declared.escapes.Part.{Part}
use Rattle.uri_map.specs.Escapes.{well_escaped, is_refused}
use Rattle.uri_map.specs.Scanning.{IsPlain, Measures}
use Rattle.uri_map.proofs.Escaped.{kept_goes_on}
use Rattle.uri_map.proofs.TextLists.{text_good}

abbrev pub PlainByte : ℕ → Type 0
PlainByte b = (b < 128) × (b ≢ 37)

pub plain_decoded : (text : List ℕ) → IsPlain text → percent_decode text ≡ text
plain_decoded [] plain = percent_decode-nil
plain_decoded (b ∷ bs) plain =
    percent_decode_not_percent b bs (All-head PlainByte b bs plain).1 ∙ ap (λ x. b ∷ x) (plain_decoded bs (All-tail PlainByte b bs plain))

plain_escaped : (text : List ℕ) → IsPlain text → well_escaped text ≡ true
plain_escaped [] plain = refl
plain_escaped (b ∷ bs) plain =
    kept_goes_on b bs (ne_eqb b 37 (All-head PlainByte b bs plain).1) ∙ plain_escaped bs (All-tail PlainByte b bs plain)

pub plain_ascii : (text : List ℕ) → IsPlain text → IsAscii text
plain_ascii text plain = IsAscii-from_all text (All-weaker PlainByte (λ b. b < 128) (λ b h. h.0) text plain)

plain_utf8 : (text : List ℕ) → IsPlain text → is_utf8 text ≡ true
plain_utf8 text plain = is_utf8-from_IsUtf8 text (IsUtf8-from_ascii text (plain_ascii text plain))

pub plain_measured : (part : Part) (text : List ℕ) → IsPlain text → is_refused part (percent_decode text) ≡ false → Measures (Ok (length text)) part text
plain_measured part text plain taken =
    let same = plain_decoded text plain in
    (text_good part text (plain_escaped text plain) (rw same (plain_utf8 text plain)) taken, rw same refl)
