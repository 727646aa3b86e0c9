-- The fields of a head: what the parser takes as a name or a value is one for the fields' map.
use Rattle.std.proofs.Common.{◌≡◌, ℕ, List, [], ◌≤◌, ◌<◌, length, map, get_or, Bool, subst, arith, refl, sym, ap, ◌∙◌, All}
use Rattle.std.specs.Prelude.{IsTrue}
use Rattle.std.proofs.lemmas.List.{get_or-map, length-map}
use Rattle.httparse.specs.Grammar.{AllPass, is_value_byte, Field, IsField, field_value, lf}
use Rattle.httparse.specs.Spans.{name_and_value, header_bytes, IsHeaderWithin}
use Rattle.httparse.specs.declared.spans.HeaderSpan.{HeaderSpan}
use Rattle.httparse.proofs.RunLemmas.{length-slice_range}
use Rattle.httparse.proofs.TrimLemmas.{AllPass-trim_ows}
use Rattle.http_edge.specs.Requests.{IsFieldOf}
use Rattle.httparse.specs.Grammar as grammar
use Rattle.http_header.specs.Token as token
use Rattle.http_header.specs.FieldName.{IsFieldName}

pub same_byte : (b : ℕ) → grammar.is_token_byte b ≡ token.is_token_byte b
unfolding grammar.is_token_byte token.is_token_byte
same_byte b = refl

pub IsFieldName_from_token : (name : List ℕ) → grammar.IsToken name → length name ≤ 8192 → IsFieldName name
IsFieldName_from_token name t short =
    ((t.0, λ k d h. let P : Bool → Type 0 = λ b. IsTrue b in subst P (same_byte _) (t.1 k d h)), omega (arith, short))

nothing : Field
nothing = record { name = []; raw = []; end = lf }

-- spans that cover fields of the grammar cover fields of the map
pub are_fields : (buf : List ℕ) (spans : List HeaderSpan) (fields : List Field) → map (header_bytes buf) spans ≡ map name_and_value fields → All IsField fields → All (IsHeaderWithin (length buf)) spans → length buf ≤ 8192
    → All (λ s. IsFieldOf (header_bytes buf s)) spans
are_fields buf spans fields e valid within small k d lt =
    let same : length (map (header_bytes buf) spans) ≡ length (map name_and_value fields) = ap length e in
    let left : length (map (header_bytes buf) spans) ≡ length spans = length-map spans (header_bytes buf) in
    let right : length (map name_and_value fields) ≡ length fields = length-map fields name_and_value in
    let less : k < length fields = omega (arith, lt, same, left, right) in
    let pair : List ℕ × List ℕ = ([], []) in
    let at : header_bytes buf (get_or spans k d) ≡ name_and_value (get_or fields k nothing) =
    sym (get_or-map (header_bytes buf) spans k d pair lt) ∙ ap (λ (l : List (List ℕ × List ℕ)). get_or l k pair) e ∙ get_or-map name_and_value fields k nothing pair less in
    let v : IsField (get_or fields k nothing) = valid k nothing less in
    let w : IsHeaderWithin (length buf) (get_or spans k d) = within k d lt in
    let size = length-slice_range buf (get_or spans k d).name.start (get_or spans k d).name.end w.0.0 w.0.1 in
    record {
      name = subst grammar.IsToken (sym (ap (λ (p : List ℕ × List ℕ). p.0) at)) v.name;
      short = omega (arith, size, small, w.0.1);
      value = subst (AllPass is_value_byte) (sym (ap (λ (p : List ℕ × List ℕ). p.1) at)) (AllPass-trim_ows is_value_byte (get_or fields k nothing).raw v.raw);
    }
