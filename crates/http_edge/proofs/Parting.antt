-- The values of fields, which are cut off one after the other.
use Rattle.std.proofs.Common.{◌≡◌, ℕ, ◌<◌, ◌+◌, List, [], ◌∷◌, ◌++◌, length, take, drop, map, get_or, refl}
use Rattle.std.proofs.lemmas.List.{drop_more, map-append, map_more}
use Rattle.std.proofs.lemmas.List.Sums.{fold-append}
use Rattle.std.proofs.Math.Seq.{take-append_seam, drop-append_seam}
use Rattle.httparse.specs.Spans.{header_bytes}
use Rattle.httparse.specs.declared.spans.HeaderSpan.{HeaderSpan}
use Rattle.http_header.specs.Token.{lowercase}
use Rattle.http_header.specs.HeaderMap.{append}
use Rattle.http_header.specs.FieldValue.{FieldValue, plain_value}
use Rattle.http_edge.specs.Requests.{fields_from, values_in}

abbrev spelled : List ℕ × List ℕ → List ℕ × FieldValue
spelled f = (lowercase f.0, plain_value f.1)

abbrev put : List (List ℕ × List FieldValue) → List ℕ × FieldValue → List (List ℕ × List FieldValue)
put m item = append m item.0 item.1

module _ (buf : List ℕ) (spans : List HeaderSpan) (k : ℕ) (d : HeaderSpan) (lt : k < length spans) where
  abbrev name : List ℕ
  name = (header_bytes buf (get_or spans k d)).0

  abbrev value : List ℕ
  value = (header_bytes buf (get_or spans k d)).1

  abbrev rest : List ℕ
  rest = values_in (map (header_bytes buf) (drop (k + 1) spans))

  -- what is left of them begins with that of the field that is next
  begins : values_in (map (header_bytes buf) (drop k spans)) ≡ value ++ rest
  begins = rw (drop_more spans k d lt) refl

  pub value_next : (values : List ℕ) (n : ℕ) → values ≡ values_in (map (header_bytes buf) (drop k spans)) → n ≡ length value
      → take n values ≡ value
  value_next values n e l = rw (e, begins, l) (take-append_seam value rest)

  pub others_next : (values : List ℕ) (n : ℕ) → values ≡ values_in (map (header_bytes buf) (drop k spans)) → n ≡ length value
      → drop n values ≡ rest
  others_next values n e l = rw (e, begins, l) (drop-append_seam value rest)

  -- the map of the fields so far goes on with it
  pub field_next : fields_from (map (header_bytes buf) (take (k + 1) spans))
      ≡ append (fields_from (map (header_bytes buf) (take k spans))) (lowercase name) (plain_value value)
  field_next =
      rw (map_more (header_bytes buf) spans k d lt, map-append spelled (map (header_bytes buf) (take k spans)) ((name, value) ∷ []), fold-append put [] (map spelled (map (header_bytes buf) (take k spans))) (spelled (name, value) ∷ [])) refl
