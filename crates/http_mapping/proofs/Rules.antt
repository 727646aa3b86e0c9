-- What a rule for a field gives where it applies.
use Rattle.std.proofs.Common.{◌≡◌, ℕ, true, false, ◌==◌, nat_le, List, ◌∷◌, [], ◌++◌, length, Some, None, codes, decimal, eq-eqb, refl}
use Rattle.std.specs.Str.{is_utf8}
use Rattle.hex.specs.Hex.{encode_lower}
use Rattle.code_map.specs.declared.status.Status.{Status}
use Rattle.code_map.specs.Statuses.{number_of}
use Rattle.history_laws.specs.Responses.{Response}
use Rattle.media_map.specs.Formats.{media_text}
use Rattle.http_mapping.specs.Means.{only, content_type, cache_control, seconds_left, entity_tag, retry_after, content_length}

pub content_type_of_format : (w : Response) (n : ℕ) (text : List ℕ) → (length w.body == 0) ≡ false → w.format ≡ Some n
    → text ≡ media_text n → content_type w ≡ only (codes "Content-Type") text
content_type_of_format w n text empty format is = rw (empty, format, is) refl

pub content_type_of_text : (w : Response) (text : List ℕ) → (length w.body == 0) ≡ false → w.format ≡ None
    → nat_le 128 w.code ≡ true → is_utf8 w.body ≡ true → text ≡ media_text 0 → content_type w ≡ only (codes "Content-Type") text
content_type_of_text w text empty format error utf8 is = rw (empty, format, error, utf8, is) refl

pub cache_control_of : (w : Response) (age : ℕ) (text : List ℕ) → w.code ≡ 69
    → text ≡ codes "max-age=" ++ decimal (seconds_left w age) → cache_control w age ≡ only (codes "Cache-Control") text
cache_control_of w age text code is =
    let at : (w.code == 69) ≡ true = eq-eqb w.code 69 code in
    rw (at, is) refl

pub entity_tag_of : (w : Response) (tag text : List ℕ) → w.code ≡ 69 → w.etag ≡ Some tag
    → text ≡ 34 ∷ encode_lower tag ++ 34 ∷ [] → entity_tag w ≡ only (codes "ETag") text
entity_tag_of w tag text code etag is =
    let at : (w.code == 69) ≡ true = eq-eqb w.code 69 code in
    rw (at, etag, is) refl

pub retry_after_of : (w : Response) (n : ℕ) → w.code ≡ 163 → w.max_age ≡ Some n → retry_after w ≡ only (codes "Retry-After") (decimal n)
retry_after_of w n code seconds =
    let at : (w.code == 163) ≡ true = eq-eqb w.code 163 code in
    rw (at, seconds) refl

pub content_length_of : (status : Status) (n : ℕ) (text : List ℕ) → (number_of status == 204) ≡ false
    → text ≡ decimal n → content_length status n ≡ only (codes "Content-Length") text
content_length_of status n text other is = rw (other, is) refl
