-- The bytes of an answer (RFC 9112, sections 4 to 6).
use Rattle.std.specs.Prelude.{ℕ, ◌+◌, ◌/◌, ◌%◌, List, [], ◌∷◌, ◌++◌, codes}
use Rattle.std.specs.List.{flat_map}
use Rattle.std.specs.Arc.{arc_value}
use Rattle.httparse.specs.Ascii.{crlf_bytes}
use Rattle.http_edge.specs.declared.answer.Field.{Field}
use Rattle.http_edge.specs.declared.answer.Body.{Body}
use Rattle.http_edge.specs.declared.answer.Body.TheVariants.{Empty, Owned, Shared}
use Rattle.http_edge.specs.declared.answer.HttpAnswer.{HttpAnswer}

-- The three digits of a status code.
abbrev pub digits_of : ℕ → List ℕ
digits_of status = (48 + status / 100) ∷ (48 + status / 10 % 10) ∷ (48 + status % 10) ∷ []

abbrev pub body_bytes : Body → List ℕ
body_bytes Empty = []
body_bytes (Owned bytes) = bytes.items
body_bytes (Shared bytes) = (arc_value bytes).items

-- A field's line.
abbrev pub field_line : Field → List ℕ
field_line f = f.name.now ++ codes ": " ++ f.value.items ++ crlf_bytes

-- The status line.
abbrev pub status_line : ℕ → List ℕ → List ℕ
status_line status phrase =
    codes "HTTP/1.1 " ++ digits_of status ++ codes " " ++ phrase ++ crlf_bytes

-- The whole answer: the status line, the fields in order, an empty line and the body.
abbrev pub answer_text : HttpAnswer → List ℕ
answer_text a = status_line a.status a.phrase.now ++ flat_map field_line a.fields.items
    ++ crlf_bytes ++ body_bytes a.body
