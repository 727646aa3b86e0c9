-- What a request counts.
use Rattle.std.specs.Prelude.{ℕ, ◌+◌, ◌-◌, ◌^◌, min, List, length, sum_by}
use Rattle.http_header.specs.FieldValue.{FieldValue}
use Rattle.http_header.specs.HeaderMap.{pairs}
use Rattle.ask_model.specs.Requests.{Came, Whole, Bad}

-- the bytes of a field line: its name and its value
abbrev pub field_size : List ℕ × FieldValue → ℕ
field_size f = length f.0 + length f.1.bytes

-- the bytes of what came in: method, target, field lines and body
abbrev pub came_size : Came → ℕ
came_size (Whole r) =
    length r.method + length r.target + sum_by field_size (pairs r.fields) + length r.body
came_size (Bad kind) = 0

-- the largest number that 64 bits count to, in place of any larger one
abbrev pub capped : ℕ → ℕ
capped n = min n (2 ^ 64 - 1)
