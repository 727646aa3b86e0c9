-- The pieces of a body that is sent, and what the answers to them do.
use Rattle.std.specs.Prelude.{◌<◌, ◌≤◌, ◌≡◌, ◌≢◌, ◌⊎◌, ℕ, ◌+◌, ◌*◌, ◌/◌, Bool, true, false, not, ◌&&◌, List, take, drop, Option, Some, None, ◌==◌, nat_le, nat_lt, if◌then◌else◌}
use Rattle.limits.specs.declared.TheConstants.{MAX_BODY_LEN}
use Rattle.coap_codec.specs.Spelling.{Content}
use Rattle.coap_codec.specs.declared.block.Block.{Block}
use Rattle.coap_codec.specs.Recognition.{class_of, is_final}
use Rattle.blockwise.specs.Reading.{block_in, size_of, answers_piece, IsAlone}
use Rattle.blockwise.specs.declared.upload.Answered.{Answered}
use Rattle.blockwise.specs.declared.upload.Answered.TheVariants.{Next, Last, Wrong}

-- how long the body is, how many of its bytes were taken, and the size exponent of the next piece
pub record UploadValue : Type 0 where
  pub len : ℕ
  pub taken : ℕ
  pub szx : ℕ

-- so many bytes are whole blocks
pub record IsAligned (taken szx : ℕ) : Type 0 where
  pub num : ℕ
  pub blocks : taken ≡ num * size_of szx

-- what holds of each
pub record IsSound (u : UploadValue) : Type 0 where
  pub len : u.len ≤ MAX_BODY_LEN
  pub taken : u.taken ≤ u.len
  pub szx : u.szx < 7
  pub aligned : IsAligned u.taken u.szx

abbrev pub begun : ℕ → ℕ → UploadValue
begun len szx = record { len = len; taken = 0; szx = szx }

-- The next piece is the last one.
abbrev pub is_last : UploadValue → Bool
is_last u = nat_le u.len (u.taken + size_of u.szx)

-- It is the only one, so that the body goes whole, without a Block option.
abbrev pub is_whole : UploadValue → Bool
is_whole u = (u.taken == 0) && is_last u

-- its number: the bytes before it, in blocks of its size
abbrev pub next_num : UploadValue → ℕ
next_num u = u.taken / size_of u.szx

-- the next piece, and its Block1 (RFC 7959, section 2.3)
abbrev pub next_payload : UploadValue → List ℕ → List ℕ
next_payload u body = take (size_of u.szx) (drop u.taken body)

abbrev pub block_at : UploadValue → Block
block_at u = record { num = next_num u; more = not (is_last u); szx = u.szx }

abbrev pub next_block : UploadValue → Option Block
next_block u = if is_whole u then None else Some (block_at u)

-- the bytes of a body that a block has (RFC 7959, section 2.2)
abbrev pub slice_of : Block → List ℕ → List ℕ
slice_of b body = take (size_of b.szx) (drop (b.num * size_of b.szx) body)

-- An answer may ask for smaller pieces (RFC 7959, section 2.5).
abbrev pub next_szx : Option Block → ℕ → ℕ
next_szx None szx = szx
next_szx (Some b) szx = if nat_lt b.szx szx then b.szx else szx

abbrev pub if_final : Bool → Answered
if_final final = if final then Last else Wrong

-- After the last piece any final response ends the request; before it only an error does, and 2.31
-- says that the piece was taken (RFC 7959 section 2.3).
abbrev pub answer_to : UploadValue → Content → Answered
answer_to u m =
    if not (answers_piece (next_num u) m) then Wrong
    else (if is_last u then if_final (is_final m)
    else (if m.code == 95 then Next else if_final (is_final m && not (class_of m == 2))))

abbrev pub next_of : UploadValue → Content → UploadValue
next_of u m = record {
  len = u.len;
  taken = u.taken + size_of u.szx;
  szx = next_szx (block_in 27 m) u.szx;
}

-- The answer names this piece, or none.
abbrev pub Names : Option Block → ℕ → Type 0
Names None num = Unit {0}
Names (Some b) num = b.num ≡ num

-- It answers the piece of this number, and nothing of it follows.
pub record IsAnswerTo (num : ℕ) (m : Content) : Type 0 where
  pub number : Names (block_in 27 m) num
  pub alone : IsAlone (block_in 23 m)

-- By the answer the next piece goes: 2.31 (Continue), to a piece before the last (RFC 7959,
-- sections 2.3 and 2.9.1).
pub record Continues (u : UploadValue) (m : Content) : Type 0 where
  pub answers : IsAnswerTo (next_num u) m
  pub before_last : is_last u ≡ false
  pub code : m.code ≡ 95

-- The answer is the whole response: it ends the request, after the last piece, or as an error
-- after any. A longer response would begin at number 0 and say that more follows (RFC 7959, section
-- 2.7).
pub record Responds (u : UploadValue) (m : Content) : Type 0 where
  pub answers : IsAnswerTo (next_num u) m
  pub final : is_final m ≡ true
  pub last_or_error : (is_last u ≡ true) ⊎ (class_of m ≢ 2)

-- what the last of these answers means, where by each before it the next piece goes
abbrev pub outcome_by : Answered → Answered → Answered
outcome_by Next later = later
outcome_by Last later = Wrong
outcome_by Wrong later = Wrong
