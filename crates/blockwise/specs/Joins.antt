-- Pieces that are one body, one after the other (RFC 7959, section 2).
use Rattle.std.specs.Prelude.{◌≡◌, ◌≤◌, ◌<◌, ◌↔◌, ℕ, ◌+◌, Bool, true, false, List, [], ◌∷◌, ◌++◌, length, Option, Some, None}
use Rattle.limits.specs.declared.TheConstants.{MAX_BODY_LEN}
use Rattle.coap_codec.specs.Spelling.{Content}
use Rattle.coap_codec.specs.declared.block.Block.{Block}
use Rattle.coap_codec.specs.Recognition.{class_of, is_final}
use Rattle.blockwise.specs.Reading.{block_in, size_of, goes_on, offset_in, answers_piece}
use Rattle.blockwise.specs.Representations.{representation_of}
use Rattle.blockwise.specs.Downloads.{last_szx, given, nothing, is_only_piece}
use Rattle.blockwise.specs.Uploads.{UploadValue, begun, next_block, next_payload, is_last, answer_to, next_of, outcome_by, Continues, Responds}
use Rattle.blockwise.specs.declared.representation.Representation.{Representation}
use Rattle.blockwise.specs.declared.upload.Answered.{Answered}
use Rattle.blockwise.specs.declared.upload.Answered.TheVariants.{Last}

-- A block is full where more follow, and else no longer than that.
abbrev pub IsFull : Bool → ℕ → ℕ → Type 0
IsFull true len size = len ≡ size
IsFull false len size = len ≤ size

-- Without a Block option it is the whole, of any size.
abbrev pub IsSized : Option Block → ℕ → Type 0
IsSized None len = Unit {0}
IsSized (Some b) len = IsFull b.more len (size_of b.szx)

abbrev pub IsNoLarger : Option Block → ℕ → Type 0
IsNoLarger None szx = Unit {0}
IsNoLarger (Some b) szx = b.szx ≤ szx

-- The message is a piece of the representation, which begins there, in blocks no larger than this.
pub record IsPiece (of : Representation) (at szx : ℕ) (m : Content) : Type 0 where
  pub representation : representation_of m ≡ of
  pub sized : IsSized (block_in 23 m) (length m.payload)
  pub smaller : IsNoLarger (block_in 23 m) szx
  pub offset : offset_in (block_in 23 m) ≡ at

-- The messages are pieces of it from there on, up to the last one.
abbrev pub AreFollowing : Representation → ℕ → ℕ → List Content → Type 0
AreFollowing of at szx [] = ⊥
AreFollowing of at szx (m ∷ []) = IsPiece of at szx m × (goes_on (block_in 23 m) ≡ false)
AreFollowing of at szx (m ∷ n ∷ ms) =
    IsPiece of at szx m × (goes_on (block_in 23 m) ≡ true)
    × AreFollowing of (at + length m.payload) (last_szx (block_in 23 m) szx) (n ∷ ms)

abbrev pub payloads : List Content → List ℕ
payloads [] = []
payloads (m ∷ ms) = m.payload ++ payloads ms

-- The messages are all pieces of one representation, in order from its first byte, and this is the
-- join of their payloads.
pub record AreWhole (m : Content) (ms : List Content) (body : List ℕ) : Type 0 where
  pub following : AreFollowing (representation_of m) 0 6 (m ∷ ms)
  pub join : body ≡ payloads (m ∷ ms)
  pub short : length body ≤ MAX_BODY_LEN

abbrev pub DownloadsJoin : Type 0
DownloadsJoin =
    (m : Content) (ms : List Content) (body : List ℕ)
    → (given nothing (m ∷ ms) ≡ Some body) ↔ AreWhole m ms body

-- what a message carries of a body that is sent
pub record Part : Type 0 where
  pub block : Option Block
  pub payload : List ℕ

abbrev pub next_part : UploadValue → List ℕ → Part
next_part u body = record { block = next_block u; payload = next_payload u body }

-- The piece begins there, and is as long as its Block option says.
pub record IsPartAt (at : ℕ) (p : Part) : Type 0 where
  pub offset : offset_in p.block ≡ at
  pub sized : IsSized p.block (length p.payload)

-- The pieces begin there, each where the one before ended; more follow each but the last.
abbrev pub AreInOrder : ℕ → List Part → Type 0
AreInOrder at [] = ⊥
AreInOrder at (p ∷ []) = IsPartAt at p × (goes_on p.block ≡ false)
AreInOrder at (p ∷ q ∷ ps) =
    IsPartAt at p × (goes_on p.block ≡ true) × AreInOrder (at + length p.payload) (q ∷ ps)

abbrev pub joined : List Part → List ℕ
joined [] = []
joined (p ∷ ps) = p.payload ++ joined ps

-- the pieces that go, where by each of these answers the next one does
abbrev pub sent : UploadValue → List ℕ → List Content → List Part
sent u body [] = next_part u body ∷ []
sent u body (m ∷ ms) = next_part u body ∷ sent (next_of u m) body ms

-- By each answer the next piece goes, and then it is the last one's turn.
abbrev pub AllGo : UploadValue → List Content → Type 0
AllGo u [] = is_last u ≡ true
AllGo u (m ∷ ms) = Continues u m × AllGo (next_of u m) ms

-- The pieces are the whole body, in order from its first byte.
pub record AreAllOf (body : List ℕ) (parts : List Part) : Type 0 where
  pub in_order : AreInOrder 0 parts
  pub join : joined parts ≡ body

abbrev pub UploadsJoin : Type 0
UploadsJoin =
    (body : List ℕ) (szx : ℕ) (ms : List Content) → length body ≤ MAX_BODY_LEN → szx < 7
    → AllGo (begun (length body) szx) ms → AreAllOf body (sent (begun (length body) szx) body ms)

-- what an upload says to the answer after these, by each of which the next piece goes
abbrev pub outcome : UploadValue → List Content → Content → Answered
outcome u [] last = answer_to u last
outcome u (m ∷ ms) last = outcome_by (answer_to u m) (outcome (next_of u m) ms last)

-- By each of these answers the next piece goes, and the one after them is the whole response.
abbrev pub AreAnswers : UploadValue → List Content → Content → Type 0
AreAnswers u [] last = Responds u last
AreAnswers u (m ∷ ms) last = Continues u m × AreAnswers (next_of u m) ms last

abbrev pub UploadsAnswered : Type 0
UploadsAnswered =
    (u : UploadValue) (ms : List Content) (last : Content)
    → (outcome u ms last ≡ Last) ↔ AreAnswers u ms last

abbrev pub UploadsSucceed : Type 0
UploadsSucceed =
    (body : List ℕ) (szx : ℕ) (ms : List Content) (last : Content)
    → length body ≤ MAX_BODY_LEN → szx < 7
    → outcome (begun (length body) szx) ms last ≡ Last → class_of last ≡ 2
    → AreAllOf body (sent (begun (length body) szx) body ms)

-- The message that is the only piece is the one by which alone a download gives a body.
abbrev pub OnlyPieceIsWhole : Type 0
OnlyPieceIsWhole =
    (m : Content) → length m.payload ≤ MAX_BODY_LEN
    → (is_only_piece m ≡ true) ↔ (given nothing (m ∷ []) ≡ Some m.payload)

-- What an upload of no more than one piece takes for its response is the final answer to piece 0.
abbrev pub OnlyAnswerIsLast : Type 0
OnlyAnswerIsLast =
    (len : ℕ) (m : Content) → len ≤ size_of 6
    → (answer_to (begun len 6) m ≡ Last) ↔ ((answers_piece 0 m ≡ true) × (is_final m ≡ true))
