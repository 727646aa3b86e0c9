-- How far an exchange has come by its replies, and what its next message is.
use Rattle.std.specs.Prelude.{ℕ, ◌+◌, ◌/◌, Bool, true, false, List, [], ◌∷◌, ◌++◌, length, fold, map, Option, Some, None, option_map, Ok, Err, ◌==◌, if◌then◌else◌}
use Rattle.coap_codec.specs.Spelling.{Content}
use Rattle.coap_codec.specs.Recognition.{is_forwardable}
use Rattle.coap_codec.specs.declared.block.Block.{Block}
use Rattle.ask_model.specs.Requests.{CoapRequest, Manner, asking, block_message}
use Rattle.blockwise.specs.Reading.{size_of}
use Rattle.blockwise.specs.Downloads.{PiecesValue, no_pieces, Judged, judged, with_piece}
use Rattle.blockwise.specs.Uploads.{UploadValue, begun, answer_to, next_block, next_of}
use Rattle.blockwise.specs.declared.representation.Representation.{Representation}
use Rattle.blockwise.specs.declared.fault.BlockFault.{BlockFault}
use Rattle.blockwise.specs.declared.fault.BlockFault.TheVariants.{Changed}
use Rattle.blockwise.specs.declared.pieces.Step.TheVariants.{Next, Last}
use Rattle.blockwise.specs.declared.upload.Answered.{Answered}
use Rattle.blockwise.specs.declared.upload.Answered.TheVariants as A
use Rattle.resp_cache.specs.Stored.{Stored}
use Rattle.history_laws.specs.Responses.{Response, response_of, joined, is_tellable}

-- a reply to an exchange: the entry heard, the first sending that it replies to, the message
pub record Reply : Type 0 where
  pub number : ℕ
  pub sending : ℕ
  pub message : Content

abbrev pub numbers : List Reply → List ℕ
numbers rs = map (λ (r : Reply). r.number) rs

abbrev pub messages : List Reply → List Content
messages rs = map (λ (r : Reply). r.message) rs

-- how an exchange ends
pub data Ending : Type 0 where
  -- these of its replies are a whole response
  Whole : (response : Response) → (replies : List Reply) → Ending
  -- what it keeps is valid still, as this reply says
  Renewed : (kept : Stored) → (reply : Reply) → Ending
  -- the last reply is none that the exchange can go on with
  NotUnderstood : Ending
  -- its latest message was rejected by a Reset message
  Reset : Ending
  -- its latest message was given up, or it has been open for as long as it may
  TimedOut : Ending
  -- there was no place for its next message
  Turned : Ending

-- How far it has come. What a GET asks for may come in pieces, which are fetched one by one (RFC
-- 7959 section 2.4). The body of any other request may go in pieces, one by one (section 2.3).
pub data Progress : Type 0 where
  -- how often it was begun anew; what is known of the pieces that came since then, and their
  -- replies
  Fetches : (restarts : ℕ) → (pieces : PiecesValue) → (got : List Reply) → Progress
  -- how much of the body was taken, and the replies by which it was
  Gives : (upload : UploadValue) → (got : List Reply) → Progress
  Ends : (how : Ending) → Progress

-- The pieces of a body have 1,024 bytes (SZX 6), unless the server asks for smaller ones.
abbrev pub first_progress : CoapRequest → Progress
first_progress q =
    if q.method == 1 then Fetches 0 no_pieces [] else Gives (begun (length q.body) 6) []

-- By the answer to a piece of a body the next one goes, or the exchange ends.
abbrev pub answered_so : Answered → UploadValue → List Reply → Reply → Progress
answered_so A.Next u got r = Gives (next_of u r.message) (got ++ r ∷ [])
answered_so A.Last u got r = Ends (Whole (response_of r.message) (got ++ r ∷ []))
answered_so A.Wrong u got r = Ends NotUnderstood

abbrev pub answered : UploadValue → List Reply → Reply → Progress
answered u got r =
    if is_forwardable r.message.options
    then answered_so (answer_to u r.message) u got r
    else Ends NotUnderstood

-- what these pieces are together, which are all
abbrev pub fetched_whole : List Reply → Ending
fetched_whole [] = NotUnderstood
fetched_whole (r ∷ rs) = Whole (joined r.message (messages rs)) (r ∷ rs)

-- Pieces that aren't of one representation are fetched anew, three times at most.
abbrev pub anew : ℕ → Progress
anew restarts = if restarts == 3 then Ends NotUnderstood else Fetches (restarts + 1) no_pieces []

abbrev pub faulted : BlockFault → ℕ → Progress
faulted Changed restarts = anew restarts
faulted fault restarts = Ends NotUnderstood

abbrev pub fetched_by : Judged → ℕ → PiecesValue → List Reply → Progress
fetched_by (Err fault) restarts pieces got = faulted fault restarts
fetched_by (Ok (Next block)) restarts pieces got = Fetches restarts pieces got
fetched_by (Ok Last) restarts pieces got = Ends (fetched_whole got)

-- one piece more
abbrev pub fetched : ℕ → PiecesValue → List Reply → Reply → Progress
fetched restarts pieces got r =
    if is_tellable r.message
    then fetched_by (judged pieces r.message) restarts (with_piece pieces r.message) (got ++ r ∷ [])
    else Ends NotUnderstood

abbrev pub step : Progress → Reply → Progress
step (Fetches restarts pieces got) r = fetched restarts pieces got r
step (Gives upload got) r = answered upload got r
step (Ends how) r = Ends how

-- how far the exchange of a request has come with these replies
abbrev pub progress : CoapRequest → List Reply → Progress
progress q rs = fold step (first_progress q) rs

-- how it ends by that, if it does: also where it would go on, and there is no place for that
abbrev pub ended_by : Bool → Progress → Option Ending
ended_by place (Ends how) = Some how
ended_by true progress = None
ended_by false progress = Some Turned

-- The block that follows these pieces, in the size of the last: none is named where none came.
abbrev pub block_at : PiecesValue → Representation → Block
block_at p first = record { num = p.len / size_of p.szx; more = false; szx = p.szx }

abbrev pub block_after : PiecesValue → Option Block
block_after p = option_map (block_at p) p.of

-- the next message, with this ID and token, where there is one: a GET is asked in this manner
abbrev pub next_message : Manner → CoapRequest → Progress → ℕ → List ℕ → Option Content
next_message manner q (Fetches restarts pieces got) mid token =
    Some (asking manner q (block_after pieces) mid token)
next_message manner q (Gives upload got) mid token =
    Some (block_message q (next_block upload) mid token)
next_message manner q (Ends how) mid token = None

-- what is known of the pieces so far: of those of a representation, which come, or of a body, which
-- go
pub data Point : Type 0 where
  Fetched : (pieces : PiecesValue) → Point
  Given : (upload : UploadValue) → Point

abbrev pub first_point : CoapRequest → Point
first_point q = if q.method == 1 then Fetched no_pieces else Given (begun (length q.body) 6)

-- the block that the next message is for
abbrev pub block_for : Point → Option Block
block_for (Fetched pieces) = block_after pieces
block_for (Given upload) = next_block upload

-- after the reply to that
abbrev pub point_after : Point → Content → Point
point_after (Fetched pieces) m = Fetched (with_piece pieces m)
point_after (Given upload) m = Given (next_of upload m)
