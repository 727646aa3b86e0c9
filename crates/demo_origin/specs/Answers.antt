-- What an answer is, and what it leaves (RFC 7252, sections 4.5, 5.2, 5.9 and 5.10).
use Rattle.std.specs.Prelude.{◌≡◌, ◌<◌, ℕ, ◌%◌, List, [], ◌∷◌, ◌++◌, filter, length, Option, Some, None, Bool, true, false, vec_len, vec_capacity}
use Rattle.std.specs.Int.{to_be_bytes, w64}
use Rattle.std.specs.VecDeque.{deque_len, deque_capacity}
use Rattle.uri_map.specs.declared.peer.Peer.{Peer}
use Rattle.coap_codec.specs.Spelling.{Content, Entry, Spells}
use Rattle.coap_codec.specs.Values.{uint, IsShortest}
use Rattle.coap_codec.specs.declared.block.Block.{Block}
use Rattle.coap_codec.specs.declared.message.MsgType.{MsgType}
use Rattle.coap_codec.specs.declared.message.MsgType.TheVariants.{Con, Non, Ack, Rst}
use Rattle.demo_origin.specs.Values.{Device}
use Rattle.demo_origin.specs.Peers.{own_mid, known_after}
use Rattle.demo_origin.specs.Arrivals.{is_live}
use Rattle.demo_origin.specs.Blocks.{part_of, piece_of, IsBlockOption}
use Rattle.demo_origin.specs.Observing.{is_granted, enlisted, left_by}
use Rattle.demo_origin.specs.Tags.{is_valid}
use Rattle.demo_origin.specs.declared.blocks.Part.{Part}
use Rattle.demo_origin.specs.declared.blocks.Part.TheVariants.{Whole, Piece, Past}
use Rattle.demo_origin.specs.declared.answer.Asker.{Asker}
use Rattle.demo_origin.specs.declared.observers.Wish.{Wish}
use Rattle.demo_origin.specs.declared.state.Held.{Held}
use Rattle.demo_origin.specs.declared.state.State.{State}
use Rattle.demo_origin.specs.declared.state.Remembered.{Remembered}

-- A CON is answered in its ACK, any other request by a NON of the device's own ID.
abbrev pub answer_kind : MsgType → MsgType
answer_kind Con = Ack
answer_kind Non = Non
answer_kind Ack = Non
answer_kind Rst = Non

abbrev pub answer_mid : MsgType → ℕ → ℕ → ℕ
answer_mid Con mid own = mid
answer_mid Non mid own = own
answer_mid Ack mid own = own
answer_mid Rst mid own = own

abbrev pub answer_to : Asker → ℕ → ℕ → List Entry → List ℕ → Content
answer_to to own code options payload = record {
  kind = answer_kind to.kind;
  code = code;
  mid = answer_mid to.kind to.mid own;
  token = to.token;
  options = options;
  payload = payload;
}

abbrev pub sent : Peer → List ℕ → Device → Device
sent p bytes s = record s { out = s.out ++ record { peer = p; bytes = bytes } ∷ [] }

-- what is remembered of a message that is answered by those bytes, or by silence
abbrev pub memory_of : Asker → Option (List ℕ) → Remembered
memory_of to answer =
    record { peer = to.peer; mid = to.mid; moment = to.moment; answer = answer }

abbrev pub remembering : Asker → Option (List ℕ) → List Remembered → List Remembered
remembering to answer all = filter (is_live to.moment) all ++ memory_of to answer ∷ []

-- the answer goes out, and is remembered by its request's ID
abbrev pub answered : Asker → List ℕ → Device → Device
answered to bytes s = record s {
  clients = known_after to.moment to.peer to.kind s.clients;
  remembered = remembering to (Some bytes) s.remembered;
  out = s.out ++ record { peer = to.peer; bytes = bytes } ∷ [];
}

-- A message that isn't processed is remembered by its ID too, with the RST that it gets, or with
-- nothing.
abbrev pub noted : Asker → Option (List ℕ) → Device → Device
noted to answer s = record s {
  clients = known_after to.moment to.peer Con s.clients;
  remembered = remembering to answer s.remembered;
}

-- the request is answered by that code, with those options and that payload
pub record Answers (to : Asker) (code : ℕ) (options : List Entry) (payload : List ℕ)
    (old new : Device) : Type 0 where
  pub bytes : List ℕ
  pub spelled : Spells (answer_to to (own_mid to.peer old.clients) code options payload) bytes
  pub is : new ≡ answered to bytes old

-- The sequence number of a state is its version modulo 2^24 (RFC 7641, section 4.4).
abbrev pub IsSequence : Bool → ℕ → List ℕ → Type 0
IsSequence false version value = value ≡ []
IsSequence true version value = (uint value ≡ version % 16777216) × IsShortest value

-- an observer is told the sequence number too
abbrev pub with_observe : Bool → List ℕ → List Entry → List Entry
with_observe false value others = others
with_observe true value others = record { number = 6; value = value } ∷ others

-- the options of a state, or a piece of it, that is read or told: ETag (the version), Observe for
-- an observer, Content-Format, Max-Age, and Block2 for a piece
pub record Describes (r : Held) (observed : Bool) (b : Option Block) (options : List Entry)
    : Type 0 where
  pub observe : List ℕ
  pub format : List ℕ
  pub max_age : List ℕ
  pub block : List Entry
  pub observe_is : IsSequence observed r.version observe
  pub format_is : (uint format ≡ r.format) × IsShortest format
  pub max_age_is : (uint max_age ≡ r.max_age) × IsShortest max_age
  pub block_is : IsBlockOption b block
  pub options_are :
      options
      ≡ record { number = 4; value = to_be_bytes w64 r.version }
      ∷ with_observe observed observe
      (record { number = 12; value = format } ∷ record { number = 14; value = max_age } ∷ block)

-- the options of a 2.03, with which no state comes: ETag, Observe for an observer, and Max-Age
-- (RFC 7252, section 5.9.1.3; RFC 7641, section 3.2)
pub record Renews (r : Held) (observed : Bool) (options : List Entry) : Type 0 where
  pub observe : List ℕ
  pub max_age : List ℕ
  pub observe_is : IsSequence observed r.version observe
  pub max_age_is : (uint max_age ≡ r.max_age) × IsShortest max_age
  pub options_are :
      options
      ≡ record { number = 4; value = to_be_bytes w64 r.version }
      ∷ with_observe observed observe (record { number = 14; value = max_age } ∷ [])

-- room for an answer, and for what is remembered of it
pub record HasRoom (s : State) : Type 0 where
  pub clients : vec_len s.clients < vec_capacity s.clients
  pub remembered : vec_len s.remembered < vec_capacity s.remembered
  pub out : deque_len s.out < deque_capacity s.out

-- the piece, or all of it
abbrev pub shown_part : Option Block → List ℕ → List ℕ
shown_part None state = state
shown_part (Some b) state = piece_of b state

-- the peer is registered with what it was told of, or no longer, as it asks for
abbrev pub enlisting : Asker → ℕ → Wish → ℕ → Device → Device
enlisting to i wish version s =
    record s { observers = enlisted wish to.peer i to.token version s.observers }

-- A GET is answered by that code and payload, with options of the state as it stands, and with an
-- Observe where it is registered for.
pub record AnswersGet (to : Asker) (i : ℕ) (wish : Wish) (version : ℕ) (code : ℕ)
    (describes_as : Bool → List Entry → Type 0) (payload : List ℕ) (old new : Device) : Type 0
  where
    pub options : List Entry
    pub describes :
        describes_as (is_granted wish to.peer i to.token old.observers) options
    pub middle : Device
    pub answers : Answers to code options payload old middle
    pub is : new ≡ enlisting to i wish version middle

-- 2.05 with the state, or a piece of it
abbrev pub Shows : Asker → ℕ → Wish → Held → Option Block → Device → Device → Type 0
Shows to i wish held b old new =
    AnswersGet to i wish held.version 69 (λ observed options. Describes held observed b options)
    (shown_part b held.state) old new

-- 2.03 alone: the state is the one that the client has (RFC 7252, section 5.10.6.2)
abbrev pub Validates : Asker → ℕ → Wish → Held → Device → Device → Type 0
Validates to i wish held old new =
    AnswersGet to i wish held.version 67 (λ observed options. Renews held observed options) []
    old new

-- A GET is answered by that code alone: it registers nobody, and Observe 1 ends its registration.
pub record Declines (to : Asker) (i : ℕ) (wish : Wish) (code : ℕ) (old new : Device) : Type 0
  where
    pub middle : Device
    pub answers : Answers to code [] [] old middle
    pub is :
        new
        ≡ record middle { observers = left_by wish to.peer i to.token middle.observers }

-- A GET is answered by 2.05 with the state as it stands, or with the piece of it that is asked for;
-- by 4.00 where it has no such piece.
abbrev pub ReadsPart : Asker → ℕ → Wish → Held → Part → Device → Device → Type 0
ReadsPart to i wish held Whole old new = Shows to i wish held None old new
ReadsPart to i wish held (Piece b) old new = Shows to i wish held (Some b) old new
ReadsPart to i wish held Past old new = Declines to i wish 128 old new

abbrev pub ReadsBy : Bool → Asker → ℕ → Wish → Option Block → Held → Device → Device → Type 0
ReadsBy true to i wish named held old new = Validates to i wish held old new
ReadsBy false to i wish named held old new =
    ReadsPart to i wish held (part_of named old.block (length held.state)) old new

-- A GET with the ETag of the state is answered by 2.03, unless it asks for a later piece.
abbrev pub Reads : Asker → ℕ → Wish → List (List ℕ) → Option Block → Option Held
    → Device → Device → Type 0
Reads to i wish tags named None old new = ⊥
Reads to i wish tags named (Some held) old new =
    ReadsBy (is_valid tags named held.version) to i wish named held old new
