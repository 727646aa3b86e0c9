-- What a link is to its users.
use Rattle.std.specs.Prelude.{◌≡◌, ℕ, ◌+◌, ◌/◌, ◌^◌, ◌≤◌, ◌<◌, List, [], ◌∷◌, length, Option, Some, None, Bool, true, false, ◌==◌, ◌&&◌, nat_lt, nat_le, vec_len, vec_capacity}
use Rattle.std.specs.VecDeque.{deque_len, deque_capacity}
use Rattle.std.specs.List.{AllByRecursion}
use Rattle.limits.specs.declared.TheConstants.{ACK_TIMEOUT, LAST_MOMENT, LONGEST_ACK_TIMEOUT, MAX_MESSAGE_IDS, MAX_RETRANSMIT}
use Rattle.coap_codec.specs.Spelling.{Content, content}
use Rattle.message_layer.specs.declared.state.Waiting.{Waiting}
use Rattle.message_layer.specs.declared.state.Outstanding.{Outstanding}
use Rattle.message_layer.specs.declared.state.Awaited.{Awaited}
use Rattle.message_layer.specs.declared.state.Heard.{Heard}
use Rattle.message_layer.specs.declared.state.State.{State}
use Rattle.message_layer.specs.declared.state.Up.{Up}
use Rattle.message_layer.specs.declared.state.Up.TheVariants.{Nothing, Response, TimedOut, Reset, Dropped}

pub record LinkState : Type 0 where
  -- messages to be sent, in order
  pub waiting : List Waiting
  -- the one interaction that is outstanding (RFC 7252, section 4.7)
  pub outstanding : Option Outstanding
  -- the message ID that was given last
  pub last_mid : Option ℕ
  -- the moments at which the last message IDs were given, the oldest first
  pub given : List ℕ
  -- the tokens under which a response is awaited
  pub awaited : List Awaited
  -- what was heard as CON or NON, and what it was answered
  pub heard : List Heard
  -- the datagrams to be given out, in order
  pub out : List (List ℕ)

abbrev pub seen : State → LinkState
seen s = record {
  waiting = s.waiting.items;
  outstanding = s.outstanding;
  last_mid = s.last_mid;
  given = s.given.moments;
  awaited = s.awaited.items;
  heard = s.heard.messages;
  out = s.out.items;
}

-- there is room in memory for what one more call adds
abbrev pub has_room : State → Bool
has_room s =
    nat_lt 0 s.given.room
    && (nat_lt (vec_len s.waiting) (vec_capacity s.waiting)
    && (nat_lt (vec_len s.awaited) (vec_capacity s.awaited)
    && (s.heard.room
    && nat_le (deque_len s.out + 2) (deque_capacity s.out))))

-- what a link keeps, and whether it has room for what one more call adds
pub record LinkValue : Type 0 where
  pub state : LinkState
  pub room : Bool

abbrev pub shown : State → LinkValue
shown s = record { state = seen s; room = has_room s }

abbrev pub empty_link : LinkState
empty_link = record {
  waiting = [];
  outstanding = None;
  last_mid = None;
  given = [];
  awaited = [];
  heard = [];
  out = [];
}

-- what a step tells, without where it lies in memory
pub data Told : Type 0 where
  no_news : Told
  response : Content → Told
  timed_out : List ℕ → Told
  was_reset : List ℕ → Told
  was_dropped : Told

abbrev pub told : Up → Told
told Nothing = no_news
told (Response m) = response (content m)
told (TimedOut token) = timed_out token
told (Reset token) = was_reset token
told Dropped = was_dropped

-- the first byte of a CON: version 1, type 0, and the length of the token
abbrev pub is_con : List ℕ → Bool
is_con [] = false
is_con (first ∷ rest) = first / 16 == 4

-- A message that waits is a CON with a header. Its initial timeout is from ACK_TIMEOUT (2 s) to 1.5
-- times that (ACK_RANDOM_FACTOR).
pub record IsSoundWaiting (w : Waiting) : Type 0 where
  pub confirmable : is_con w.datagram ≡ true
  pub header : 4 ≤ length w.datagram
  pub short : w.timeout ≤ LONGEST_ACK_TIMEOUT
  pub long : ACK_TIMEOUT ≤ w.timeout
  pub mid : w.first_mid < 65536

-- at most MAX_RETRANSMIT copies
pub record IsSoundOutstanding (o : Outstanding) : Type 0 where
  pub confirmable : is_con o.datagram ≡ true
  pub short : o.timeout ≤ LONGEST_ACK_TIMEOUT
  pub long : ACK_TIMEOUT ≤ o.timeout
  pub sent : o.sent ≤ LAST_MOMENT
  pub retransmissions : o.retransmissions ≤ MAX_RETRANSMIT

-- where nothing is outstanding, nothing waits
abbrev pub IsSoundTurn : Option Outstanding → List Waiting → Type 0
IsSoundTurn None ws = ws ≡ []
IsSoundTurn (Some o) ws = IsSoundOutstanding o

-- what is true of every link
pub record IsSound (s : LinkState) : Type 0 where
  pub turn : IsSoundTurn s.outstanding s.waiting
  pub waiting : AllByRecursion IsSoundWaiting s.waiting
  pub given : length s.given + length s.waiting ≤ MAX_MESSAGE_IDS
