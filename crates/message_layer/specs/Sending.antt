-- What handing in a message and a tick do to a link (RFC 7252, sections 4.2, 4.4 and 4.7).
use Rattle.std.specs.Prelude.{◌≡◌, ℕ, ◌+◌, ◌*◌, ◌/◌, ◌%◌, ◌^◌, ◌≤◌, ◌<◌, vec_len, vec_capacity, List, [], ◌∷◌, ◌++◌, length, count_by, Result, Ok, Err, slice_set, Option, Some, None, Bool, true, ◌-◌, nat_le, nat_lt, if◌then◌else◌}
use Rattle.std.specs.VecDeque.{deque_len, deque_capacity}
use Rattle.limits.specs.declared.TheConstants.{ACK_TIMEOUT, MAX_MESSAGE_IDS, MAX_RETRANSMIT, MAX_WAITING}
use Rattle.message_layer.specs.Mids.{is_in_use, pruned}
use Rattle.message_layer.specs.Values.{LinkState, Told, no_news, timed_out}
use Rattle.message_layer.specs.declared.state.Waiting.{Waiting}
use Rattle.message_layer.specs.declared.state.Outstanding.{Outstanding}
use Rattle.message_layer.specs.declared.state.State.{State}
use Rattle.message_layer.specs.declared.prepared.FirstSending.{FirstSending}
use Rattle.message_layer.specs.declared.fault.LinkFault.{LinkFault}
use Rattle.message_layer.specs.declared.fault.LinkFault.TheVariants.{Queue, Numbers, Memory}
use Rattle.coap_codec.specs.Spelling.{Content, Spells}

-- the datagram with this message ID, which is its third and fourth byte
abbrev pub with_mid : ℕ → List ℕ → List ℕ
with_mid mid datagram = slice_set (slice_set datagram 2 (mid / 256)) 3 (mid % 256)

-- The initial timeout that a random word gives: from ACK_TIMEOUT (2 s) to 1.5 times that
-- (ACK_RANDOM_FACTOR).
abbrev pub initial_timeout : ℕ → ℕ
initial_timeout word = ACK_TIMEOUT + word % 4294967296 % 1001

-- The timeout starts at each sending and doubles with each copy.
abbrev pub due_of : Outstanding → ℕ
due_of o = o.sent + o.timeout * 2 ^ o.retransmissions

-- when it is given up at the latest: each wait is twice as long as the one before it (section 4.2)
abbrev pub last_due : Outstanding → ℕ
last_due o = o.sent + o.timeout * (2 ^ 5 - 2 ^ o.retransmissions)

abbrev pub is_over_by : ℕ → Option Outstanding → Bool
is_over_by t None = true
is_over_by t (Some o) = nat_le (last_due o) t

-- one more than the ID before, or the first one
abbrev pub next_mid : Option ℕ → ℕ → ℕ
next_mid None first_mid = first_mid
next_mid (Some mid) first_mid = (mid + 1) % 65536

-- a message that waited is sent
abbrev pub first_sent : ℕ → Option ℕ → Waiting → Outstanding
first_sent t last_mid w = let mid = next_mid last_mid w.first_mid in record {
  token = w.token;
  mid = mid;
  datagram = with_mid mid w.datagram;
  timeout = w.timeout;
  sent = t;
  retransmissions = 0;
}

-- the first that waits
abbrev pub next_outstanding : ℕ → Option ℕ → List Waiting → Option Outstanding
next_outstanding t last_mid [] = None
next_outstanding t last_mid (w ∷ ws) = Some (first_sent t last_mid w)

-- a sending gives an ID, awaits a response under its token and puts out a datagram
abbrev pub with_outstanding : LinkState → List Waiting → Outstanding → LinkState
with_outstanding s ws o = record {
  waiting = ws;
  outstanding = Some o;
  last_mid = Some o.mid;
  given = s.given ++ o.sent ∷ [];
  awaited = s.awaited ++ record { token = o.token; mid = Some o.mid } ∷ [];
  heard = s.heard;
  out = s.out ++ o.datagram ∷ [];
}

abbrev pub without_outstanding : LinkState → LinkState
without_outstanding s = record {
  waiting = s.waiting;
  outstanding = None;
  last_mid = s.last_mid;
  given = s.given;
  awaited = s.awaited;
  heard = s.heard;
  out = s.out;
}

abbrev pub next_by : ℕ → LinkState → List Waiting → LinkState
next_by t s [] = without_outstanding s
next_by t s (w ∷ ws) = with_outstanding s ws (first_sent t s.last_mid w)

-- what was outstanding has ended: the next message is sent
abbrev pub next_sent : ℕ → LinkState → LinkState
next_sent t s = next_by t s s.waiting

-- sent once more
abbrev pub again : ℕ → Outstanding → Outstanding
again t o = record {
  token = o.token;
  mid = o.mid;
  datagram = o.datagram;
  timeout = o.timeout;
  sent = t;
  retransmissions = o.retransmissions + 1;
}

-- the same bytes go out once more
abbrev pub with_copy : ℕ → LinkState → Outstanding → LinkState
with_copy t s o = record {
  waiting = s.waiting;
  outstanding = Some (again t o);
  last_mid = s.last_mid;
  given = s.given;
  awaited = s.awaited;
  heard = s.heard;
  out = s.out ++ o.datagram ∷ [];
}

-- A tick looks at the timer. If it has run out, the tick sends one of the four copies
-- (MAX_RETRANSMIT), or gives the message up.
abbrev pub ticked_by : ℕ → LinkState → Option Outstanding → LinkState × Told
ticked_by t s None = (s, no_news)
ticked_by t s (Some o) =
    if nat_lt t (due_of o) then (s, no_news) else
    (if nat_lt o.retransmissions MAX_RETRANSMIT
    then (with_copy t s o, no_news)
    else (next_sent t s, timed_out o.token))

abbrev pub ticked : ℕ → LinkState → LinkState × Told
ticked t s = ticked_by t s s.outstanding

-- a message that was handed in, with its bytes under ID 0
abbrev pub waits : List ℕ → List ℕ → ℕ → Waiting
waits token text word = record {
  token = token;
  datagram = text;
  timeout = initial_timeout word;
  first_mid = word % 65536;
}

abbrev pub queued : ℕ → Waiting → LinkState → LinkState
queued t w s = record {
  waiting = s.waiting ++ w ∷ [];
  outstanding = s.outstanding;
  last_mid = s.last_mid;
  given = pruned t (length s.waiting) s.given;
  awaited = s.awaited;
  heard = s.heard;
  out = s.out;
}

abbrev pub submitted_by : ℕ → LinkState → Option Outstanding → LinkState
submitted_by t s None = next_sent t s
submitted_by t s (Some o) = s

-- it waits last, and is sent at once where nothing is outstanding (NSTART, section 4.7)
abbrev pub submitted : ℕ → Waiting → LinkState → LinkState
submitted t w s = submitted_by t (queued t w s) s.outstanding

-- the message under ID 0
abbrev pub unnumbered : Content → Content
unnumbered m = record {
  kind = m.kind;
  code = m.code;
  mid = 0;
  token = m.token;
  options = m.options;
  payload = m.payload;
}

-- the message is spelled once and for all, save for its ID, and is taken
pub record Submits (t word : ℕ) (m : Content) (old new : LinkState) : Type 0 where
  pub text : List ℕ
  pub spelled : Spells (unnumbered m) text
  pub is : new ≡ submitted t (waits m.token text word) old

-- so many IDs are in use, or will be by what waits
abbrev pub mids_in_use : ℕ → LinkState → ℕ
mids_in_use t s = count_by (is_in_use t) s.given + length s.waiting

-- a place in the queue and an ID are free
abbrev pub HasPlace : ℕ → LinkState → Type 0
HasPlace t s = (length s.waiting < MAX_WAITING) × (mids_in_use t s < MAX_MESSAGE_IDS)

abbrev pub IsRefused : ℕ → LinkState → LinkFault → Type 0
IsRefused t s Queue = MAX_WAITING ≤ length s.waiting
IsRefused t s Numbers = (length s.waiting < MAX_WAITING) × (MAX_MESSAGE_IDS ≤ mids_in_use t s)
IsRefused t s Memory = HasPlace t s

-- the first reason to refuse a message, exactly
abbrev pub IsSubmitted : {X : Type 0} → ℕ → LinkState → Result X LinkFault → Type 0
IsSubmitted t s (Ok x) = HasPlace t s
IsSubmitted t s (Err e) = IsRefused t s e

-- the message that goes out next and its bytes once more, as they are prepared
abbrev pub IsNext : ℕ → Option ℕ → List Waiting → Option FirstSending → Type 0
IsNext t last_mid [] None = Unit {0}
IsNext t last_mid [] (Some p) = ⊥
IsNext t last_mid (w ∷ ws) None = ⊥
IsNext t last_mid (w ∷ ws) (Some p) =
    (p.message ≡ first_sent t last_mid w) × (p.datagram ≡ p.message.datagram)

abbrev pub IsNextOf : ℕ → LinkState → Option FirstSending → Type 0
IsNextOf t s next = IsNext t s.last_mid s.waiting next

-- room for what a sending adds
pub record HasRoom (s : State) : Type 0 where
  pub given : 0 < s.given.room
  pub awaited : vec_len s.awaited < vec_capacity s.awaited
  pub out : deque_len s.out < deque_capacity s.out

-- room for what a call adds: an answer, what is remembered of it, and what waits too
pub record HasRoomToo (s : State) : Type 0 where
  pub given : 0 < s.given.room
  pub waiting : vec_len s.waiting < vec_capacity s.waiting
  pub awaited : vec_len s.awaited < vec_capacity s.awaited
  pub heard : s.heard.room ≡ true
  pub out : deque_len s.out + 2 ≤ deque_capacity s.out
