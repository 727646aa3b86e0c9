-- What a link transmits in a whole run (RFC 7252, sections 4.2, 4.4 and 4.7).
use Rattle.std.specs.Prelude.{◌≡◌, ℕ, ◌+◌, ◌*◌, ◌%◌, ◌^◌, ◌<◌, ◌≤◌, List, [], ◌∷◌, ◌++◌, length, map, filter, Option, Some, None, ◌⊎◌}
use Rattle.std.specs.List.{AllByRecursion}
use Rattle.limits.specs.declared.TheConstants.{ACK_TIMEOUT, LONGEST_ACK_TIMEOUT, MAX_MESSAGE_IDS, MAX_RETRANSMIT, MESSAGE_ID_LIFETIME}
use Rattle.message_layer.specs.Values.{LinkState, IsSound}
use Rattle.message_layer.specs.Sending.{due_of, with_mid, unnumbered, initial_timeout}
use Rattle.message_layer.specs.Mids.{is_in_use}
use Rattle.message_layer.specs.Calls.{waits_not_under}
use Rattle.coap_codec.specs.Spelling.{Content, Spells}
use Rattle.message_layer.specs.declared.state.Waiting.{Waiting}
use Rattle.message_layer.specs.Runs.{Step, Call, submit, hear, tick, forget, expect, take_send, refuse, IsRun, Transmission, transmitted, transmissions}
use Rattle.message_layer.specs.declared.state.Outstanding.{Outstanding}

-- a message that was sent, and when
pub record SentMessage : Type 0 where
  pub datagram : List ℕ
  -- the initial timeout
  pub timeout : ℕ
  pub first : ℕ
  -- the moments of its copies, the latest first
  pub copies : List ℕ

-- the third and fourth byte
abbrev pub mid_of : List ℕ → ℕ
mid_of [] = 0
mid_of (a ∷ []) = 0
mid_of (a ∷ b ∷ []) = 0
mid_of (a ∷ b ∷ c ∷ []) = 0
mid_of (a ∷ b ∷ c ∷ d ∷ rest) = 256 * c + d

abbrev pub latest : ℕ → List ℕ → ℕ
latest first [] = first
latest first (t ∷ earlier) = t

-- each copy waits for a timeout that is counted from the sending before it, and doubles with each
-- copy
abbrev pub IsSpaced : ℕ → ℕ → List ℕ → Type 0
IsSpaced timeout first [] = Unit {0}
IsSpaced timeout first (t ∷ earlier) = (latest first earlier + timeout * 2 ^ length earlier ≤ t)
    × IsSpaced timeout first earlier

-- one more than the ID of the message before
abbrev pub HasNextMid : ℕ → List SentMessage → Type 0
HasNextMid mid [] = mid < 65536
HasNextMid mid (m ∷ older) = mid ≡ (mid_of m.datagram + 1) % 65536

abbrev pub IsBehind : ℕ → List SentMessage → Type 0
IsBehind t [] = Unit {0}
IsBehind t (m ∷ older) = latest m.first m.copies ≤ t

abbrev pub first_of : SentMessage → ℕ
first_of m = m.first

-- how many of the messages were sent first within 494 s
abbrev pub recent : ℕ → List SentMessage → ℕ
recent t ms = length (filter (is_in_use t) (map first_of ms))

-- A message is sent at most five times, after all sendings of the messages before it, under the
-- next ID. Fewer than 32,768 of those were sent within 494 s.
pub record IsSent (m : SentMessage) (older : List SentMessage) : Type 0 where
  pub least : ACK_TIMEOUT ≤ m.timeout
  pub most : m.timeout ≤ LONGEST_ACK_TIMEOUT
  pub few : length m.copies ≤ MAX_RETRANSMIT
  pub spaced : IsSpaced m.timeout m.first m.copies
  pub behind : IsBehind m.first older
  pub mid : HasNextMid (mid_of m.datagram) older
  pub free : recent m.first older < MAX_MESSAGE_IDS

-- messages one after another, the newest first
abbrev pub IsSequence : List SentMessage → Type 0
IsSequence [] = Unit {0}
IsSequence (m ∷ older) = IsSent m older × IsSequence older

-- all its sendings are the same datagram
abbrev pub sendings_of : SentMessage → List Transmission
sendings_of m = map (λ t. transmitted t m.datagram) (m.copies ++ m.first ∷ [])

abbrev pub sendings : List SentMessage → List Transmission
sendings [] = []
sendings (m ∷ older) = sendings_of m ++ sendings older

-- what is outstanding is the message that was sent last, and its timer runs since the last sending
pub record IsLatest (o : Outstanding) (m : SentMessage) : Type 0 where
  pub datagram : o.datagram ≡ m.datagram
  pub timeout : o.timeout ≡ m.timeout
  pub retransmissions : o.retransmissions ≡ length m.copies
  pub sent : o.sent ≡ latest m.first m.copies

abbrev pub IsOpen : Option Outstanding → List SentMessage → Type 0
IsOpen None ms = Unit {0}
IsOpen (Some o) [] = ⊥
IsOpen (Some o) (m ∷ older) = IsLatest o m

-- the moments of a run's ticks, the latest first
abbrev pub tick_of : ℕ → Call → List ℕ
tick_of t (submit m word) = []
tick_of t (hear d told) = []
tick_of t (tick told) = t ∷ []
tick_of t (forget token) = []
tick_of t (expect token on) = []
tick_of t (take_send d) = []
tick_of t refuse = []

abbrev pub ticks : List Step → List ℕ
ticks [] = []
ticks (x ∷ older) = tick_of x.moment x.call ++ ticks older

-- no tick fell between the moment when a copy was due and the copy
abbrev pub IsFirst : ℕ → ℕ → ℕ → Type 0
IsFirst due copy t = (t < due) ⊎ (copy ≤ t)

abbrev pub ArePrompt : List ℕ → ℕ → ℕ → List ℕ → Type 0
ArePrompt ticks timeout first [] = Unit {0}
ArePrompt ticks timeout first (t ∷ earlier) =
    AllByRecursion (IsFirst (latest first earlier + timeout * 2 ^ length earlier) t) ticks
    × ArePrompt ticks timeout first earlier

abbrev pub IsPrompt : List ℕ → SentMessage → Type 0
IsPrompt ticks m = ArePrompt ticks m.timeout m.first m.copies

-- the timer of what is outstanding is later than all ticks
abbrev pub IsUndue : List ℕ → Option Outstanding → Type 0
IsUndue ticks None = Unit {0}
IsUndue ticks (Some o) = AllByRecursion (λ t. t < due_of o) ticks

-- the message, as it waits for its turn
pub record IsHandedIn (m : Content) (word : ℕ) (w : Waiting) : Type 0 where
  pub token : w.token ≡ m.token
  pub spelled : Spells (unnumbered m) w.datagram
  pub timeout : w.timeout ≡ initial_timeout word

-- what waits once the call has put its message behind, or has taken those with the token away
abbrev pub Queues : Call → List Waiting → List Waiting → Type 0
Queues (submit m word) before queue = (w : Waiting) × IsHandedIn m word w
    × (queue ≡ before ++ w ∷ [])
Queues (hear d told) before queue = queue ≡ before
Queues (tick told) before queue = queue ≡ before
Queues (forget token) before queue = queue ≡ filter (waits_not_under token) before
Queues (expect token on) before queue = queue ≡ before
Queues (take_send d) before queue = queue ≡ before
Queues refuse before queue = queue ≡ before

-- one call sends nothing first, or the message that waits longest
abbrev pub Turns : List Waiting → List Waiting → List Waiting → List Waiting → Type 0
Turns queue before sent waiting = ((sent ≡ before) × (waiting ≡ queue))
    ⊎ ((w : Waiting) × (sent ≡ w ∷ before) × (queue ≡ w ∷ waiting))

-- The messages that a run sent, the latest first, and those that wait: each that was handed in is
-- sent in its turn, once, unless it was forgotten before.
abbrev pub HasQueued : List Step → List Waiting → List Waiting → Type 0
HasQueued [] sent waiting = (sent ≡ []) × (waiting ≡ [])
HasQueued (x ∷ older) sent waiting =
    (sent_before : List Waiting) × (before : List Waiting) × (queue : List Waiting)
    × HasQueued older sent_before before × Queues x.call before queue
    × Turns queue sent_before sent waiting

-- they were sent with their IDs
abbrev pub AreSentAs : List Waiting → List SentMessage → Type 0
AreSentAs [] [] = Unit {0}
AreSentAs [] (m ∷ ms) = ⊥
AreSentAs (w ∷ ws) [] = ⊥
AreSentAs (w ∷ ws) (m ∷ ms) = (m.datagram ≡ with_mid (mid_of m.datagram) w.datagram)
    × (m.timeout ≡ w.timeout) × AreSentAs ws ms

-- All CONs that a run puts out are the sendings of messages one after another, and these are the
-- messages that were handed in, in their order. Each copy goes out at the first tick at or after
-- the moment when it is due, and what is outstanding has no copy, and no end, that is due.
pub record Transmits (run : List Step) (s : LinkState) : Type 0 where
  pub messages : List SentMessage
  pub sequence : IsSequence messages
  pub all : transmissions run ≡ sendings messages
  pub outstanding : IsOpen s.outstanding messages
  pub prompt : AllByRecursion (IsPrompt (ticks run)) messages
  pub undue : IsUndue (ticks run) s.outstanding
  pub sent : List Waiting
  pub queued : HasQueued run sent s.waiting
  pub handed_in : AreSentAs sent messages

abbrev pub RunTransmits : Type 0
RunTransmits = (run : List Step) (s : LinkState) → IsRun run s → Transmits run s

-- No message ID stands in the first sendings of two messages within 494 s.
abbrev pub MidsApart : Type 0
MidsApart =
    (m : SentMessage) (between : List SentMessage) (n : SentMessage) (older : List SentMessage)
    → IsSequence (m ∷ between ++ n ∷ older) → mid_of m.datagram ≡ mid_of n.datagram
    → n.first + MESSAGE_ID_LIFETIME ≤ m.first

-- Where nothing is outstanding nothing waits: the next message goes out in the step that ends the
-- one before it.
abbrev pub RunKeepsTurn : Type 0
RunKeepsTurn = (run : List Step) (s : LinkState) → IsRun run s → IsSound s
