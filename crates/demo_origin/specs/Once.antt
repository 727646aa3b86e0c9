-- At most once: of each message, and over whole runs (RFC 7252, section 4.5).
use Rattle.std.specs.Prelude.{◌≡◌, ◌<◌, ◌≤◌, ◌+◌, ℕ, List, [], ◌∷◌, ◌++◌, length, Contains, Option, Some, None, true, Ok}
use Rattle.std.specs.List.{AllByRecursion}
use Rattle.limits.specs.declared.TheConstants.{EXCHANGE_LIFETIME, MAX_DATAGRAM_LEN}
use Rattle.uri_map.specs.declared.peer.Peer.{Peer}
use Rattle.coap_codec.specs.Spelling.{Content}
use Rattle.coap_codec.specs.Reading.{message_at}
use Rattle.demo_origin.specs.Values.{Device, Relation}
use Rattle.demo_origin.specs.Arrivals.{is_repeat}
use Rattle.demo_origin.specs.Answers.{sent}
use Rattle.coap_codec.specs.declared.message.MsgType.TheVariants.{Con}
use Rattle.demo_origin.specs.Hearing.{Hears}
use Rattle.demo_origin.specs.Origins.{Ticks, sent_out}
use Rattle.demo_origin.specs.declared.state.Remembered.{Remembered}
use Rattle.demo_origin.specs.declared.state.Datagram.{Datagram}
use Rattle.demo_origin.specs.declared.execution.Taken.{Taken}

-- At that moment a message of the peer's with that ID is one that was heard before.
abbrev pub IsRemembered : ℕ → Peer → ℕ → Device → Type 0
IsRemembered t p mid s =
    (r : Remembered) × Contains s.remembered r × (is_repeat t p mid r ≡ true)

-- The message is a new one, and is remembered for 247 s.
pub record IsFirst (t : ℕ) (p : Peer) (datagram : List ℕ) (old new : Device) : Type 0 where
  pub message : Content
  pub reads : message_at datagram ≡ Ok message
  pub first : ¬ IsRemembered t p message.mid old
  pub kept : (u : ℕ) → u < t + EXCHANGE_LIFETIME → IsRemembered u p message.mid new

-- a call, with what it heard and told
pub data Event : Type 0 where
  heard : ℕ → Peer → List ℕ → Option Taken → Event
  looked : ℕ → Event
  gave : Event

-- what a call leaves
abbrev pub Steps : Relation → Event → Device → Device → Type 0
Steps R (heard t p d taken) old new = Hears R t p d old new taken
Steps R (looked t) old new = Ticks t old new
Steps R gave old new = new ≡ (sent_out old).0

-- what calls one after another leave
abbrev pub Runs : Relation → List Event → Device → Device → Type 0
Runs R [] old new = new ≡ old
Runs R (e ∷ es) old new =
    (middle : Device) × Steps R e old middle × Runs R es middle new

-- the call's moment is that one at the latest
abbrev pub IsBy : ℕ → Event → Type 0
IsBy u (heard t p d taken) = t ≤ u
IsBy u (looked t) = t ≤ u
IsBy u gave = Unit {0}

-- a message of the peer's with that ID is executed
pub record Executed (R : Relation) (t : ℕ) (p : Peer) (mid : ℕ) (old new : Device) : Type 0
  where
    pub datagram : List ℕ
    pub message : Content
    pub reads : message_at datagram ≡ Ok message
    pub mid_is : message.mid ≡ mid
    pub taken : Taken
    pub hears : Hears R t p datagram old new (Some taken)

-- After a message was executed, none of that peer's with that ID is executed within 247 s, whatever
-- is heard between them.
abbrev pub ExecutedOnce : Relation → Type 0
ExecutedOnce R =
    (es : List Event) (old a b new : Device) (t u : ℕ) (p : Peer) (mid : ℕ)
    → Executed R t p mid old a → Runs R es a b → AllByRecursion (IsBy u) es
    → u < t + EXCHANGE_LIFETIME → ¬ Executed R u p mid b new

-- a CON of the peer's with that ID is heard
pub record HearsCon (R : Relation) (t : ℕ) (p : Peer) (mid : ℕ) (old new : Device)
    (taken : Option Taken) : Type 0 where
  pub datagram : List ℕ
  pub message : Content
  pub short : length datagram ≤ MAX_DATAGRAM_LEN
  pub reads : message_at datagram ≡ Ok message
  pub kind_is : message.kind ≡ Con
  pub mid_is : message.mid ≡ mid
  pub hears : Hears R t p datagram old new taken

-- it is a new one, and is answered by that datagram, before the observers are told of a change
pub record FirstAnswered (R : Relation) (t : ℕ) (p : Peer) (mid : ℕ) (answer : List ℕ)
    (old new : Device) : Type 0 where
  pub taken : Option Taken
  pub con : HearsCon R t p mid old new taken
  pub first : ¬ IsRemembered t p mid old
  pub others : List Datagram
  pub goes : new.out ≡ old.out ++ record { peer = p; bytes = answer } ∷ others

-- A CON that is heard again within 247 s executes nothing, and gets the datagram that answered it
-- first, whatever is heard between them.
abbrev pub AnsweredAlike : Relation → Type 0
AnsweredAlike R =
    (es : List Event) (old a b new : Device) (t u : ℕ) (p : Peer) (mid : ℕ) (answer : List ℕ)
    (taken : Option Taken)
    → FirstAnswered R t p mid answer old a → Runs R es a b → AllByRecursion (IsBy u) es
    → t ≤ u → u < t + EXCHANGE_LIFETIME → HearsCon R u p mid b new taken
    → (new ≡ sent p answer b) × (taken ≡ None)
