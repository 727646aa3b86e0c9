-- What a datagram does to a device.
use Rattle.std.specs.Prelude.{◌≡◌, ◌⊎◌, ℕ, ◌+◌, ◌/◌, ◌%◌, List, [], ◌∷◌, length, set, slice_get, Option, Some, None, Result, Ok, Err, Bool, true, false, not, ◌||◌, nat_lt, if◌then◌else◌}
use Rattle.std.specs.Str.{bytes_eq}
use Rattle.limits.specs.declared.TheConstants.{MAX_DATAGRAM_LEN}
use Rattle.uri_map.specs.declared.peer.Peer.{Peer}
use Rattle.coap_codec.specs.Spelling.{Content}
use Rattle.coap_codec.specs.Reading.{message_at}
use Rattle.coap_codec.specs.Values.{values}
use Rattle.coap_codec.specs.declared.fault.CodecFault.{CodecFault}
use Rattle.message_layer.specs.Hearing.{reset_for}
use Rattle.demo_origin.specs.Values.{Device, Relation, Replied}
use Rattle.demo_origin.specs.Arrivals.{arrival}
use Rattle.demo_origin.specs.Blocks.{named_by}
use Rattle.demo_origin.specs.Uploads.{upload_of, body_at, before_piece, joined, with_piece, with_body, without}
use Rattle.demo_origin.specs.Pieces.{KeepsPiece, GivesUp}
use Rattle.coap_codec.specs.declared.block.Block.{Block}
use Rattle.demo_origin.specs.declared.uploads.Joined.{Joined}
use Rattle.demo_origin.specs.declared.uploads.Joined.TheVariants.{Gap, TooLarge, Next, Last}
use Rattle.demo_origin.specs.Requests.{asked, judged}
use Rattle.demo_origin.specs.Keeps.{IsKept}
use Rattle.demo_origin.specs.Answers.{Answers, Declines, Reads, noted, sent}
use Rattle.demo_origin.specs.Observing.{wish_of, acknowledged, rejected}
use Rattle.demo_origin.specs.Notifying.{Settles}
use Rattle.demo_origin.specs.declared.answer.Asker.{Asker}
use Rattle.demo_origin.specs.declared.state.Held.{Held}
use Rattle.demo_origin.specs.declared.request.Method.{Method}
use Rattle.demo_origin.specs.declared.request.CoapRequest.{CoapRequest}
use Rattle.demo_origin.specs.declared.execution.Taken.{Taken}
use Rattle.demo_origin.specs.declared.execution.Outcome.{Outcome}
use Rattle.demo_origin.specs.declared.arrival.Arrival.{Arrival}
use Rattle.demo_origin.specs.declared.arrival.Arrival.TheVariants.{Ignored, Empty, Rejected, Repeated, Fresh, Acknowledged, Reset}
use Rattle.demo_origin.specs.declared.judge.Judged.{Judged}
use Rattle.demo_origin.specs.declared.judge.Judged.TheVariants.{Dropped, Refused, NotAcceptable, Read, Asked}

abbrev pub reply_of : Outcome → Replied
reply_of o = record { code = o.code; payload = o.payload.items; changed = o.changed }

-- A handler's new state is a change where it is another one, or where the handler says so.
abbrev pub is_change : List ℕ → List ℕ → Replied → Bool
is_change before after reply = reply.changed || not (bytes_eq before after)

-- a resource with that state, and one version more for a change
abbrev pub stated : Held → Bool → List ℕ → Held
stated h changed after = record h {
  state = after;
  version = if changed then h.version + 1 else h.version;
}

abbrev pub taken_from : Held → Method → ℕ → List ℕ → Taken
taken_from h method code after = record {
  path = h.path;
  method = method;
  code = code;
  before = h.state;
  after = after;
}

abbrev pub with_resource : ℕ → Held → Device → Device
with_resource i h s = record s { resources = set s.resources i h }

-- the resource changes, the request is answered by the reply, the observers are told of the state
-- as it stands then, and what was done is told
pub record ChangesHeld (to : Asker) (i : ℕ) (method : Method) (held : Held)
    (after : List ℕ) (reply : Replied) (old new : Device) (taken : Taken) : Type 0 where
  pub middle : Device
  pub answers :
      Answers to reply.code [] reply.payload
      (with_resource i (stated held (is_change held.state after reply) after) old) middle
  pub settles : Settles to.moment middle new
  pub told : taken ≡ taken_from held method reply.code after

abbrev pub Changes : Asker → ℕ → Method → Option Held
    → List ℕ → Replied → Device → Device → Taken → Type 0
Changes to i method None after reply old new taken = ⊥
Changes to i method (Some held) after reply old new taken =
    ChangesHeld to i method held after reply old new taken

-- What comes of a request: what a handler that keeps the relation may make of it, or 5.00 and no
-- change where it refused one that it needn't take.
abbrev pub Comes : Relation → List ℕ → CoapRequest → List ℕ → Replied → Type 0
Comes R before request after reply =
    IsKept (R.holds before request) after reply
    ⊎ ((¬ R.takes before request)
    × (after ≡ before)
    × (reply ≡ record { code = 160; payload = []; changed = false }))

-- a request is executed: once, on the state as it stands
pub record Executes (R : Relation) (to : Asker) (m : Content) (i : ℕ) (method : Method)
    (old new : Device) (taken : Taken) : Type 0 where
  pub held : Held
  pub there : slice_get old.resources i ≡ Some held
  pub after : List ℕ
  pub reply : Replied
  pub comes : Comes R held.state (asked method m) after reply
  pub changes : ChangesHeld to i method held after reply old new taken

-- The last piece of a body executes the request, once, with all that came.
abbrev pub Finishes : Relation → Asker → Content → ℕ → Method → Block
    → Device → Device → Taken → Type 0
Finishes R to m i method b old new taken =
    (middle : Device)
    × Executes R to (with_body (with_piece to.peer i b m.payload old) m) i method
    old middle taken
    × (new ≡ without to.peer i middle)

-- what the piece is to those before it
abbrev pub piece_after : Peer → ℕ → Block → Content → Device → Joined
piece_after p i b m s =
    joined b (length (before_piece b (body_at (upload_of p i s.uploads) s.uploads)))
    (length m.payload)

abbrev pub TakesPiece : Relation → Asker → Content → ℕ → Method → Block → Joined
    → Device → Device → Option Taken → Type 0
TakesPiece R to m i method b Gap old new taken = GivesUp to i 136 old new × (taken ≡ None)
TakesPiece R to m i method b TooLarge old new taken = GivesUp to i 141 old new × (taken ≡ None)
TakesPiece R to m i method b Next old new taken =
    KeepsPiece to i b m.payload old new × (taken ≡ None)
TakesPiece R to m i method b Last old new taken =
    (done : Taken) × (taken ≡ Some done) × Finishes R to m i method b old new done

-- The handler is asked once the body is whole.
abbrev pub Asks : Relation → Asker → Content → ℕ → Method → Option Block
    → Device → Device → Option Taken → Type 0
Asks R to m i method None old new taken =
    (done : Taken) × (taken ≡ Some done) × Executes R to m i method old new done
Asks R to m i method (Some b) old new taken =
    TakesPiece R to m i method b (piece_after to.peer i b m old) old new taken

-- a request that wasn't heard before
abbrev pub Processes : Relation → Asker → Content → Judged
    → Device → Device → Option Taken → Type 0
Processes R to m Dropped old new taken = (new ≡ noted to None old) × (taken ≡ None)
Processes R to m (Refused code) old new taken =
    Answers to code [] [] old new × (taken ≡ None)
Processes R to m (NotAcceptable i) old new taken =
    Declines to i (wish_of (values 6 m.options)) 134 old new × (taken ≡ None)
Processes R to m (Read i) old new taken =
    Reads to i (wish_of (values 6 m.options)) (values 4 m.options)
    (named_by (values 23 m.options)) (slice_get old.resources i) old new
    × (taken ≡ None)
Processes R to m (Asked i method) old new taken =
    Asks R to m i method (named_by (values 27 m.options)) old new taken

abbrev pub rst : ℕ → List ℕ
rst mid = 112 ∷ 0 ∷ (mid / 256) ∷ (mid % 256) ∷ []

abbrev pub asker : ℕ → Peer → Content → Asker
asker t p m = record { peer = p; moment = t; kind = m.kind; mid = m.mid; token = m.token }

abbrev pub Takes : Relation → ℕ → Peer → Content → Arrival
    → Device → Device → Option Taken → Type 0
Takes R t p m Ignored old new taken = (new ≡ old) × (taken ≡ None)
Takes R t p m Empty old new taken = (new ≡ noted (asker t p m) None old) × (taken ≡ None)
Takes R t p m Rejected old new taken =
    (new ≡ sent p (rst m.mid) (noted (asker t p m) (Some (rst m.mid)) old)) × (taken ≡ None)
Takes R t p m (Repeated answer) old new taken =
    (new ≡ sent p answer old) × (taken ≡ None)
Takes R t p m Fresh old new taken =
    Processes R (asker t p m) m (judged m old.resources) old new taken
Takes R t p m Acknowledged old new taken =
    Settles t (acknowledged p m.mid old) new × (taken ≡ None)
Takes R t p m Reset old new taken =
    Settles t (rejected p m.mid old) new × (taken ≡ None)

-- what is no message, but shows four bytes of a CON, is rejected (RFC 7252, section 4.2)
abbrev pub undecoded : Peer → Option ℕ → Device → Device
undecoded p None s = s
undecoded p (Some mid) s = sent p (rst mid) s

abbrev pub HearsRead : Relation → ℕ → Peer → List ℕ → Result Content CodecFault
    → Device → Device → Option Taken → Type 0
HearsRead R t p d (Ok m) old new taken = Takes R t p m (arrival t p m old) old new taken
HearsRead R t p d (Err e) old new taken =
    (new ≡ undecoded p (reset_for d) old) × (taken ≡ None)

-- A datagram above 2,048 bytes counts as lost.
abbrev pub HearsBy : Bool → Relation → ℕ → Peer → List ℕ
    → Device → Device → Option Taken → Type 0
HearsBy true R t p d old new taken = (new ≡ old) × (taken ≡ None)
HearsBy false R t p d old new taken = HearsRead R t p d (message_at d) old new taken

abbrev pub Hears : Relation → ℕ → Peer → List ℕ → Device → Device → Option Taken → Type 0
Hears R t p d old new taken =
    HearsBy (nat_lt MAX_DATAGRAM_LEN (length d)) R t p d old new taken
