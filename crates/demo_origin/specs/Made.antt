-- Where what a device gives out comes from: each datagram was first made by a call, of the state as
-- it stood at that moment.
use Rattle.std.specs.Prelude.{◌≡◌, ◌⊎◌, ℕ, ◌/◌, List, [], length, slice_get, Contains, Option, Some, None, Bool, true, Ok}
use Rattle.std.specs.Int.{to_be_bytes, w64}
use Rattle.std.specs.List.{AllByRecursion}
use Rattle.coap_codec.specs.Spelling.{Content, Entry, Spells}
use Rattle.coap_codec.specs.Reading.{message_at}
use Rattle.coap_codec.specs.Values.{values}
use Rattle.coap_codec.specs.declared.block.Block.{Block}
use Rattle.message_layer.specs.Hearing.{reset_for}
use Rattle.demo_origin.specs.Values.{Device, Relation, Replied}
use Rattle.demo_origin.specs.Arrivals.{is_request}
use Rattle.demo_origin.specs.Answers.{answer_to, Describes, Renews, shown_part}
use Rattle.demo_origin.specs.Blocks.{named_by, part_of}
use Rattle.demo_origin.specs.Calls.{Call, Follow, left_by}
use Rattle.demo_origin.specs.Hearing.{asker, rst, Comes}
use Rattle.demo_origin.specs.Notifying.{Notifies}
use Rattle.demo_origin.specs.Once.{Event, heard}
use Rattle.demo_origin.specs.Origins.{fresh}
use Rattle.demo_origin.specs.Requests.{asked, IsAt, method_code}
use Rattle.demo_origin.specs.Uploads.{AsksForMore, with_body}
use Rattle.demo_origin.specs.declared.blocks.Part.{Part}
use Rattle.demo_origin.specs.declared.blocks.Part.TheVariants.{Whole, Piece}
use Rattle.demo_origin.specs.declared.execution.Taken.{Taken}
use Rattle.demo_origin.specs.declared.request.Method.{Method}
use Rattle.demo_origin.specs.declared.state.Datagram.{Datagram}
use Rattle.demo_origin.specs.declared.state.Held.{Held}
use Rattle.demo_origin.specs.declared.state.Observer.{Observer}

-- ---- what an answer says

-- a piece of a state, or all of it
abbrev pub as_part : Option Block → Part
as_part None = Whole
as_part (Some b) = Piece b

-- the state of the resource that a GET asks for, or a piece of it, as it stood
pub record ShowsState (before : Device) (m : Content) (code : ℕ) (options : List Entry)
    (payload : List ℕ) : Type 0 where
  pub get : m.code ≡ 1
  pub content : code ≡ 69
  pub place : ℕ
  pub held : Held
  pub stands : IsAt (values 11 m.options) before.resources place held
  pub observed : Bool
  -- the piece that is asked for, in the smaller of its size and the device's
  pub part : Option Block
  pub chosen : part_of (named_by (values 23 m.options)) before.block (length held.state)
      ≡ as_part part
  pub describes : Describes held observed part options
  pub shown : payload ≡ shown_part part held.state

-- that the state of the resource that a GET asks for, as it stood, is the one of an ETag of the GET
pub record ShowsValid (before : Device) (m : Content) (code : ℕ) (options : List Entry)
    (payload : List ℕ) : Type 0 where
  pub get : m.code ≡ 1
  pub valid : code ≡ 67
  pub place : ℕ
  pub held : Held
  pub stands : IsAt (values 11 m.options) before.resources place held
  pub named : Contains (values 4 m.options) (to_be_bytes w64 held.version)
  pub observed : Bool
  pub renews : Renews held observed options
  pub empty : payload ≡ []

-- what came of a request that was executed, on the state of its resource as it stood
pub record ShowsReply (R : Relation) (before : Device) (m : Content) (taken : Option Taken)
    (code : ℕ) (options : List Entry) (payload : List ℕ) : Type 0 where
  pub done : Taken
  pub executed : taken ≡ Some done
  pub place : ℕ
  pub held : Held
  pub stands : IsAt (values 11 m.options) before.resources place held
  pub method : Method
  pub method_is : method_code method ≡ m.code
  pub body : List ℕ
  pub reply : Replied
  pub comes : Comes R held.state (asked method (with_body body m)) done.after reply
  pub code_is : code ≡ reply.code
  pub options_are : options ≡ []
  pub shown : payload ≡ reply.payload

-- 2.31, for a piece that isn't the last
pub record WantsMore (before : Device) (m : Content) (code : ℕ) (options : List Entry)
    (payload : List ℕ) : Type 0 where
  pub continue : code ≡ 95
  pub piece : Block
  pub named : named_by (values 27 m.options) ≡ Some piece
  pub more : piece.more ≡ true
  pub asks : AsksForMore piece before.block options
  pub empty : payload ≡ []

-- a code of class 4 or 5 alone
pub record Declined (code : ℕ) (options : List Entry) (payload : List ℕ) : Type 0 where
  pub class : (code / 32 ≡ 4) ⊎ (code / 32 ≡ 5)
  pub options_are : options ≡ []
  pub empty : payload ≡ []

abbrev pub Says : Relation → Device → Content → Option Taken → ℕ → List Entry → List ℕ → Type 0
Says R before m taken code options payload =
    ShowsState before m code options payload
    ⊎ (ShowsValid before m code options payload
    ⊎ (ShowsReply R before m taken code options payload
    ⊎ (WantsMore before m code options payload
    ⊎ Declined code options payload)))

-- ---- what a call makes

-- the ID of a message, or of what can't be read but shows one
abbrev pub ShowsId : List ℕ → ℕ → Type 0
ShowsId datagram mid =
    ((m : Content) × (message_at datagram ≡ Ok m) × (m.mid ≡ mid))
    ⊎ (reset_for datagram ≡ Some mid)

-- an RST with the ID of what was heard, to its sender
pub record Resets (e : Event) (d : Datagram) : Type 0 where
  pub moment : ℕ
  pub datagram : List ℕ
  pub taken : Option Taken
  pub comes : e ≡ heard moment d.peer datagram taken
  pub mid : ℕ
  pub shows : ShowsId datagram mid
  pub is : d.bytes ≡ rst mid

-- an answer to the request that was heard: to its sender, with its token, and in an ACK with its ID
pub record Responds (R : Relation) (e : Event) (before : Device) (d : Datagram) : Type 0 where
  pub moment : ℕ
  pub datagram : List ℕ
  pub taken : Option Taken
  pub comes : e ≡ heard moment d.peer datagram taken
  pub message : Content
  pub reads : message_at datagram ≡ Ok message
  pub request : is_request message.code ≡ true
  pub own : ℕ
  pub code : ℕ
  pub options : List Entry
  pub payload : List ℕ
  pub spelled :
      Spells (answer_to (asker moment d.peer message) own code options payload) d.bytes
  pub says : Says R before message taken code options payload

-- a notification under a registration that stood, of the state as it stands then
pub record Announces (before after : Device) (d : Datagram) : Type 0 where
  pub observer : Observer
  pub registered : Contains before.observers observer
  pub to : d.peer ≡ observer.peer
  pub held : Held
  pub stands : slice_get after.resources observer.place ≡ Some held
  pub mid : ℕ
  pub notifies : Notifies observer.token mid held after.block d.bytes

abbrev pub Makes : Relation → Call → Datagram → Type 0
Makes R c d =
    Resets c.event d ⊎ (Responds R c.event c.before d ⊎ Announces c.before c.after d)

-- one of the calls made it
pub record IsMade (R : Relation) (cs : List Call) (d : Datagram) : Type 0 where
  pub call : Call
  pub among : Contains cs call
  pub makes : Makes R call d

-- From a device that heard nothing yet on, what is to be given out was made by a call before.
abbrev pub AnswersAreMade : Relation → Type 0
AnswersAreMade R =
    (block : ℕ) (resources : List Held) (cs : List Call)
    → Follow R (fresh block resources) cs
    → AllByRecursion (IsMade R cs) (left_by (fresh block resources) cs).out
