-- The texts that an edge stands for, and what its calls do to them.
use Rattle.std.specs.Prelude.{◌≡◌, ◌⊎◌, ⊤, ℕ, ◌+◌, ◌*◌, ◌≤◌, ◌<◌, if◌then◌else◌, List, [], length, drop, Bool, true, false, Option, Some, None, IsSome, Result, Ok, Err}
use Rattle.httparse.specs.Grammar.{RequestHead, HasNoRequest, MayBecomeRequest}
use Rattle.httparse.specs.Spans.{RequestOverflows, SectionOverflows}
use Rattle.http_edge.specs.declared.memory.Memory.{Memory}
use Rattle.http_edge.specs.declared.request.Incoming.{Incoming}
use Rattle.http_edge.specs.declared.request.Incoming.TheVariants as incoming
use Rattle.http_edge.specs.declared.framing.Framing.TheVariants.{Chunked}
use Rattle.http_edge.specs.declared.body.Left.{Left}
use Rattle.http_edge.specs.declared.begun.Begun.{Begun}
use Rattle.http_edge.specs.declared.head.Start.{Start}
use Rattle.http_edge.specs.declared.head.Start.TheVariants.{Wait, Bad, Head}
use Rattle.http_edge.specs.declared.edge.Edge.{Edge}
use Rattle.http_edge.specs.declared.body.Fill.{Fill}
use Rattle.http_edge.specs.declared.body.Fill.TheVariants as fill
use Rattle.http_edge.specs.Framing.{framing}
use Rattle.http_edge.specs.Requests.{Content, content, content_of, expects}
use Rattle.http_edge.specs.Reading.{BeginsWith, TakesBody, IsRefused, Item, asked, bad, First, closes, HasNone}
use Rattle.http_edge.specs.Bodies.{SoFar, OpenTrailers, BodyLeaves}

abbrev pub item : Incoming → Item
item (incoming.Request r) = asked (content r)
item (incoming.Bad kind) = bad kind

-- The head isn't whole, and the parser can't say more yet.
abbrev pub HeadWaits : List ℕ → Type 0
HeadWaits text = HasNoRequest text × MayBecomeRequest text × (length text < 8192)

-- The trailers aren't whole, and the parser can't say more yet.
pub record TrailersWait (text : List ℕ) : Type 0 where
  pub head : RequestHead
  pub behind : List ℕ
  pub begins : BeginsWith text head behind
  pub framed : framing head ≡ Chunked
  pub waits : OpenTrailers behind

-- No item is whole, and the parser can't say more yet.
abbrev pub Waits : List ℕ → Type 0
Waits text = HeadWaits text ⊎ TrailersWait text

-- Each continuation of the head has more than 64 fields, or of the trailers.
abbrev pub HasTooMany : List ℕ → Type 0
HasTooMany text = RequestOverflows 64 text
    ⊎ ((t : TrailersWait text) × SectionOverflows 64 t.waits.unread)

-- What the head at the front of unread bytes says.
abbrev pub IsStart : List ℕ → Start → Type 0
IsStart text Wait = HeadWaits text
IsStart text (Bad kind) = IsRefused text kind
IsStart text (Head b n) =
    (h : RequestHead) × BeginsWith text h (drop n text) × (n ≤ length text)
    × SoFar (framing h) b.left [] (drop n text) (drop n text)
    × (content b.request ≡ content_of h []) × (b.wants ≡ expects h) × (b.told ≡ false) × (0 < n)

-- The request was begun by a head, and its body goes on in the unread bytes.
pub record GoesOn (c : Content) (left : Left) (wants : Bool) (unread text : List ℕ) : Type 0 where
  pub head : RequestHead
  pub behind : List ℕ
  pub begins : BeginsWith text head behind
  pub body_is : SoFar (framing head) left c.body unread behind
  pub content_is : c ≡ content_of head c.body
  pub wants_is : wants ≡ expects head

abbrev pub StandsBegun : Option Begun → List ℕ → List ℕ → Type 0
StandsBegun None unread text = text ≡ unread
StandsBegun (Some b) unread text = GoesOn (content b.request) b.left b.wants unread text

-- Why nothing can be read: no head is whole, or not the request begun.
abbrev pub WaitsIn : Option Begun → List ℕ → Type 0
WaitsIn None text = HeadWaits text
WaitsIn (Some b) text = HasNone text ⊎ Waits text

-- The text begins with a head, and this is left of the body after it.
pub record HeadLeaves (text rest : List ℕ) : Type 0 where
  pub head : RequestHead
  pub behind : List ℕ
  pub begins : BeginsWith text head behind
  pub left : BodyLeaves (framing head) behind rest

-- What is left of a text of which no item is whole, to be read once more comes: all, where no head
-- is whole; or what of the body isn't taken.
abbrev pub Leaves : List ℕ → List ℕ → Type 0
Leaves text rest = (HasNoRequest text × (rest ≡ text)) ⊎ HeadLeaves text rest

-- So many bytes are left.
abbrev pub LeavesBytes : List ℕ → ℕ → Type 0
LeavesBytes text n = (rest : List ℕ) × Leaves text rest × (n ≡ length rest)

-- The parts of an open edge stand for the text; and it only waits where nothing can be read, and
-- just what is left of the text is unread.
abbrev pub StandsIn : Bool → Bool → Option Begun → List ℕ → List ℕ → Type 0
StandsIn ended waits begun unread text = (ended ≡ false) × StandsBegun begun unread text
    × (waits ≡ true → WaitsIn begun text × Leaves text unread)

-- The edge is open and stands for the text.
abbrev pub Stands : Edge → List ℕ → Type 0
Stands e text = StandsIn e.ended e.waits e.begun e.unread text

-- What next does to a text that the edge stands for.
abbrev pub Steps : Result (Option Incoming) Memory → Edge → List ℕ → Type 0
Steps (Ok (Some i)) e text =
    (rest : List ℕ) × First text (item i) rest
    × (((closes (item i) ≡ true) × (e.ended ≡ true)) ⊎ ((closes (item i) ≡ false) × Stands e rest))
Steps (Ok None) e text = Stands e text × (HasNone text ⊎ Waits text)
Steps (Err m) e text = Stands e text

-- The request begun was told to go on.
abbrev pub is_told_in : Option Begun → Bool
is_told_in None = false
is_told_in (Some b) = b.told

abbrev pub is_told : Edge → Bool
is_told e = is_told_in e.begun

-- A request is begun.
abbrev pub IsBegun : Edge → Type 0
IsBegun e = IsSome e.begun

-- The text begins with a head that asks for 100 Continue.
pub record Expects (text : List ℕ) : Type 0 where
  pub head : RequestHead
  pub behind : List ℕ
  pub begins : BeginsWith text head behind
  pub asks : expects head ≡ true

-- The request begun asks for 100 Continue, and wasn't told yet.
abbrev pub IsAsking : Edge → List ℕ → Type 0
IsAsking e text = IsBegun e × (is_told e ≡ false) × Expects text

-- The request begun has its whole body, and the unread bytes stand after it.
pub record IsWhole (c : Content) (rest text : List ℕ) : Type 0 where
  pub head : RequestHead
  pub behind : List ℕ
  pub begins : BeginsWith text head behind
  pub body_is : TakesBody (framing head) behind c.body rest
  pub content_is : c ≡ content_of head c.body

abbrev pub IsWholeIn : Option Begun → List ℕ → List ℕ → Type 0
IsWholeIn None unread text = ⊤
IsWholeIn (Some b) unread text = IsWhole (content b.request) unread text

-- What filling the body of a request begun does to its text.
abbrev pub FillsBegun : Result Fill Memory → Content → Left → Bool → List ℕ → List ℕ → Type 0
FillsBegun (Ok fill.Whole) c left wants unread text = IsWhole c unread text
FillsBegun (Ok fill.Wait) c left wants unread text = GoesOn c left wants unread text
    × (HasNone text ⊎ Waits text) × Leaves text unread
FillsBegun (Ok (fill.Bad kind)) c left wants unread text = IsRefused text kind
FillsBegun (Err m) c left wants unread text = GoesOn c left wants unread text

-- The same of the parts of an edge.
abbrev pub FillsIn : Result Fill Memory → Bool → Bool → Option Begun → List ℕ → List ℕ → Type 0
FillsIn (Ok fill.Whole) ended waits begun unread text = IsSome begun × IsWholeIn begun unread text
FillsIn (Ok fill.Wait) ended waits begun unread text = StandsIn ended waits begun unread text
    × (HasNone text ⊎ Waits text) × Leaves text unread
FillsIn (Ok (fill.Bad kind)) ended waits begun unread text = IsRefused text kind
FillsIn (Err m) ended waits begun unread text = StandsIn ended waits begun unread text

-- What filling the body does to a text that the edge stands for.
abbrev pub Fills : Result Fill Memory → Edge → List ℕ → Type 0
Fills r e text = FillsIn r e.ended e.waits e.begun e.unread text

-- What a call without want of memory answers.
abbrev pub ok_of : Option Incoming → Result (Option Incoming) Memory
ok_of o = Ok o

-- How many bytes are unread.
abbrev pub unread_len : Edge → ℕ
unread_len e = length e.unread

-- The text begins with a head, and no more than so many bytes of it are after it.
pub record AtMostBehindHead (text : List ℕ) (n : ℕ) : Type 0 where
  pub head : RequestHead
  pub behind : List ℕ
  pub begins : BeginsWith text head behind
  pub few : n ≤ length behind

-- So many bytes of the text are unread: all, or where a request is begun none of its head.
abbrev pub IsUnread : List ℕ → ℕ → Type 0
IsUnread text n = (n ≡ length text) ⊎ AtMostBehindHead text n

abbrev pub begun_len : Option Begun → ℕ
begun_len None = 0
begun_len (Some b) = 1

-- What is left to read at most: it falls with each item.
abbrev pub work_left : Edge → ℕ
work_left e = 2 * length e.unread + begun_len e.begun + (if e.ended then 0 else 1)

-- An item leaves less to read.
abbrev pub Falls : Option Incoming → ℕ → ℕ → Type 0
Falls None old new = new ≤ old
Falls (Some i) old new = new < old
