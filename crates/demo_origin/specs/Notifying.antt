-- What observers are told, and when (RFC 7641, sections 4.2, 4.4 and 4.5; RFC 7252, section 4.2).
use Rattle.std.specs.Prelude.{◌≡◌, ℕ, zero, suc, ◌+◌, ◌-◌, ◌*◌, ◌^◌, min, List, [], ◌∷◌, ◌++◌, map, filter, take, set, slice_get, length, is_some, Option, Some, None, Bool, true, false, not, nat_lt, nat_le, ◌==◌, ◌&&◌, if◌then◌else◌}
use Rattle.std.specs.List.{list_any}
use Rattle.limits.specs.declared.TheConstants.{ACK_TIMEOUT, MAX_RETRANSMIT}
use Rattle.uri_map.specs.declared.peer.Peer.{Peer}
use Rattle.coap_codec.specs.Spelling.{Content, Entry, Spells}
use Rattle.coap_codec.specs.declared.block.Block.{Block}
use Rattle.coap_codec.specs.declared.message.MsgType.TheVariants.{Con, Non}
use Rattle.blockwise.specs.Reading.{size_of}
use Rattle.demo_origin.specs.Values.{Device}
use Rattle.uri_map.specs.Peers.{same_peer}
use Rattle.demo_origin.specs.Peers.{own_mid, stepped}
use Rattle.demo_origin.specs.Answers.{Describes}
use Rattle.demo_origin.specs.declared.state.Client.{Client}
use Rattle.demo_origin.specs.declared.state.Datagram.{Datagram}
use Rattle.demo_origin.specs.declared.state.Held.{Held}
use Rattle.demo_origin.specs.declared.state.Notification.{Notification}
use Rattle.demo_origin.specs.declared.state.Observer.{Observer}

-- what a device is in the middle of saying to its peers
pub record Talk : Type 0 where
  pub clients : List Client
  pub observers : List Observer
  pub out : List Datagram

abbrev pub talk_of : Device → Talk
talk_of s = record { clients = s.clients; observers = s.observers; out = s.out }

abbrev pub with_talk : Talk → Device → Device
with_talk k s = record s { clients = k.clients; observers = k.observers; out = k.out }

-- ---- what a notification is

abbrev pub notice : List ℕ → ℕ → List Entry → List ℕ → Content
notice token mid options payload = record {
  kind = Con;
  code = 69;
  mid = mid;
  token = token;
  options = options;
  payload = payload;
}

-- the first piece, where the state is longer than a block (RFC 7959, section 2.6)
abbrev pub opening : ℕ → ℕ → Option Block
opening szx len =
    if nat_le len (size_of szx) then None else Some (record { num = 0; more = true; szx = szx })

-- A notification is a 2.05 in a CON, with the token of the registration and the state as it stands.
pub record Notifies (token : List ℕ) (mid : ℕ) (h : Held) (szx : ℕ) (bytes : List ℕ) : Type 0
  where
    pub options : List Entry
    pub describes : Describes h true (opening szx (length h.state)) options
    pub spelled : Spells (notice token mid options (take (size_of szx) h.state)) bytes

-- the observer is told of that version by that notification
abbrev pub telling : ℕ → ℕ → Notification → Observer → Talk → Talk
telling i version n o k = record {
  clients = map (stepped n.sent o.peer Non) k.clients;
  observers = set k.observers i (record o { told = version; outstanding = Some n });
  out = k.out ++ record { peer = o.peer; bytes = n.bytes } ∷ [];
}

abbrev pub notified : ℕ → ℕ → List ℕ → ℕ → Notification
notified t mid bytes copies =
    record { mid = mid; bytes = bytes; sent = t; copies = copies }

-- The observer of that number is told of the state as it stands, under a new ID.
pub record Tells (t szx i copies : ℕ) (h : Held) (o : Observer) (old new : Talk) : Type 0 where
  pub bytes : List ℕ
  pub notifies : Notifies o.token (own_mid o.peer old.clients) h szx bytes
  pub is :
      new
      ≡ telling i h.version (notified t (own_mid o.peer old.clients) bytes copies) o old

-- ---- who is told now

abbrev pub newer_by : ℕ → Option Held → Option Held
newer_by told None = None
newer_by told (Some h) = if h.version == told then None else Some h

-- the resource, where its state is another one than the observer was told of
abbrev pub newer : List Held → Observer → Option Held
newer rs o = newer_by o.told (slice_get rs o.place)

abbrev pub is_waited_for : Peer → Observer → Bool
is_waited_for p o = same_peer o.peer p && is_some o.outstanding

-- A notification to the peer is outstanding: there is one at a time (NSTART, RFC 7252,
-- section 4.7).
abbrev pub is_busy : Peer → List Observer → Bool
is_busy p os = list_any (is_waited_for p) os

abbrev pub TellsNewer : ℕ → ℕ → ℕ → Option Held → Observer → Talk → Talk → Type 0
TellsNewer t szx i None o old new = new ≡ old
TellsNewer t szx i (Some h) o old new = Tells t szx i 0 h o old new

abbrev pub TellsUnless : Bool → ℕ → ℕ → List Held → ℕ → Observer → Talk → Talk → Type 0
TellsUnless true t szx rs i o old new = new ≡ old
TellsUnless false t szx rs i o old new = TellsNewer t szx i (newer rs o) o old new

abbrev pub TellsOf : ℕ → ℕ → List Held → ℕ → Option Observer → Talk → Talk → Type 0
TellsOf t szx rs i None old new = new ≡ old
TellsOf t szx rs i (Some o) old new =
    TellsUnless (is_busy o.peer old.observers) t szx rs i o old new

-- the observer of that number is told of a newer state, where it is the turn of its peer
abbrev pub TellsAt : ℕ → ℕ → List Held → ℕ → Talk → Talk → Type 0
TellsAt t szx rs i old new = TellsOf t szx rs i (slice_get old.observers i) old new

-- the first so many observers, one after another
abbrev pub TellsFirst : ℕ → ℕ → List Held → ℕ → Talk → Talk → Type 0
TellsFirst t szx rs zero old new = new ≡ old
TellsFirst t szx rs (suc n) old new =
    (middle : Talk) × TellsFirst t szx rs n old middle × TellsAt t szx rs n middle new

abbrev pub TellsAll : ℕ → ℕ → List Held → Talk → Talk → Type 0
TellsAll t szx rs old new = TellsFirst t szx rs (length old.observers) old new

-- Each observer is told of a newer state: now, or once its peer has acknowledged what is
-- outstanding.
pub record Settles (t : ℕ) (old new : Device) : Type 0 where
  pub talk : Talk
  pub tells : TellsAll t old.block old.resources (talk_of old) talk
  pub is : new ≡ with_talk talk old

-- ---- copies

-- ACK_TIMEOUT is 2 s, and each of the copies, of which there are at most four, doubles it.
abbrev pub timeout_after : ℕ → ℕ
timeout_after copies = ACK_TIMEOUT * 2 ^ min copies MAX_RETRANSMIT

abbrev pub is_due : ℕ → Notification → Bool
is_due t n = nat_le (timeout_after n.copies) (t - n.sent)

abbrev pub is_lost : ℕ → Option Notification → Bool
is_lost t None = false
is_lost t (Some n) = is_due t n && nat_le MAX_RETRANSMIT n.copies

-- it doesn't wait in vain for the last ACK
abbrev pub is_reached : ℕ → Observer → Bool
is_reached t o = not (is_lost t o.outstanding)

abbrev pub is_again : ℕ → Notification → Bool
is_again t n = is_due t n && nat_lt n.copies MAX_RETRANSMIT

abbrev pub once_more : ℕ → Notification → Notification
once_more t n = record n { sent = t; copies = n.copies + 1 }

-- the same bytes go out once more
abbrev pub copying : ℕ → Notification → Observer → Talk → Talk
copying i n o k = record k {
  observers = set k.observers i (record o { outstanding = Some n });
  out = k.out ++ record { peer = o.peer; bytes = n.bytes } ∷ [];
}

-- A newer state goes in place of the copy, under its count (RFC 7641, section 4.5.2).
abbrev pub CopiesNewer : ℕ → ℕ → ℕ → Notification → Option Held → Observer → Talk → Talk → Type 0
CopiesNewer t szx i n None o old new = new ≡ copying i (once_more t n) o old
CopiesNewer t szx i n (Some h) o old new = Tells t szx i (n.copies + 1) h o old new

abbrev pub CopiesDue : Bool → ℕ → ℕ → List Held → ℕ → Notification → Observer
    → Talk → Talk → Type 0
CopiesDue false t szx rs i n o old new = new ≡ old
CopiesDue true t szx rs i n o old new = CopiesNewer t szx i n (newer rs o) o old new

abbrev pub CopiesOf : ℕ → ℕ → List Held → ℕ → Observer → Option Notification → Talk → Talk → Type 0
CopiesOf t szx rs i o None old new = new ≡ old
CopiesOf t szx rs i o (Some n) old new = CopiesDue (is_again t n) t szx rs i n o old new

abbrev pub CopiesBy : ℕ → ℕ → List Held → ℕ → Option Observer → Talk → Talk → Type 0
CopiesBy t szx rs i None old new = new ≡ old
CopiesBy t szx rs i (Some o) old new = CopiesOf t szx rs i o o.outstanding old new

-- what the observer of that number didn't acknowledge goes out once more, where it is due
abbrev pub CopiesAt : ℕ → ℕ → List Held → ℕ → Talk → Talk → Type 0
CopiesAt t szx rs i old new = CopiesBy t szx rs i (slice_get old.observers i) old new

abbrev pub CopiesFirst : ℕ → ℕ → List Held → ℕ → Talk → Talk → Type 0
CopiesFirst t szx rs zero old new = new ≡ old
CopiesFirst t szx rs (suc n) old new =
    (middle : Talk) × CopiesFirst t szx rs n old middle × CopiesAt t szx rs n middle new

abbrev pub CopiesAll : ℕ → ℕ → List Held → Talk → Talk → Type 0
CopiesAll t szx rs old new = CopiesFirst t szx rs (length old.observers) old new

-- who was told five times and never acknowledged it is an observer no more (section 4.5)
abbrev pub without_lost : ℕ → Talk → Talk
without_lost t k = record k { observers = filter (is_reached t) k.observers }

-- when a copy, or the end, is due
abbrev pub due_of : Notification → ℕ
due_of n = min (n.sent + timeout_after n.copies) 18446744073709551615

abbrev pub sooner : Option ℕ → Option Notification → Option ℕ
sooner least None = least
sooner None (Some n) = Some (due_of n)
sooner (Some d) (Some n) = Some (min d (due_of n))

abbrev pub least_due : Option ℕ → List Observer → Option ℕ
least_due least [] = least
least_due least (o ∷ os) = least_due (sooner least o.outstanding) os
