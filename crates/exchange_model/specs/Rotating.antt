-- A sealed journal that stands in memory whole is given out, and the core goes on with one that
-- begins with copies of its entries.
use Rattle.std.specs.Prelude.{◌≡◌, ℕ, ◌≤◌, ◌+◌, Bool, true, false, not, ◌&&◌, ◌||◌, ◌==◌, nat_le, nat_lt, List, [], ◌∷◌, ◌++◌, length, map, filter, sum_by, Option, Some, None, is_some, Result, Ok, Err, if◌then◌else◌}
use Rattle.std.specs.List.{list_all, list_any}
use Rattle.std.specs.Option.{option_map_or}
use Rattle.limits.specs.declared.TheConstants.{EXCHANGE_LIFETIME, MESSAGE_ID_LIFETIME, MAX_COPIES, MAX_COPIES_LEN, MAX_NUMBERED, NEARLY_ALL_ENTRIES, NEARLY_ALL_LEN}
use Rattle.coap_codec.specs.Spelling.{Content}
use Rattle.coap_codec.specs.Reading.{message_at}
use Rattle.coap_codec.specs.declared.fault.CodecFault.{CodecFault}
use Rattle.uri_map.specs.declared.peer.Peer.{Peer}
use Rattle.uri_map.specs.Peers.{same_peer}
use Rattle.cache_key.specs.declared.place.Place.{Place}
use Rattle.resp_cache.specs.Stored.{Stored, is_fresh}
use Rattle.resp_cache.specs.declared.pair.Pair.{Pair}
use Rattle.ask_model.specs.Sharing.{writes_to}
use Rattle.message_layer.specs.Calls.{kept_link}
use Rattle.message_layer.specs.Sending.{is_over_by}
use Rattle.journal_book.specs.Entries.{Mark, Ground, Past, Done, Sent, Heard, done_of, Deed, Carries, Written, entry_size}
use Rattle.history_laws.specs.Hearing.{is_such}
use Rattle.exchange_model.specs.declared.kept.Exchange.{Exchange}
use Rattle.exchange_model.specs.State.{PeerLink, State}
use Rattle.exchange_model.specs.Steps.{is_piece_at}
use Rattle.exchange_model.specs.Matters.{asked_in}
use Rattle.exchange_model.specs.Hearing.{is_past}
use Rattle.exchange_model.specs.Backing.{backing}
use Rattle.exchange_model.specs.Keeping.{Kept}
use Rattle.exchange_model.specs.Room.{KeptInRoom}
use Rattle.exchange_model.specs.Entering.{IsDrained}

-- The journal is nearly full: the last tenth of its entries is begun, or the last quarter of its
-- bytes.
abbrev pub is_nearly_full : List Written → Bool
is_nearly_full h = nat_le NEARLY_ALL_ENTRIES (length h)
    || nat_le NEARLY_ALL_LEN (sum_by entry_size h)

-- why it isn't given out, first one first
pub data RotateFault : Type 0 where
  -- the journal takes entries yet
  Unsealed : RotateFault
  -- its first entries were given out before
  Given : RotateFault
  -- a connection is open
  Connected : RotateFault
  -- an exchange is open, or a message on its way
  Exchanging : RotateFault
  -- too few numbers of tokens or connections are left
  Spent : RotateFault
  -- what is to be copied is more than half of a journal
  Crowded : RotateFault

-- CONs and NONs that repeat none: in which entry, when and from whom they were heard, and their ID
pub record Seen : Type 0 where
  pub number : ℕ
  pub moment : ℕ
  pub peer : Peer
  pub mid : ℕ

abbrev pub is_seen : ℕ → Peer → ℕ → Seen → Bool
is_seen t p mid x =
    same_peer x.peer p && ((x.mid == mid) && nat_lt t (x.moment + EXCHANGE_LIFETIME))

abbrev pub seen_so : ℕ → ℕ → Peer → Result Content CodecFault → List Seen → List Seen
seen_so n t p (Err e) old = old
seen_so n t p (Ok m) old =
    if is_such m.kind && not (list_any (is_seen t p m.mid) old)
    then record { number = n; moment = t; peer = p; mid = m.mid } ∷ old else old

abbrev pub seen_by : ℕ → ℕ → Option Done → List Seen → List Seen
seen_by n t (Some (Heard p b)) old = seen_so n t p (message_at b) old
seen_by n t _ old = old

abbrev pub seen_from : ℕ → List Written → List Seen → List Seen
seen_from n [] old = old
seen_from n (w ∷ ws) old = seen_from (n + 1) ws (seen_by n w.moment (done_of w.deed) old)

abbrev pub seen : List Written → List Seen
seen ws = seen_from 0 ws []

-- What is still remembered: the first sendings of the last 494 seconds, which alone bear a
-- timeout; and what was seen in the last 247.
abbrev pub is_recent_first : ℕ → ℕ → Done → Bool
is_recent_first t s (Sent p b w) = is_some w && nat_lt t (s + MESSAGE_ID_LIFETIME)
is_recent_first t s _ = false

abbrev pub is_recent_seen : ℕ → ℕ → Seen → Bool
is_recent_seen t n x = (x.number == n) && nat_lt t (x.moment + EXCHANGE_LIFETIME)

abbrev pub is_remembered : ℕ → List Seen → ℕ → ℕ → Done → Bool
is_remembered t xs n s done = is_recent_first t s done || list_any (is_recent_seen t n) xs

-- What of an entry is copied: an answer may rest on it, or it is remembered.
abbrev pub has : List ℕ → ℕ → Bool
has gs n = list_any (λ (g : ℕ). g == n) gs

abbrev pub mark_of : ℕ → List Seen → List ℕ → ℕ → ℕ → Done → Option Mark
mark_of t xs gs n s done =
    if has gs n then Some Ground else (if is_remembered t xs n s done then Some Past else None)

abbrev pub copy_if : Option Mark → ℕ → ℕ → Done → List Written
copy_if (Some mark) n s done = record { moment = s; deed = Carries n mark done } ∷ []
copy_if None n s done = []

abbrev pub copy_of : ℕ → List Seen → List ℕ → ℕ → ℕ → Option Done → List Written
copy_of t xs gs n s None = []
copy_of t xs gs n s (Some done) = copy_if (mark_of t xs gs n s done) n s done

abbrev pub copies_from : ℕ → List Seen → List ℕ → ℕ → List Written → List Written
copies_from t xs gs n [] = []
copies_from t xs gs n (w ∷ ws) =
    copy_of t xs gs n w.moment (done_of w.deed) ++ copies_from t xs gs (n + 1) ws

-- the copies, with those of the entries with these numbers
abbrev pub copies_with : ℕ → List Written → List ℕ → List Written
copies_with t ws gs = copies_from t (seen ws) gs 0 ws

-- and of what is remembered alone
abbrev pub copies : ℕ → List Written → List Written
copies t ws = copies_with t ws []

-- half of a journal at most is copies
abbrev pub are_few : List Written → Bool
are_few ws = nat_le (length ws) MAX_COPIES && nat_le (sum_by entry_size ws) MAX_COPIES_LEN

-- A stored response may be carried over while it is fresh, as it was heard: one that a 2.03 has
-- renewed isn't. A write to its place that is open yet has no end in the journal, and may have
-- changed what was read.
abbrev pub writes_at : List Written → Place → Exchange → Bool
writes_at ws place e = option_map_or (writes_to place) (asked_in ws e.ask) false

abbrev pub may_carry : ℕ → State → Pair → Bool
may_carry t S p =
    is_fresh t p.stored
    && (list_all (is_piece_at S.entries) p.stored.list
    && not (list_any (writes_at S.entries p.key.place) S.exchanges))

-- such a one, and what it rests on
pub record Backed : Type 0 where
  pub pair : Pair
  pub numbers : List ℕ

abbrev pub backed_by : Pair → Option (List ℕ) → List Backed
backed_by p None = []
backed_by p (Some ns) = record { pair = p; numbers = ns } ∷ []

abbrev pub backed_if : Bool → List Written → Pair → List Backed
backed_if true ws p = backed_by p (backing ws p.stored)
backed_if false ws p = []

abbrev pub backed : ℕ → State → List Pair → List Backed
backed t S [] = []
backed t S (p ∷ ps) = backed_if (may_carry t S p) S.entries p ++ backed t S ps

-- The first of them are carried over, as long as there are few copies.
abbrev pub few_of : ℕ → List Written → List ℕ → List Backed → List Backed
few_of t ws gs [] = []
few_of t ws gs (b ∷ bs) =
    if are_few (copies_with t ws (gs ++ b.numbers))
    then b ∷ few_of t ws (gs ++ b.numbers) bs else []

-- The pair used last comes first.
abbrev pub taken : ℕ → State → List Backed
taken t S = few_of t S.entries [] (backed t S S.store)

abbrev pub carried_numbers : List Backed → List ℕ
carried_numbers [] = []
carried_numbers (b ∷ bs) = b.numbers ++ carried_numbers bs

-- where the copy of the entry with this number stands among these
abbrev pub is_copy_of : ℕ → Deed → Bool
is_copy_of n (Carries k mark done) = k == n
is_copy_of n _ = false

abbrev pub place_of : List Written → ℕ → ℕ
place_of [] n = 0
place_of (w ∷ ws) n = if is_copy_of n w.deed then 0 else place_of ws n + 1

abbrev pub stored_at : List Written → Stored → Stored
stored_at ws s = record s { opening = place_of ws s.opening; list = map (place_of ws) s.list }

abbrev pub pair_at : List Written → Backed → Pair
pair_at ws b = record { key = b.pair.key; stored = stored_at ws b.pair.stored }

-- A link goes on where something of its peer is copied: with the IDs that are in use, and with
-- what may be repeated. Nothing is on its way, waits or is awaited.
abbrev pub is_of : Peer → Deed → Bool
is_of p (Carries n mark (Sent q b w)) = same_peer q p
is_of p (Carries n mark (Heard q b)) = same_peer q p
is_of p _ = false

abbrev pub keep_peer : ℕ → PeerLink → PeerLink
keep_peer t x = record { peer = x.peer; link = kept_link t x.link }

abbrev pub has_copy : List Written → PeerLink → Bool
has_copy ws x = list_any (λ (w : Written). is_of x.peer w.deed) ws

-- After the seal no tick ends an exchange or gives a message up. They are over when they would be
-- at the latest.
abbrev pub all_over : ℕ → State → Bool
all_over t S =
    list_all (is_past t) S.exchanges
    && list_all (λ (x : PeerLink). is_over_by t x.link.outstanding) S.links

abbrev pub is_spent : State → Bool
is_spent S = nat_lt MAX_NUMBERED S.issued || nat_lt MAX_NUMBERED S.opened

abbrev pub fault_of : ℕ → State → Option RotateFault
fault_of t S =
    if not S.sealed then Some Unsealed
    else (if nat_lt 0 S.given then Some Given
    else (if nat_lt 0 (length S.conns) then Some Connected
    else (if not (all_over t S) then Some Exchanging
    else (if is_spent S then Some Spent
    else (if not (are_few (copies t S.entries)) then Some Crowded else None)))))

-- What it goes on with: numbers, what is remembered, and the stored responses that are carried
-- over. What was observed is asked for anew, and no open exchange asks about anything any more.
abbrev pub turned_with : ℕ → List Written → List Backed → State → State
turned_with t ws bs S = record {
  entries = ws;
  sealed = false;
  given = 0;
  kept = [];
  moment = t;
  opened = S.opened;
  issued = S.issued;
  conns = [];
  readers = [];
  exchanges = [];
  pieces = [];
  stales = [];
  watches = [];
  store = map (pair_at ws) bs;
  links = filter (has_copy ws) (map (keep_peer t) S.links);
}

abbrev pub copied_entries : ℕ → State → List Written
copied_entries t S = copies_with t S.entries (carried_numbers (taken t S))

abbrev pub turned : ℕ → State → State
turned t S = turned_with t (copied_entries t S) (taken t S) S

-- the journal that is given out, and the state after it
abbrev pub rotated_by : Option RotateFault → ℕ → State → Result (List Written × State) RotateFault
rotated_by (Some fault) t S = Err fault
rotated_by None t S = Ok (S.entries, turned t S)

abbrev pub rotated : ℕ → State → Result (List Written × State) RotateFault
rotated t S = rotated_by (fault_of t S) t S

-- What is kept of a core between two steps is kept of the state after it, whose journal is within
-- its limits.
abbrev pub RotatesKeeps : Type 0
RotatesKeeps = (t : ℕ) (S : State) → Kept S → S.moment ≤ t → fault_of t S ≡ None → Kept (turned t S)

abbrev pub RotatesInRoom : Type 0
RotatesInRoom =
    (t : ℕ) (S : State) → KeptInRoom S → S.moment ≤ t → fault_of t S ≡ None
    → KeptInRoom (turned t S)

-- Each link gave out all before it, and so it has after it.
abbrev pub RotatesDrained : Type 0
RotatesDrained = (t : ℕ) (S : State) → IsDrained S → IsDrained (turned t S)
