-- Messages on their way (RFC 7252 section 4.2): first sendings, their copies, what is outstanding.
use Rattle.std.specs.Prelude.{ℕ, ◌+◌, ◌*◌, ◌^◌, Bool, false, ◌&&◌, List, [], ◌∷◌, length, count_by, find, Option, Some, None, option_map, option_and_then, unwrap_or, is_some, ◌==◌, nat_le, nat_lt, if◌then◌else◌}
use Rattle.std.specs.List.{list_any}
use Rattle.std.specs.Str.{bytes_eq}
use Rattle.limits.specs.declared.TheConstants.{MAX_RETRANSMIT, MESSAGE_ID_LIFETIME}
use Rattle.coap_codec.specs.Spelling.{Content}
use Rattle.uri_map.specs.declared.peer.Peer.{Peer}
use Rattle.uri_map.specs.Peers.{same_peer}
use Rattle.journal_book.specs.Entries.{Deed, Sends, Hears, Passes, Carries}
use Rattle.journal_book.specs.Entries as D
use Rattle.history_laws.specs.Readings.{Noted, Note, First, Copies, Says, Bygone}

-- a first sending, and the exchange whose message it is
pub record FirstSending : Type 0 where
  pub number : ℕ
  pub moment : ℕ
  pub opening : ℕ
  pub peer : Peer
  pub message : Content

-- the first sendings, the newest first
abbrev pub firsts_by : ℕ → ℕ → Deed → Note → List FirstSending → List FirstSending
firsts_by n t (Sends p b w) (First o m) old =
    record { number = n; moment = t; opening = o; peer = p; message = m } ∷ old
-- A copy belongs to no exchange: its opening is its own number, or that of the copy of its ask.
firsts_by n t (Carries k mark (D.Sent p b w)) (Bygone m) old =
    record { number = n; moment = t; opening = n; peer = p; message = m } ∷ old
firsts_by n t (Carries k mark (D.Sent p b w)) (First o m) old =
    record { number = n; moment = t; opening = o; peer = p; message = m } ∷ old
firsts_by n t _ _ old = old

abbrev pub firsts : List Noted → List FirstSending
firsts [] = []
firsts (x ∷ older) = firsts_by (length older) x.written.moment x.written.deed x.note (firsts older)

-- the first sending with this number, the latest one of an exchange, and the latest one to a peer
abbrev pub first_at : List Noted → ℕ → Option FirstSending
first_at l i = find (λ (f : FirstSending). f.number == i) (firsts l)

abbrev pub sent_last : List Noted → ℕ → Option ℕ
sent_last l o =
    option_map (λ (f : FirstSending). f.number)
    (find (λ (f : FirstSending). f.opening == o) (firsts l))

abbrev pub last_sent : List Noted → Peer → Option FirstSending
last_sent l p = find (λ (f : FirstSending). same_peer f.peer p) (firsts l)

-- one bears the token
abbrev pub bears_token : List Noted → List ℕ → Bool
bears_token l token = list_any (λ (f : FirstSending). bytes_eq f.message.token token) (firsts l)

-- one to the peer bears the message ID, and went out less than 494 seconds before; how many such
-- ones went out
abbrev pub is_recent : ℕ → Peer → FirstSending → Bool
is_recent t p f = same_peer f.peer p && nat_lt t (f.moment + MESSAGE_ID_LIFETIME)

abbrev pub bears_mid : List Noted → ℕ → Peer → ℕ → Bool
bears_mid l t p mid =
    list_any (λ (f : FirstSending). is_recent t p f && (f.message.mid == mid)) (firsts l)

abbrev pub mids_used : List Noted → ℕ → Peer → ℕ
mids_used l t p = count_by (is_recent t p) (firsts l)

-- an outstanding message: its first timeout, how many copies were sent, and when it was sent last
pub record Transmission : Type 0 where
  pub timeout : ℕ
  pub copies : ℕ
  pub last : ℕ

-- The timeout doubles with each copy (RFC 7252 section 4.2).
abbrev pub due : Transmission → ℕ
due x = x.last + x.timeout * 2 ^ x.copies

-- the timeout after the fourth copy is over
abbrev pub is_given_up : ℕ → Transmission → Bool
is_given_up t x = (x.copies == MAX_RETRANSMIT) && nat_le (due x) t

abbrev pub given_up : ℕ → Option Transmission → Bool
given_up t None = false
given_up t (Some x) = is_given_up t x

-- A message is outstanding until an ACK, a RST or a response answers it, or it is given up.
abbrev pub begun_way : Option ℕ → ℕ → Transmission
begun_way timeout t = record { timeout = unwrap_or timeout 0; copies = 0; last = t }

abbrev pub copied_way : ℕ → Transmission → Transmission
copied_way t x = record { timeout = x.timeout; copies = x.copies + 1; last = t }

abbrev pub transmission_by : ℕ → ℕ → ℕ → Deed → Note → Option Transmission → Option Transmission
transmission_by i n t (Sends p b w) (First o m) old = if n == i then Some (begun_way w t) else old
transmission_by i n t (Sends p b w) (Copies j) old =
    if j == i then option_map (copied_way t) old else old
transmission_by i n t (Hears p b) (Says m (Some j) notice) old = if j == i then None else old
transmission_by i n t Passes note old = if given_up t old then None else old
transmission_by i n t _ _ old = old

abbrev pub transmission : List Noted → ℕ → Option Transmission
transmission [] i = None
transmission (x ∷ older) i =
    transmission_by i (length older) x.written.moment x.written.deed x.note (transmission older i)

-- the message that is outstanding at the peer: one at most (NSTART, RFC 7252 section 4.7)
abbrev pub is_outstanding : List Noted → FirstSending → Bool
is_outstanding l f = is_some (transmission l f.number)

abbrev pub if_outstanding : List Noted → FirstSending → Option FirstSending
if_outstanding l f = if is_outstanding l f then Some f else None

abbrev pub outstanding : List Noted → Peer → Option FirstSending
outstanding l p = option_and_then (if_outstanding l) (last_sent l p)
