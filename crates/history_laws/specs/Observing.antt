-- Which resources the proxy observes (RFC 7641): the registrations that stand, and what
-- notifications are to them.
use Rattle.std.specs.Prelude.{ℕ, Bool, true, false, not, ◌&&◌, ◌||◌, List, [], ◌∷◌, ◌++◌, length, map, filter, find, Option, Some, None, option_map, ◌==◌, nat_lt, if◌then◌else◌}
use Rattle.std.specs.Option.{option_map_or}
use Rattle.std.specs.Str.{bytes_eq}
use Rattle.coap_codec.specs.Spelling.{Content}
use Rattle.coap_codec.specs.Recognition.{value_of}
use Rattle.coap_codec.specs.Values.{uint}
use Rattle.cache_key.specs.Keys.{CacheKey}
use Rattle.ask_model.specs.Requests.{CoapRequest, Sense, Requests, Refuses, Manner, Validating, observing_if}
use Rattle.ask_model.specs.Sharing.{asked_key, is_get}
use Rattle.ask_model.specs.Observing.{may_observe}
use Rattle.ask_model.specs.Requests as Q
use Rattle.ask_model.specs.Views.{Ask}
use Rattle.resp_cache.specs.Stored.{Stored}
use Rattle.journal_book.specs.Entries.{Deed, Asks, Hears, Passes}
use Rattle.blockwise.specs.Downloads.{no_pieces}
use Rattle.observe_share.specs.declared.registration.Registration.{Registration}
use Rattle.observe_share.specs.declared.notice.Notice as Shared
use Rattle.observe_share.specs.declared.notice.Notice.TheVariants.{Update, Other}
use Rattle.observe_share.specs.Watches.{is_of, is_idle, heard_by, first_changed, without}
use Rattle.history_laws.specs.Readings.{Noted, Note, Begins, Renews, Joins, Says, Observation, Unobserved, Registers, Updates, Outdates, Starts, Cancels, at, before}
use Rattle.history_laws.specs.Progress.{Reply, Whole, Progress, Fetches, Ends, step}
use Rattle.history_laws.specs.Transmissions.{FirstSending, first_at}
use Rattle.history_laws.specs.Exchanges.{Begun, begun, kept, replies}
use Rattle.history_laws.specs.Joining.{outrun}

-- The number by which notifications are ordered: an Observe option (RFC 7641 section 3.4).
abbrev pub version : Content → Option ℕ
version m = option_map uint (value_of 6 m)

-- What a message is as the first reply to a GET: the whole response, the first piece of one, or
-- neither.
abbrev pub first_reply : ℕ → ℕ → Content → Reply
first_reply n i m = record { number = n; sending = i; message = m }

abbrev pub as_first : ℕ → ℕ → Content → Progress
as_first n i m = step (Fetches 0 no_pieces []) (first_reply n i m)

abbrev pub is_some_of : Progress → Bool
is_some_of (Fetches restarts pieces got) = true
is_some_of (Ends (Whole w rs)) = true
is_some_of progress = false

-- An update tells a state of its resource, or begins to: it is such a 2.05, with a number. Any
-- other notification is the last one (RFC 7641 section 3.2).
abbrev pub notice_by : Bool → Option ℕ → Shared.Notice
notice_by true (Some v) = Update v
notice_by _ v = Other v

abbrev pub notice_in : Content → Shared.Notice
notice_in m = notice_by ((m.code == 69) && is_some_of (as_first 0 0 m)) (version m)

-- so many resources may be observed
abbrev pub most_watches : ℕ
most_watches = 64

-- A registration that stands, by the first sending under whose token notifications come.
pub record Watch : Type 0 where
  pub sending : ℕ
  pub held : Registration

abbrev pub is_under : List ℕ → Watch → Bool
is_under token w = bytes_eq w.held.token token

-- It is for what this GET reads.
abbrev pub is_for : CoapRequest → Watch → Bool
is_for q w = is_get q && is_of (asked_key q) w.held

-- An ask for that is noted; one that opens an exchange ends it.
abbrev pub asked_again : CoapRequest → ℕ → Watch → Watch
asked_again q t w = if is_for q w then (record w { held = record w.held { asked = t } }) else w

abbrev pub asked_by : ℕ → Sense → Note → List Watch → List Watch
asked_by t (Requests q) (Begins r) ws = without (is_for q) ws
asked_by t (Requests q) (Renews r s) ws = without (is_for q) ws
asked_by t (Requests q) note ws = map (asked_again q t) ws
asked_by t (Refuses cause status) note ws = ws

-- when an ask last read the exchange
abbrev pub asked_last_by : ℕ → ℕ → ℕ → Note → ℕ → ℕ
asked_last_by o n t (Begins q) old = if n == o then t else old
asked_last_by o n t (Renews q s) old = if n == o then t else old
asked_last_by o n t (Joins p) old = if p == o then t else old
asked_last_by o n t note old = old

abbrev pub asked_last : List Noted → ℕ → ℕ
asked_last [] o = 0
asked_last (x ∷ older) o =
    asked_last_by o (length older) x.written.moment x.note (asked_last older o)

-- By the reply to its first message an exchange registers what it asks for.
abbrev pub number_or_zero : Option ℕ → ℕ
number_or_zero None = 0
number_or_zero (Some v) = v

abbrev pub watch_for : List Noted → ℕ → ℕ → Content → ℕ → Begun → Watch
watch_for l t i m o b = record {
  sending = i;
  held = record {
    key = asked_key b.request;
    token = m.token;
    opening = o;
    version = number_or_zero (version m);
    moment = t;
    asked = asked_last l o;
  };
}

abbrev pub registered_of : List Noted → ℕ → ℕ → Content → ℕ → Option Begun → List Watch
registered_of l t i m o None = []
registered_of l t i m o (Some b) = watch_for l t i m o b ∷ []

abbrev pub registered : List Noted → ℕ → ℕ → Content → Option FirstSending → List Watch
registered l t i m None = []
registered l t i m (Some f) = registered_of l t i m f.opening (begun l f.opening)

-- What a notification that counts makes of the watch: it holds its number and moment, or goes.
abbrev pub held_by : Content → ℕ → Watch → Option Watch
held_by m t w =
    option_map (λ (r : Registration). record w { held = r }) (heard_by (notice_in m) t w.held)

abbrev pub told_by : List Noted → ℕ → ℕ → Content → Observation → List Watch → List Watch
told_by l t i m Unobserved ws = ws
told_by l t i m Registers ws = ws ++ registered l t i m (first_at l i)
told_by l t i m observation ws = first_changed (is_under m.token) (held_by m t) ws

abbrev pub idles : ℕ → Watch → Bool
idles t w = is_idle t w.held

abbrev pub watches_by : List Noted → ℕ → Deed → Note → List Watch → List Watch
watches_by l t (Asks c a) note ws = asked_by t a.sense note ws
watches_by l t (Hears p b) (Says m (Some i) notice) ws = told_by l t i m notice.observation ws
watches_by l t Passes note ws = without (idles t) ws
watches_by l t deed note ws = ws

-- The end of a write to its place ends it too.
abbrev pub is_current : List Noted → Watch → Bool
is_current l w = not (outrun l w.held.key.place w.held.opening)

abbrev pub current_by : List Noted → Deed → Note → List Watch → List Watch
current_by l (Hears p b) (Says m to notice) ws = filter (is_current l) ws
current_by l Passes note ws = filter (is_current l) ws
current_by l deed note ws = ws

abbrev pub watches : List Noted → List Watch
watches [] = []
watches (x ∷ older) =
    current_by (x ∷ older) x.written.deed x.note
    (watches_by older x.written.moment x.written.deed x.note (watches older))

-- The first message of an exchange asks to observe where its server may be observed, and fewer
-- other resources are than may be (RFC 7641 section 3.1).
abbrev pub would_observe : List Noted → Ask → CoapRequest → Bool
would_observe l a q =
    may_observe a.rules q && nat_lt (length (without (is_for q) (watches l))) most_watches

abbrev pub wants_by : List Noted → Deed → Note → Bool
wants_by l (Asks c a) (Begins q) = would_observe l a q
wants_by l deed note = false

abbrev pub wants_in : List Noted → Option Noted → Bool
wants_in l None = false
wants_in l (Some x) = wants_by l x.written.deed x.note

abbrev pub unless_replied : Bool → List Reply → Bool
unless_replied wants [] = wants
unless_replied wants (r ∷ rs) = false

abbrev pub observes : List Noted → ℕ → Bool
observes l o = unless_replied (wants_in (before l o) (at l o)) (replies l o)

-- One that keeps something asks by its ETag, in its first message, whether it is valid still (RFC
-- 7252 section 5.10.6.2).
abbrev pub tag_of : Option Stored → List Reply → Option (List ℕ)
tag_of (Some s) [] = s.response.etag
tag_of old rs = None

abbrev pub manner_by : Option (List ℕ) → Bool → Manner
manner_by None observes = observing_if observes
manner_by (Some tag) true = Q.Observing
manner_by (Some tag) false = Validating tag

-- the manner of its next message
abbrev pub manner : List Noted → ℕ → Manner
manner l o = manner_by (tag_of (kept l o) (replies l o)) (observes l o)

-- the first sendings under whose tokens notifications come
abbrev pub sending_of : Watch → ℕ
sending_of w = w.sending

abbrev pub watched : List Noted → List ℕ
watched l = map sending_of (watches l)

-- A notification that counts makes what was heard for its key before it out of date.
abbrev pub counts : Observation → Bool
counts Updates = true
counts Outdates = true
counts (Starts k q) = true
counts Cancels = true
counts observation = false

abbrev pub watch_under : List Noted → List ℕ → Option Watch
watch_under l token = find (is_under token) (watches l)

abbrev pub counting : List Noted → Note → Option Watch
counting l (Says m (Some i) notice) =
    if counts notice.observation then watch_under l m.token else None
counting l note = None

abbrev pub is_of_key : CacheKey → Watch → Bool
is_of_key key w = is_of key w.held

abbrev pub outdates : List Noted → CacheKey → Note → Bool
outdates l key note = option_map_or (is_of_key key) (counting l note) false

-- one came after the entry with this number
abbrev pub outdated : List Noted → CacheKey → ℕ → Bool
outdated [] key n = false
outdated (x ∷ older) key n =
    (nat_lt n (length older) && outdates older key x.note) || outdated older key n
