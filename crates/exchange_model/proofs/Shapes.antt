-- What an entry is to the first sendings, and to what may be repeated: a first sending or a copy of one, what was
-- heard and is remembered, or neither.
use Rattle.std.proofs.Common.{◌≡◌, ℕ, ◌+◌, Bool, true, false, ◌&&◌, eqb, ltb, List, ◌∷◌, Option, Some, None, refl, sym, ap, ◌∙◌}
use Rattle.limits.specs.declared.TheConstants.{EXCHANGE_LIFETIME, MESSAGE_ID_LIFETIME}
use Rattle.coap_codec.specs.declared.message.MsgType.{MsgType}
use Rattle.coap_codec.specs.declared.message.MsgType.TheVariants.{Ack, Rst}
use Rattle.coap_codec.specs.Spelling.{Content}
use Rattle.uri_map.specs.declared.peer.Peer.{Peer}
use Rattle.uri_map.specs.Peers.{same_peer}
use Rattle.journal_book.specs.Entries.{Mark, Past, Deed, Opens, Asks, Sends, Hears, Passes, Answers, Shuts, Seals, Carries}
use Rattle.journal_book.specs.Entries as D
use Rattle.history_laws.specs.Readings.{Noted, Note, Plain, First, Says, Bygone, Recalls, Answered, Acknowledged, Rejected, Ignored, noted}
use Rattle.history_laws.specs.Transmissions.{FirstSending, firsts_by}
use Rattle.history_laws.specs.Hearing.{is_such, is_live, bears}
use Rattle.history_laws.specs.Confirming.{answered}

-- what is remembered of an entry
pub data Kept : Type 0 where
  -- a first sending: to whom, its bytes and timeout, and the message
  Sending : (peer : Peer) → (bytes : List ℕ) → (timeout : Option ℕ) → (message : Content) → Kept
  -- what was heard: from whom, the bytes and the message, and how it was answered
  Hearing : (peer : Peer) → (bytes : List ℕ) → (message : Content) → (answer : Answered) → Kept

abbrev pub answered_as : Option MsgType → Answered
answered_as (Some Ack) = Acknowledged
answered_as (Some Rst) = Rejected
answered_as _ = Ignored

abbrev pub if_such : Bool → Kept → Option Kept
if_such true k = Some k
if_such false k = None

abbrev pub kept_as : Deed → Note → Option Kept
kept_as (Sends p b w) (First o m) = Some (Sending p b w m)
kept_as (Hears p b) (Says m to notice) =
    if_such (is_such m.kind) (Hearing p b m (answered_as (answered (Says m to notice))))
kept_as (Carries k mark (D.Sent p b w)) (Bygone m) = Some (Sending p b w m)
kept_as (Carries k mark (D.Sent p b w)) (First o m) = Some (Sending p b w m)
kept_as (Carries k mark (D.Heard p b)) (Recalls m a) = if_such (is_such m.kind) (Hearing p b m a)
kept_as _ _ = None

-- how long it is: as long as its ID is in use, or as it may be repeated
abbrev pub still_kept : ℕ → ℕ → Kept → Bool
still_kept t s (Sending p b w m) = ltb t (s + MESSAGE_ID_LIFETIME)
still_kept t s (Hearing p b m a) = ltb t (s + EXCHANGE_LIFETIME)

-- A copy of an entry: of a first sending whose exchange isn't told, or with the copy of its ask; of what was heard; and
-- of what is neither.
pub data Copy : Type 0 where
  Sent : (mark : Mark) → (peer : Peer) → (bytes : List ℕ) → (timeout : Option ℕ) → (message : Content) → Copy
  Aimed : (peer : Peer) → (bytes : List ℕ) → (timeout : Option ℕ) → (opening : ℕ) → (message : Content) → Copy
  Heard : (mark : Mark) → (peer : Peer) → (bytes : List ℕ) → (message : Content) → (answer : Answered) → Copy
  Bare : (done : D.Done) → Copy

abbrev pub copy_as : ℕ → ℕ → Copy → Noted
copy_as n s (Sent mark p b w m) = noted s (Carries n mark (D.Sent p b w)) (Bygone m)
copy_as n s (Aimed p b w o m) = noted s (Carries n D.Ground (D.Sent p b w)) (First o m)
copy_as n s (Heard mark p b m a) = noted s (Carries n mark (D.Heard p b)) (Recalls m a)
copy_as n s (Bare done) = noted s (Carries n D.Ground done) Plain

-- what is remembered of it
abbrev pub kept_of : Copy → Option Kept
kept_of (Sent mark p b w m) = Some (Sending p b w m)
kept_of (Aimed p b w o m) = Some (Sending p b w m)
kept_of (Heard mark p b m a) = if_such (is_such m.kind) (Hearing p b m a)
kept_of (Bare done) = None

pub kept-copy : (n s : ℕ) (c : Copy) → kept_as (copy_as n s c).written.deed (copy_as n s c).note ≡ kept_of c
kept-copy n s (Sent mark p b w m) = refl
kept-copy n s (Aimed p b w o m) = refl
kept-copy n s (Heard mark p b m a) = refl
kept-copy n s (Bare (D.Asked c a)) = refl
kept-copy n s (Bare (D.Sent p b w)) = refl
kept-copy n s (Bare (D.Heard p b)) = refl

pub moment-copy : (n s : ℕ) (c : Copy) → (copy_as n s c).written.moment ≡ s
moment-copy n s (Sent mark p b w m) = refl
moment-copy n s (Aimed p b w o m) = refl
moment-copy n s (Heard mark p b m a) = refl
moment-copy n s (Bare done) = refl

-- The copy of what is remembered alone, and of what an answer may rest on: where asks stand, f tells of their copies.

abbrev pub past_copy : Kept → Copy
past_copy (Sending p b w m) = Sent Past p b w m
past_copy (Hearing p b m a) = Heard Past p b m a

abbrev pub past_if : Bool → Kept → Option Copy
past_if true k = Some (past_copy k)
past_if false k = None

abbrev pub past_of : ℕ → ℕ → Option Kept → Option Copy
past_of t s None = None
past_of t s (Some k) = past_if (still_kept t s k) k

abbrev pub backing_copy : (ℕ → ℕ) → Deed → Note → Option Copy
backing_copy f (Asks c a) note = Some (Bare (D.Asked c a))
backing_copy f (Sends p b w) (First o m) = Some (Aimed p b w (f o) m)
backing_copy f (Sends p b w) note = Some (Bare (D.Sent p b w))
backing_copy f (Hears p b) (Says m to notice) = Some (Heard D.Ground p b m (answered_as (answered (Says m to notice))))
backing_copy f (Hears p b) note = Some (Bare (D.Heard p b))
backing_copy f (Carries k mark (D.Sent p b w)) (First o m) = Some (Aimed p b w (f o) m)
backing_copy f (Carries k mark (D.Sent p b w)) (Bygone m) = Some (Sent D.Ground p b w m)
backing_copy f (Carries k mark (D.Sent p b w)) note = Some (Bare (D.Sent p b w))
backing_copy f (Carries k mark (D.Heard p b)) (Recalls m a) = Some (Heard D.Ground p b m a)
backing_copy f (Carries k mark (D.Heard p b)) note = Some (Bare (D.Heard p b))
backing_copy f (Carries k mark (D.Asked c a)) note = Some (Bare (D.Asked c a))
backing_copy f d note = None

abbrev pub copy_by : Bool → (ℕ → ℕ) → ℕ → ℕ → Deed → Note → Option Copy
copy_by true f t s d note = backing_copy f d note
copy_by false f t s d note = past_of t s (kept_as d note)

-- what is remembered of what was heard is a CON or NON
abbrev pub IsSuch : Option Kept → Type 0
IsSuch (Some (Hearing p b m a)) = is_such m.kind ≡ true
IsSuch k = Unit {0}

such-if : (b : Bool) (p : Peer) (bytes : List ℕ) (m : Content) (a : Answered) → is_such m.kind ≡ b → IsSuch (if_such b (Hearing p bytes m a))
such-if true p bytes m a e = e
such-if false p bytes m a e = tt

pub such-as : (d : Deed) (note : Note) → IsSuch (kept_as d note)
such-as (Sends r b w) (First o m) = tt
such-as (Sends r b w) note = tt
such-as (Hears q b) (Says m to notice) = such-if (is_such m.kind) q b m _ refl
such-as (Hears q b) note = tt
such-as (Carries k mark (D.Sent q b w)) (Bygone m) = tt
such-as (Carries k mark (D.Sent q b w)) (First o m) = tt
such-as (Carries k mark (D.Sent q b w)) note = tt
such-as (Carries k mark (D.Heard q b)) (Recalls m a) = such-if (is_such m.kind) q b m a refl
such-as (Carries k mark (D.Heard q b)) note = tt
such-as (Carries k mark (D.Asked c a)) note = tt
such-as d note = tt

-- Of a copy just as much is remembered; of what isn't copied nothing any more.
abbrev pub Fits : ℕ → ℕ → Option Copy → Option Kept → Type 0
Fits t s None k = (j : Kept) → k ≡ Some j → still_kept t s j ≡ false
Fits t s (Some c) k = kept_of c ≡ k

none-not : (j : Kept) → None ≡ Some j → ⊥
none-not j e = cc

past-fits : (t s : ℕ) (k : Option Kept) → IsSuch k → Fits t s (past_of t s k) k
past-fits t s None such = λ j e. absurd (none-not j e)
past-fits t s (Some k) such = by k such (still_kept t s k) refl
  where
    same : (k j : Kept) → Some k ≡ Some j → k ≡ j
    same k j e = cc

    by : (k : Kept) → IsSuch (Some k) → (b : Bool) → still_kept t s k ≡ b → Fits t s (past_if b k) (Some k)
    by (Sending p b w m) such true e = refl
    by (Hearing p b m a) such true e = ap (λ (c : Bool). if_such c (Hearing p b m a)) such
    by k such false e = λ j is. ap (still_kept t s) (sym (same k j is)) ∙ e

backing-fits : (t s : ℕ) (f : ℕ → ℕ) (d : Deed) (note : Note) → Fits t s (backing_copy f d note) (kept_as d note)
backing-fits t s f (Asks c a) note = refl
backing-fits t s f (Sends p b w) (First o m) = refl
backing-fits t s f (Sends p b w) note = refl
backing-fits t s f (Hears p b) (Says m to notice) = refl
backing-fits t s f (Hears p b) note = refl
backing-fits t s f (Carries k mark (D.Sent p b w)) (First o m) = refl
backing-fits t s f (Carries k mark (D.Sent p b w)) (Bygone m) = refl
backing-fits t s f (Carries k mark (D.Sent p b w)) note = refl
backing-fits t s f (Carries k mark (D.Heard p b)) (Recalls m a) = refl
backing-fits t s f (Carries k mark (D.Heard p b)) note = refl
backing-fits t s f (Carries k mark (D.Asked c a)) note = refl
backing-fits t s f d note = λ j e. absurd (none-not j e)

pub copy-fits : (b : Bool) (f : ℕ → ℕ) (t s : ℕ) (d : Deed) (note : Note) → Fits t s (copy_by b f t s d note) (kept_as d note)
copy-fits true f t s d note = backing-fits t s f d note
copy-fits false f t s d note = past-fits t s (kept_as d note) (such-as d note)

-- What such an entry adds to the first sendings,

abbrev pub opening_as : ℕ → Note → ℕ
opening_as n (First o m) = o
opening_as n note = n

abbrev pub first_as : ℕ → ℕ → ℕ → Option Kept → List FirstSending → List FirstSending
first_as n s o (Some (Sending p b w m)) old =
    record { number = n; moment = s; opening = o; peer = p; message = m } ∷ old
first_as n s o _ old = old

such-none : (n s o : ℕ) (b : Bool) (p : Peer) (bytes : List ℕ) (m : Content) (a : Answered) (old : List FirstSending)
    → first_as n s o (if_such b (Hearing p bytes m a)) old ≡ old
such-none n s o true p bytes m a old = refl
such-none n s o false p bytes m a old = refl

pub firsts-as : (n s : ℕ) (d : Deed) (note : Note) (old : List FirstSending)
    → firsts_by n s d note old ≡ first_as n s (opening_as n note) (kept_as d note) old
firsts-as n s (Sends p b w) (First o m) old = refl
firsts-as n s (Sends p b w) note old = refl
firsts-as n s (Hears p b) (Says m to notice) old = sym (such-none n s n (is_such m.kind) p b m (answered_as (answered (Says m to notice))) old)
firsts-as n s (Hears p b) note old = refl
firsts-as n s (Carries k mark (D.Sent p b w)) (Bygone m) old = refl
firsts-as n s (Carries k mark (D.Sent p b w)) (First o m) old = refl
firsts-as n s (Carries k mark (D.Sent p b w)) note old = refl
firsts-as n s (Carries k mark (D.Heard p b)) (Recalls m a) old = sym (such-none n s n (is_such m.kind) p b m a old)
firsts-as n s (Carries k mark (D.Heard p b)) note old = refl
firsts-as n s (Carries k mark (D.Asked c a)) note old = refl
firsts-as n s d note old = refl

-- and to what may be repeated.

abbrev pub live_as : ℕ → Peer → ℕ → Option Kept → Bool
live_as t p s (Some (Hearing q b m a)) = same_peer q p && ltb t (s + EXCHANGE_LIFETIME)
live_as t p s _ = false

abbrev pub bears_as : ℕ → Option Kept → Bool
bears_as mid (Some (Hearing q b m a)) = eqb m.mid mid
bears_as mid _ = false

such-live : (t : ℕ) (p : Peer) (s : ℕ) (b : Bool) (q : Peer) (bytes : List ℕ) (m : Content) (a : Answered)
    → (b && (same_peer q p && ltb t (s + EXCHANGE_LIFETIME))) ≡ live_as t p s (if_such b (Hearing q bytes m a))
such-live t p s true q bytes m a = refl
such-live t p s false q bytes m a = refl

pub live-as : (t : ℕ) (p : Peer) (s : ℕ) (d : Deed) (note : Note) → is_live t p s d note ≡ live_as t p s (kept_as d note)
live-as t p s (Sends r b w) (First o m) = refl
live-as t p s (Sends r b w) note = refl
live-as t p s (Hears q b) (Says m to notice) = such-live t p s (is_such m.kind) q b m (answered_as (answered (Says m to notice)))
live-as t p s (Hears q b) note = refl
live-as t p s (Carries k mark (D.Sent q b w)) (Bygone m) = refl
live-as t p s (Carries k mark (D.Sent q b w)) (First o m) = refl
live-as t p s (Carries k mark (D.Sent q b w)) note = refl
live-as t p s (Carries k mark (D.Heard q b)) (Recalls m a) = such-live t p s (is_such m.kind) q b m a
live-as t p s (Carries k mark (D.Heard q b)) note = refl
live-as t p s (Carries k mark (D.Asked c a)) note = refl
live-as t p s d note = refl

and-left-false : (x : Bool) → (false && x) ≡ false
and-left-false x = refl

such-like : (t : ℕ) (p : Peer) (mid s : ℕ) (b : Bool) (q : Peer) (bytes : List ℕ) (m : Content) (a : Answered)
    → ((b && (same_peer q p && ltb t (s + EXCHANGE_LIFETIME))) && eqb m.mid mid)
    ≡ (live_as t p s (if_such b (Hearing q bytes m a)) && bears_as mid (if_such b (Hearing q bytes m a)))
such-like t p mid s true q bytes m a = refl
such-like t p mid s false q bytes m a = refl

pub like-as : (t : ℕ) (p : Peer) (mid s : ℕ) (d : Deed) (note : Note)
    → (is_live t p s d note && bears mid note) ≡ (live_as t p s (kept_as d note) && bears_as mid (kept_as d note))
like-as t p mid s (Sends r b w) (First o m) = refl
like-as t p mid s (Sends r b w) note = refl
like-as t p mid s (Hears q b) (Says m to notice) = such-like t p mid s (is_such m.kind) q b m (answered_as (answered (Says m to notice)))
like-as t p mid s (Hears q b) note = refl
like-as t p mid s (Carries k mark (D.Sent q b w)) (Bygone m) = refl
like-as t p mid s (Carries k mark (D.Sent q b w)) (First o m) = refl
like-as t p mid s (Carries k mark (D.Sent q b w)) note = refl
like-as t p mid s (Carries k mark (D.Heard q b)) (Recalls m a) = such-like t p mid s (is_such m.kind) q b m a
like-as t p mid s (Carries k mark (D.Heard q b)) note = refl
like-as t p mid s (Carries k mark (D.Asked c a)) note = refl
like-as t p mid s d note = refl
