-- Which exchange a GET joins, and which one an ask reads.
use Rattle.std.proofs.Common.{◌≡◌, ℕ, ◌<◌, ◌≤◌, ◌⊎◌, Bool, true, false, not, inl, inr, List, [], ◌∷◌, length, Option, Some, None, is_some, refl, sym, ap, subst, ◌∙◌, arith}
use Rattle.std.specs.Prelude.{find}
use Rattle.std.specs.List.{Contains, list_any, filter}
use Rattle.std.proofs.lemmas.Bool.{false≢true, and_parts}
use Rattle.std.proofs.lemmas.Bool.Decides.{eqb_tells, leb_tells}
use Rattle.uri_map.specs.declared.peer.Peer.{Peer}
use Rattle.cache_key.specs.declared.place.Place.{Place}
use Rattle.cache_key.specs.Keys.{same_place}
use Rattle.cache_key.proofs.CallerLemmas.{places_decided}
use Rattle.ask_model.specs.Requests.{CoapRequest, Sense, Requests, Refuses, Manner, asking}
use Rattle.ask_model.specs.Sharing.{asked_place, asks_same}
use Rattle.ask_model.specs.Views.{Ask}
use Rattle.ask_model.proofs.CallerLemmas.{asks-alike, asks-onward, same-place}
use Rattle.journal_book.specs.Entries.{Deed, Opens, Asks, Sends, Hears, Passes, Answers, Shuts, Seals, Mark, Carries}
use Rattle.journal_book.specs.Entries as D
use Rattle.coap_codec.specs.Spelling.{Content}
use Rattle.resp_cache.specs.Stored.{Stored}
use Rattle.history_laws.specs.Readings.{Noted, Note, Begins, Renews, Joins, Says, Notice, at, before, noted}
use Rattle.history_laws.specs.Exchanges.{Begun, begun, opens_by, openings, End, end_of, is_going, open_exchanges}
use Rattle.history_laws.specs.Joining.{writes_at, outruns, outrun, asks_the_same, is_joinable, joins}
use Rattle.history_laws.specs.Justified.{IsAsk, reads_by, reads_in, reads, AskNote, Follows, Legal, CopiedNote}
use Rattle.history_laws.specs.Laws.{ReadsOpened, OneJoinable}
use Rattle.history_laws.specs.Grounds.{IsWriteEnd}
use Rattle.history_laws.proofs.Elements.{any-find, any-of, find-some}
use Rattle.history_laws.proofs.Facts.{follows-at, legal-before, length-before}
use Rattle.history_laws.proofs.Openings.{open-exactly}
use Rattle.history_laws.proofs.Outrunning.{end-before, end-since, ended-begun, is-outrun, not-true, outrun-since}
use Rattle.history_laws.proofs.Places.{at-below, at-old}
use Rattle.history_laws.proofs.Resting.{none-some, some-is}
use Rattle.history_laws.proofs.Sent.{AskedFor, asked-by, begins-ask, begun-before, begun-below, begun-opening, opened-for, opens-begun, opens-so, StartedFor}
use Rattle.history_laws.proofs.Started.{starts-unread}

-- An exchange that a GET may be answered from: for an equal one, and outrun by no write.
pub record Shared (l : List Noted) (q : CoapRequest) (o : ℕ) : Type 0 where
  pub exchange : Begun
  pub opened : begun l o ≡ Some exchange
  pub same : asks_same q exchange.request ≡ true
  pub fresh : outrun l (asked_place q) o ≡ false

pub shared-is : (l : List Noted) (q : CoapRequest) (o : ℕ) → is_joinable l q o ≡ true → Shared l q o
shared-is l q o e =
    let both = and_parts (asks_the_same q (begun l o)) (not (outrun l (asked_place q) o)) e in
    by (begun l o) refl both.0 (outrun l (asked_place q) o) refl both.1
  where
    by : (b : Option Begun) → begun l o ≡ b → asks_the_same q b ≡ true → (late : Bool) → outrun l (asked_place q) o ≡ late → not late ≡ true
        → Shared l q o
    by None is same late was fresh = absurd (false≢true same)
    by (Some b) is same true was fresh = absurd (false≢true fresh)
    by (Some b) is same false was fresh = record { exchange = b; opened = is; same = same; fresh = was }

-- An open exchange that this GET may join.
pub record Joined (l : List Noted) (q : CoapRequest) (o : ℕ) : Type 0 where
  pub is_open : Contains (open_exchanges l) o
  pub exchange : Begun
  pub opened : begun l o ≡ Some exchange
  pub same : asks_same q exchange.request ≡ true
  pub fresh : outrun l (asked_place q) o ≡ false

pub joinable-is : (l : List Noted) (q : CoapRequest) (o : ℕ) → Contains (open_exchanges l) o → is_joinable l q o ≡ true → Joined l q o
joinable-is l q o has e =
    let it = shared-is l q o e in
    record { is_open = has; exchange = it.exchange; opened = it.opened; same = it.same; fresh = it.fresh }

pub is-joinable : (l : List Noted) (q : CoapRequest) (o : ℕ) → Joined l q o → is_joinable l q o ≡ true
is-joinable l q o h =
    let same : asks_the_same q (begun l o) ≡ true = subst (λ (b : Option Begun). asks_the_same q b ≡ true) (sym h.opened) h.same in
    rw (same, h.fresh) refl

pub joins-is : (l : List Noted) (q : CoapRequest) (o : ℕ) → joins l q ≡ Some o → Joined l q o
joins-is l q o e =
    let found = find-some (is_joinable l q) (open_exchanges l) o e in
    joinable-is l q o found.0 found.1

-- Where it joins none, there is none that it might.
pub none-joined : (l : List Noted) (q : CoapRequest) (o : ℕ) → joins l q ≡ None → Joined l q o → ⊥
none-joined l q o none h =
    let any : list_any (is_joinable l q) (open_exchanges l) ≡ true = any-of (is_joinable l q) (open_exchanges l) o h.is_open (is-joinable l q o h) in
    false≢true (sym (ap is_some none) ∙ (sym (any-find (is_joinable l q) (open_exchanges l)) ∙ any))

-- what was opened below an entry had been opened before it
at-early : (l : List Noted) (k n : ℕ) (x : Noted) → k < length l → at l n ≡ Some x → n < k → at (before l k) n ≡ Some x
at-early [] k n x lt is earlier = absurd (none-some x is)
at-early (y ∷ older) k n x lt is earlier =
    elim (at-old y older n x is) [
      | inl new ↦ let here = new.0 in absurd (omega (arith, lt, here, earlier))
      | inr old ↦ elim (eqb_tells k (length older)) [
        | inl w ↦ rw (w.0) old
        | inr w ↦ let other = w.1 in rw (w.0) (at-early older k n x (omega (arith, lt, other)) old earlier)
      ]
    ]

pub begun-early : (l : List Noted) (k o : ℕ) (b : Begun) → k < length l → begun l o ≡ Some b → o < k → begun (before l k) o ≡ Some b
begun-early l k o b lt is earlier =
    let h = begun-opening l o b is in
    opens-begun (before l k) o b.since h.0 h.1 b.request h.3 (at-early l k o _ lt h.2 earlier)

-- what is open now was so before each entry since its opening
open-early : (l : List Noted) (k o : ℕ) (b : Begun) → k < length l → begun l o ≡ Some b → o < k → end_of l o ≡ None
    → Contains (open_exchanges (before l k)) o
open-early l k o b lt is earlier going =
    (open-exactly (before l k) o).1 (ap is_some (begun-early l k o b lt is earlier), by (end_of (before l k) o) refl)
  where
    by : (e : Option End) → end_of (before l k) o ≡ e → e ≡ None
    by None f = refl
    by (Some e) f = absurd (none-some e (sym going ∙ end-since l k o e f))

-- One exchange at most may be joined: the later one of two wouldn't have been opened.
module _ (l : List Noted) (q : CoapRequest) (a b : ℕ) (legal : Legal l) (first : Joined l q a) (second : Joined l q b) (lt : a < b) where
  abbrev r : CoapRequest
  r = second.exchange.request

  below : b < length l
  below = begun-below l b second.exchange second.opened

  joined-before : Joined (before l b) r a
  joined-before = record {
    is_open = open-early l b a first.exchange below first.opened lt ((open-exactly l a).0 first.is_open).1;
    exchange = first.exchange;
    opened = begun-early l b a first.exchange below first.opened lt;
    same = asks-onward q r first.exchange.request second.same first.same;
    fresh = not-true (outrun (before l b) (asked_place r) a)
        (λ e. false≢true (sym first.fresh ∙ subst (λ (p : Place). outrun l p a ≡ true) (sym (same-place q r second.same)) (outrun-since l b (asked_place r) a e)));
  }

  -- of an ask
  asked-joined : AskedFor l b second.exchange → ⊥
  asked-joined it =
      let may = opens-so (before l b) second.exchange.since it.ask.sense it.note r it.opens (follows-at l b _ legal it.stands).3 in
      none-joined (before l b) r a may.alone joined-before

  -- or of a notification: no exchange of an equal GET is open then
  notice-joined : StartedFor l b second.exchange → ⊥
  notice-joined it =
      let unread = starts-unread (before l b) second.exchange.since it.message it.sending it.ask r it.said in
      let here = joined-before in
      let same : asks_the_same r (begun (before l b) a) ≡ true = subst (λ (v : Option Begun). asks_the_same r v ≡ true) (sym here.opened) here.same in
      false≢true (sym unread ∙ any-of (λ (o : ℕ). asks_the_same r (begun (before l b) o)) (open_exchanges (before l b)) a here.is_open same)

  later-joined : ⊥
  later-joined = elim (opened-for l b second.exchange legal second.opened) [ inl it ↦ asked-joined it | inr it ↦ notice-joined it ]

pub one-joinable : OneJoinable
one-joinable l q a b legal first may second might =
    elim (eqb_tells a b) [
      | inl w ↦ w.1
      | inr w ↦ elim (leb_tells a b) [
        | inl le ↦
            let other = w.1 in
            let below = le.1 in
            absurd (later-joined l q a b legal (joinable-is l q a first may) (joinable-is l q b second might) (omega (arith, other, below)))
        | inr gt ↦ absurd (later-joined l q b a legal (joinable-is l q b second might) (joinable-is l q a first may) gt.1)
      ]
    ]

-- So what is found to be joinable, in whatever order, is what it joins.
pub joins-found : (l : List Noted) (q : CoapRequest) (o : ℕ) → Legal l → Joined l q o → joins l q ≡ Some o
joins-found l q o legal h = by (joins l q) refl
  where
    by : (found : Option ℕ) → joins l q ≡ found → joins l q ≡ Some o
    by None e = absurd (none-joined l q o e h)
    by (Some p) e =
        let it = joins-is l q p e in
        e ∙ ap (λ (o : ℕ). Some o) (one-joinable l q p o legal it.is_open (is-joinable l q p it) h.is_open (is-joinable l q o h))

pub joins-none : (l : List Noted) (q : CoapRequest) → ((o : ℕ) → Joined l q o → ⊥) → joins l q ≡ None
joins-none l q none = by (joins l q) refl
  where
    by : (found : Option ℕ) → joins l q ≡ found → found ≡ None
    by None e = refl
    by (Some o) e = absurd (none o (joins-is l q o e))

-- an ask that joins an exchange
joins-ask : (l : List Noted) (t : ℕ) (d : Deed) (o : ℕ) → Follows l t d (Joins o)
    → (c : ℕ) × (a : Ask) × (q : CoapRequest) × (d ≡ Asks c a) × (a.sense ≡ Requests q) × (joins l q ≡ Some o)
joins-ask l t (Asks c a) o f = by a.sense refl f.3
  where
    by : (s : Sense) → a.sense ≡ s → AskNote l t s (Joins o)
        → (d : ℕ) × (b : Ask) × (q : CoapRequest) × (Asks c a ≡ Asks d b) × (b.sense ≡ Requests q) × (joins l q ≡ Some o)
    by (Requests q) e h = (c, a, q, refl, e, h)
    by (Refuses cause status) e h = absurd h
joins-ask l t (Opens c) o f = absurd f.2
joins-ask l t (Sends p b w) o f = absurd f.1
joins-ask l t (Hears p b) o f = absurd f.3
joins-ask l t Passes o f = absurd f.1
joins-ask l t (Answers c k g) o f = absurd f.4
joins-ask l t (Shuts c) o f = absurd f.2
joins-ask l t Seals o f = absurd f.2
joins-ask l t (Carries k mark done) o f = absurd (never mark done f.2)
  where
    never : (mark : Mark) (done : D.Done) → CopiedNote l t mark done (Joins o) → ⊥
    never D.Past (D.Sent p b w) h = h
    never D.Past (D.Heard p b) h = h
    never D.Ground (D.Asked c a) h = h
    never D.Ground (D.Sent p b w) h = h
    never D.Ground (D.Heard p b) h = h
    never mark done h = h

-- An ask reads the exchange that it opened, or one that it joined.
pub record ReadsAlong (l : List Noted) (k o : ℕ) (q : CoapRequest) (b : Begun) : Type 0 where
  pub earlier : o < k
  pub same : asks_same q b.request ≡ true
  pub joined : Joined (before l k) q o

pub record Reader (l : List Noted) (k o : ℕ) : Type 0 where
  pub conn : ℕ
  pub ask : Ask
  pub request : CoapRequest
  pub asked : IsAsk l k conn ask
  pub sense : ask.sense ≡ Requests request
  pub exchange : Begun
  pub opened : begun l o ≡ Some exchange
  pub way : ((o ≡ k) × (request ≡ exchange.request)) ⊎ ReadsAlong l k o request exchange

reader-own : (l : List Noted) (k t c : ℕ) (a : Ask) (note : Note) (q : CoapRequest) → Legal l → at l k ≡ Some (noted t (Asks c a) note) → opens_by note ≡ Some q
    → Reader l k k
reader-own l k t c a note q legal is opens =
    let b : Begun = record { since = t; request = q } in
    let made = opens-begun l k t (Asks c a) note q opens is in
    let it = asked-by l k c a note b legal is opens in
    record {
      conn = it.conn;
      ask = it.ask;
      request = q;
      asked = record { moment = t; note = it.note; stands = it.stands };
      sense = it.sense;
      exchange = b;
      opened = made;
      way = inl (refl, refl);
    }

begins-unsaid : (q : CoapRequest) (m : Content) (to : Option ℕ) (notice : Notice) → Begins q ≡ Says m to notice → ⊥
begins-unsaid q m to notice e = cc

renews-unsaid : (q : CoapRequest) (s : Stored) (m : Content) (to : Option ℕ) (notice : Notice) → Renews q s ≡ Says m to notice → ⊥
renews-unsaid q s m to notice e = cc

reader-opens : (l : List Noted) (k t : ℕ) (d : Deed) (note : Note) (q : CoapRequest) → Legal l → at l k ≡ Some (noted t d note) → opens_by note ≡ Some q
    → ((m : Content) (to : Option ℕ) (notice : Notice) → note ≡ Says m to notice → ⊥) → Reader l k k
reader-opens l k t d note q legal is opens unsaid = elim (begins-ask (before l k) t d note q opens (follows-at l k _ legal is)) [
  | inl it ↦ reader-own l k t it.0 it.1 note q legal (subst (λ (d : Deed). at l k ≡ Some (noted t d note)) it.2 is) opens
  | inr it ↦ absurd (unsaid it.message (Some it.sending) it.notice it.is)
]

reader-by : (l : List Noted) (k o t : ℕ) (d : Deed) (note : Note) → Legal l → at l k ≡ Some (noted t d note) → reads_by k note ≡ Some o
    → Reader l k o
reader-by l k o t d (Begins q) legal is e = subst (Reader l k) (some-is k o e) (reader-opens l k t d (Begins q) q legal is refl (begins-unsaid q))
reader-by l k o t d (Renews q s) legal is e = subst (Reader l k) (some-is k o e) (reader-opens l k t d (Renews q s) q legal is refl (renews-unsaid q s))
reader-by l k o t d (Joins p) legal is e =
    let it = joins-ask (before l k) t d p (follows-at l k _ legal is) in
    let h = joins-is (before l k) it.2 p it.5 in
    subst (Reader l k) (some-is p o e) (record {
      conn = it.0;
      ask = it.1;
      request = it.2;
      asked = record { moment = t; note = Joins p; stands = subst (λ (d : Deed). at l k ≡ Some (noted t d (Joins p))) it.3 is };
      sense = it.4;
      exchange = h.exchange;
      opened = begun-before l k p h.exchange h.opened;
      way = inr (record {
        earlier = subst (λ (n : ℕ). p < n) (length-before l k _ is) (begun-below (before l k) p h.exchange h.opened);
        same = h.same;
        joined = h;
      });
    })
reader-by l k o t d note legal is e = cc

pub reader : (l : List Noted) (k o : ℕ) → Legal l → reads l k ≡ Some o → Reader l k o
reader l k o legal e = by (at l k) refl e
  where
    by : (x : Option Noted) → at l k ≡ x → reads_in k x ≡ Some o → Reader l k o
    by None is f = absurd (none-some o f)
    by (Some x) is f = reader-by l k o x.written.moment x.written.deed x.note legal is f

-- that exchange was opened by then
pub reads-opened : ReadsOpened
reads-opened l k o legal e =
    let it = reader l k o legal e in
    (by it.exchange it.request it.way, ap is_some it.opened)
  where
    by : (b : Begun) (q : CoapRequest) → ((o ≡ k) × (q ≡ b.request)) ⊎ ReadsAlong l k o q b → o ≤ k
    by b q (inl own) = let same = own.0 in omega (arith, same)
    by b q (inr along) = let lt = along.earlier in omega (arith, lt)

-- and is for a request that goes to one server in equal messages
abbrev pub Alike : CoapRequest → CoapRequest → Type 0
Alike q r =
    (q.peer ≡ r.peer)
    × ((manner : Manner) (mid : ℕ) (token : List ℕ) → asking manner q None mid token ≡ asking manner r None mid token)

pub reader-alike : (l : List Noted) (k o : ℕ) → (it : Reader l k o) → Alike it.request it.exchange.request
reader-alike l k o it = by it.request it.exchange it.way
  where
    by : (q : CoapRequest) (b : Begun) → ((o ≡ k) × (q ≡ b.request)) ⊎ ReadsAlong l k o q b → Alike q b.request
    by q b (inl own) = subst (Alike q) own.1 (refl, λ manner mid token. refl)
    by q b (inr along) = asks-alike q b.request along.same

-- the end of a write to the place of a request is one there
pub writes-there : (l : List Noted) (e : ℕ) (q : CoapRequest) → (write : IsWriteEnd l q.peer q.target.path e) → writes_at (asked_place q) write.write ≡ true
writes-there l e q write =
    let r : CoapRequest = write.write.request in
    let made : Peer → List (List ℕ) → Place = λ p path. record { peer = p; path = path } in
    let same : asked_place q ≡ asked_place r = sym (ap (λ p. made p r.target.path) write.place.0 ∙ ap (made q.peer) write.place.1) in
    let there : same_place (asked_place q) (asked_place r) ≡ true = (places_decided (asked_place q) (asked_place r)).1 same in
    elim (eqb_tells r.method 1) [ inl w ↦ absurd (write.changes w.1) | inr w ↦ rw (w.0, there) refl ]

-- no write to the place ended between an opening that none has outrun and an ask
pub unoutrun-earlier : (l : List Noted) (k o e : ℕ) (q : CoapRequest) → Legal l → k < length l → outrun (before l k) (asked_place q) o ≡ false
    → IsWriteEnd l q.peer q.target.path e → e < k → e ≤ o
unoutrun-earlier l k o e q legal below fresh write lt =
    let f : End = record { number = e; how = write.how } in
    let ended = end-before l k write.opening f below write.ended lt in
    let was = ended-begun (before l k) write.opening f (legal-before l k legal) ended in
    let same : was.0 ≡ write.write = some-is _ _ (sym (begun-before l k write.opening was.0 was.1) ∙ write.opened) in
    elim (leb_tells e o) [
      | inl w ↦ w.1
      | inr w ↦
          absurd (false≢true (sym fresh ∙ is-outrun (before l k) (asked_place q) o (record {
            opening = write.opening;
            write = write.write;
            opened = was.1 ∙ ap (λ (b : Begun). Some b) same;
            changes = writes-there l e q write;
            end = f;
            ended = ended;
            later = w.1;
          })))
    ]

pub write-earlier : (l : List Noted) (k o e : ℕ) → Legal l → (it : Reader l k o) → IsWriteEnd l it.request.peer it.request.target.path e → e < k → e ≤ o
write-earlier l k o e legal it write lt = by it.request it.exchange it.way write
  where
    by : (q : CoapRequest) (b : Begun) → ((o ≡ k) × (q ≡ b.request)) ⊎ ReadsAlong l k o q b → IsWriteEnd l q.peer q.target.path e → e ≤ o
    by q b (inl own) write = let same = own.0 in omega (arith, same, lt)
    by q b (inr along) write = unoutrun-earlier l k o e q legal (at-below l k _ it.asked.stands) along.joined.fresh write lt

-- Where two histories have the same openings and ends, a GET joins the same.
any-same : {X : Type 0} (p q : X → Bool) → ((x : X) → p x ≡ q x) → (xs : List X) → list_any p xs ≡ list_any q xs
any-same p q same [] = refl
any-same p q same (x ∷ xs) = rw (same x, any-same p q same xs) refl

find-same : {X : Type 0} (p q : X → Bool) → ((x : X) → p x ≡ q x) → (xs : List X) → find p xs ≡ find q xs
find-same p q same [] = refl
find-same p q same (x ∷ xs) = rw (same x, find-same p q same xs) refl

filter-same : {X : Type 0} (p q : X → Bool) → ((x : X) → p x ≡ q x) → (xs : List X) → filter p xs ≡ filter q xs
filter-same p q same [] = refl
filter-same p q same (x ∷ xs) = rw (same x, filter-same p q same xs) refl

module _ (l n : List Noted) (openings_are : openings n ≡ openings l) (begun_are : (o : ℕ) → begun n o ≡ begun l o)
    (ends_are : (o : ℕ) → end_of n o ≡ end_of l o) where
  pub outrun-same : (place : Place) (o : ℕ) → outrun n place o ≡ outrun l place o
  outrun-same place o =
      rw (openings_are) (any-same (outruns n place o) (outruns l place o) (λ w. rw (begun_are w, ends_are w) refl) (openings l))

  pub open-same : open_exchanges n ≡ open_exchanges l
  open-same = rw (openings_are) (filter-same (is_going n) (is_going l) (λ o. rw (ends_are o) refl) (openings l))

  pub joins-same : (q : CoapRequest) → joins n q ≡ joins l q
  joins-same q =
      rw (open-same)
      (find-same (is_joinable n q) (is_joinable l q) (λ o. rw (begun_are o, outrun-same (asked_place q) o) refl) (open_exchanges l))
