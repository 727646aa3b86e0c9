-- A POST that was answered by success was executed exactly once.
use Rattle.std.proofs.Common.{◌≡◌, ℕ, ◌+◌, ◌<◌, ◌≤◌, ◌/◌, Bool, true, false, cond, eqb, inl, inr, List, [], ◌∷◌, length, Option, Some, None, refl, sym, ap, subst, ◌∙◌, arith}
use Rattle.std.specs.Prelude.{slice_get}
use Rattle.std.proofs.lemmas.Bool.Decides.{eqb_tells}
use Rattle.coap_codec.specs.Spelling.{Content, Spells}
use Rattle.coap_codec.specs.declared.block.Block.{Block}
use Rattle.coap_codec.proofs.Unique.{spells_one}
use Rattle.uri_map.specs.declared.peer.Peer.{Peer}
use Rattle.blockwise.specs.Uploads.{begun}
use Rattle.ask_model.specs.Requests.{CoapRequest, Manner, Plainly, Observing, Validating, asking}
use Rattle.journal_book.specs.Entries.{Deed, Sends, Hears, Live, Answers, Written}
use Rattle.history_laws.specs.Justified.{Follows, Legal, Stands}
use Rattle.history_laws.specs.Laws.{IsFirst}
use Rattle.history_laws.specs.Progress.{Fetched, Given, first_point}
use Rattle.blockwise.specs.Downloads.{no_pieces}
use Rattle.history_laws.specs.Readings.{Noted, Note, First, Copies, Confirms, Plain, Begins, Renews, Joins, Serves, Says, Repeats, Garbled, Bygone, Recalls, noted, at, before, entries}
use Rattle.history_laws.specs.Responses.{Response, whole_given, whole_of}
use Rattle.history_laws.proofs.CallerLemmas.{follows-at, none-some, some-is}
use Rattle.history_claims.specs.Headline.{AreHeardFor, AreHeardOn, IsEntry, IsFirstSending, IsShared, RestsOn}
use Rattle.history_claims.proofs.CallerLemmas.{entries-at}
use Rattle.demo_origin.specs.Calls.{Call}
use Rattle.demo_origin.specs.Origins.{fresh}
use Rattle.demo_origin.specs.Values.{Relation}
use Rattle.demo_origin.specs.declared.state.Held.{Held}
use Rattle.story_laws.specs.Executions.{Executes}
use Rattle.story_laws.specs.Networks.{IsGiven, Networks, AreGiven}
use Rattle.story_laws.specs.Posts.{IsDoneOnce}
use Rattle.story_laws.proofs.Executing.{messages-once}
use Rattle.story_laws.proofs.Originating.{IsAnsweredBy, answered-executed}
use Rattle.story_laws.proofs.Replying.{IsLastReply, last-reply}

-- ---- entries and their notes

-- only a first sending bears a timeout
first-by : (l : List Noted) (i t : ℕ) (p : Peer) (b : List ℕ) (w : ℕ) (note : Note) (m : Content)
    → at l i ≡ Some (noted t (Sends p b (Some w)) note) → Spells m b → Follows (before l i) t (Sends p b (Some w)) note
    → (o : ℕ) × IsFirst l t o i p m
first-by l i t p b w (First o k) m e spelled may =
    let same : k ≡ m = spells_one k m b may.1.1.spelled spelled in
    (o, subst (λ (c : Content). IsFirst l t o i p c) same (record { bytes = b; timeout = Some w; stands = e }))
first-by l i t p b w (Copies j) m e spelled may = absurd (none-some w (sym may.1.1))
first-by l i t p b w Confirms m e spelled may = absurd (none-some w (sym may.1.0))
first-by l i t p b w Plain m e spelled may = absurd may.1
first-by l i t p b w (Begins q) m e spelled may = absurd may.1
first-by l i t p b w (Renews q kept) m e spelled may = absurd may.1
first-by l i t p b w (Joins q) m e spelled may = absurd may.1
first-by l i t p b w (Serves js) m e spelled may = absurd may.1
first-by l i t p b w (Says k to notice) m e spelled may = absurd may.1
first-by l i t p b w (Repeats k j) m e spelled may = absurd may.1
first-by l i t p b w Garbled m e spelled may = absurd may.1
first-by l i t p b w (Bygone k) m e spelled may = absurd may.1
first-by l i t p b w (Recalls k answer) m e spelled may = absurd may.1

-- an entry with its note
pub record IsNoted (l : List Noted) (n t : ℕ) (d : Deed) : Type 0 where
  pub note : Note
  pub stands : at l n ≡ Some (noted t d note)

pub noted-at : (l : List Noted) (h : List Written) (n t : ℕ) (d : Deed) → entries l ≡ h → IsEntry h n t d → IsNoted l n t d
noted-at l h n t d e stands =
    let it = entries-at l n _ (subst (λ (h : List Written). IsEntry h n t d) (sym e) stands) in
    record { note = it.0; stands = it.1 }

pub first-sent : (l : List Noted) (h : List Written) (i t : ℕ) (p : Peer) (m : Content) → Legal l → entries l ≡ h → IsFirstSending h i t p m
    → (o : ℕ) × IsFirst l t o i p m
first-sent l h i t p m legal e f =
    let it = noted-at l h i t _ e f.stands in
    first-by l i t p f.bytes f.timeout it.note m it.stands f.spelled (follows-at l i _ legal it.stands)

-- ---- the replies to a request but a GET

not-get : (k : ℕ) → (k ≡ 1 → ⊥) → eqb k 1 ≡ false
not-get k differs = elim (eqb_tells k 1) [ inl w ↦ absurd (differs w.1) | inr w ↦ w.0 ]

whole-write : (q : CoapRequest) (ms : List Content) (w : Response) → (q.method ≡ 1 → ⊥) → whole_of q ms ≡ Some w
    → whole_given (begun (length q.body) 6) ms ≡ Some w
whole-write q [] w changes e = absurd (none-some w e)
whole-write q (m ∷ ms) w changes e = let other = not-get q.method changes in rw other at e

heard-write : (h : List Written) (k : ℕ) (q : CoapRequest) (js : List ℕ) (ms : List Content) → (q.method ≡ 1 → ⊥)
    → AreHeardFor h k q (first_point q) js ms → AreHeardFor h k q (Given (begun (length q.body) 6)) js ms
heard-write h k q js ms changes a =
    let other = not-get q.method changes in
    subst (λ (b : Bool). AreHeardFor h k q (cond b (Fetched no_pieces) (Given (begun (length q.body) 6))) js ms) other a

-- What rests on a notification is for a GET,
on-get : (h : List Written) (o : ℕ) (q : CoapRequest) (js : List ℕ) (ms : List Content) → AreHeardOn h o q js ms → q.method ≡ 1
on-get h o q [] ms a = absurd a
on-get h o q (j ∷ js) [] a = absurd a
on-get h o q (j ∷ js) (m ∷ ms) a = a.0.1.0

-- and any other request joins nothing that one began.
entry-own : (h : List Written) (c k n o since : ℕ) (q : CoapRequest) → IsShared h c k q n o since → (q.method ≡ 1 → ⊥) → n ≡ o
entry-own h c k n o since q s changes = elim s.shares [
  | inl own ↦ own.0 ∙ sym own.1
  | inr other ↦ elim other [
    | inl joined ↦ joined.0
    | inr fetched ↦ absurd (changes fetched.alike.0)
  ]
]

pub heard-own : (h : List Written) (n c k : ℕ) (js : List ℕ) (r : RestsOn h n c k js) → (r.request.method ≡ 1 → ⊥)
    → AreHeardFor h r.opening r.request (first_point r.request) js r.messages
heard-own h n c k js r changes = elim r.heard [
  | inl a ↦ subst (λ (e : ℕ). AreHeardFor h e r.request (first_point r.request) js r.messages)
      (entry-own h c k r.entry r.opening r.since r.request r.shared changes) a
  | inr a ↦ absurd (changes (on-get h r.opening r.request js r.messages a.1))
]

pub code-of : (f : Manner) (q : CoapRequest) (b : Option Block) (mid : ℕ) (token : List ℕ) → (asking f q b mid token).code ≡ q.method
code-of Plainly q None mid token = refl
code-of Observing q None mid token = refl
code-of (Validating tag) q None mid token = refl
code-of f q (Some b) mid token = refl

-- ---- a write that was answered by success

module _ (R : Relation) (h : List Written) (device proxy : Peer) (block : ℕ) (resources : List Held) (cs : List Call)
    (n c k : ℕ) (js : List ℕ) (s : Stands h)
    (net : Networks R s.reading device proxy (fresh block resources) cs)
    (r : RestsOn h n c k js)
    (changes : r.request.method ≡ 1 → ⊥) (to : r.request.peer ≡ device) (class : r.response.code / 32 ≡ 2) where
  abbrev q : CoapRequest
  q = r.request

  -- the last of its replies, and its entry
  pub last : IsLastReply h r.opening r.request js r.response
  last = last-reply h r.opening q (begun (length q.body) 6) js r.messages r.response
      (heard-write h r.opening q js r.messages changes (heard-own h n c k js r changes)) (whole-write q r.messages r.response changes r.whole)

  pub entry : IsNoted s.reading last.number last.heard.response.moment (Hears device last.heard.response.heard.bytes)
  entry =
      let heard = last.heard.response.heard in
      noted-at s.reading h last.number last.heard.response.moment _ s.entries_are
      (subst (λ (p : Peer). IsEntry h last.number last.heard.response.moment (Hears p heard.bytes)) to heard.stands)

  -- it was given out by some of the first calls, and one of these executed the message
  pub executed : (g : IsGiven (fresh block resources) cs proxy last.heard.response.heard.bytes) → IsAnsweredBy proxy last.heard.sent cs g.count
  executed g =
      let for_it = last.heard.sent_for in
      let sent = last.heard.sent in
      let first = first-sent s.reading h last.heard.sending for_it.moment q.peer sent s.legal s.entries_are for_it.first in
      answered-executed R s.reading device proxy block resources cs for_it.moment first.0 last.heard.sending q.peer sent last.message
      last.heard.response.heard.bytes net g first.1
      (λ get. changes (sym (ap (λ (m : Content). m.code) for_it.asks.1 ∙ code-of for_it.asks.0 q last.block sent.mid sent.token) ∙ get))
      last.heard.response.heard.spelled last.heard.response.token (subst (λ (c : ℕ). c / 32 ≡ 2) last.is class) last.ends

  pub done-by : (count : ℕ) → IsAnsweredBy proxy last.heard.sent cs count
      → (d : IsDoneOnce h r.opening r.request js proxy cs) × (d.place < count)
  done-by count done =
      let for_it = last.heard.sent_for in
      let sent = last.heard.sent in
      let first = first-sent s.reading h last.heard.sending for_it.moment q.peer sent s.legal s.entries_are for_it.first in (
        record {
          since = last.since;
          not_before = last.not_before;
          block = last.block;
          earlier = last.earlier;
          last = last.number;
          are = last.are;
          message = last.message;
          reply = last.heard;
          place = done.place;
          call = done.call;
          stands = done.stands;
          executes = done.executes;
          once = λ b y e x. messages-once R s.reading device proxy q.peer (fresh block resources) cs for_it.moment first.0 last.heard.sending b done.place sent y done.call
              net first.1 e done.stands x done.executes;
        },
        done.early,
      )

two-not-one : (k : ℕ) → k ≡ 2 → k ≡ 1 → ⊥
two-not-one k e f = omega (arith, e, f)

pub posts-once : (R : Relation) (h : List Written) (device proxy : Peer) (block : ℕ) (resources : List Held) (cs : List Call)
    (n t c k : ℕ) (js : List ℕ) (s : Stands h)
    → Networks R s.reading device proxy (fresh block resources) cs
    → AreGiven s.reading device proxy (fresh block resources) cs
    → IsEntry h n t (Answers c k (Live js)) → (r : RestsOn h n c k js)
    → r.request.method ≡ 2 → r.request.peer ≡ device → r.response.code / 32 ≡ 2
    → IsDoneOnce h r.opening r.request js proxy cs
posts-once R h device proxy block resources cs n t c k js s net given answered r post to class =
    let changes = two-not-one r.request.method post in
    let its = last R h device proxy block resources cs n c k js s net r changes to class in
    let noted = entry R h device proxy block resources cs n c k js s net r changes to class in
    let g = given its.number its.heard.response.moment its.heard.response.heard.bytes noted.note noted.stands in
    (done-by R h device proxy block resources cs n c k js s net r changes to class g.count
    (executed R h device proxy block resources cs n c k js s net r changes to class g)).0
