-- What a first sending asks, and of whom; after the same replies an exchange has one.
use Rattle.std.proofs.Common.{◌≡◌, ℕ, ◌<◌, ◌≤◌, ◌⊎◌, Bool, true, false, ◌&&◌, eqb, inl, inr, List, [], ◌∷◌, length, Option, Some, None, is_some, refl, sym, ap, subst, ◌∙◌, arith, length-append}
use Rattle.std.specs.Prelude.{is_none}
use Rattle.std.proofs.lemmas.Bool.Decides.{eqb_tells}
use Rattle.std.proofs.lemmas.Bool.{false≢true, and_parts}
use Rattle.coap_codec.specs.Spelling.{Content, Spells}
use Rattle.uri_map.specs.declared.peer.Peer.{Peer}
use Rattle.coap_codec.specs.declared.block.Block.{Block}
use Rattle.blockwise.specs.Uploads.{next_block}
use Rattle.ask_model.specs.Requests.{CoapRequest, Sense, Requests, Refuses, Manner, Plainly, asking, block_message}
use Rattle.ask_model.specs.Views.{Ask}
use Rattle.journal_book.specs.Entries.{Deed, Opens, Asks, Sends, Hears, Passes, Answers, Shuts, Seals, Mark, Carries}
use Rattle.journal_book.specs.Entries as D
use Rattle.history_laws.specs.Readings.{Noted, Note, Begins, Renews, First, Says, Notice, Observation, Unobserved, Starts, at, before, noted}
use Rattle.history_laws.specs.Progress.{Reply, Progress, Fetches, Gives, Ends, Ending, Reset, TimedOut, progress, block_after, next_message}
use Rattle.history_laws.specs.Exchanges.{Begun, started_by, opens_by, begun_by, begun, Turn, Nothing, Sent, Replied, Rejected, Expired, turn, waits_by, waits_for, replies_by, replies, heard_for, End, kept, end_here, end_by, end_of, goes_to}
use Rattle.resp_cache.specs.Stored.{Stored}
use Rattle.history_laws.specs.Observing.{manner}
use Rattle.history_laws.specs.Joining.{joins}
use Rattle.history_laws.specs.Hearing.{answers, notice_of, observation_of, has_room}
use Rattle.history_laws.specs.Justified.{AskNote, MayBeFirst, MaySay, SentNote, HeardNote, IsPlain, Follows, Legal, CopiedNote}
use Rattle.history_laws.specs.Laws.{IsFirst}
use Rattle.history_laws.proofs.Resting.{some-is}
use Rattle.history_laws.proofs.Places.{at-cases, at-new, at-below, at-keeps, before-keeps, before-new}
use Rattle.history_laws.proofs.Facts.{IsFirst-below, follows-at, at-before, length-before, eqb-same, eqb-itself}
use Rattle.history_laws.proofs.Sendings.{IsFirst-old, may-be}
use Rattle.history_laws.proofs.Members.{first-waits}

-- the entry that opened an exchange
abbrev pub Opening : List Noted → ℕ → Begun → Type 0
Opening l o b = (d : Deed) × (note : Note) × (at l o ≡ Some (noted b.since d note)) × (opens_by note ≡ Some b.request)

Opening-keeps : (x : Noted) (l : List Noted) (o : ℕ) (b : Begun) → Opening l o b → Opening (x ∷ l) o b
Opening-keeps x l o b h = (h.0, h.1, at-keeps x l o _ h.2, h.3)

opening-step : (l : List Noted) (o t : ℕ) (d : Deed) (note : Note) (b : Begun) → (begun l o ≡ Some b → Opening l o b)
    → (asked : Option CoapRequest) → opens_by note ≡ asked → (here : Bool) → eqb (length l) o ≡ here
    → begun_by asked here t (begun l o) ≡ Some b → Opening (noted t d note ∷ l) o b
opening-step l o t d note b ih (Some q) is true same e =
    let made : record { since = t; request = q } ≡ b = some-is _ _ e in
    let stands : at (noted t d note ∷ l) o ≡ Some (noted t d note) =
    subst (λ (o : ℕ). at (noted t d note ∷ l) o ≡ Some (noted t d note)) (eqb-same (length l) o same)
    (at-new (noted t d note) l) in
    subst (Opening (noted t d note ∷ l) o) made (d, note, stands, is)
opening-step l o t d note b ih (Some q) is false same e = Opening-keeps (noted t d note) l o b (ih e)
opening-step l o t d note b ih None is true same e = Opening-keeps (noted t d note) l o b (ih e)
opening-step l o t d note b ih None is false same e = Opening-keeps (noted t d note) l o b (ih e)

pub begun-opening : (l : List Noted) (o : ℕ) (b : Begun) → begun l o ≡ Some b → Opening l o b
begun-opening [] o b e = cc
begun-opening (x ∷ older) o b e =
    opening-step older o x.written.moment x.written.deed x.note b (begun-opening older o b)
    (opens_by x.note) refl (eqb (length older) o) refl e

pub begun-below : (l : List Noted) (o : ℕ) (b : Begun) → begun l o ≡ Some b → o < length l
begun-below l o b e = let h = begun-opening l o b e in at-below l o _ h.2

not-here : (asked : Option CoapRequest) (t : ℕ) (old : Option Begun) → begun_by asked false t old ≡ old
not-here None t old = refl
not-here (Some q) t old = refl

pub begun-keeps : (x : Noted) (l : List Noted) (o : ℕ) (b : Begun) → begun l o ≡ Some b → begun (x ∷ l) o ≡ Some b
begun-keeps x l o b e =
    let below = begun-below l o b e in
    elim (eqb_tells (length l) o) [ inl w ↦ let a = w.1 in absurd (omega (arith, a, below)) | inr w ↦ rw (w.0) (not-here (opens_by x.note) x.written.moment (begun l o) ∙ e) ]

pub opens-begun : (l : List Noted) (o t : ℕ) (d : Deed) (note : Note) (q : CoapRequest) → opens_by note ≡ Some q → at l o ≡ Some (noted t d note)
    → begun l o ≡ Some (record { since = t; request = q })
opens-begun [] o t d note q opens e = cc
opens-begun (x ∷ older) o t d note q opens e =
    elim (at-cases x older o) [
      | inl w ↦
          let is : x ≡ noted t d note = some-is _ _ (sym w.1 ∙ e) in
          let made : begun (noted t d note ∷ older) (length older) ≡ Some (record { since = t; request = q }) =
          rw (eqb-itself (length older), opens) refl in
          subst (λ (x : Noted). begun (x ∷ older) o ≡ Some (record { since = t; request = q })) (sym is)
          (subst (λ (o : ℕ). begun (noted t d note ∷ older) o ≡ Some (record { since = t; request = q })) (sym w.0) made)
      | inr w ↦ begun-keeps x older o _ (opens-begun older o t d note q opens (sym w.1 ∙ e))
    ]

pub opening-begun : (l : List Noted) (o t : ℕ) (d : Deed) (q : CoapRequest) → at l o ≡ Some (noted t d (Begins q))
    → begun l o ≡ Some (record { since = t; request = q })
opening-begun l o t d q e = opens-begun l o t d (Begins q) q refl e

pub begun-before : (l : List Noted) (n o : ℕ) (b : Begun) → begun (before l n) o ≡ Some b → begun l o ≡ Some b
begun-before l n o b e =
    let h = begun-opening (before l n) o b e in
    opens-begun l o b.since h.0 h.1 b.request h.3 (at-before l n o _ h.2)

-- What a note that opens an exchange says of an ask: there was none to join, and there was room.
pub record OpensSo (l : List Noted) (t : ℕ) (s : Sense) (q : CoapRequest) : Type 0 where
  pub sense : s ≡ Requests q
  pub alone : joins l q ≡ None
  pub room : has_room l t q ≡ true

pub opens-so : (l : List Noted) (t : ℕ) (s : Sense) (note : Note) (q : CoapRequest) → opens_by note ≡ Some q → AskNote l t s note → OpensSo l t s q
opens-so l t (Requests r) (Begins u) q e h = subst (OpensSo l t (Requests r)) (sym h.0 ∙ some-is u q e) (record { sense = refl; alone = h.1; room = h.2 })
opens-so l t (Requests r) (Renews u s) q e h = subst (OpensSo l t (Requests r)) (sym h.0 ∙ some-is u q e) (record { sense = refl; alone = h.1; room = h.2 })
opens-so l t (Refuses cause status) (Begins u) q e h = absurd h
opens-so l t (Refuses cause status) (Renews u s) q e h = absurd h
opens-so l t (Requests r) (Says m to notice) q e h = absurd h
opens-so l t (Refuses cause status) (Says m to notice) q e h = absurd h
opens-so l t s note q e h = cc

plain-opens : (note : Note) (q : CoapRequest) → opens_by note ≡ Some q → IsPlain note → ⊥
plain-opens (Begins r) q e h = h
plain-opens (Renews r s) q e h = h
plain-opens (Says m to notice) q e h = h
plain-opens note q e h = cc

-- a notification that opens one: which first sending it answers, and what it is
pub record Starting (l : List Noted) (t : ℕ) (d : Deed) (note : Note) (q : CoapRequest) : Type 0 where
  pub peer : Peer
  pub bytes : List ℕ
  pub message : Content
  pub sending : ℕ
  pub notice : Notice
  pub ask : ℕ
  pub deed : d ≡ Hears peer bytes
  pub is : note ≡ Says message (Some sending) notice
  pub starts : notice.observation ≡ Starts ask q
  pub said : observation_of l t message (Some sending) ≡ Starts ask q

started-is : (o : Observation) (q : CoapRequest) → started_by o ≡ Some q → (k : ℕ) × (o ≡ Starts k q)
started-is (Starts k r) q e = (k, ap (Starts k) (some-is r q e))
started-is o q e = cc

says-alike : (m n : Content) (i j : Option ℕ) (u v : Notice) → Says m i u ≡ Says n j v → (i ≡ j) × (u ≡ v)
says-alike m n i j u v e = (cc, cc)

un-starts : (k : ℕ) (q : CoapRequest) → Unobserved ≡ Starts k q → ⊥
un-starts k q e = cc

starting : (l : List Noted) (t : ℕ) (p : Peer) (b : List ℕ) (m : Content) (to : Option ℕ) (notice : Notice) (q : CoapRequest)
    → started_by notice.observation ≡ Some q → MaySay l t p b (Says m to notice) m → Starting l t (Hears p b) (Says m to notice) q
starting l t p b m to notice q e may = by to refl
  where
    kind : (k : ℕ) × (notice.observation ≡ Starts k q)
    kind = started-is notice.observation q e

    same : (to ≡ answers l p m) × (notice ≡ notice_of l t p m (answers l p m))
    same = says-alike m m to (answers l p m) notice (notice_of l t p m (answers l p m)) may.says

    here : observation_of l t m to ≡ Starts kind.0 q
    here = ap (observation_of l t m) same.0 ∙ (sym (ap (λ (n : Notice). n.observation) same.1) ∙ kind.1)

    by : (v : Option ℕ) → to ≡ v → Starting l t (Hears p b) (Says m to notice) q
    by None is = absurd (un-starts kind.0 q (sym (ap (observation_of l t m) is) ∙ here))
    by (Some i) is = record {
      peer = p;
      bytes = b;
      message = m;
      sending = i;
      notice = notice;
      ask = kind.0;
      deed = refl;
      is = ap (λ (v : Option ℕ). Says m v notice) is;
      starts = kind.1;
      said = ap (observation_of l t m) (sym is) ∙ here;
    }

-- what opens an exchange is an ask for it, or such a notification
pub begins-ask : (l : List Noted) (t : ℕ) (d : Deed) (note : Note) (q : CoapRequest) → opens_by note ≡ Some q → Follows l t d note
    → ((c : ℕ) × (a : Ask) × (d ≡ Asks c a) × (a.sense ≡ Requests q)) ⊎ Starting l t d note q
begins-ask l t (Asks c a) note q e f = inl (c, a, refl, (opens-so l t a.sense note q e f.3).sense)
begins-ask l t (Opens c) note q e f = absurd (plain-opens note q e f.2)
begins-ask l t (Sends p b w) note q e f = absurd (never note e f.1)
  where
    never : (note : Note) → opens_by note ≡ Some q → SentNote l t p b w note → ⊥
    never (Begins r) e h = h
    never (Renews r s) e h = h
    never (Says m to notice) e h = h
    never note e h = cc
begins-ask l t (Hears p b) note q e f = inr (told note e f.3)
  where
    told : (note : Note) → opens_by note ≡ Some q → HeardNote l t p b note → Starting l t (Hears p b) note q
    told (Says m to notice) e h = starting l t p b m to notice q e h
    told (Begins r) e h = absurd h
    told (Renews r s) e h = absurd h
    told note e h = cc
begins-ask l t Passes note q e f = absurd (plain-opens note q e f.1)
begins-ask l t (Answers c k g) note q e f = absurd (plain-opens note q e f.4)
begins-ask l t (Shuts c) note q e f = absurd (plain-opens note q e f.2)
begins-ask l t Seals note q e f = absurd (plain-opens note q e f.2)
begins-ask l t (Carries k mark done) note q e f = absurd (never mark done note e f.2)
  where
    begins : (mark : Mark) (done : D.Done) (q : CoapRequest) → CopiedNote l t mark done (Begins q) → ⊥
    begins D.Past (D.Sent p b w) q h = h
    begins D.Past (D.Heard p b) q h = h
    begins D.Ground (D.Asked c a) q h = h
    begins D.Ground (D.Sent p b w) q h = h
    begins D.Ground (D.Heard p b) q h = h
    begins mark done q h = h

    renews : (mark : Mark) (done : D.Done) (q : CoapRequest) (s : Stored) → CopiedNote l t mark done (Renews q s) → ⊥
    renews D.Past (D.Sent p b w) q s h = h
    renews D.Past (D.Heard p b) q s h = h
    renews D.Ground (D.Asked c a) q s h = h
    renews D.Ground (D.Sent p b w) q s h = h
    renews D.Ground (D.Heard p b) q s h = h
    renews mark done q s h = h

    says : (mark : Mark) (done : D.Done) (m : Content) (to : Option ℕ) (notice : Notice) → CopiedNote l t mark done (Says m to notice) → ⊥
    says D.Past (D.Sent p b w) m to notice h = h
    says D.Past (D.Heard p b) m to notice h = h
    says D.Ground (D.Asked c a) m to notice h = h
    says D.Ground (D.Sent p b w) m to notice h = h
    says D.Ground (D.Heard p b) m to notice h = h
    says mark done m to notice h = h

    never : (mark : Mark) (done : D.Done) (note : Note) → opens_by note ≡ Some q → CopiedNote l t mark done note → ⊥
    never mark done (Begins r) e h = begins mark done r h
    never mark done (Renews r s) e h = renews mark done r s h
    never mark done (Says m to notice) e h = says mark done m to notice h
    never mark done note e h = cc

pub record AskedFor (l : List Noted) (o : ℕ) (b : Begun) : Type 0 where
  pub conn : ℕ
  pub ask : Ask
  pub note : Note
  pub stands : at l o ≡ Some (noted b.since (Asks conn ask) note)
  pub opens : opens_by note ≡ Some b.request
  pub sense : ask.sense ≡ Requests b.request

-- or the notification did
pub record StartedFor (l : List Noted) (o : ℕ) (b : Begun) : Type 0 where
  pub peer : Peer
  pub bytes : List ℕ
  pub message : Content
  pub sending : ℕ
  pub notice : Notice
  pub ask : ℕ
  pub stands : at l o ≡ Some (noted b.since (Hears peer bytes) (Says message (Some sending) notice))
  pub starts : notice.observation ≡ Starts ask b.request
  pub said : observation_of (before l o) b.since message (Some sending) ≡ Starts ask b.request

pub opened-for : (l : List Noted) (o : ℕ) (b : Begun) → Legal l → begun l o ≡ Some b → AskedFor l o b ⊎ StartedFor l o b
opened-for l o b legal e = by h.0 h.1 h.2 h.3 (begins-ask (before l o) b.since h.0 h.1 b.request h.3 (follows-at l o _ legal h.2))
  where
    h : Opening l o b
    h = begun-opening l o b e

    by : (d : Deed) (note : Note) → at l o ≡ Some (noted b.since d note) → opens_by note ≡ Some b.request
        → ((c : ℕ) × (a : Ask) × (d ≡ Asks c a) × (a.sense ≡ Requests b.request)) ⊎ Starting (before l o) b.since d note b.request
        → AskedFor l o b ⊎ StartedFor l o b
    by d note is opens (inl it) = inl (record {
      conn = it.0;
      ask = it.1;
      note = note;
      stands = subst (λ (d : Deed). at l o ≡ Some (noted b.since d note)) it.2 is;
      opens = opens;
      sense = it.3;
    })
    by d note is opens (inr it) = inr (record {
      peer = it.peer;
      bytes = it.bytes;
      message = it.message;
      sending = it.sending;
      notice = it.notice;
      ask = it.ask;
      stands =
          subst (λ (d : Deed). at l o ≡ Some (noted b.since d (Says it.message (Some it.sending) it.notice))) it.deed
          (subst (λ (n : Note). at l o ≡ Some (noted b.since d n)) it.is is);
      starts = it.starts;
      said = it.said;
    })

-- An ask that opens an exchange asks for what that is for.
pub asked-by : (l : List Noted) (o c : ℕ) (a : Ask) (note : Note) (b : Begun) → Legal l → at l o ≡ Some (noted b.since (Asks c a) note)
    → opens_by note ≡ Some b.request → AskedFor l o b
asked-by l o c a note b legal is opens = record {
  conn = c;
  ask = a;
  note = note;
  stands = is;
  opens = opens;
  sense = (opens-so (before l o) b.since a.sense note b.request opens (follows-at l o _ legal is).3).sense;
}

-- a first sending asks what its exchange was opened for, of the peer that it is for: it is the next message after
-- the replies before it
pub record SentFor (l : List Noted) (o i : ℕ) (p : Peer) (m : Content) (bytes : List ℕ) : Type 0 where
  pub exchange : Begun
  pub opened : begun l o ≡ Some exchange
  pub after : o < i
  pub peer : p ≡ exchange.request.peer
  pub next : next_message (manner (before l i) o) exchange.request (progress exchange.request (heard_for (before l i) o)) m.mid m.token ≡ Some m
  pub spelled : Spells m bytes

pub sent-for : (l : List Noted) (t o i : ℕ) (p : Peer) (m : Content) → Legal l → (f : IsFirst l t o i p m) → SentFor l o i p m f.bytes
sent-for l t o i p m legal f =
    let may : MayBeFirst (before l i) t o p f.bytes m f.timeout = (follows-at l i _ legal f.stands).1.1 in
    let below = begun-below (before l i) o _ may.opening in
    record {
      exchange = record { since = may.since; request = may.request };
      opened = begun-before l i o _ may.opening;
      after = subst (λ (n : ℕ). o < n) (length-before l i _ f.stands) below;
      peer = may.peer;
      next = may.message;
      spelled = may.spelled;
    }

-- It is for a block of what that asks for, or of its body, or for all.
pub asking-plain : (q : CoapRequest) (block : Option Block) (mid : ℕ) (token : List ℕ) → asking Plainly q block mid token ≡ block_message q block mid token
asking-plain q None mid token = refl
asking-plain q (Some b) mid token = refl

pub next-is : (f : Manner) (q : CoapRequest) (w : Progress) (mid : ℕ) (token : List ℕ) (m : Content) → next_message f q w mid token ≡ Some m
    → (block : Option Block) × (manner : Manner) × (m ≡ asking manner q block mid token)
next-is f q (Fetches restarts pieces got) mid token m e = (block_after pieces, f, sym (some-is _ _ e))
next-is f q (Gives upload got) mid token m e =
    (next_block upload, Plainly, sym (some-is _ _ e) ∙ sym (asking-plain q (next_block upload) mid token))
next-is f q (Ends how) mid token m e = cc

-- After its first sending an exchange waits for the reply, or has ended, or has got a reply more.
abbrev pub Past : Option ℕ → Option End → ℕ → ℕ → Type 0
Past w e before now = (before ≤ now) × ((is_some w ≡ true) ⊎ ((is_none e ≡ false) ⊎ (before < now)))

ended : (how : Option Ending) (n : ℕ) (e : Option End) → is_some how ≡ true → is_none (end_by how n e) ≡ false
ended None n e h = absurd (false≢true h)
ended (Some how) n None h = refl
ended (Some how) n (Some f) h = refl

stays-ended : (how : Option Ending) (n : ℕ) (e : Option End) → is_none e ≡ false → is_none (end_by how n e) ≡ false
stays-ended how n None h = absurd (false≢true (sym h))
stays-ended None n (Some f) h = refl
stays-ended (Some how) n (Some f) h = refl

past-step : (b : Option Begun) (v : Option Stored) (u : Turn) (n k : ℕ) (hs rs : List Reply) (w : Option ℕ) (e : Option End) → Past w e k (length rs)
    → Past (waits_by u w) (end_by (end_here b v n hs u) n e) k (length (replies_by n u rs))
past-step b v Nothing n k hs rs w e h = h
past-step b v (Sent i) n k hs rs w e h = (h.0, inl refl)
past-step b v (Replied i m place) n k hs rs w e h =
    let r : Reply = record { number = n; sending = i; message = m } in
    let more = length-append rs (r ∷ []) in
    let le = h.0 in
    (omega (arith, more, le), inr (inr (omega (arith, more, le))))
past-step b v Rejected n k hs rs w e h = (h.0, inr (inl (ended (Some Reset) n e refl)))
past-step b v Expired n k hs rs w e h = (h.0, inr (inl (ended (Some TimedOut) n e refl)))

past-new : (l : List Noted) (t o : ℕ) (p : Peer) (b : List ℕ) (w : Option ℕ) (m : Content)
    → Past (waits_for (noted t (Sends p b w) (First o m) ∷ l) o) (end_of (noted t (Sends p b w) (First o m) ∷ l) o)
    (length (replies l o)) (length (replies (noted t (Sends p b w) (First o m) ∷ l) o))
past-new l t o p b w m = rw (eqb-itself o) (omega arith, inl refl)

pub past : (l : List Noted) (t o i : ℕ) (p : Peer) (m : Content) → IsFirst l t o i p m
    → Past (waits_for l o) (end_of l o) (length (replies (before l i) o)) (length (replies l o))
past [] t o i p m f = cc (f.stands)
past (x ∷ older) t o i p m f =
    elim (IsFirst-old x older t o i p m f) [
      | inl u ↦
          let mine : before (x ∷ older) i ≡ older = ap (before (x ∷ older)) u.0 ∙ before-new x older in
          subst (λ (k : List Noted). Past (waits_for (x ∷ older) o) (end_of (x ∷ older) o) (length (replies k o)) (length (replies (x ∷ older) o))) (sym mine)
          (subst (λ (v : Noted). Past (waits_for (v ∷ older) o) (end_of (v ∷ older) o) (length (replies older o)) (length (replies (v ∷ older) o))) (sym u.1.2)
          (past-new older t o p u.1.0 u.1.1 m))
      | inr u ↦
          subst (λ (k : List Noted). Past (waits_for (x ∷ older) o) (end_of (x ∷ older) o) (length (replies k o)) (length (replies (x ∷ older) o)))
          (sym (before-keeps x older i (IsFirst-below older t o i p m u)))
          (past-step (begun older o) (kept older o) (turn older o x) (length older) (length (replies (before older i) o)) (heard_for older o) (replies older o) (waits_for older o) (end_of older o)
          (past older t o i p m u))
    ]

not-past : (w : Option ℕ) (e : Option End) (k n : ℕ) → Past w e k n → (is_none e && is_none w) ≡ true → k < n
not-past w e k n (le, inr (inr lt)) g = lt
not-past None e k n (le, inl h) g = absurd (false≢true h)
not-past (Some i) None k n (le, inl h) g = absurd (false≢true g)
not-past (Some i) (Some f) k n (le, inl h) g = absurd (false≢true g)
not-past w None k n (le, inr (inl h)) g = absurd (false≢true (sym h))
not-past w (Some f) k n (le, inr (inl h)) g = absurd (false≢true g)

-- The next one goes out after one reply more.
pub first-more : (l : List Noted) (s t o i : ℕ) (p r : Peer) (b : List ℕ) (w : Option ℕ) (m n : Content) → IsFirst l s o i p m
    → MayBeFirst l t o r b n w → length (replies (before l i) o) < length (replies l o)
first-more l s t o i p r b w m n f may =
    not-past (waits_for l o) (end_of l o) _ _ (past l s o i p m f)
    (and_parts (goes_to r (begun l o)) (is_none (end_of l o) && is_none (waits_for l o)) (first-waits l t o r b n w may)).1

pub sent-once : (l : List Noted) (s t o i j : ℕ) (p r : Peer) (m n : Content) → Legal l
    → IsFirst l s o i p m → IsFirst l t o j r n → length (replies (before l i) o) ≡ length (replies (before l j) o) → i ≡ j
sent-once [] s t o i j p r m n legal f g same = cc (f.stands)
sent-once (x ∷ older) s t o i j p r m n legal f g same =
    elim (IsFirst-old x older s o i p m f) [
      | inl u ↦ elim (IsFirst-old x older t o j r n g) [
        | inl v ↦ u.0 ∙ sym v.0
        | inr v ↦
            let more = first-more older t s o j r p _ _ n m v (may-be x older s o p u.1.0 u.1.1 m legal.2 u.1.2) in
            let here = at-here u.0 in
            let there = at-old t j r n v in
            absurd (omega (arith, more, here, there, same))
      ]
      | inr u ↦ elim (IsFirst-old x older t o j r n g) [
        | inl v ↦
            let more = first-more older s t o i p r _ _ m n u (may-be x older t o r v.1.0 v.1.1 n legal.2 v.1.2) in
            let here = at-here v.0 in
            let there = at-old s i p m u in
            absurd (omega (arith, more, here, there, same))
        | inr v ↦ sent-once older s t o i j p r m n legal.0 u v (sym (at-old s i p m u) ∙ (same ∙ at-old t j r n v))
      ]
    ]
  where
    at-here : {k : ℕ} → k ≡ length older → length (replies (before (x ∷ older) k) o) ≡ length (replies older o)
    at-here {k} e = ap (λ (v : List Noted). length (replies v o)) (ap (before (x ∷ older)) e ∙ before-new x older)

    at-old : (u k : ℕ) (q : Peer) (c : Content) → IsFirst older u o k q c → length (replies (before (x ∷ older) k) o) ≡ length (replies (before older k) o)
    at-old u k q c f = ap (λ (v : List Noted). length (replies v o)) (before-keeps x older k (IsFirst-below older u o k q c f))
