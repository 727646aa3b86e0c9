-- How exchanges end: by which entry, and what that entry is.
use Rattle.std.proofs.Common.{◌≡◌, ◌⊎◌, ℕ, ◌+◌, Bool, true, false, cond, eqb, leb, inl, inr, List, [], ◌∷◌, ◌++◌, length, Option, Some, None, Ok, Err, refl, sym, ap, subst, ◌∙◌, append_assoc, append-nil}
use Rattle.std.specs.Prelude.{fold, is_some, option_map, option_and_then, option_to_list}
use Rattle.std.specs.List.{Contains}
use Rattle.std.proofs.lemmas.Bool.Decides.{eqb_tells}
use Rattle.std.proofs.lemmas.Bool.{false≢true, and_parts}
use Rattle.coap_codec.specs.declared.message.MsgType.{MsgType}
use Rattle.coap_codec.specs.declared.message.MsgType.TheVariants.{Con, Non, Ack, Rst}
use Rattle.coap_codec.specs.Spelling.{Entry, Content, Spells}
use Rattle.uri_map.specs.declared.peer.Peer.{Peer}
use Rattle.uri_map.specs.Peers.{same_peer}
use Rattle.uri_map.proofs.CallerLemmas.{same_peer-same}
use Rattle.coap_codec.specs.Recognition.{is_forwardable}
use Rattle.blockwise.specs.Downloads.{PiecesValue, no_pieces, Judged, judged, with_piece}
use Rattle.blockwise.specs.Uploads.{UploadValue, begun as begun_as, answer_to}
use Rattle.blockwise.specs.declared.upload.Answered.{Answered}
use Rattle.blockwise.specs.declared.upload.Answered.TheVariants as A
use Rattle.blockwise.specs.declared.fault.BlockFault.TheVariants as F
use Rattle.blockwise.specs.declared.pieces.Step.TheVariants.{Next, Last}
use Rattle.ask_model.specs.Requests.{CoapRequest}
use Rattle.resp_cache.specs.Stored.{Stored}
use Rattle.journal_book.specs.Entries.{Deed, Sends, Hears, Passes}
use Rattle.history_laws.specs.Responses.{is_tellable}
use Rattle.history_laws.specs.Confirmations.{empty}
use Rattle.history_laws.specs.Readings.{Noted, Note, First, Says, Notice, at, before, noted}
use Rattle.history_laws.specs.Progress.{Reply, Ending, Whole, Renewed, NotUnderstood, Reset, TimedOut, Turned, Progress, Fetches, Gives, Ends, first_progress, answered_so, fetched_whole, fetched_by, step, progress, ended_by}
use Rattle.history_laws.specs.Transmissions.{FirstSending, first_at, last_sent, Transmission, transmission, if_outstanding}
use Rattle.history_laws.specs.Exchanges.{Turn, Nothing, Sent, Replied, Rejected, Expired, expires, answered_by, heard_turn, turn_by, turn, waits_for, replies_by, replies, end_here, Begun, replied_end, unless_renewed}
use Rattle.history_laws.specs.Hearing.{went_as, is_as, open_at, answers_by, answers}
use Rattle.history_laws.specs.Justified.{MaySay, Follows}
use Rattle.history_laws.specs.Laws.{IsFirst}
use Rattle.history_laws.proofs.CallerLemmas.{contains-none, eqb-same, find-some, first-is, first-or-later, none-some, some-is, unless-cases, waits-first}

-- an entry that rejects what an exchange waits for
pub record RejectedTurn (l : List Noted) (o : ℕ) (x : Noted) : Type 0 where
  pub peer : Peer
  pub bytes : List ℕ
  pub message : Content
  pub to : ℕ
  pub notice : Notice
  pub entry : x ≡ noted x.written.moment (Hears peer bytes) (Says message (Some to) notice)
  pub waited : waits_for l o ≡ Some to
  pub reset : message.kind ≡ Rst

not-rejected : (i : ℕ) (m : Content) (place b : Bool) → cond b (Replied i m place) Nothing ≡ Rejected → ⊥
not-rejected i m place true e = cc
not-rejected i m place false e = cc

answered-rejects : (i : ℕ) (m : Content) (place : Bool) (k : MsgType) → answered_by i m place k ≡ Rejected → k ≡ Rst
answered-rejects i m place Con e = absurd (not-rejected i m place (leb 32 m.code) e)
answered-rejects i m place Non e = absurd (not-rejected i m place (leb 32 m.code) e)
answered-rejects i m place Ack e = absurd (not-rejected i m place (leb 32 m.code) e)
answered-rejects i m place Rst e = refl

nothing-rejects : Nothing ≡ Rejected → ⊥
nothing-rejects e = cc

heard-rejects : (l : List Noted) (o t : ℕ) (p : Peer) (b : List ℕ) (j : ℕ) (m : Content) (notice : Notice) (waits : Option ℕ)
    → waits_for l o ≡ waits → heard_turn j m notice.place waits ≡ Rejected → RejectedTurn l o (noted t (Hears p b) (Says m (Some j) notice))
heard-rejects l o t p b j m notice None is e = absurd (nothing-rejects e)
heard-rejects l o t p b j m notice (Some w) is e =
    elim (eqb_tells w j) [
      | inl u ↦ record {
        peer = p;
        bytes = b;
        message = m;
        to = j;
        notice = notice;
        entry = refl;
        waited = is ∙ ap (λ (v : ℕ). Some v) u.1;
        reset = answered-rejects j m notice.place m.kind (rw (u.0) at e);
      }
      | inr u ↦ absurd (nothing-rejects (rw (u.0) at e))
    ]

sent-rejects : (n : ℕ) (b : Bool) → cond b (Sent n) Nothing ≡ Rejected → ⊥
sent-rejects n true e = cc
sent-rejects n false e = cc

expired-rejects : (b : Bool) → cond b Expired Nothing ≡ Rejected → ⊥
expired-rejects true e = cc
expired-rejects false e = cc

rejected-step : (l : List Noted) (o t : ℕ) (d : Deed) (note : Note) → turn_by l o t d note (waits_for l o) ≡ Rejected → RejectedTurn l o (noted t d note)
rejected-step l o t (Sends p b w) (First q m) e = absurd (sent-rejects (length l) (eqb q o) e)
rejected-step l o t (Hears p b) (Says m (Some j) notice) e = heard-rejects l o t p b j m notice (waits_for l o) refl e
rejected-step l o t Passes note e = absurd (expired-rejects (expires l o t (waits_for l o)) e)
rejected-step l o t d note e = absurd (nothing-rejects e)

pub turn-rejected : (l : List Noted) (o : ℕ) (x : Noted) → turn l o x ≡ Rejected → RejectedTurn l o x
turn-rejected l o x e = rejected-step l o x.written.moment x.written.deed x.note e

-- a tick at which an exchange expires
pub record ExpiredTurn (l : List Noted) (o : ℕ) (x : Noted) : Type 0 where
  pub entry : x ≡ noted x.written.moment Passes x.note
  pub over : expires l o x.written.moment (waits_for l o) ≡ true

nothing-expires : Nothing ≡ Expired → ⊥
nothing-expires e = cc

not-expired : (i : ℕ) (m : Content) (place b : Bool) → cond b (Replied i m place) Nothing ≡ Expired → ⊥
not-expired i m place true e = cc
not-expired i m place false e = cc

answered-expires : (i : ℕ) (m : Content) (place : Bool) (k : MsgType) → answered_by i m place k ≡ Expired → ⊥
answered-expires i m place Con e = not-expired i m place (leb 32 m.code) e
answered-expires i m place Non e = not-expired i m place (leb 32 m.code) e
answered-expires i m place Ack e = not-expired i m place (leb 32 m.code) e
answered-expires i m place Rst e = cc

heard-expires : (i : ℕ) (m : Content) (place : Bool) (waits : Option ℕ) → heard_turn i m place waits ≡ Expired → ⊥
heard-expires i m place None e = nothing-expires e
heard-expires i m place (Some w) e =
    elim (eqb_tells w i) [
      | inl u ↦ answered-expires i m place m.kind (rw (u.0) at e)
      | inr u ↦ nothing-expires (rw (u.0) at e)
    ]

sent-expires : (n : ℕ) (b : Bool) → cond b (Sent n) Nothing ≡ Expired → ⊥
sent-expires n true e = cc
sent-expires n false e = cc

expired-over : (b : Bool) → cond b Expired Nothing ≡ Expired → b ≡ true
expired-over true e = refl
expired-over false e = absurd (nothing-expires e)

expired-step : (l : List Noted) (o t : ℕ) (d : Deed) (note : Note) → turn_by l o t d note (waits_for l o) ≡ Expired → ExpiredTurn l o (noted t d note)
expired-step l o t (Sends p b w) (First q m) e = absurd (sent-expires (length l) (eqb q o) e)
expired-step l o t (Hears p b) (Says m (Some j) notice) e = absurd (heard-expires j m notice.place (waits_for l o) e)
expired-step l o t Passes note e = record { entry = refl; over = expired-over (expires l o t (waits_for l o)) e }
expired-step l o t d note e = absurd (nothing-expires e)

pub turn-expired : (l : List Noted) (o : ℕ) (x : Noted) → turn l o x ≡ Expired → ExpiredTurn l o x
turn-expired l o x e = expired-step l o x.written.moment x.written.deed x.note e

-- how an exchange ends by a reply
abbrev ByReply : Ending → Type 0
ByReply Reset = ⊥
ByReply TimedOut = ⊥
ByReply Turned = ⊥
ByReply how = Unit {0}

abbrev CameByReply : Progress → Type 0
CameByReply (Ends how) = ByReply how
CameByReply u = Unit {0}

by-answer : (b : Bool) (how : Answered) (u : UploadValue) (got : List Reply) (r : Reply) → CameByReply (cond b (answered_so how u got r) (Ends NotUnderstood))
by-answer true A.Next u got r = tt
by-answer true A.Last u got r = tt
by-answer true A.Wrong u got r = tt
by-answer false how u got r = tt

whole-so : (rs : List Reply) → ByReply (fetched_whole rs)
whole-so [] = tt
whole-so (r ∷ rs) = tt

anew-so : (b : Bool) (restarts : ℕ) → CameByReply (cond b (Ends NotUnderstood) (Fetches (restarts + 1) no_pieces []))
anew-so true restarts = tt
anew-so false restarts = tt

judged-so : (j : Judged) (restarts : ℕ) (pieces : PiecesValue) (got : List Reply) → CameByReply (fetched_by j restarts pieces got)
judged-so (Err F.Changed) restarts pieces got = anew-so (eqb restarts 3) restarts
judged-so (Err F.Size) restarts pieces got = tt
judged-so (Err F.Gap) restarts pieces got = tt
judged-so (Err F.TooLarge) restarts pieces got = tt
judged-so (Err F.Memory) restarts pieces got = tt
judged-so (Ok (Next next)) restarts pieces got = tt
judged-so (Ok Last) restarts pieces got = whole-so got

fetched-so : (b : Bool) (u : Progress) → CameByReply u → CameByReply (cond b u (Ends NotUnderstood))
fetched-so true u h = h
fetched-so false u h = tt

step-so : (u : Progress) (r : Reply) → CameByReply u → CameByReply (step u r)
step-so (Ends how) r h = h
step-so (Gives upload got) r h = by-answer (is_forwardable r.message.options) (answer_to upload r.message) upload got r
step-so (Fetches restarts pieces got) r h =
    fetched-so (is_tellable r.message) _ (judged-so (judged pieces r.message) restarts (with_piece pieces r.message) (got ++ r ∷ []))

all-so : (u : Progress) (rs : List Reply) → CameByReply u → CameByReply (fold step u rs)
all-so u [] h = h
all-so u (r ∷ rs) h = all-so (step u r) rs (step-so u r h)

progress-so : (q : CoapRequest) (rs : List Reply) → CameByReply (progress q rs)
progress-so q rs = all-so (first_progress q) rs (by (eqb q.method 1))
  where
    by : (b : Bool) → CameByReply (cond b (Fetches 0 no_pieces []) (Gives (begun_as (length q.body) 6) []))
    by true = tt
    by false = tt

-- Either the replies end it, or there is no place for what comes next.
replied-cases : (place : Bool) (u : Progress) (how : Ending) → CameByReply u → ended_by place u ≡ Some how
    → ((u ≡ Ends how) × ByReply how) ⊎ ((place ≡ false) × (ended_by true u ≡ None) × (Turned ≡ how))
replied-cases place (Ends k) how h e = let same = some-is k how e in inl (ap Ends same, subst ByReply same h)
replied-cases true (Gives upload got) how h e = absurd (none-some how e)
replied-cases true (Fetches k p got) how h e = absurd (none-some how e)
replied-cases false (Gives upload got) how h e = inr (refl, refl, some-is Turned how e)
replied-cases false (Fetches k p got) how h e = inr (refl, refl, some-is Turned how e)

abbrev IsReplying : Ending → Type 0
IsReplying Reset = ⊥
IsReplying TimedOut = ⊥
IsReplying how = Unit {0}

replying : (how : Ending) → ByReply how → IsReplying how
replying (Whole w rs) h = tt
replying (Renewed s r) h = tt
replying NotUnderstood h = tt
replying Reset h = absurd h
replying TimedOut h = absurd h
replying Turned h = tt

by-reply : (b : Option Begun) (place : Bool) (rs : List Reply) (how : Ending) → replied_end b place rs ≡ Some how → IsReplying how
by-reply None place rs how e = subst IsReplying (some-is NotUnderstood how e) tt
by-reply (Some b) place rs how e =
    elim (replied-cases place (progress b.request rs) how (progress-so b.request rs) e) [
      | inl w ↦ replying how w.1
      | inr w ↦ subst IsReplying w.2 tt
    ]

-- It ends otherwise than by what renews something.
unrenewed : (v : Option Stored) (rs : List Reply) (r : Reply) (other : Option Ending) (how : Ending) → ((s : Stored) (r : Reply) → how ≡ Renewed s r → ⊥)
    → unless_renewed v rs r other ≡ Some how → other ≡ Some how
unrenewed v rs r other how not e = elim (unless-cases v rs r other (Some how) e) [ inl w ↦ w | inr it ↦ absurd (not it.stored r (some-is _ _ it.is)) ]

reset-not : (s : Stored) (r : Reply) → Reset ≡ Renewed s r → ⊥
reset-not s r e = cc

timed-not : (s : Stored) (r : Reply) → TimedOut ≡ Renewed s r → ⊥
timed-not s r e = cc

failed-not : (s : Stored) (r : Reply) → NotUnderstood ≡ Renewed s r → ⊥
failed-not s r e = cc

cut-not : (s : Stored) (r : Reply) → Turned ≡ Renewed s r → ⊥
cut-not s r e = cc

pub reset-turn : (b : Option Begun) (v : Option Stored) (u : Turn) (n : ℕ) (rs : List Reply) → end_here b v n rs u ≡ Some Reset → u ≡ Rejected
reset-turn b v (Replied i m place) n rs e =
    absurd (by-reply b place (rs ++ record { number = n; sending = i; message = m } ∷ []) Reset (unrenewed v rs _ _ Reset (λ s r. reset-not s r) e))
reset-turn b v Rejected n rs e = refl
reset-turn b v Expired n rs e = absurd cc
reset-turn b v Nothing n rs e = absurd cc
reset-turn b v (Sent i) n rs e = absurd cc

pub expired-turn : (b : Option Begun) (v : Option Stored) (u : Turn) (n : ℕ) (rs : List Reply) → end_here b v n rs u ≡ Some TimedOut → u ≡ Expired
expired-turn b v (Replied i m place) n rs e =
    absurd (by-reply b place (rs ++ record { number = n; sending = i; message = m } ∷ []) TimedOut (unrenewed v rs _ _ TimedOut (λ s r. timed-not s r) e))
expired-turn b v Rejected n rs e = absurd cc
expired-turn b v Expired n rs e = refl
expired-turn b v Nothing n rs e = absurd cc
expired-turn b v (Sent i) n rs e = absurd cc

-- a reply that ends an exchange so, by how far that has come with it
pub record RepliedTurn (b : Option Begun) (n : ℕ) (u : Turn) (rs : List Reply) (place : Bool) (So : Progress → Type 0) : Type 0 where
  pub sending : ℕ
  pub message : Content
  pub is : u ≡ Replied sending message place
  pub so : (a : Begun) → b ≡ Some a → So (progress a.request (rs ++ record { number = n; sending = sending; message = message } ∷ []))

-- it isn't understood
turned-not : Turned ≡ NotUnderstood → ⊥
turned-not e = cc

pub failed-turn : (b : Option Begun) (v : Option Stored) (u : Turn) (n : ℕ) (rs : List Reply) → end_here b v n rs u ≡ Some NotUnderstood
    → (place : Bool) × RepliedTurn b n u rs place (λ (u : Progress). u ≡ Ends NotUnderstood)
failed-turn b v (Replied i m place) n rs e = (place, record { sending = i; message = m; is = refl; so = fails })
  where
    r : Reply
    r = record { number = n; sending = i; message = m }

    fails : (a : Begun) → b ≡ Some a → progress a.request (rs ++ record { number = n; sending = i; message = m } ∷ []) ≡ Ends NotUnderstood
    fails a is =
        let said : ended_by place (progress a.request (rs ++ record { number = n; sending = i; message = m } ∷ [])) ≡ Some NotUnderstood =
        subst (λ (b : Option Begun). replied_end b place (rs ++ record { number = n; sending = i; message = m } ∷ []) ≡ Some NotUnderstood) is
        (unrenewed v rs _ _ NotUnderstood (λ s r. failed-not s r) e) in
        elim (replied-cases place _ NotUnderstood (progress-so a.request (rs ++ record { number = n; sending = i; message = m } ∷ [])) said) [
          | inl w ↦ w.0
          | inr w ↦ absurd (turned-not w.2)
        ]
failed-turn b v Rejected n rs e = absurd cc
failed-turn b v Expired n rs e = absurd cc
failed-turn b v Nothing n rs e = absurd cc
failed-turn b v (Sent i) n rs e = absurd cc

-- there is no place for what comes next
pub cut-turn : (b : Option Begun) (v : Option Stored) (u : Turn) (n : ℕ) (rs : List Reply) → end_here b v n rs u ≡ Some Turned
    → RepliedTurn b n u rs false (λ (u : Progress). ended_by true u ≡ None)
cut-turn None v (Replied i m place) n rs e = absurd (turned-not (sym (some-is _ _ (unrenewed v rs _ _ Turned (λ s r. cut-not s r) e))))
cut-turn (Some b) v (Replied i m place) n rs e =
    elim (replied-cases place _ Turned (progress-so b.request (rs ++ record { number = n; sending = i; message = m } ∷ []))
    (unrenewed v rs _ _ Turned (λ s r. cut-not s r) e)) [
      | inl w ↦ absurd w.1
      | inr w ↦ record {
        sending = i;
        message = m;
        is = ap (Replied i m) w.0;
        so = λ a is.
            subst (λ (b : Begun). ended_by true (progress b.request (rs ++ record { number = n; sending = i; message = m } ∷ [])) ≡ None)
            (some-is b a is) w.1;
      }
    ]
cut-turn b v Rejected n rs e = absurd cc
cut-turn b v Expired n rs e = absurd cc
cut-turn b v Nothing n rs e = absurd cc
cut-turn b v (Sent i) n rs e = absurd cc

-- A reply stands among the replies from then on, after those before it.
replies-grow : (u : Turn) (n : ℕ) (rs : List Reply) → (h : List Reply) × (replies_by n u rs ≡ rs ++ h)
replies-grow (Replied i m place) n rs = (record { number = n; sending = i; message = m } ∷ [], refl)
replies-grow Rejected n rs = ([], sym (append-nil rs))
replies-grow Expired n rs = ([], sym (append-nil rs))
replies-grow Nothing n rs = ([], sym (append-nil rs))
replies-grow (Sent i) n rs = ([], sym (append-nil rs))

pub reply-placed : (l : List Noted) (n o i : ℕ) (m : Content) (place : Bool) (x : Noted) → at l n ≡ Some x → turn (before l n) o x ≡ Replied i m place
    → (h : List Reply) × (replies l o ≡ replies (before l n) o ++ record { number = n; sending = i; message = m } ∷ h)
reply-placed [] n o i m place x e w = absurd (none-some x e)
reply-placed (y ∷ older) n o i m place x e w =
    elim (eqb_tells n (length older)) [
      | inl u ↦
          let same : y ≡ x = some-is y x (rw (u.0) at e) in
          let here : turn older o y ≡ Replied i m place = subst (λ (v : Noted). turn older o v ≡ Replied i m place) (sym same) (rw (u.0) at w) in
          let more : replies (y ∷ older) o ≡ replies older o ++ record { number = length older; sending = i; message = m } ∷ [] =
          ap (λ (v : Turn). replies_by (length older) v (replies older o)) here in
          let all : replies (y ∷ older) o ≡ replies older o ++ record { number = n; sending = i; message = m } ∷ [] =
          subst (λ (n : ℕ). replies (y ∷ older) o ≡ replies older o ++ record { number = n; sending = i; message = m } ∷ []) (sym u.1) more in
          ([], rw (u.0) all)
      | inr u ↦
          let it = reply-placed older n o i m place x (rw (u.0) at e) (rw (u.0) at w) in
          let more = replies-grow (turn older o y) (length older) (replies older o) in (
            it.0 ++ more.0,
            rw (u.0) (more.1 ∙ (ap (λ (v : List Reply). v ++ more.0) it.1 ∙ append_assoc (replies (before older n) o) (record { number = n; sending = i; message = m } ∷ it.0) more.0)),
          )
    ]

-- what a Reset message rejects went to its peer, and has its ID
rst-answers : (l : List Noted) (p : Peer) (m : Content) (i : ℕ) (vain response : Bool) → answers_by l p m Rst vain response ≡ Some i
    → (vain ≡ true) × Contains (open_at l p) i × (is_as l p m i ≡ true)
rst-answers l p m i true true e = let it = find-some (is_as l p m) (open_at l p) i e in (refl, it.0, it.1)
rst-answers l p m i true false e = let it = find-some (is_as l p m) (open_at l p) i e in (refl, it.0, it.1)
rst-answers l p m i false true e = absurd (none-some i e)
rst-answers l p m i false false e = absurd (none-some i e)

pub as-first : (l : List Noted) (p : Peer) (m : Content) (i : ℕ) → is_as l p m i ≡ true
    → (f : FirstSending) × (first_at l i ≡ Some f) × (f.peer ≡ p) × (f.message.mid ≡ m.mid)
as-first l p m i e = go (first_at l i) refl e
  where
    go : (o : Option FirstSending) → first_at l i ≡ o → went_as p m.mid o ≡ true
        → (f : FirstSending) × (first_at l i ≡ Some f) × (f.peer ≡ p) × (f.message.mid ≡ m.mid)
    go None is h = absurd (false≢true h)
    go (Some f) is h =
        let both = and_parts (same_peer f.peer p) (eqb f.message.mid m.mid) h in
        (f, is, same_peer-same f.peer p both.0, eqb-same f.message.mid m.mid both.1)

-- what is outstanding at an endpoint is on its way
open-way : (l : List Noted) (p : Peer) (i : ℕ) → Contains (open_at l p) i → (y : Transmission) × (transmission l i ≡ Some y)
open-way l p i h = last (last_sent l p) h
  where
    numbers : Option FirstSending → List ℕ
    numbers o = option_to_list (option_map (λ (f : FirstSending). f.number) o)

    on_way : (f : FirstSending) (w : Option Transmission) → transmission l f.number ≡ w → Contains (numbers (cond (is_some w) (Some f) None)) i
        → (y : Transmission) × (transmission l i ≡ Some y)
    on_way f None is h = absurd (contains-none i h)
    on_way f (Some y) is h =
        elim (first-or-later f.number [] i h) [
          | inl e ↦ (y, subst (λ (i : ℕ). transmission l i ≡ Some y) e is)
          | inr e ↦ absurd (contains-none i e)
        ]

    last : (o : Option FirstSending) → Contains (numbers (option_and_then (if_outstanding l) o)) i → (y : Transmission) × (transmission l i ≡ Some y)
    last None h = absurd (contains-none i h)
    last (Some f) h = on_way f (transmission l f.number) refl h

pub empty-parts : (m : Content) (k : MsgType) (c : ℕ) (token : List ℕ) (options : List Entry) (payload : List ℕ)
    → m.kind ≡ k → m.code ≡ c → m.token ≡ token → m.options ≡ options → m.payload ≡ payload
    → m ≡ record { kind = k; code = c; mid = m.mid; token = token; options = options; payload = payload }
empty-parts m k c token options payload e1 e2 e3 e4 e5 = rw (← e1, ← e2, ← e3, ← e4, ← e5) refl

pub record RejectedIn (l : List Noted) (o : ℕ) (x : Noted) : Type 0 where
  pub sent_at : ℕ
  pub sending : ℕ
  pub peer : Peer
  pub sent : Content
  pub first : IsFirst l sent_at o sending peer sent
  pub bytes : List ℕ
  pub message : Content
  pub notice : Notice
  pub entry : x ≡ noted x.written.moment (Hears peer bytes) (Says message (Some sending) notice)
  pub spelled : Spells (empty Rst sent.mid) bytes
  pub waited : waits_for l o ≡ Some sending
  pub way : Transmission
  pub on_way : transmission l sending ≡ Some way

says-to : (m : Content) (i j : Option ℕ) (u v : Notice) → Says m i u ≡ Says m j v → i ≡ j
says-to m i j u v e = cc

pub rejected-in : (l : List Noted) (o : ℕ) (x : Noted) → Follows l x.written.moment x.written.deed x.note → turn l o x ≡ Rejected → RejectedIn l o x
rejected-in l o x may e =
    let h = turn-rejected l o x e in
    let m = h.message in
    let follows : Follows l x.written.moment (Hears h.peer h.bytes) (Says m (Some h.to) h.notice) =
    subst (λ (v : Noted). Follows l v.written.moment v.written.deed v.note) h.entry may in
    let says : MaySay l x.written.moment h.peer h.bytes (Says m (Some h.to) h.notice) m = follows.3 in
    let found : answers l h.peer m ≡ Some h.to = sym (says-to m (Some h.to) _ _ _ says.says) in
    let by = rst-answers l h.peer m h.to (eqb m.code 0) (leb 32 m.code)
    (subst (λ (k : MsgType). answers_by l h.peer m k (eqb m.code 0) (leb 32 m.code) ≡ Some h.to) h.reset found) in
    let f = as-first l h.peer m h.to by.2 in
    let way = open-way l h.peer h.to by.1 in
    let waits = waits-first l o h.to h.waited in
    let own : IsFirst l f.0.moment o h.to f.0.peer f.0.message =
    subst (λ (g : FirstSending). IsFirst l g.moment o h.to g.peer g.message) (sym (first-is l waits.0 o h.to waits.1 waits.2 f.0 waits.3 f.1)) waits.3 in
    let none = says.spelled.nothing_else (eqb-same m.code 0 by.0) in
    let is : m ≡ empty Rst m.mid = empty-parts m Rst 0 [] [] [] h.reset (eqb-same m.code 0 by.0) none.0 none.1 none.2 in
    record {
      sent_at = f.0.moment;
      sending = h.to;
      peer = h.peer;
      sent = f.0.message;
      first = subst (λ (p : Peer). IsFirst l f.0.moment o h.to p f.0.message) f.2 own;
      bytes = h.bytes;
      message = m;
      notice = h.notice;
      entry = h.entry;
      spelled = subst (λ (n : ℕ). Spells (empty Rst n) h.bytes) (sym f.3) (subst (λ (m : Content). Spells m h.bytes) is says.spelled);
      waited = h.waited;
      way = way.0;
      on_way = way.1;
    }
