-- After a new message, the link agrees, and it answers what the message asks for.
use Rattle.std.proofs.Common.{◌≡◌, ℕ, Bool, true, false, cond, eqb, leb, ltb, List, [], ◌∷◌, ◌++◌, length, Option, Some, None, refl, sym, ap, subst, ◌∙◌, append-nil}
use Rattle.std.specs.Prelude.{◌&&◌, ◌||◌, filter, not, is_some, option_and_then, count_by}
use Rattle.std.specs.List.{find, list_any}
use Rattle.std.specs.Str.{bytes_eq}
use Rattle.std.proofs.lemmas.Slice.Eq.{bytes_eq-Decides}
use Rattle.std.proofs.lemmas.Bool.{or_right, and_right, or_left, false≢true}
use Rattle.limits.specs.declared.TheConstants.{MAX_REMEMBERED}
use Rattle.coap_codec.specs.declared.message.MsgType.{MsgType}
use Rattle.coap_codec.specs.declared.message.MsgType.TheVariants.{Con, Non, Ack, Rst}
use Rattle.coap_codec.specs.Spelling.{Content}
use Rattle.coap_codec.specs.Recognition.{is_rejected}
use Rattle.uri_map.specs.declared.peer.Peer.{Peer}
use Rattle.history_laws.specs.Confirmations.{answer_by}
use Rattle.message_layer.specs.Values.{LinkState}
use Rattle.message_layer.specs.Awaiting.{tells_under}
use Rattle.message_layer.specs.Mids.{is_in_use}
use Rattle.message_layer.specs.Hearing.{is_fresh, is_repeat, is_awaited, is_awaited_by_ack, says as says_news, answered_in, remembered_in, new_verdict, heard_verdict, verdict_by, verdict_of}
use Rattle.message_layer.specs.declared.state.Heard.{Heard}
use Rattle.message_layer.specs.declared.state.Outstanding.{Outstanding}
use Rattle.message_layer.specs.declared.state.Waiting.{Waiting}
use Rattle.message_layer.specs.declared.state.Reply.TheVariants as R
use Rattle.message_layer.specs.declared.verdict.News.{News}
use Rattle.message_layer.specs.declared.verdict.News.TheVariants.{Quiet, Response, Reset, Lost}
use Rattle.message_layer.specs.declared.verdict.Verdict.{Verdict}
use Rattle.message_layer.proofs.AwaitTable.{news-awaited, news-acks}
use Rattle.history_laws.specs.Readings.{Noted, Notice}
use Rattle.history_laws.specs.Transmissions.{FirstSending, Transmission, first_at, last_sent, transmission, if_outstanding, outstanding, mids_used}
use Rattle.history_laws.specs.Exchanges.{openings, waits_for, awaited, waiting, is_submitted_at}
use Rattle.history_laws.specs.Hearing.{is_such, heard_before, live_heard, repeated, can_be_remembered, went_under, went_as, answers_by, answers, notice_of, knows}
use Rattle.history_laws.specs.Justified.{Legal}
use Rattle.history_laws.proofs.CallerLemmas.{and-left, at-keeps, eqb-itself, waiting-all}
use Rattle.history_links.specs.Agrees.{Start, IsFrom, way_of, due, IsOut, TurnIn, CountUp, IsLast, recent_to, WaitIn, awaits, awaits_ack, HeardIn, Agrees, expects}
use Rattle.history_links.specs.Steps.{Before, ended_token, heard, heard_link, SaysAgrees, Forgets, EndsReset}
use Rattle.history_laws.specs.Confirming.{owed}
use Rattle.history_links.proofs.Still.{since, waits-all, heard-at, heard-still}
use Rattle.history_links.proofs.Copying.{is-last, is-outstanding}
use Rattle.history_links.proofs.Repeating.{due-given, confirming-by, found-reply}
use Rattle.history_links.proofs.Queueing.{acks-awaits, but-acks, but-awaits, kept-still}
use Rattle.history_links.proofs.Remembering.{remembers, none-before}
use Rattle.history_links.proofs.Replying.{says, is_to, ends_what, way-after, waits-after, awaited-after, awaited-says, none-goes, queue-after}
use Rattle.history_links.proofs.Judging.{is_ended, Judged}
use Rattle.history_links.proofs.OwnMessages.{IsOwn, accepts, empties, own-judged}
use Rattle.history_links.proofs.Acknowledgements.{ack-judged, rst-judged}

-- who is awaited

-- Of the ACKs that the link awaits it keeps those that the history does: by a response under the token, or a Reset message
-- to it, none is awaited.
settles : (g a t e : Bool) → (t ≡ true → e ≡ true) → (a ≡ true → e ≡ true → t ≡ false → g ≡ true) → (a ≡ true → e ≡ false → g ≡ false)
    → (not g && (a && not t)) ≡ (not e && a)
settles true false t true tells ends keeps = refl
settles true false t false tells ends keeps = refl
settles false false t true tells ends keeps = refl
settles false false t false tells ends keeps = refl
settles true true true true tells ends keeps = refl
settles false true true true tells ends keeps = refl
settles true true false true tells ends keeps = refl
settles false true false true tells ends keeps = absurd (false≢true (ends refl refl refl))
settles g true true false tells ends keeps = absurd (false≢true (tells refl))
settles true true false false tells ends keeps = absurd (false≢true (sym (keeps refl refl)))
settles false true false false tells ends keeps = refl

heard-acks : (news : News) (m : Content) (token : List ℕ) (g a : Bool) → ((of : List ℕ) → news ≡ Reset of → bytes_eq token of ≡ true → a ≡ true → g ≡ true)
    → (a ≡ true → is_ended (ended_token news m.token) token ≡ false → g ≡ false)
    → (not g && (a && not (tells_under token (says_news news m)))) ≡ (not (is_ended (ended_token news m.token) token) && a)
heard-acks Quiet m token g a resets keeps = settles g a false false (λ e. e) (λ k e f. absurd (false≢true e)) keeps
heard-acks Lost m token g a resets keeps = settles g a false false (λ e. e) (λ k e f. absurd (false≢true e)) keeps
heard-acks Response m token g a resets keeps =
    settles g a (bytes_eq token m.token) (bytes_eq token m.token) (λ e. e) (λ k e f. absurd (false≢true (sym f ∙ e))) keeps
heard-acks (Reset of) m token g a resets keeps =
    settles g a false (bytes_eq token of) (λ e. absurd (false≢true e)) (λ k e f. resets of refl e k) keeps

-- A test that is the same for all that pass another can be asked once.
pub asked-once : (f g : ℕ → Bool) (c : Bool) (xs : List ℕ) → ((i : ℕ) → list_any (eqb i) xs ≡ true → f i ≡ true → g i ≡ c)
    → list_any (λ (i : ℕ). not (g i) && f i) xs ≡ (not c && list_any f xs)
asked-once f g c [] same = by c
  where
    by : (c : Bool) → false ≡ (not c && false)
    by true = refl
    by false = refl
asked-once f g c (x ∷ xs) same = by (f x) refl (asked-once f g c xs (λ i e h. same i (or_right (eqb i x) _ e) h))
  where
    taken : (c r : Bool) → ((not c && true) || (not c && r)) ≡ (not c && true)
    taken true r = refl
    taken false r = refl

    by : (b : Bool) → f x ≡ b → list_any (λ (i : ℕ). not (g i) && f i) xs ≡ (not c && list_any f xs)
        → ((not (g x) && f x) || list_any (λ (i : ℕ). not (g i) && f i) xs) ≡ (not c && (f x || list_any f xs))
    by true e ih = rw (e, same x (or_left (eqb x x) _ (eqb-itself x)) e, ih) (taken c (list_any f xs))
    by false e ih = rw (e, ih, (and_right (not (g x)) false refl)) refl

-- what waits, and what is outstanding

-- Who waited waits on, and what is submitted by the message waits last.
pub waits-on : (start : Start) (l : List Noted) (t : ℕ) (p r : Peer) (d : List ℕ) (m : Content) (to : Option ℕ) (u : Notice) (ws : List Waiting)
    → WaitIn start l (waiting l r) ws → filter (is_submitted_at (says t p d m to u ∷ l) r (length l)) (openings (says t p d m to u ∷ l)) ≡ []
    → WaitIn start (says t p d m to u ∷ l) (waiting (says t p d m to u ∷ l) r) ws
waits-on start l t p r d m to u ws i none =
    let n = says t p d m to u ∷ l in
    let same : waiting n r ≡ waiting l r =
    queue-after l t p r d m to u ∙ (ap (λ (v : List ℕ). waiting l r ++ v) none ∙ append-nil (waiting l r)) in
    subst (λ (os : List ℕ). WaitIn start n os ws) (sym same)
    (waits-all start (says t p d m to u) l r refl (waiting l r) ws (waiting-all l r) i)

pub none-out : (l n : List Noted) (last : Option FirstSending) → ((i : ℕ) → transmission l i ≡ None → transmission n i ≡ None)
    → option_and_then (if_outstanding l) last ≡ None → option_and_then (if_outstanding n) last ≡ None
none-out l n None gone e = refl
none-out l n (Some f) gone e = by (transmission l f.number) refl (transmission n f.number) refl
  where
    some-none : Some f ≡ None → ⊥
    some-none e = cc

    by : (v : Option Transmission) → transmission l f.number ≡ v → (w : Option Transmission) → transmission n f.number ≡ w → if_outstanding n f ≡ None
    by None h None k = rw (k) refl
    by None h (Some y) k = absurd (not-both (sym k ∙ gone f.number h))
      where
        not-both : Some y ≡ None → ⊥
        not-both e = cc
    by (Some x) h w k = absurd (some-none (sym (is-out h) ∙ e))
      where
        is-out : transmission l f.number ≡ Some x → if_outstanding l f ≡ Some f
        is-out h = rw (h) refl

turn-after : {start : Start} (l : List Noted) (t : ℕ) (p : Peer) (s : LinkState) (d : List ℕ) (m : Content) (to : Option ℕ) (u : Notice) (v : Verdict) → Judged l p s m to v → Agrees start l p s
    → TurnIn (says t p d m to u ∷ l) p (cond v.ends None s.outstanding)
turn-after l t p s d m to u v j a = by s.outstanding refl a.turn
  where
    gone : (i : ℕ) → transmission l i ≡ None → transmission (says t p d m to u ∷ l) i ≡ None
    gone i e = way-after l t p d m to u i ∙ rw (e) (both (is_to to i))
      where
        both : (b : Bool) → cond {A = Option Transmission} b None None ≡ None
        both true = refl
        both false = refl

    over : outstanding l p ≡ None → outstanding (says t p d m to u ∷ l) p ≡ None
    over e = none-out l (says t p d m to u ∷ l) (last_sent l p) gone e

    last : (o : Outstanding) (b : IsOut l p o) → last_sent l p ≡ Some b.first
    last o b = is-last l p (last_sent l p) b.first b.is

    given_up : (o : Outstanding) (b : IsOut l p o) → is_to to b.first.number ≡ true → outstanding (says t p d m to u ∷ l) p ≡ None
    given_up o b e =
        let none : transmission (says t p d m to u ∷ l) b.first.number ≡ None = way-after l t p d m to u b.first.number ∙ rw (e) refl in
        subst (λ (w : Option FirstSending). option_and_then (if_outstanding (says t p d m to u ∷ l)) w ≡ None) (sym (last o b)) (rw (none) refl)

    goes_on : (o : Outstanding) (b : IsOut l p o) → is_to to b.first.number ≡ false → IsOut (says t p d m to u ∷ l) p o
    goes_on o b e =
        let way : transmission (says t p d m to u ∷ l) b.first.number ≡ Some (way_of o) = way-after l t p d m to u b.first.number ∙ rw (e) b.way in
        record {
          first = b.first;
          timeout = b.timeout;
          stands = at-keeps (says t p d m to u) l b.first.number _ b.stands;
          is = subst (λ (w : Option FirstSending). option_and_then (if_outstanding (says t p d m to u ∷ l)) w ≡ Some b.first) (sym (last o b)) (is-outstanding (says t p d m to u ∷ l) b.first (way_of o) way);
          way = way;
          token = b.token;
          mid = b.mid;
        }

    ends : (e : Bool) (o : Outstanding) (b : IsOut l p o) → e ≡ is_to to b.first.number → TurnIn (says t p d m to u ∷ l) p (cond e None (Some o))
    ends true o b e = given_up o b (sym e)
    ends false o b e = goes_on o b (sym e)

    none : (e : Bool) → outstanding (says t p d m to u ∷ l) p ≡ None → TurnIn (says t p d m to u ∷ l) p (cond e None None)
    none true h = h
    none false h = h

    by : (o : Option Outstanding) → s.outstanding ≡ o → TurnIn l p o → TurnIn (says t p d m to u ∷ l) p (cond v.ends None o)
    by None is b = none v.ends (over b)
    by (Some o) is b = ends v.ends o b (j.ends o b is)

heard-after : {start : Start} (l : List Noted) (t : ℕ) (p : Peer) (s : LinkState) (d : List ℕ) (m : Content) (to : Option ℕ) (u : Notice) (v : Verdict) → IsFrom start l t → Judged l p s m to v → HeardIn start l p s.heard
    → repeated l t p m ≡ None → HeardIn start (says t p d m to u ∷ l) p (remembered_in t m.mid v.reply v.remembered s.heard)
heard-after {start = start} l t p s d m to u v later j h none = by (is_such m.kind) refl
  where
    by : (b : Bool) → is_such m.kind ≡ b → HeardIn start (says t p d m to u ∷ l) p (remembered_in t m.mid v.reply v.remembered s.heard)
    by true e =
        let unheard : heard_before l t p m.mid ≡ None = subst (λ (b : Bool). cond b (heard_before l t p m.mid) None ≡ None) e none in
        subst (λ (b : Bool). HeardIn start (says t p d m to u ∷ l) p (remembered_in t m.mid v.reply b s.heard)) (sym (j.remembered ∙ e))
        (remembers l t p d m to u v.reply s.heard later h e unheard j.reply)
    by false e =
        subst (λ (b : Bool). HeardIn start (says t p d m to u ∷ l) p (remembered_in t m.mid v.reply b s.heard)) (sym (j.remembered ∙ e))
        (heard-still l (says t p d m to u ∷ l) p s.heard (record {
          later = later.1;
          before = λ w mid. rw (e) refl;
          live = λ w. rw (e) refl;
          below = λ w mid i f. heard-at (says t p d m to u) l w p mid i f;
        }) h)

-- All but the queue, which is left to say.
pub record AgreesBut (start : Start) (l : List Noted) (p : Peer) (s : LinkState) : Type 0 where
  pub turn : TurnIn l p s.outstanding
  pub known : is_some s.last_mid ≡ knows l p
  pub last : (t : ℕ) → IsFrom start l t → IsLast t p s.last_mid (last_sent l p)
  pub count_up : (t : ℕ) → IsFrom start l t → CountUp (recent_to l t p)
  pub given : (t : ℕ) → IsFrom start l t → count_by (is_in_use t) s.given ≡ mids_used l t p
  pub awaits : (token : List ℕ) → list_any (is_awaited token) s.awaited ≡ expects l p token
  pub acks : (mid : ℕ) (token : List ℕ) → list_any (is_awaited_by_ack mid token) s.awaited ≡ awaits_ack l p mid token
  pub heard : HeardIn start l p s.heard

-- Under the token that a message ends no reply is awaited any more.
pub awaits-after : (l : List Noted) (t : ℕ) (p : Peer) (s : LinkState) (d : List ℕ) (m : Content) (to : Option ℕ) (u : Notice) (v : Verdict) → Legal l
    → Judged l p s m to v
    → (token : List ℕ) → awaits (says t p d m to u ∷ l) p token ≡ (not (is_ended (ended_token v.news m.token) token) && awaits l p token)
awaits-after l t p s d m to u v legal j token =
    ap (list_any (λ (i : ℕ). went_under p token (first_at l i))) (awaited-says l t p d m to u legal)
    ∙ (awaited-after (λ (i : ℕ). went_under p token (first_at l i)) to m (waits_for (says t p d m to u ∷ l)) (waits_for l) (waits-after l t p d m to u) (openings l)
    ∙ asked-once (λ (i : ℕ). went_under p token (first_at l i)) (ends_what to m) (is_ended (ended_token v.news m.token) token) (awaited l)
    (λ i e h. j.awaits i token e h))

after-judged : {start : Start} (l : List Noted) (t : ℕ) (p : Peer) (s : LinkState) (d : List ℕ) (m : Content) (to : Option ℕ) (u : Notice) (v : Verdict)
    (gone : List ℕ → Bool) → IsFrom start l t → Legal l → Judged l p s m to v → Agrees start l p s
    → Forgets l (says t p d m to u) p gone → EndsReset l p v.news gone
    → repeated l t p m ≡ None → AgreesBut start (says t p d m to u ∷ l) p (heard_link t m.mid m.token gone v s)
after-judged {start = start} l t p s d m to u v gone later legal j a forgets resets none =
    let n = says t p d m to u ∷ l in
    let acked = λ (mid : ℕ) (token : List ℕ).
    ap (list_any (λ (i : ℕ). went_under p token (first_at l i) && went_as p mid (first_at l i))) (awaited-says l t p d m to u legal)
    ∙ (awaited-after (λ (i : ℕ). went_under p token (first_at l i) && went_as p mid (first_at l i)) to m (waits_for n) (waits_for l) (waits-after l t p d m to u) (openings l)
    ∙ asked-once (λ (i : ℕ). went_under p token (first_at l i) && went_as p mid (first_at l i)) (ends_what to m) (is_ended (ended_token v.news m.token) token) (awaited l)
    (λ i e h. j.awaits i token e (and-left (went_under p token (first_at l i)) _ h))) in
    record {
      turn = turn-after l t p s d m to u v j a;
      known = a.known;
      last = λ w after. a.last w (since l later.1 after);
      count_up = λ w after. a.count_up w (since l later.1 after);
      given = λ w after. a.given w (since l later.1 after);
      awaits = λ token.
          but-awaits gone token (answered_in m.token v.news s.awaited)
          ∙ (ap (λ (b : Bool). not (gone token) && b) (news-awaited v.news m token s.awaited ∙ a.awaits token) ∙ sym (forgets token));
      acks = λ mid token.
          but-acks gone mid token (answered_in m.token v.news s.awaited)
          ∙ (ap (λ (b : Bool). not (gone token) && b)
          (news-acks v.news m mid token s.awaited ∙ ap (λ (b : Bool). b && not (tells_under token (says_news v.news m))) (a.acks mid token))
          ∙ (heard-acks v.news m token (gone token) (awaits_ack l p mid token)
          (λ of e same acked_so. let is = (bytes_eq-Decides token of).0 same in
          ap gone is ∙ resets of e (subst (λ (k : List ℕ). awaits l p k ≡ true) is (acks-awaits l p mid token acked_so)))
          (λ e f. kept-still l (says t p d m to u) p gone forgets token (acks-awaits n p mid token (acked mid token ∙ rw (e, f) refl)))
          ∙ sym (acked mid token)));
      heard = heard-after l t p s d m to u v later j a.heard none;
    }

-- what is judged of each kind

own-of : {start : Start} (l : List Noted) (t : ℕ) (p : Peer) (s : LinkState) (m : Content) (k : MsgType) → IsFrom start l t → Legal l → Agrees start l p s → m.kind ≡ k → IsOwn k → is_such k ≡ true
    → repeated l t p m ≡ None → can_be_remembered l t p m ≡ true → (confirms : Bool) → accepts k ≡ cond confirms R.Ack R.Nothing → empties k ≡ cond confirms R.Rst R.Nothing
    → Judged l p s m (answers_by l p m k (eqb m.code 0) (leb 32 m.code)) (heard_verdict t s m confirms (find (is_repeat t m.mid) s.heard))
own-of l t p s m k later legal a kind own such none room confirms accepted emptied =
    let is_such_one : is_such m.kind ≡ true = ap is_such kind ∙ such in
    let unheard : heard_before l t p m.mid ≡ None = subst (λ (b : Bool). cond b (heard_before l t p m.mid) None ≡ None) is_such_one none in
    let not_found : find (is_repeat t m.mid) s.heard ≡ None = none-before (λ (h : Heard). h.reply) _ (found-reply l t p m.mid s.heard (find (is_repeat t m.mid) s.heard) None refl unheard a.heard later) in
    let few : ltb (count_by (is_fresh t) s.heard) 1024 ≡ true = ap (λ (n : ℕ). ltb n 1024) (a.heard.live t later) ∙ subst (λ (b : Bool). (not b || ltb (live_heard l t p) MAX_REMEMBERED) ≡ true) is_such_one room in
    let judged = own-judged l p s m legal a (subst IsOwn (sym kind) own) in
    let for_kind : Judged l p s m (answers_by l p m k (eqb m.code 0) (leb 32 m.code)) (new_verdict s m (accepts k) (empties k)) =
    subst (λ (k : MsgType). Judged l p s m (answers_by l p m k (eqb m.code 0) (leb 32 m.code)) (new_verdict s m (accepts k) (empties k))) kind judged in
    rw (not_found, few, ← accepted, ← emptied) for_kind

pub judge : {start : Start} (l : List Noted) (t : ℕ) (p : Peer) (s : LinkState) (m : Content) (k : MsgType) → IsFrom start l t → Legal l → Agrees start l p s → m.kind ≡ k
    → repeated l t p m ≡ None → can_be_remembered l t p m ≡ true
    → Judged l p s m (answers_by l p m k (eqb m.code 0) (leb 32 m.code)) (verdict_by t s m k)
judge l t p s m Con later legal a kind none room = own-of l t p s m Con later legal a kind tt refl none room true refl refl
judge l t p s m Non later legal a kind none room = own-of l t p s m Non later legal a kind tt refl none room false refl refl
judge l t p s m Ack later legal a kind none room = ack-judged l p s m legal a kind
judge l t p s m Rst later legal a kind none room = rst-judged l p s m legal a kind

-- What answers it, and all but the queue.
pub record SaidSo (start : Start) (l : List Noted) (t : ℕ) (p : Peer) (s : LinkState) (d : List ℕ) (m : Content) (gone : List ℕ → Bool) : Type 0 where
  pub owes : owed (heard l t p d m ∷ l) ≡ due p m.mid (verdict_of t s m).reply
  pub but : AgreesBut start (heard l t p d m ∷ l) p (heard_link t m.mid m.token gone (verdict_of t s m) s)

pub said-so : (start : Start) (l : List Noted) (t : ℕ) (p : Peer) (s : LinkState) (d : List ℕ) (m : Content) (gone : List ℕ → Bool)
    → Before start l t p s → repeated l t p m ≡ None → can_be_remembered l t p m ≡ true
    → Forgets l (heard l t p d m) p gone → EndsReset l p (verdict_of t s m).news gone → SaidSo start l t p s d m gone
said-so start l t p s d m gone b none room forgets resets =
    let judged = judge l t p s m m.kind (b.started, b.later) b.legal b.agrees refl none room in
    record {
      owes = sym (ap (due p m.mid) judged.reply ∙ due-given p m.mid (answer_by m.kind (is_some (answers l p m)) (is_rejected m) (eqb m.code 0)) (confirming-by m.kind (is_some (answers l p m)) (is_rejected m) (eqb m.code 0)));
      but = after-judged l t p s d m (answers l p m) (notice_of l t p m (answers l p m)) (verdict_of t s m) gone (b.started, b.later) b.legal judged b.agrees forgets resets none;
    }

pub says-agrees : SaysAgrees
says-agrees start l t p s d m gone b none room forgets resets quiet =
    let to = answers l p m in
    let u = notice_of l t p m to in
    let so = said-so start l t p s d m gone b none room forgets resets in
    record {
      owes = so.owes;
      agrees = record {
        turn = so.but.turn;
        known = so.but.known;
        last = so.but.last;
        count_up = so.but.count_up;
        given = so.but.given;
        waits = waits-on start l t p p d m to u s.waiting b.agrees.waits (none-goes l (heard l t p d m) p quiet);
        awaits = so.but.awaits;
        acks = so.but.acks;
        heard = so.but.heard;
      };
    }
