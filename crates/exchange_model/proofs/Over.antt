-- What a message that is new is to the exchange that it answers.
use Rattle.std.proofs.Common.{◌≡◌, ℕ, inl, inr, Bool, true, false, cond, eqb, ltb, leb, List, [], ◌∷◌, ◌++◌, length, Option, Some, None, refl, sym, ap, subst, ◌∙◌}
use Rattle.std.specs.Prelude.{find, ◌&&◌, count_by}
use Rattle.std.specs.List.{Contains, list_any}
use Rattle.std.proofs.lemmas.Bool.{false≢true, not-false}
use Rattle.std.proofs.lemmas.Bool.Decides.{eqb_tells}
use Rattle.coap_codec.specs.Spelling.{Content}
use Rattle.coap_codec.specs.declared.message.MsgType.{MsgType}
use Rattle.coap_codec.specs.declared.message.MsgType.TheVariants.{Con, Non, Ack, Rst}
use Rattle.uri_map.specs.declared.peer.Peer.{Peer}
use Rattle.message_layer.specs.Values.{LinkState}
use Rattle.message_layer.specs.Hearing.{is_fresh, is_repeat, is_awaited, is_awaited_by_ack, ignored, new_verdict, heard_verdict, ack_verdict, rst_verdict, verdict_by, verdict_of}
use Rattle.message_layer.specs.declared.state.Heard.{Heard}
use Rattle.message_layer.specs.declared.state.Outstanding.{Outstanding}
use Rattle.message_layer.specs.declared.state.Reply.{Reply as LinkReply}
use Rattle.message_layer.specs.declared.state.Reply.TheVariants as L
use Rattle.message_layer.specs.declared.verdict.News.{News}
use Rattle.message_layer.specs.declared.verdict.Verdict.{Verdict}
use Rattle.message_layer.specs.declared.verdict.News.TheVariants as N
use Rattle.history_laws.specs.Readings.{Noted}
use Rattle.history_laws.specs.Responses.{Response, confirms}
use Rattle.history_laws.specs.Progress.{Reply, Ending, Whole, Reset, Turned, Progress, Fetches, Gives, Ends as EndsSoFar, progress, ended_by, Renewed}
use Rattle.history_laws.specs.Exchanges.{Begun, begun, Turn, Replied, Rejected, answered_by, turn, waits_for, replies, replied_end, end_here, end_of, open_exchanges, kept as kept_of, unless_renewed, end_by, heard_for, begins_with}
use Rattle.history_laws.specs.Hearing.{repeated, can_be_remembered, answers, notice_of}
use Rattle.history_laws.specs.Observing.{as_first, notice_in}
use Rattle.history_laws.specs.Justified.{Ends, Legal}
use Rattle.observe_share.specs.declared.registration.Registration.{Registration}
use Rattle.observe_share.specs.Watches as W
use Rattle.observe_share.specs.declared.notice.Notice.{Notice}
use Rattle.observe_share.specs.declared.notice.Notice.TheVariants.{Update, Other}
use Rattle.history_laws.proofs.CallerLemmas.{all-of, and-left, and-right, contains-map, eqb-itself, find-some, open-exactly, none-some, some-is, entries-length, ask-begins, at-kept, opened-for, IsGoing}
use Rattle.history_links.specs.Agrees.{Start}
use Rattle.history_links.specs.Steps.{ended_token, heard}
use Rattle.history_links.proofs.CallerLemmas.{ends_by, hit, is_to, judge}
use Rattle.exchange_model.specs.declared.kept.Exchange.{Exchange}
use Rattle.exchange_model.specs.State.{State, link_of}
use Rattle.exchange_model.specs.Reads.{ExchangeIn, opening_of, Reads, kept_in, kept_yet}
use Rattle.exchange_model.specs.Watching.{counts_to}
use Rattle.exchange_model.specs.Steps.{is_under, reply_at}
use Rattle.exchange_model.specs.Matters.{answered_in, Matter, Nothing, Tells, Starts, Goes, Over, may_start, starting, told_so, replied, matter_by, matter_of, has_next_place, tells_of, told_alone, stale_in, unless_valid}
use Rattle.exchange_model.specs.Laws.{MayHear}
use Rattle.exchange_model.proofs.Bare.{bare_ending, bare_progress}
use Rattle.exchange_model.proofs.Borne.{split}
use Rattle.exchange_model.proofs.Comes.{comes-to}
use Rattle.exchange_model.proofs.Hearing.{hit-kept, is_apart}
use Rattle.exchange_model.proofs.Places.{place-same}
use Rattle.exchange_model.proofs.Silent.{now-from}
use Rattle.resp_cache.specs.Stored.{Stored}

-- which news answers an exchange: a Reset of an RST, and of any other message a response

abbrev NotReset : News → Type 0
NotReset N.Quiet = Unit {0}
NotReset N.Response = Unit {0}
NotReset (N.Reset of) = ⊥
NotReset N.Lost = Unit {0}

either : (b : Bool) (x y : Verdict) → NotReset x.news → NotReset y.news → NotReset (cond b x y).news
either true x y p q = p
either false x y p q = q

either-news : (b : Bool) → NotReset (cond b N.Response N.Quiet)
either-news true = tt
either-news false = tt

new-news : (s : LinkState) (m : Content) (r e : LinkReply) → NotReset (new_verdict s m r e).news
new-news s m r e = either (eqb m.code 0) _ _ tt (either (ltb 31 m.code && list_any (is_awaited m.token) s.awaited) _ _ tt tt)

heard-news : (t : ℕ) (s : LinkState) (m : Content) (confirms : Bool) (v : Option Heard) → NotReset (heard_verdict t s m confirms v).news
heard-news t s m confirms (Some h) = tt
heard-news t s m confirms None = either (ltb (count_by (is_fresh t) s.heard) 1024) _ _ (new-news s m _ _) tt

ack-news : (s : LinkState) (m : Content) → NotReset (ack_verdict s m).news
ack-news s m = either (eqb m.code 0) _ _ tt (either (ltb 31 m.code) _ _ (either-news (list_any (is_awaited_by_ack m.mid m.token) s.awaited)) tt)

response-only : (news : News) (token of : List ℕ) → NotReset news → ended_token news token ≡ Some of → news ≡ N.Response
response-only N.Quiet token of h e = absurd cc
response-only N.Response token of h e = refl
response-only (N.Reset k) token of h e = absurd h
response-only N.Lost token of h e = absurd cc

reset-only : (m : Content) (v : Option Outstanding) (token of : List ℕ) → ended_token (rst_verdict m v).news token ≡ Some of → (k : List ℕ) × ((rst_verdict m v).news ≡ N.Reset k)
reset-only m None token of e = absurd cc
reset-only m (Some o) token of e = elim (split ((eqb m.code 0) && (eqb o.mid m.mid)) _ _ token of e) [
  | inl w ↦ (o.token, rw (w.0) refl)
  | inr w ↦ absurd (nothing w.1)
]
  where
    nothing : None ≡ Some of → ⊥
    nothing h = cc

-- how it ends

pub ends-now : (l : List Noted) (o : ℕ) (x : Noted) (u : Turn) (how : Ending) → turn l o x ≡ u → end_of l o ≡ None → end_here (begun l o) (kept_of l o) (length l) (heard_for l o) u ≡ Some how → Ends (x ∷ l) o (length l) how
ends-now l o x u how is going here = rw (is, going, here) refl

turn-now : (l : List Noted) (t : ℕ) (p : Peer) (d : List ℕ) (m : Content) (o i : ℕ) → waits_for l o ≡ Some i → answers l p m ≡ Some i
    → turn l o (heard l t p d m) ≡ answered_by i m (notice_of l t p m (answers l p m)).place m.kind
turn-now l t p d m o i waits is = rw (is, waits, eqb-itself i) refl

is-to-it : (to : Option ℕ) (i : ℕ) → is_to to i ≡ true → to ≡ Some i
is-to-it None i e = absurd (false≢true e)
is-to-it (Some j) i e = elim (eqb_tells j i) [ inl w ↦ ap Some w.1 | inr w ↦ absurd (false≢true (sym w.0 ∙ e)) ]

-- a kept exchange is open
pub kept-open : (l : List Noted) (S : State) (e : Exchange) → Reads l S → Contains S.exchanges e → end_of l e.opening ≡ None
kept-open l S e r has =
    let listed : Contains (open_exchanges l) e.opening = subst (λ (os : List ℕ). Contains os e.opening) (sym r.keys) (contains-map opening_of S.exchanges e has) in
    ((open-exactly l e.opening).0 listed).1

-- The exchange that the message answers: under this token it answers its latest first sending.
pub record AnswersIt (start : Start) (l : List Noted) (t : ℕ) (p : Peer) (m : Content) (S : State) (e : Exchange) : Type 0 where
  pub of : List ℕ
  pub token : ended_token (verdict_of t (link_of S.links p) m).news m.token ≡ Some of
  pub has : Contains S.exchanges e
  pub under : is_under of e ≡ true
  pub kept : ExchangeIn start l e
  pub sending : ℕ
  pub waits : waits_for l e.opening ≡ Some sending
  pub answered : answers l p m ≡ Some sending
  pub ends : ends_by m.kind m.code ≡ true
  pub going : end_of l e.opening ≡ None

pub answers-it : (l : List Noted) (t : ℕ) (p : Peer) (d : List ℕ) (m : Content) (S : State) → (h : MayHear l t p d S) → repeated l t p m ≡ None → can_be_remembered l t p m ≡ true
    → (e : Exchange) → answered_in (ended_token (verdict_of t (link_of S.links p) m).news m.token) S.exchanges ≡ Some e → AnswersIt h.before.reads.start l t p m S e
answers-it l t p d m S h none room e is = by (ended_token (verdict_of t (link_of S.links p) m).news m.token) refl is
  where
    made : (of : List ℕ) → ended_token (verdict_of t (link_of S.links p) m).news m.token ≡ Some of → Contains S.exchanges e → is_under of e ≡ true → (a : ExchangeIn h.before.reads.start l e)
        → (v : Option ℕ) → waits_for l e.opening ≡ v → hit (answers l p m) m v ≡ true → AnswersIt h.before.reads.start l t p m S e
    made of ended has under a None waits hits = absurd (false≢true hits)
    made of ended has under a (Some i) waits hits = record {
      of = of;
      token = ended;
      has = has;
      under = under;
      kept = a;
      sending = i;
      waits = waits;
      answered = is-to-it (answers l p m) i (and-left (is_to (answers l p m) i) _ hits);
      ends = and-right (is_to (answers l p m) i) _ hits;
      going = kept-open l S e h.before.reads has;
    }

    by : (ended : Option (List ℕ)) → ended_token (verdict_of t (link_of S.links p) m).news m.token ≡ ended → answered_in ended S.exchanges ≡ Some e → AnswersIt h.before.reads.start l t p m S e
    by None ended found = absurd cc
    by (Some of) ended found =
        let first = find-some (is_under of) S.exchanges e found in
        let a = all-of (ExchangeIn h.before.reads.start l) S.exchanges e h.before.reads.exchanges_are first.0 in
        let judged = judge l t p (link_of S.links p) m m.kind (now-from l t S h.before) h.before.reads.legal (h.before.reads.links_are p) refl none room in
        let kept = hit-kept l t p (link_of S.links p) m h.before.reads.legal (h.before.reads.links_are p) judged e a in
        let other : is_apart (ended_token (verdict_of t (link_of S.links p) m).news m.token) e ≡ false = rw (ended, first.1) refl in
        made of ended first.0 first.1 a (waits_for l e.opening) refl (not-false (hit (answers l p m) m (waits_for l e.opening)) (kept ∙ other))

-- It is rejected by it, or it is a reply.
pub data HowAnswered (l : List Noted) (t : ℕ) (p : Peer) (d : List ℕ) (m : Content) (S : State) (e : Exchange) (i : ℕ) : Type 0 where
  by_rst : (of : List ℕ) → (verdict_of t (link_of S.links p) m).news ≡ N.Reset of → turn l e.opening (heard l t p d m) ≡ Rejected
      → HowAnswered l t p d m S e i
  by_reply : (verdict_of t (link_of S.links p) m).news ≡ N.Response
      → turn l e.opening (heard l t p d m) ≡ Replied i m (notice_of l t p m (answers l p m)).place → HowAnswered l t p d m S e i

how-kind : (l : List Noted) (t : ℕ) (p : Peer) (d : List ℕ) (m : Content) (S : State) (e : Exchange) (i : ℕ) (of : List ℕ) (k : MsgType) → m.kind ≡ k
    → waits_for l e.opening ≡ Some i → answers l p m ≡ Some i → ends_by m.kind m.code ≡ true
    → ended_token (verdict_of t (link_of S.links p) m).news m.token ≡ Some of → HowAnswered l t p d m S e i
how-kind l t p d m S e i of Rst kind waits to ends ended =
    let s = link_of S.links p in
    let is : verdict_of t s m ≡ rst_verdict m s.outstanding = ap (verdict_by t s m) kind in
    let news = reset-only m s.outstanding m.token of (sym (ap (λ (v : Verdict). ended_token v.news m.token) is) ∙ ended) in
    by_rst news.0 (ap (λ (v : Verdict). v.news) is ∙ news.1) (turn-now l t p d m e.opening i waits to ∙ ap (answered_by i m (notice_of l t p m (answers l p m)).place) kind)
how-kind l t p d m S e i of Con kind waits to ends ended =
    let s = link_of S.links p in
    let response : leb 32 m.code ≡ true = subst (λ (k : MsgType). ends_by k m.code ≡ true) kind ends in
    let news : NotReset (verdict_of t s m).news = subst (λ (k : MsgType). NotReset (verdict_by t s m k).news) (sym kind) (heard-news t s m true (find (is_repeat t m.mid) s.heard)) in
    by_reply (response-only (verdict_of t s m).news m.token of news ended)
    (turn-now l t p d m e.opening i waits to ∙ (ap (answered_by i m (notice_of l t p m (answers l p m)).place) kind ∙ rw (response) refl))
how-kind l t p d m S e i of Non kind waits to ends ended =
    let s = link_of S.links p in
    let response : leb 32 m.code ≡ true = subst (λ (k : MsgType). ends_by k m.code ≡ true) kind ends in
    let news : NotReset (verdict_of t s m).news = subst (λ (k : MsgType). NotReset (verdict_by t s m k).news) (sym kind) (heard-news t s m false (find (is_repeat t m.mid) s.heard)) in
    by_reply (response-only (verdict_of t s m).news m.token of news ended)
    (turn-now l t p d m e.opening i waits to ∙ (ap (answered_by i m (notice_of l t p m (answers l p m)).place) kind ∙ rw (response) refl))
how-kind l t p d m S e i of Ack kind waits to ends ended =
    let s = link_of S.links p in
    let response : leb 32 m.code ≡ true = subst (λ (k : MsgType). ends_by k m.code ≡ true) kind ends in
    let news : NotReset (verdict_of t s m).news = subst (λ (k : MsgType). NotReset (verdict_by t s m k).news) (sym kind) (ack-news s m) in
    by_reply (response-only (verdict_of t s m).news m.token of news ended)
    (turn-now l t p d m e.opening i waits to ∙ (ap (answered_by i m (notice_of l t p m (answers l p m)).place) kind ∙ rw (response) refl))

-- What the exchange comes to is the same in the history and in the state.

abbrev pub reply_of : List Noted → ℕ → Content → Reply
reply_of l i m = record { number = length l; sending = i; message = m }

-- By it the exchange ended so,
pub record IsOver (start : Start) (l : List Noted) (t : ℕ) (p : Peer) (d : List ℕ) (m : Content) (S : State) (e : Exchange) (how : Ending) : Type 0 where
  pub it : AnswersIt start l t p m S e
  pub real : Ending
  pub ends : Ends (heard l t p d m ∷ l) e.opening (length l) real
  pub same : how ≡ bare_ending real
  pub whole : (w : Response) (rs : List Reply) → real ≡ Whole w rs
      → progress it.kept.request (heard_for l e.opening ++ reply_of l it.sending m ∷ []) ≡ EndsSoFar (Whole w rs)

-- or goes on so.

pub record IsOnward (start : Start) (l : List Noted) (t : ℕ) (p : Peer) (d : List ℕ) (m : Content) (S : State) (e : Exchange) (how : Progress) : Type 0 where
  pub it : AnswersIt start l t p m S e
  pub turned : turn l e.opening (heard l t p d m) ≡ Replied it.sending m true
  pub going : end_of (heard l t p d m ∷ l) e.opening ≡ None
  pub real : Progress
  pub comes : progress it.kept.request (heard_for l e.opening ++ reply_of l it.sending m ∷ []) ≡ real
  pub goes : IsGoing real
  pub same : how ≡ bare_progress real

abbrev pub IsMatter : Start → List Noted → ℕ → Peer → List ℕ → Content → State → Matter → Type 0
IsMatter start l t p d m S Nothing = answered_in (ended_token (verdict_of t (link_of S.links p) m).news m.token) S.exchanges ≡ None
IsMatter start l t p d m S (Tells r found) = answered_in (ended_token (verdict_of t (link_of S.links p) m).news m.token) S.exchanges ≡ None
IsMatter start l t p d m S (Starts r e how) = answered_in (ended_token (verdict_of t (link_of S.links p) m).news m.token) S.exchanges ≡ None
IsMatter start l t p d m S (Goes e how) = IsOnward start l t p d m S e how
IsMatter start l t p d m S (Over e how) = IsOver start l t p d m S e how

-- What the exchange asks about ends it by its first reply alone, where that says that this is valid.
unless-none : (old : Option Stored) (bs rs : List Reply) (r : Reply) (other : Option Ending) → kept_yet old rs ≡ None → unless_renewed old (bs ++ rs) r other ≡ other
unless-none None bs rs r other e = refl
unless-none (Some s) bs [] r other e = absurd (none-some s (sym e))
unless-none (Some s) [] (y ∷ rs) r other e = refl
unless-none (Some s) (b ∷ bs) (y ∷ rs) r other e = refl

unless-as : (old : Option Stored) (bs rs : List Reply) (r : Reply) (other : Option Ending) (s : Stored) → (old ≡ Some s → bs ≡ []) → kept_yet old rs ≡ Some s
    → unless_renewed old (bs ++ rs) r other ≡ cond (confirms s.response.etag r.message) (Some (Renewed s r)) other
unless-as None bs [] r other s none e = absurd (none-some s e)
unless-as None bs (y ∷ rs) r other s none e = absurd (none-some s e)
unless-as (Some u) bs [] r other s none e =
    ap (λ (hs : List Reply). unless_renewed (Some u) (hs ++ []) r other) (none e)
    ∙ ap (λ (v : Stored). cond (confirms v.response.etag r.message) (Some (Renewed v r)) other) (some-is u s e)
unless-as (Some u) bs (y ∷ rs) r other s none e = absurd (none-some s e)

-- One that asks about something was opened by an ask, and began with nothing.
pub keeps-begins : (l : List Noted) (o : ℕ) (b : Begun) (s : Stored) → Legal l → begun l o ≡ Some b → kept_of l o ≡ Some s → begins_with l o ≡ []
keeps-begins l o b s legal opened keeps = elim (opened-for l o b legal opened) [
  | inl it ↦ ask-begins l o b legal it
  | inr it ↦ absurd (none-some s (sym (at-kept l o _ it.stands) ∙ keeps))
]

by-end : (l : List Noted) (t : ℕ) (p : Peer) (d : List ℕ) (m : Content) (S : State) (h : MayHear l t p d S) (e : Exchange)
    (it : AnswersIt h.before.reads.start l t p m S e) → (place : Bool)
    → turn l e.opening (heard l t p d m) ≡ Replied it.sending m place
    → ((other : Option Ending) → unless_renewed (kept_of l e.opening) (heard_for l e.opening) (reply_of l it.sending m) other ≡ other)
    → (u : Progress) → progress it.kept.request (heard_for l e.opening ++ reply_of l it.sending m ∷ []) ≡ u
    → IsMatter h.before.reads.start l t p d m S (replied place e (bare_progress u))
by-end l t p d m S h e it place turned still u is = by place u turned is
  where
    rs : List Reply
    rs = heard_for l e.opening ++ reply_of l it.sending m ∷ []

    here : (c : Bool) (v : Progress) → progress it.kept.request rs ≡ v
        → end_here (begun l e.opening) (kept_of l e.opening) (length l) (heard_for l e.opening) (Replied it.sending m c) ≡ ended_by c v
    here c v at = still (replied_end (begun l e.opening) c rs) ∙ (ap (λ (b : Option Begun). replied_end b c rs) it.kept.opening ∙ ap (ended_by c) at)

    on : (v : Progress) → turn l e.opening (heard l t p d m) ≡ Replied it.sending m true → progress it.kept.request rs ≡ v → ended_by true v ≡ None
        → end_of (heard l t p d m ∷ l) e.opening ≡ None
    on v so at going =
        ap (λ (w : Turn). end_by (end_here (begun l e.opening) (kept_of l e.opening) (length l) (heard_for l e.opening) w) (length l) (end_of l e.opening)) so
        ∙ (ap (λ (w : Option Ending). end_by w (length l) (end_of l e.opening)) (here true v at ∙ going) ∙ it.going)

    over : (c : Bool) (v : Progress) (how : Ending) → turn l e.opening (heard l t p d m) ≡ Replied it.sending m c → progress it.kept.request rs ≡ v → ended_by c v ≡ Some how
        → Ends (heard l t p d m ∷ l) e.opening (length l) how
    over c v how so at is_so = ends-now l e.opening (heard l t p d m) _ how so it.going (here c v at ∙ is_so)

    by : (c : Bool) (v : Progress) → turn l e.opening (heard l t p d m) ≡ Replied it.sending m c → progress it.kept.request rs ≡ v
        → IsMatter h.before.reads.start l t p d m S (replied c e (bare_progress v))
    by c (EndsSoFar how) so at = record { it = it; real = how; ends = over c (EndsSoFar how) how so at refl; same = refl; whole = λ w ts f. at ∙ ap EndsSoFar f }
    by true (Gives v got) so at = record { it = it; turned = so; going = on (Gives v got) so at refl; real = Gives v got; comes = at; goes = tt; same = refl }
    by true (Fetches k q got) so at = record { it = it; turned = so; going = on (Fetches k q got) so at refl; real = Fetches k q got; comes = at; goes = tt; same = refl }
    by false (Gives v got) so at = record { it = it; real = Turned; ends = over false (Gives v got) Turned so at refl; same = refl; whole = λ w ts f. absurd cc }
    by false (Fetches k q got) so at = record { it = it; real = Turned; ends = over false (Fetches k q got) Turned so at refl; same = refl; whole = λ w ts f. absurd cc }

-- What it asks about in the state is what it does in the history.
asks-about : (l : List Noted) (S : State) (e : Exchange) → Reads l S → Contains S.exchanges e → kept_yet (kept_of l e.opening) (replies l e.opening) ≡ stale_in e.opening S.stales
asks-about l S e r has = all-of (λ (f : Exchange). kept_in l f.opening ≡ stale_in f.opening S.stales) S.exchanges e r.stales_are.kept has

by-valid : (l : List Noted) (t : ℕ) (p : Peer) (d : List ℕ) (m : Content) (S : State) (h : MayHear l t p d S) (e : Exchange)
    (it : AnswersIt h.before.reads.start l t p m S e) → (place : Bool)
    → turn l e.opening (heard l t p d m) ≡ Replied it.sending m place
    → (v : Option Stored) → stale_in e.opening S.stales ≡ v
    → IsMatter h.before.reads.start l t p d m S (unless_valid v m S e (replied place e (bare_progress (progress it.kept.request (heard_for l e.opening ++ reply_of l it.sending m ∷ [])))))
by-valid l t p d m S h e it place turned None none =
    by-end l t p d m S h e it place turned
    (λ other. unless-none (kept_of l e.opening) (begins_with l e.opening) (replies l e.opening) (reply_of l it.sending m) other (asks-about l S e h.before.reads it.has ∙ none))
    _ refl
by-valid l t p d m S h e it place turned (Some s) asks = by (confirms s.response.etag m) refl
  where
    about : kept_yet (kept_of l e.opening) (replies l e.opening) ≡ Some s
    about = asks-about l S e h.before.reads it.has ∙ asks

    own : kept_of l e.opening ≡ Some s → begins_with l e.opening ≡ []
    own keeps = keeps-begins l e.opening _ s h.before.reads.legal it.kept.opening keeps

    reply : Reply
    reply = reply_of l it.sending m

    here : length S.entries ≡ length l
    here = ap length (sym h.before.reads.entries_are) ∙ entries-length l

    by : (b : Bool) → confirms s.response.etag m ≡ b
        → IsMatter h.before.reads.start l t p d m S (cond b (Over e (Renewed s (reply_at (length S.entries) m)))
        (replied place e (bare_progress (progress it.kept.request (heard_for l e.opening ++ reply ∷ [])))))
    by true is = record {
      it = it;
      real = Renewed s reply;
      ends = ends-now l e.opening (heard l t p d m) _ (Renewed s reply) turned it.going
          (unless-as (kept_of l e.opening) (begins_with l e.opening) (replies l e.opening) reply _ s own about
          ∙ ap (λ (c : Bool). cond c (Some (Renewed s reply)) (replied_end (begun l e.opening) place (heard_for l e.opening ++ reply ∷ []))) is);
      same = ap (λ (k : ℕ). Renewed s (reply_at k m)) here;
      whole = λ w ts f. absurd cc;
    }
    by false is = by-end l t p d m S h e it place turned
        (λ other. unless-as (kept_of l e.opening) (begins_with l e.opening) (replies l e.opening) reply other s own about ∙ ap (λ (c : Bool). cond c (Some (Renewed s reply)) other) is)
        _ refl

pub is-matter : (l : List Noted) (t : ℕ) (p : Peer) (d : List ℕ) (m : Content) (S : State) → (h : MayHear l t p d S) → repeated l t p m ≡ None → can_be_remembered l t p m ≡ true
    → IsMatter h.before.reads.start l t p d m S (matter_of t p m (verdict_of t (link_of S.links p) m) S)
is-matter l t p d m S h none room = by (answered_in (ended_token v.news m.token) S.exchanges) refl
  where
    v : Verdict
    v = verdict_of t (link_of S.links p) m

    place : Bool
    place = has_next_place t p v S

    made : (e : Exchange) (it : AnswersIt h.before.reads.start l t p m S e) → HowAnswered l t p d m S e it.sending
        → IsMatter h.before.reads.start l t p d m S (matter_by t p v.news place m S (Some e))
    made e it (by_rst of news turned) =
        subst (λ (n : News). IsMatter h.before.reads.start l t p d m S (matter_by t p n place m S (Some e))) (sym news)
        record { it = it; real = Reset; ends = ends-now l e.opening (heard l t p d m) Rejected Reset turned it.going refl; same = refl; whole = λ w rs f. absurd cc }
    made e it (by_reply news turned) =
        let same_place = place-same l t p m S e.opening it.sending h.before none room it.waits it.answered in
        let comes = comes-to l S e it.sending m h.before.reads it.has it.going it.kept in
        subst (λ (n : News). IsMatter h.before.reads.start l t p d m S (matter_by t p n place m S (Some e))) (sym news)
        (subst (λ (u : Progress). IsMatter h.before.reads.start l t p d m S (unless_valid (stale_in e.opening S.stales) m S e (replied place e u))) (sym comes)
        (by-valid l t p d m S h e it place (turned ∙ ap (Replied it.sending m) same_place) (stale_in e.opening S.stales) refl))

    none-told : answered_in (ended_token v.news m.token) S.exchanges ≡ None → (n : News) → IsMatter h.before.reads.start l t p d m S (told_alone t p n m S)
    none-told is N.Response = each (find (W.is_under m.token) S.watches)
      where
        each : (r : Option Registration) → IsMatter h.before.reads.start l t p d m S (tells_of t p m S r)
        each None = is
        each (Some r) = counted (counts_to t m r)
          where
            room_for : (u : Progress) (b : Bool) → IsMatter h.before.reads.start l t p d m S (cond b (Starts r (starting t p r u S) u) (Tells r None))
            room_for u true = is
            room_for u false = is

            told : (n : Notice) (u : Progress) → IsMatter h.before.reads.start l t p d m S (told_so t p S r n u)
            told (Other v) u = is
            told (Update v) (EndsSoFar how) = is
            told (Update v) (Fetches k q got) = room_for (Fetches k q got) (may_start t p r S)
            told (Update v) (Gives w got) = room_for (Gives w got) (may_start t p r S)

            counted : (b : Bool) → IsMatter h.before.reads.start l t p d m S (cond b (told_so t p S r (notice_in m) (as_first (length S.entries) 0 m)) Nothing)
            counted true = told (notice_in m) (as_first (length S.entries) 0 m)
            counted false = is
    none-told is N.Quiet = is
    none-told is (N.Reset of) = is
    none-told is N.Lost = is

    by : (w : Option Exchange) → answered_in (ended_token v.news m.token) S.exchanges ≡ w → IsMatter h.before.reads.start l t p d m S (matter_by t p v.news place m S w)
    by None is = none-told is v.news
    by (Some e) is =
        let it = answers-it l t p d m S h none room e is in
        made e it (how-kind l t p d m S e it.sending it.of m.kind refl it.waits it.answered it.ends it.token)

pub heard-over : (l : List Noted) (t : ℕ) (p : Peer) (d : List ℕ) (m : Content) (S : State) → MayHear l t p d S → repeated l t p m ≡ None → can_be_remembered l t p m ≡ true
    → (e : Exchange) (how : Ending) → matter_of t p m (verdict_of t (link_of S.links p) m) S ≡ Over e how
    → (real : Ending) × Ends (heard l t p d m ∷ l) e.opening (length l) real × (how ≡ bare_ending real)
heard-over l t p d m S h none room e how is =
    let it : IsOver h.before.reads.start l t p d m S e how = subst (IsMatter h.before.reads.start l t p d m S) is (is-matter l t p d m S h none room) in
    (it.real, it.ends, it.same)

-- What rejects a message is empty.
not-reset : (n : News) (of : List ℕ) → NotReset n → n ≡ N.Reset of → ⊥
not-reset N.Quiet of h e = cc
not-reset N.Response of h e = cc
not-reset (N.Reset k) of h e = h
not-reset N.Lost of h e = cc

reset-by : (t : ℕ) (s : LinkState) (m : Content) (k : MsgType) (of : List ℕ) → (verdict_by t s m k).news ≡ N.Reset of → eqb m.code 0 ≡ true
reset-by t s m Con of e = absurd (not-reset _ of (heard-news t s m true (find (is_repeat t m.mid) s.heard)) e)
reset-by t s m Non of e = absurd (not-reset _ of (heard-news t s m false (find (is_repeat t m.mid) s.heard)) e)
reset-by t s m Ack of e = absurd (not-reset _ of (ack-news s m) e)
reset-by t s m Rst of e = by s.outstanding e
  where
    by : (v : Option Outstanding) → (rst_verdict m v).news ≡ N.Reset of → eqb m.code 0 ≡ true
    by None f = absurd cc
    by (Some o) f = empty (eqb m.code 0) (eqb o.mid m.mid) f
      where
        empty : (b c : Bool) → (cond (b && c) (record { reply = L.Nothing; remembered = false; ends = true; news = N.Reset o.token }) ignored).news ≡ N.Reset of → b ≡ true
        empty true c g = refl
        empty false c g = absurd cc

pub reset-empty : (l : List Noted) (t : ℕ) (p : Peer) (m : Content) (S : State) (of : List ℕ) → (verdict_of t (link_of S.links p) m).news ≡ N.Reset of → eqb m.code 0 ≡ true
reset-empty l t p m S of e = reset-by t (link_of S.links p) m m.kind of e
