-- What comes for a GET, as the end of an exchange or in a notification, came to a message of that exchange.
use Rattle.std.proofs.Common.{◌≡◌, ℕ, ◌<◌, Bool, true, false, cond, ◌&&◌, eqb, leb, inl, inr, List, [], ◌∷◌, length, Option, Some, None, Ok, Err, refl, sym, ap, subst, ◌∙◌, arith}
use Rattle.std.specs.List.{Contains}
use Rattle.std.proofs.lemmas.Bool.{false≢true, and_parts}
use Rattle.std.proofs.lemmas.Bool.Decides.{leb_tells}
use Rattle.std.proofs.lemmas.Slice.Eq.{bytes_eq-Decides}
use Rattle.coap_codec.specs.Spelling.{Content}
use Rattle.uri_map.specs.declared.peer.Peer.{Peer}
use Rattle.blockwise.specs.Downloads.{Judged, judged, no_pieces, with_piece}
use Rattle.blockwise.specs.Uploads.{begun}
use Rattle.blockwise.specs.declared.fault.BlockFault.TheVariants.{Changed, Size, Gap, TooLarge, Memory}
use Rattle.blockwise.specs.declared.pieces.Step.TheVariants.{Next, Last}
use Rattle.ask_model.specs.Requests.{CoapRequest, observe_message}
use Rattle.journal_book.specs.Entries.{Hears}
use Rattle.observe_share.specs.Watches.{counts_for}
use Rattle.history_laws.specs.Responses.{Response, whole_of, is_tellable}
use Rattle.history_laws.specs.Readings.{Noted, Says, Notice, Observation, Unobserved, Updates, noted, at, before}
use Rattle.history_laws.specs.Progress.{Reply, Whole, NotUnderstood, Ends, fetched_by, Ending, Fetches, Gives, progress, step, messages}
use Rattle.history_laws.specs.Transmissions.{FirstSending, first_at, firsts}
use Rattle.history_laws.specs.Exchanges.{waits_for, Replied, turn}
use Rattle.history_laws.specs.Observing.{Watch, as_first, counts, first_reply, is_under, notice_in, watch_under, watches}
use Rattle.history_laws.specs.Hearing.{is_such, is_this, observation_of, answers}
use Rattle.history_laws.specs.Storing.{ComesSo, EndsSo, UpdatesSo}
use Rattle.history_laws.specs.Justified.{Legal, MaySay}
use Rattle.history_laws.specs.Hearing.{IsReplyKind}
use Rattle.history_laws.specs.Laws.{IsFirst, IsReplyTo}
use Rattle.history_laws.proofs.Copying.{before-twice}
use Rattle.history_laws.proofs.Elements.{find-some}
use Rattle.history_laws.proofs.Facts.{at-before, eqb-same, follows-at, legal-before, length-before, eqb-itself}
use Rattle.history_laws.proofs.Fetching.{CameTo, came-first, came-to, IsMadeOf}
use Rattle.history_laws.proofs.Firsts.{first-found, first-is, firsts-tokens}
use Rattle.history_laws.proofs.Outrunning.{end-since}
use Rattle.history_laws.proofs.Places.{at-below}
use Rattle.history_laws.proofs.Replies.{found, replies-fit}
use Rattle.history_laws.proofs.Started.{counted}
use Rattle.history_laws.proofs.Registering.{said, says-to}
use Rattle.history_laws.proofs.Watching.{not-rst, watch-fits, WatchFits}
use Rattle.history_laws.proofs.Turns.{turn-replied, waits-first}
use Rattle.history_laws.proofs.Going.{ends-whole}
use Rattle.history_laws.proofs.Resting.{some-is}

-- A first sending is listed where it is found.
first-contained : (l : List Noted) (i : ℕ) (f : FirstSending) → first_at l i ≡ Some f → Contains (firsts l) f × (f.number ≡ i)
first-contained l i f e =
    let both = find-some (λ (f : FirstSending). eqb f.number i) (firsts l) f e in
    (both.0, eqb-same f.number i both.1)

-- What is heard under the token of a watch, and answers a first sending, came to the message of that.
pub record IsUnderWatch (l : List Noted) (p : Peer) (m : Content) (i : ℕ) (w : Watch) : Type 0 where
  pub sending : i ≡ w.sending
  pub moment : ℕ
  pub sent : Content
  pub first : IsFirst l moment w.held.opening i p sent
  pub token : m.token ≡ sent.token
  pub kind : IsReplyKind m.kind m.mid sent.mid

pub under-watch : (l : List Noted) (p : Peer) (m : Content) (i : ℕ) (w : Watch) → Legal l → leb 32 m.code ≡ true → answers l p m ≡ Some i
    → watch_under l m.token ≡ Some w → IsUnderWatch l p m i w
under-watch l p m i w legal response to under =
    let f = found l p m i response (not-rst l p m i response to) to in
    let has = find-some (is_under m.token) (watches l) w under in
    let fits = watch-fits l w legal has.0 in
    let token : w.held.token ≡ m.token = (bytes_eq-Decides w.held.token m.token).0 has.1 in
    let q : CoapRequest = fits.exchange.request in
    let sent : Content = observe_message q fits.mid w.held.token in
    let g : FirstSending = record { number = w.sending; moment = fits.moment; opening = w.held.opening; peer = q.peer; message = sent } in
    let there : first_at l w.sending ≡ Some g = first-found l fits.moment w.held.opening w.sending q.peer sent fits.first in
    let mine = first-contained l i f.first f.is in
    let its = first-contained l w.sending g there in
    let same : f.first.number ≡ w.sending = firsts-tokens l f.first g legal mine.0 its.0 (f.token ∙ sym token) in
    let sending : i ≡ w.sending = sym mine.1 ∙ same in
    let own : IsFirst l fits.moment w.held.opening i q.peer sent = subst (λ (k : ℕ). IsFirst l fits.moment w.held.opening k q.peer sent) (sym sending) fits.first in
    let is_it = first-is l fits.moment w.held.opening i q.peer sent f.first own f.is in
    let peer : q.peer ≡ p = sym (ap (λ (h : FirstSending). h.peer) is_it) ∙ f.peer in
    record {
      sending = sending;
      moment = fits.moment;
      sent = sent;
      first = subst (λ (r : Peer). IsFirst l fits.moment w.held.opening i r sent) peer own;
      token = sym token;
      kind = subst (λ (n : ℕ). IsReplyKind m.kind m.mid n) (ap (λ (h : FirstSending). h.message.mid) is_it) f.kind;
    }

-- In this entry a notification came under the token of the watch, and answered a first sending.
pub record IsTold (l : List Noted) (e : ℕ) (w : Watch) : Type 0 where
  pub moment : ℕ
  pub peer : Peer
  pub bytes : List ℕ
  pub message : Content
  pub sending : ℕ
  pub notice : Notice
  pub stands : at l e ≡ Some (noted moment (Hears peer bytes) (Says message (Some sending) notice))
  pub response : leb 32 message.code ≡ true
  pub such : is_such message.kind ≡ true
  pub under : watch_under (before l e) message.token ≡ Some w

-- It came to the message of the exchange that registered the watch.
pub record TellFits (l : List Noted) (e : ℕ) (w : Watch) (n : IsTold l e w) : Type 0 where
  pub fits : IsReplyTo l w.held.opening (first_reply e n.sending n.message)
  pub sending : n.sending ≡ w.sending
  pub watched : WatchFits (before l e) w

pub tell-fits : (l : List Noted) (e : ℕ) (w : Watch) → Legal l → (n : IsTold l e w) → TellFits l e w n
tell-fits l e w legal n =
    let k : List Noted = before l e in
    let follows = follows-at l e _ legal n.stands in
    let says : MaySay k n.moment n.peer n.bytes (Says n.message (Some n.sending) n.notice) n.message = follows.3 in
    let is = said k n.moment n.peer n.bytes n.message n.sending n.notice follows in
    let it = under-watch k n.peer n.message n.sending w (legal-before l e legal) n.response is.to n.under in
    let below = at-below k n.sending _ it.first.stands in
    let len = length-before l e _ n.stands in
    let has = find-some (is_under n.message.token) (watches k) w n.under in
    record {
      fits = record {
        peer = n.peer;
        sent = it.sent;
        sent_at = it.moment;
        first = record { bytes = it.first.bytes; timeout = it.first.timeout; stands = at-before l e n.sending _ it.first.stands };
        moment = n.moment;
        bytes = n.bytes;
        notice = n.notice;
        heard = n.stands;
        spelled = says.spelled;
        after = omega (arith, below, len);
        token = it.token;
        response = elim (leb_tells 32 n.message.code) [ inl v ↦ v.1 | inr v ↦ absurd (false≢true (sym v.0 ∙ n.response)) ];
        kind = it.kind;
        unheard = says.unheard;
      };
      sending = it.sending;
      watched = watch-fits k w (legal-before l e legal) has.0;
    }

-- a notification that counts for the watch
pub record IsNews (l : List Noted) (e : ℕ) (w : Watch) : Type 0 where
  pub moment : ℕ
  pub peer : Peer
  pub bytes : List ℕ
  pub message : Content
  pub sending : ℕ
  pub notice : Notice
  pub stands : at l e ≡ Some (noted moment (Hears peer bytes) (Says message (Some sending) notice))
  pub counted : counts notice.observation ≡ true
  pub under : watch_under (before l e) message.token ≡ Some w

-- It is newer than what counted before.
pub record NewsFits (l : List Noted) (e : ℕ) (w : Watch) (n : IsNews l e w) : Type 0 where
  pub response : leb 32 n.message.code ≡ true
  pub such : is_such n.message.kind ≡ true
  pub newer : counts_for (notice_in n.message) n.moment w.held ≡ true

pub news-fits : (l : List Noted) (e : ℕ) (w : Watch) → Legal l → (n : IsNews l e w) → NewsFits l e w n
news-fits l e w legal n =
    let k : List Noted = before l e in
    let is = said k n.moment n.peer n.bytes n.message n.sending n.notice (follows-at l e _ legal n.stands) in
    let c = counted k n.moment n.message n.sending n.notice.observation n.counted is.observation in
    record {
      response = c.response;
      such = c.such;
      newer = subst (λ (v : Watch). counts_for (notice_in n.message) n.moment v.held ≡ true) (some-same c.watch w (sym c.under ∙ n.under)) c.newer;
    }
  where
    some-same : (x y : Watch) → Some x ≡ Some y → x ≡ y
    some-same x y e = cc

abbrev pub news-told : (l : List Noted) (e : ℕ) (w : Watch) → (n : IsNews l e w) → NewsFits l e w n → IsTold l e w
news-told l e w n f = record {
  moment = n.moment;
  peer = n.peer;
  bytes = n.bytes;
  message = n.message;
  sending = n.sending;
  notice = n.notice;
  stands = n.stands;
  response = f.response;
  such = f.such;
  under = n.under;
}

-- So is an update.
abbrev pub update-news : (l : List Noted) (o e : ℕ) (w : Response) (rs : List Reply) → (u : UpdatesSo l o e w rs) → IsNews l e u.watch
update-news l o e w rs u = record {
  moment = u.moment;
  peer = u.peer;
  bytes = u.bytes;
  message = u.message;
  sending = u.sending;
  notice = record { place = u.place; observation = Updates };
  stands = u.stands;
  counted = refl;
  under = u.under;
}

pub update-fits : (l : List Noted) (o e : ℕ) (w : Response) (rs : List Reply) → Legal l → (u : UpdatesSo l o e w rs)
    → IsReplyTo l o (first_reply e u.sending u.message)
update-fits l o e w rs legal u =
    subst (λ (o : ℕ). IsReplyTo l o (first_reply e u.sending u.message)) u.registered
    (tell-fits l e u.watch legal (news-told l e u.watch (update-news l o e w rs u) (news-fits l e u.watch legal (update-news l o e w rs u)))).fits

-- It is no reply that was awaited.
pub news-unreplied : (l : List Noted) (e : ℕ) (w : Watch) (o i : ℕ) (m : Content) (place : Bool) (x : Noted) → Legal l → IsNews l e w → at l e ≡ Some x
    → turn (before l e) o x ≡ Replied i m place → ⊥
news-unreplied l e w o i m place x legal n stands turned =
    let k : List Noted = before l e in
    let t = turn-replied k o x i m place turned in
    let same : x ≡ noted n.moment (Hears n.peer n.bytes) (Says n.message (Some n.sending) n.notice) = some-is _ _ (sym stands ∙ n.stands) in
    let note : Says m (Some i) t.notice ≡ Says n.message (Some n.sending) n.notice =
    sym (ap (λ (y : Noted). y.note) t.entry) ∙ ap (λ (y : Noted). y.note) same in
    let sending : i ≡ n.sending = some-is i n.sending (says-to m n.message (Some i) (Some n.sending) t.notice n.notice note) in
    let waits = waits-first k o i t.waited in
    let is = said k n.moment n.peer n.bytes n.message n.sending n.notice (follows-at l e _ legal n.stands) in
    let c = counted k n.moment n.message n.sending n.notice.observation n.counted is.observation in
    let first = first-is k waits.0 o i waits.1 waits.2 c.first waits.3 (subst (λ (i : ℕ). first_at k i ≡ Some c.first) (sym sending) c.sent) in
    let waited : waits_for k c.first.opening ≡ Some n.sending =
    ap (λ (f : FirstSending). waits_for k f.opening) first ∙ (t.waited ∙ ap (λ (v : ℕ). Some v) sending) in
    false≢true (sym c.unwaited ∙ (ap (is_this n.sending) waited ∙ eqb-itself n.sending))

-- So no entry is an end and an update, and it is one update.
pub never-both : (l : List Noted) (o p e : ℕ) (w v : Response) (rs ts : List Reply) → Legal l → EndsSo l o e w rs → UpdatesSo l p e v ts → ⊥
never-both l o p e w v rs ts legal a u =
    let it = ends-whole l o e w rs legal a.ended in
    news-unreplied l e u.watch o it.turned.sending it.turned.message it.turned.place it.entry legal (update-news l p e v ts u) it.stands it.turned.is

pub one-update : (l : List Noted) (o p e : ℕ) (w v : Response) (rs ts : List Reply) → UpdatesSo l o e w rs → UpdatesSo l p e v ts
    → (o ≡ p) × (w ≡ v) × (rs ≡ ts)
one-update l o p e w v rs ts a b =
    let note = ap (λ (y : Noted). y.note) (some-is _ _ (sym a.stands ∙ b.stands)) in
    let message : a.message ≡ b.message = says-message a.message b.message (Some a.sending) (Some b.sending) _ _ note in
    let sending : a.sending ≡ b.sending = some-is a.sending b.sending (says-to a.message b.message (Some a.sending) (Some b.sending) _ _ note) in
    let watch : a.watch ≡ b.watch =
    watches-same a.watch b.watch (sym a.under ∙ (ap (λ (m : Content). watch_under (before l e) m.token) message ∙ b.under)) in
    let ends : Ends (Whole w rs) ≡ Ends (Whole v ts) =
    sym a.whole ∙ (ap (λ (m : Content). as_first e a.sending m) message ∙ (ap (λ (i : ℕ). as_first e i b.message) sending ∙ b.whole)) in (
      sym a.registered ∙ (ap (λ (x : Watch). x.held.opening) watch ∙ b.registered),
      responses-same ends,
      replies-same ends,
    )
  where
    says-message : (m n : Content) (i j : Option ℕ) (u t : Notice) → Says m i u ≡ Says n j t → m ≡ n
    says-message m n i j u t f = cc

    watches-same : (x y : Watch) → Some x ≡ Some y → x ≡ y
    watches-same x y f = cc

    responses-same : Ends (Whole w rs) ≡ Ends (Whole v ts) → w ≡ v
    responses-same f = cc

    replies-same : Ends (Whole w rs) ≡ Ends (Whole v ts) → rs ≡ ts
    replies-same f = cc

-- It is the one reply that it has.
pub first-whole : (n i : ℕ) (m : Content) (w : Response) (rs : List Reply) → as_first n i m ≡ Ends (Whole w rs) → rs ≡ first_reply n i m ∷ []
first-whole n i m w rs e = by (is_tellable m) (judged no_pieces m) e
  where
    replies-same : (v : Response) (xs : List Reply) → Ends (Whole v xs) ≡ Ends (Whole w rs) → rs ≡ xs
    replies-same v xs f = cc

    never : Ends NotUnderstood ≡ Ends (Whole w rs) → ⊥
    never f = cc

    by : (b : Bool) (j : Judged) → cond b (fetched_by j 0 (with_piece no_pieces m) (first_reply n i m ∷ [])) (Ends NotUnderstood) ≡ Ends (Whole w rs) → rs ≡ first_reply n i m ∷ []
    by false j f = absurd (never f)
    by true (Err Changed) f = absurd cc
    by true (Err Size) f = absurd (never f)
    by true (Err Gap) f = absurd (never f)
    by true (Err TooLarge) f = absurd (never f)
    by true (Err Memory) f = absurd (never f)
    by true (Ok (Next block)) f = absurd cc
    by true (Ok Last) f = replies-same _ _ f

-- To a GET that is the response.
pub first-response : (q : CoapRequest) (n i : ℕ) (m : Content) (w : Response) (rs : List Reply) → eqb q.method 1 ≡ true → as_first n i m ≡ Ends (Whole w rs)
    → whole_of q (messages rs) ≡ Some w
first-response q n i m w rs get e =
    let r : Reply = first_reply n i m in
    let all : progress q (r ∷ []) ≡ Ends (Whole w rs) =
    ap (λ (b : Bool). step (cond b (Fetches 0 no_pieces []) (Gives (begun (length q.body) 6) [])) r) get ∙ e in
    let made : IsMadeOf q (r ∷ []) w rs = subst (CameTo q (r ∷ [])) all (came-to q [] r (λ how f. goes (eqb q.method 1) how f) (came-first q)) in
    made.whole
  where
    goes : (b : Bool) (how : Ending) → cond b (Fetches 0 no_pieces []) (Gives (begun (length q.body) 6) []) ≡ Ends how → ⊥
    goes true how f = absurd cc
    goes false how f = absurd cc

-- It does so in a longer history.
pub updates-since : (l : List Noted) (k : ℕ) (x : Noted) (o e : ℕ) (w : Response) (rs : List Reply) → at l k ≡ Some x → UpdatesSo (before l k) o e w rs
    → UpdatesSo l o e w rs
updates-since l k x o e w rs is u =
    let lt : e < k = subst (λ (n : ℕ). e < n) (length-before l k x is) (at-below (before l k) e _ u.stands) in
    let twice = before-twice l k e x is lt in
    record {
      moment = u.moment;
      peer = u.peer;
      bytes = u.bytes;
      message = u.message;
      sending = u.sending;
      place = u.place;
      stands = at-before l k e _ u.stands;
      watch = u.watch;
      under = subst (λ (n : List Noted). watch_under n u.message.token ≡ Some u.watch) twice u.under;
      registered = u.registered;
      whole = u.whole;
      code = u.code;
    }

pub comes-since : (l : List Noted) (k : ℕ) (x : Noted) (o e : ℕ) (w : Response) (rs : List Reply) → at l k ≡ Some x → ComesSo (before l k) o e w rs → ComesSo l o e w rs
comes-since l k x o e w rs is (inl it) = inl (record { ended = end-since l k o _ it.ended; code = it.code })
comes-since l k x o e w rs is (inr u) = inr (updates-since l k x o e w rs is u)

pub news-since : (l : List Noted) (k : ℕ) (x : Noted) (e : ℕ) (w : Watch) → at l k ≡ Some x → IsNews (before l k) e w → IsNews l e w
news-since l k x e w is n =
    let lt : e < k = subst (λ (n : ℕ). e < n) (length-before l k x is) (at-below (before l k) e _ n.stands) in
    let twice = before-twice l k e x is lt in
    record {
      moment = n.moment;
      peer = n.peer;
      bytes = n.bytes;
      message = n.message;
      sending = n.sending;
      notice = n.notice;
      stands = at-before l k e _ n.stands;
      counted = n.counted;
      under = subst (λ (h : List Noted). watch_under h n.message.token ≡ Some w) twice n.under;
    }
