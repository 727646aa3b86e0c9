-- What an exchange begins with that a notification opened came to the message of an ask for the same.
use Rattle.std.proofs.Common.{◌≡◌, ◌⊎◌, ℕ, zero, ◌<◌, ◌≤◌, Bool, true, false, eqb, inl, inr, List, [], ◌∷◌, length, Option, Some, None, refl, sym, ap, subst, ◌∙◌, arith}
use Rattle.std.specs.List.{Contains}
use Rattle.std.proofs.lemmas.List.Elements.{Contains-append_cases}
use Rattle.std.proofs.lemmas.Bool.{false≢true}
use Rattle.std.proofs.lemmas.Bool.Decides.{eqb_tells, leb_tells}
use Rattle.coap_codec.specs.Spelling.{Content}
use Rattle.cache_key.specs.Keys.{CacheKey}
use Rattle.cache_key.specs.declared.place.Place.{Place}
use Rattle.uri_map.specs.declared.peer.Peer.{Peer}
use Rattle.ask_model.specs.Requests.{CoapRequest, Requests, observe_message}
use Rattle.ask_model.specs.Sharing.{asked_place}
use Rattle.ask_model.specs.Views.{Ask}
use Rattle.journal_book.specs.Entries.{Asks, Hears}
use Rattle.history_laws.specs.Readings.{Noted, Says, Notice, Starts, at, before, noted}
use Rattle.history_laws.specs.Progress.{Reply, Ending, first_point}
use Rattle.history_laws.specs.Responses.{Response}
use Rattle.history_laws.specs.Exchanges.{Begun, begun, begins_with, ask_behind, replies, Nothing, turn, waits_for, heard_turn, kept, heard_for, end_here, End, end_of}
use Rattle.history_laws.specs.Joining.{outrun, writes_at}
use Rattle.history_laws.specs.Observing.{Watch, as_first, is_under, notice_in, watches}
use Rattle.history_laws.specs.Hearing.{answers, observation_of}
use Rattle.history_laws.specs.Storing.{ComesSo}
use Rattle.history_laws.specs.Justified.{Ends, IsAsk, Legal}
use Rattle.history_laws.specs.Laws.{IsFirst, IsReplyTo, IsBegunBy, BegunByNotices, AreFetched, IsFetchedOn, FetchedInOrder}
use Rattle.history_laws.proofs.Basis.{made-of}
use Rattle.history_laws.proofs.Beginnings.{ask-begins, ask-own, behind-at, first_of, notice-begins, notice-behind}
use Rattle.history_laws.proofs.Elements.{contains-none, find-some, first-or-later}
use Rattle.history_laws.proofs.Facts.{at-before, legal-before}
use Rattle.history_laws.proofs.Notified.{first-whole, IsTold, tell-fits, TellFits, under-watch, update-fits}
use Rattle.history_laws.proofs.Openings.{ends-first}
use Rattle.history_laws.proofs.Order.{ordered, Ordered}
use Rattle.history_laws.proofs.Outrunning.{end-before, ended-begun, is-outrun, not-true, outran, Outran}
use Rattle.history_laws.proofs.Places.{at-below}
use Rattle.history_laws.proofs.Queue.{awaited-not}
use Rattle.history_laws.proofs.Resting.{none-some, some-is}
use Rattle.history_laws.proofs.Replies.{replies-fit}
use Rattle.history_laws.proofs.Sent.{begun-before, begun-opening, opened-for, sent-for, StartedFor}
use Rattle.history_laws.proofs.Standing.{watch-current}
use Rattle.history_laws.proofs.Started.{counted, Started, started, starts-so}
use Rattle.history_laws.proofs.Watching.{watch-fits}

-- It is no turn of an exchange that awaits no reply to that message.
pub other-turn : (l : List Noted) (o t : ℕ) (p : Peer) (b : List ℕ) (m : Content) (i : ℕ) (notice : Notice) → (waits_for l o ≡ Some i → ⊥)
    → turn l o (noted t (Hears p b) (Says m (Some i) notice)) ≡ Nothing
other-turn l o t p b m i notice not = by (waits_for l o) refl
  where
    by : (w : Option ℕ) → waits_for l o ≡ w → heard_turn i m notice.place w ≡ Nothing
    by None e = refl
    by (Some j) e = elim (eqb_tells j i) [
      | inl w ↦ absurd (not (e ∙ ap (λ (n : ℕ). Some n) w.1))
      | inr w ↦ rw (w.0) refl
    ]

module _ (l : List Noted) (o : ℕ) (b : Begun) (legal : Legal l) (it : StartedFor l o b) where
  abbrev k : List Noted
  k = before l o

  abbrev s : Started l o b it
  s = started l o b legal it

  abbrev w : Watch
  w = s.counts.watch

  abbrev told : IsTold l o w
  told = record {
    moment = b.since;
    peer = it.peer;
    bytes = it.bytes;
    message = it.message;
    sending = it.sending;
    notice = it.notice;
    stands = it.stands;
    response = s.counts.response;
    such = s.counts.such;
    under = s.counts.under;
  }

  abbrev tells : TellFits l o w told
  tells = tell-fits l o w legal told

  pub began-fits : IsReplyTo l it.ask (first_of l o b it)
  began-fits = subst (λ (n : ℕ). IsReplyTo l n (first_of l o b it)) s.starts.ask tells.fits

  abbrev mid : ℕ
  mid = s.watched.mid

  abbrev moment : ℕ
  moment = s.watched.moment

  first : IsFirst l moment it.ask it.sending b.request.peer (observe_message b.request mid w.held.token)
  first =
      subst (λ (n : ℕ). IsFirst l moment n it.sending b.request.peer (observe_message b.request mid w.held.token)) s.starts.ask
      (subst (λ (n : ℕ). IsFirst l moment w.held.opening n b.request.peer (observe_message b.request mid w.held.token)) (sym tells.sending)
      (subst (λ (q : CoapRequest). IsFirst l moment w.held.opening w.sending q.peer (observe_message q mid w.held.token)) s.request
      (record { bytes = s.watched.first.bytes; timeout = s.watched.first.timeout; stands = at-before l o w.sending _ s.watched.first.stands })))

  place : w.held.key.place ≡ asked_place b.request
  place = ap (λ (key : CacheKey). key.place) s.watched.key ∙ ap asked_place s.request

  -- No write has outrun the ask before.
  unoutrun : outrun k (asked_place b.request) it.ask ≡ false
  unoutrun =
      let has = find-some (is_under it.message.token) (watches k) w s.counts.under in
      subst (λ (n : ℕ). outrun k (asked_place b.request) n ≡ false) s.starts.ask
      (subst (λ (p : Place). outrun k p w.held.opening ≡ false) place (watch-current k w (legal-before l o legal) has.0))

  -- Nor does one end in its entry.
  unended-here : (v : ℕ) (how : Ending) → Ends l v o how → ⊥
  unended-here v how e =
      let last = ends-first l v o how e in
      let same : last.0 ≡ noted b.since (Hears it.peer it.bytes) (Says it.message (Some it.sending) it.notice) = some-is _ _ (sym last.1 ∙ it.stands) in
      let quiet : turn k v last.0 ≡ Nothing =
      ap (turn k v) same
      ∙ other-turn k v b.since it.peer it.bytes it.message it.sending it.notice
      (λ waited. awaited-not k v b.since it.message it.sending it.ask b.request waited s.counts.response it.said) in
      none-some how (sym (ap (end_here (begun k v) (kept k v) o (heard_for k v)) quiet) ∙ last.3)

  earlier-end : (v e : ℕ) (c : Begun) (how : Ending) → begun l v ≡ Some c → writes_at (asked_place b.request) c ≡ true → Ends l v e how → e ≤ o → e ≤ it.ask
  earlier-end v e c how opened writes ends le = elim (leb_tells e it.ask) [
    | inl u ↦ u.1
    | inr u ↦ elim (eqb_tells e o) [
      | inl same ↦ absurd (unended-here v how (subst (λ (n : ℕ). Ends l v n how) same.1 ends))
      | inr other ↦
          let f : End = record { number = e; how = how } in
          let apart = other.1 in
          let before_it = end-before l o v f (at-below l o _ it.stands) ends (omega (arith, le, apart)) in
          let was = ended-begun k v f (legal-before l o legal) before_it in
          let c_is : was.0 ≡ c = some-is _ _ (sym (begun-before l o v was.0 was.1) ∙ opened) in
          absurd (false≢true (sym unoutrun ∙ is-outrun k (asked_place b.request) it.ask (record {
            opening = v;
            write = c;
            opened = was.1 ∙ ap (λ (d : Begun). Some d) c_is;
            changes = writes;
            end = f;
            ended = before_it;
            later = u.1;
          })))
    ]
  ]

  pub began-by : IsBegunBy l o b.request (first_of l o b it)
  began-by = record {
    number = refl;
    ask = it.ask;
    goes_back = notice-behind l o b it;
    since = s.starts.exchange.since;
    asked =
        subst (λ (q : CoapRequest). begun l it.ask ≡ Some (record { since = s.starts.exchange.since; request = q })) s.starts.request
        (begun-before l o it.ask s.starts.exchange s.starts.opened);
    get = s.get;
    fits = began-fits;
    moment = moment;
    mid = mid;
    token = w.held.token;
    first = first;
    after = (sent-for l moment it.ask it.sending b.request.peer _ legal first).after;
    current = earlier-end;
  }

-- the ask that an exchange goes back to
pub record AskBehind (l : List Noted) (o : ℕ) (b : Begun) : Type 0 where
  pub number : ℕ
  pub is : ask_behind l o ≡ number
  pub not_later : number ≤ o
  pub conn : ℕ
  pub ask : Ask
  pub asked : IsAsk l number conn ask
  pub sense : ask.sense ≡ Requests b.request

pub ask-behind : (l : List Noted) (o : ℕ) (b : Begun) → Legal l → begun l o ≡ Some b → AskBehind l o b
ask-behind l o b legal opened = elim (opened-for l o b legal opened) [
  | inl it ↦ record {
    number = o;
    is = ask-own l o b legal it;
    not_later = omega arith;
    conn = it.conn;
    ask = it.ask;
    asked = record { moment = b.since; note = it.note; stands = it.stands };
    sense = it.sense;
  }
  | inr it ↦
      let s = started l o b legal it in
      let by = began-by l o b legal it in
      let after = by.after in
      let later = by.fits.after in
      let back = by.goes_back in
      let own = notice-behind l o b it in
      let f = s.watched.for_it in
      record {
        number = it.ask;
        is = notice-behind l o b it;
        not_later = omega (arith, after, later, back, own);
        conn = f.conn;
        ask = f.ask;
        asked = record {
          moment = s.watched.exchange.since;
          note = f.note;
          stands = subst (λ (n : ℕ). at l n ≡ Some (noted s.watched.exchange.since (Asks f.conn f.ask) f.note)) s.starts.ask (at-before l o s.counts.watch.held.opening _ f.stands);
        };
        sense = f.sense ∙ ap (λ (q : CoapRequest). Requests q) s.request;
      }
]

-- It is fetched of whom it came from.
pub starts-peer : (l : List Noted) (t : ℕ) (p : Peer) (m : Content) (i k : ℕ) (q : CoapRequest) → Legal l → answers l p m ≡ Some i
    → observation_of l t m (Some i) ≡ Starts k q → q.peer ≡ p
starts-peer l t p m i k q legal to said =
    let c = counted l t m i (Starts k q) refl said in
    let s = starts-so l t c.watch.held (notice_in m) (as_first 0 0 m) k q c.is in
    let u = under-watch l p m i c.watch legal c.response to c.under in
    let sent = sent-for l u.moment c.watch.held.opening i p u.sent legal u.first in
    let opened : begun l k ≡ Some sent.exchange = subst (λ (n : ℕ). begun l n ≡ Some sent.exchange) s.ask sent.opened in
    let same : sent.exchange ≡ s.exchange = some-is _ _ (sym opened ∙ s.opened) in
    sym (sent.peer ∙ ap (λ (r : CoapRequest). r.peer) (ap (λ (b : Begun). b.request) same ∙ s.request))

-- It is the one that it begins with.
pub begun-by : (l : List Noted) (o : ℕ) (b : Begun) (r : Reply) → Legal l → begun l o ≡ Some b → Contains (begins_with l o) r → IsBegunBy l o b.request r
begun-by l o b r legal opened has = elim (opened-for l o b legal opened) [
  | inl it ↦ absurd (contains-none r (subst (λ (rs : List Reply). Contains rs r) (ask-begins l o b legal it) has))
  | inr it ↦
      let one : Contains (first_of l o b it ∷ []) r = subst (λ (rs : List Reply). Contains rs r) (notice-begins l o b it) has in
      elim (first-or-later (first_of l o b it) [] r one) [
        | inl e ↦ subst (IsBegunBy l o b.request) e (began-by l o b legal it)
        | inr later ↦ absurd (contains-none r later)
      ]
]

-- What an exchange goes back to was opened no later, and no write has outrun it that hasn't outrun the exchange.
pub behind-below : (l : List Noted) (o : ℕ) (b : Begun) → Legal l → begun l o ≡ Some b → ask_behind l o ≤ o
behind-below l o b legal opened = elim (opened-for l o b legal opened) [
  | inl it ↦ let same = ask-own l o b legal it in omega (arith, same)
  | inr it ↦
      let by = began-by l o b legal it in
      let same = by.goes_back in
      let after = by.after in
      let later = by.fits.after in
      omega (arith, same, after, later)
]

pub behind-since : (l : List Noted) (k o : ℕ) (b : Begun) → begun (before l k) o ≡ Some b → ask_behind (before l k) o ≡ ask_behind l o
behind-since l k o b opened =
    let h = begun-opening (before l k) o b opened in
    behind-at (before l k) o _ h.2 ∙ sym (behind-at l o _ (at-before l k o _ h.2))

-- the same of a history that is a part of this one
module _ (l n : List Noted) (begins : (o : ℕ) (b : Begun) → begun n o ≡ Some b → begun l o ≡ Some b)
    (ends : (o : ℕ) (f : End) → end_of n o ≡ Some f → end_of l o ≡ Some f) where
  pub unoutrun-behind : (o : ℕ) (q : CoapRequest) (r : Reply) → (by : IsBegunBy l o q r) → outrun n (asked_place q) o ≡ false → outrun n (asked_place q) by.ask ≡ false
  unoutrun-behind o q r by fresh = not-true (outrun n (asked_place q) by.ask) (λ e. never (outran n (asked_place q) by.ask e))
    where
      never : Outran n (asked_place q) by.ask → ⊥
      never h = elim (leb_tells h.end.number o) [
        | inl u ↦
            let le = by.current h.opening h.end.number h.write h.end.how (begins h.opening h.write h.opened) h.changes (ends h.opening h.end h.ended) u.1 in
            let later = h.later in
            absurd (omega (arith, le, later))
        | inr u ↦ false≢true (sym fresh ∙ is-outrun n (asked_place q) o (record {
          opening = h.opening;
          write = h.write;
          opened = h.opened;
          changes = h.changes;
          end = h.end;
          ended = h.ended;
          later = u.1;
        }))
      ]

pub behind-unoutrun : (l : List Noted) (o : ℕ) (b : Begun) → Legal l → begun l o ≡ Some b → outrun l (asked_place b.request) o ≡ false
    → outrun l (asked_place b.request) (ask_behind l o) ≡ false
behind-unoutrun l o b legal opened fresh = elim (opened-for l o b legal opened) [
  | inl it ↦ ap (outrun l (asked_place b.request)) (ask-own l o b legal it) ∙ fresh
  | inr it ↦
      let by = began-by l o b legal it in
      ap (outrun l (asked_place b.request)) by.goes_back
      ∙ unoutrun-behind l l (λ o b e. e) (λ o f e. e) o b.request (first_of l o b it) by fresh
]

-- What came for a GET came to a message of its exchange, or of the ask that this goes back to.
pub record Came (l : List Noted) (o : ℕ) (r : Reply) : Type 0 where
  pub owner : ℕ
  pub owned : (owner ≡ o) ⊎ (owner ≡ ask_behind l o)
  pub fits : IsReplyTo l owner r
  pub exchange : Begun
  pub opened : begun l owner ≡ Some exchange
  pub own : (b : Begun) → begun l o ≡ Some b → exchange.request ≡ b.request

pub came-own : (l : List Noted) (o : ℕ) (r : Reply) (b : Begun) → begun l o ≡ Some b → IsReplyTo l o r → Came l o r
came-own l o r b opened fits = record {
  owner = o;
  owned = inl refl;
  fits = fits;
  exchange = b;
  opened = opened;
  own = λ c e. ap (λ (b : Begun). b.request) (some-is _ _ (sym opened ∙ e));
}

only-one : (r s : Reply) → Contains (r ∷ []) s → r ≡ s
only-one r s h = elim (first-or-later r [] s h) [ inl e ↦ e | inr k ↦ absurd (contains-none s k) ]

pub comes-fit : (l : List Noted) (o e : ℕ) (w : Response) (rs : List Reply) (r : Reply) → Legal l → ComesSo l o e w rs → Contains rs r → Came l o r
comes-fit l o e w rs r legal (inl it) has =
    let was = ended-begun l o _ legal it.ended in
    elim (Contains-append_cases (begins_with l o) (replies l o) r (made-of l o e w rs r legal it.ended has)) [
      | inl first ↦ noticed was.0 was.1 (begun-by l o was.0 r legal was.1 first)
      | inr reply ↦ came-own l o r was.0 was.1 (replies-fit l o r legal reply)
    ]
  where
    noticed : (b : Begun) → begun l o ≡ Some b → IsBegunBy l o b.request r → Came l o r
    noticed b opened by = record {
      owner = by.ask;
      owned = inr (sym by.goes_back);
      fits = by.fits;
      exchange = record { since = by.since; request = b.request };
      opened = by.asked;
      own = λ c e. ap (λ (b : Begun). b.request) (some-is _ _ (sym opened ∙ e));
    }
comes-fit l o e w rs r legal (inr u) has =
    let one = first-whole e u.sending u.message w rs u.whole in
    let fits : IsReplyTo l o r = subst (IsReplyTo l o) (only-one _ r (subst (λ (v : List Reply). Contains v r) one has)) (update-fits l o e w rs legal u) in
    let it = watch-fits (before l e) u.watch (legal-before l e legal) (find-some (is_under u.message.token) (watches (before l e)) u.watch u.under).0 in
    came-own l o r it.exchange (subst (λ (n : ℕ). begun l n ≡ Some it.exchange) u.registered (begun-before l e u.watch.held.opening it.exchange it.opened)) fits

pub begun-by-notices : BegunByNotices
begun-by-notices l o b r legal opened has = begun-by l o b r legal opened has

-- A whole response came piece by piece, and the first piece may be what the exchange begins with.
pub fetched-in-order : FetchedInOrder
fetched-in-order l o e b w rs legal opened ends = by (ordered l o e b w rs legal opened ends)
  where
    by : Ordered l o b.request rs → AreFetched l o b.request (first_point b.request) rs ⊎ IsFetchedOn l o b.request rs
    by (inl h) = inl h
    by (inr h) = inr (record {
      first = h.first;
      more = h.more;
      are = h.are;
      begun_by = begun-by l o b h.first legal opened (subst (λ (hs : List Reply). Contains hs h.first) (sym h.begins) (zero, omega arith, refl));
      fetched = h.fetched;
    })
