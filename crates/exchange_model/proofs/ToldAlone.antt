-- What a message that is new and answers no exchange is to what is observed, in the history and in the state.
use Rattle.std.proofs.Common.{◌≡◌, ℕ, Bool, true, false, cond, eqb, leb, List, length, map, Option, Some, None, option_map, refl, sym, ap, subst, ◌∙◌, inl, inr}
use Rattle.exchange_model.proofs.Noticing.{counting-none, counting-of, note_seen as seen_in, told as told_in, told-none, told-of, watches-are}
use Rattle.exchange_model.proofs.Starting.{counts-going, first-alike, going-none, read-same, told-going}
use Rattle.exchange_model.proofs.Stepping.{room-same}
use Rattle.ask_model.specs.Requests.{CoapRequest}
use Rattle.cache_key.specs.Keys.{CacheKey}
use Rattle.history_laws.specs.Progress.{Progress, Ending, Ends}
use Rattle.std.specs.Prelude.{find, is_some, ◌&&◌, not}
use Rattle.std.specs.List.{list_any}
use Rattle.std.proofs.lemmas.Bool.{false≢true, and_parts}
use Rattle.std.proofs.lemmas.List.Folds.{list_any-append}
use Rattle.coap_codec.specs.Spelling.{Content}
use Rattle.coap_codec.specs.declared.message.MsgType.{MsgType}
use Rattle.coap_codec.specs.declared.message.MsgType.TheVariants.{Con, Non, Ack, Rst}
use Rattle.uri_map.specs.declared.peer.Peer.{Peer}
use Rattle.message_layer.specs.Hearing.{is_awaited}
use Rattle.message_layer.specs.declared.verdict.News.{News}
use Rattle.message_layer.specs.declared.verdict.News.TheVariants as N
use Rattle.observe_share.specs.declared.notice.Notice as Shared
use Rattle.observe_share.specs.declared.notice.Notice.TheVariants.{Update, Other}
use Rattle.observe_share.specs.declared.registration.Registration.{Registration}
use Rattle.observe_share.specs.Watches.{counts_for, noticed}
use Rattle.observe_share.specs.Watches as W
use Rattle.resp_cache.specs.Stored.{Stored}
use Rattle.ask_model.specs.Sharing.{asked_key, is_get}
use Rattle.history_laws.specs.Readings.{Noted, Observation, Unobserved, Outdates, Starts}
use Rattle.history_laws.specs.Transmissions.{FirstSending, first_at}
use Rattle.history_laws.specs.Exchanges.{Begun, begun, waits_for, awaited, opens_by, started_by}
use Rattle.history_laws.specs.Observing.{Watch, as_first, counting, is_under, notice_in, watch_under, watched, watches}
use Rattle.history_laws.specs.Hearing.{answers, answers_by, can_be_remembered, counts_as, expected, is_such, is_this, is_under as is_under_at, may_register, notified, observation_by, observation_of, registers as registers_as, repeated, has_room, is_read, starts_for}
use Rattle.history_laws.proofs.CallerLemmas.{any-find, eqb-itself, this-is, IsGoing, find-some, sent-for, some-is, under-watch, watch-fits, WatchFits, AskedFor}
use Rattle.history_links.specs.Steps.{heard}
use Rattle.history_links.proofs.CallerLemmas.{hit, is_to, ends_by}
use Rattle.exchange_model.specs.declared.kept.Exchange.{Exchange}
use Rattle.exchange_model.specs.State.{State, link_of}
use Rattle.exchange_model.specs.Watching.{counts_to}
use Rattle.exchange_model.specs.Reads.{held_of}
use Rattle.exchange_model.specs.Matters.{Matter, Nothing, Tells, Goes, Over, answered_in, found_in, matter_by, matter_of, tells_of, told_alone, Starts as StartsIt, is_reading, has_place, may_start, starting, told_so}
use Rattle.exchange_model.specs.Laws.{MayHear}
use Rattle.exchange_model.proofs.Answered.{ended, hit-one, hits, judged, none-hit, verdict}
use Rattle.exchange_model.proofs.Borne.{answers-first}
use Rattle.exchange_model.proofs.Watches.{and-no}
use Rattle.exchange_model.proofs.Notices.{found-held, changed-held, counted-told, news-by, waits-open}

module _ (l : List Noted) (t : ℕ) (p : Peer) (d : List ℕ) (m : Content) (S : State)
    (h : MayHear l t p d S) (none : repeated l t p m ≡ None) (room : can_be_remembered l t p m ≡ true) where
  abbrev x : Noted
  x = heard l t p d m

  abbrev rs : List Registration
  rs = S.watches

  abbrev note_seen : Observation
  note_seen = seen_in l t p d m S h none room

  abbrev told : List Watch
  told = told_in l t p d m S h none room

  -- A message that is no reply to an open exchange.
  module _ (found : answered_in (ended l t p d m S h none room) S.exchanges ≡ None) where
    abbrev news : News
    news = (verdict l t p d m S h none room).news

    pub matter-alone : matter_of t p m (verdict l t p d m S h none room) S ≡ told_alone t p news m S
    matter-alone = ap (matter_by t p news _ m S) found

    unwaited : (i : ℕ) → answers l p m ≡ Some i → leb 32 m.code ≡ true → (f : FirstSending) → first_at l i ≡ Some f → is_this i (waits_for l f.opening) ≡ false
    unwaited i to response f is = by (is_this i (waits_for l f.opening)) refl
      where
        by : (b : Bool) → is_this i (waits_for l f.opening) ≡ b → b ≡ false
        by false e = refl
        by true e = absurd (never (this-is i (waits_for l f.opening) e))
          where
            responds : (k : MsgType) → leb 32 m.code ≡ true → ends_by k m.code ≡ true
            responds Con r = r
            responds Non r = r
            responds Ack r = r
            responds Rst r = refl

            hit-is : waits_for l f.opening ≡ Some i → hits l t p d m S h none room f.opening ≡ true
            hit-is waits =
                ap (hit (answers l p m) m) waits
                ∙ (ap (λ (to : Option ℕ). is_to to i && ends_by m.kind m.code) to ∙ rw (eqb-itself i) (responds m.kind response))

            never : waits_for l f.opening ≡ Some i → ⊥
            never waits =
                let open_one = waits-open l f.opening i h.before.reads.legal waits in
                let e = hit-one l t p d m S h none room f.opening open_one (hit-is waits) in
                false≢true (sym (none-hit l t p d m S h none room found e.0 e.1)
                ∙ subst (λ (o : ℕ). hits l t p d m S h none room o ≡ true) (sym e.2) (hit-is waits))

    -- it is a notification, or nothing
    pub record IsTold (r : Registration) (stored : Option Stored) : Type 0 where
      pub sending : ℕ
      pub to : answers l p m ≡ Some sending
      pub response : leb 32 m.code ≡ true
      pub such : is_such m.kind ≡ true
      pub watch : Watch
      pub under : watch_under l m.token ≡ Some watch
      pub held : watch.held ≡ r
      pub counted : counts_to t m r ≡ true
      pub seen : note_seen ≡ counts_as l t r (notice_in m) (as_first 0 0 m)
      pub is_stored : stored ≡ found_in t S (notice_in m) r.opening (as_first (length S.entries) 0 m)
      pub news_is : news ≡ N.Response

    -- and it begins an exchange, which fetches the rest of it
    pub record IsStarted (r : Registration) (e : Exchange) (u : Progress) : Type 0 where
      pub is_told : IsTold r None
      pub exchange : Begun
      pub opened : AskedFor l r.opening exchange
      pub key : r.key ≡ asked_key exchange.request
      pub get : is_get exchange.request ≡ true
      pub peer : exchange.request.peer ≡ p
      pub starts : note_seen ≡ Starts r.opening exchange.request
      pub begins : e ≡ starting t p r u S
      pub first : u ≡ as_first (length S.entries) 0 m
      pub goes : IsGoing u
      pub version_is : ℕ
      pub update : notice_in m ≡ Update version_is

    pub record IsSilent : Type 0 where
      pub uncounted : counting l x.note ≡ None
      pub unopened : opens_by x.note ≡ None
      pub stays : map held_of told ≡ rs

    abbrev pub IsAlone : Matter → Type 0
    IsAlone Nothing = IsSilent
    IsAlone (Tells r stored) = IsTold r stored × (opens_by x.note ≡ None)
    IsAlone (StartsIt r e progress) = IsStarted r e progress
    IsAlone (Goes e progress) = ⊥
    IsAlone (Over e how) = ⊥

    unseen : note_seen ≡ Unobserved → IsSilent
    unseen seen = by (answers l p m) refl seen
      where
        by : (to : Option ℕ) → answers l p m ≡ to → observation_of l t m (answers l p m) ≡ Unobserved → IsSilent
        by None is seen = record { uncounted = counting-none l t p d m S h none room (answers l p m) is; unopened = ap started_by seen; stays = ap (map held_of) (told-none l t p d m S h none room (answers l p m) is) ∙ (watches-are l t p d m S h none room) }
        by (Some i) is seen = record {
          uncounted = counting-of l t p d m S h none room (answers l p m) i Unobserved is seen;
          unopened = ap started_by seen;
          stays = ap (map held_of) (told-of l t p d m S h none room (answers l p m) i Unobserved is seen) ∙ (watches-are l t p d m S h none room);
        }

    seen-as : (i : ℕ) → answers l p m ≡ Some i → leb 32 m.code ≡ true → (f : FirstSending) → first_at l i ≡ Some f → note_seen ≡ notified l t m (watch_under l m.token)
    seen-as i to response f is =
        ap (observation_of l t m) to
        ∙ (ap (λ (b : Bool). cond b (observation_by l t m i (first_at l i)) Unobserved) response
        ∙ (ap (observation_by l t m i) is
        ∙ ap (λ (b : Bool). cond b (registers_as (may_register l f.opening m)) (notified l t m (watch_under l m.token))) (unwaited i to response f is)))

    -- one that counts for this watch
    module _ (i : ℕ) (to : answers l p m ≡ Some i) (response : leb 32 m.code ≡ true) (is_news : news ≡ N.Response) (w : Watch) (under : watch_under l m.token ≡ Some w) (counts_it : counts_to t m w.held ≡ true)
        (counted_as : note_seen ≡ counts_as l t w.held (notice_in m) (as_first 0 0 m)) where
      abbrev r : Registration
      r = w.held

      abbrev u : Progress
      u = as_first (length S.entries) 0 m

      tells : (stored : Option Stored) → stored ≡ found_in t S (notice_in m) r.opening u → IsTold r stored
      tells stored is_stored = record {
        sending = i;
        to = to;
        response = response;
        such = (and_parts (is_such m.kind) _ counts_it).0;
        watch = w;
        under = under;
        held = refl;
        counted = counts_it;
        seen = counted_as;
        is_stored = is_stored;
        news_is = is_news;
      }

      fits : WatchFits l w
      fits = watch-fits l w h.before.reads.legal (find-some (is_under m.token) (watches l) w under).0

      abbrev q : CoapRequest
      q = fits.exchange.request

      get : is_get q ≡ true
      get = (and_parts (is_get q) _ fits.may).0

      peer : q.peer ≡ p
      peer =
          let it = under-watch l p m i w h.before.reads.legal response to under in
          let sent = sent-for l it.moment w.held.opening i p it.sent h.before.reads.legal it.first in
          ap (λ (b : Begun). b.request.peer) (some-is _ _ (sym fits.opened ∙ sent.opened)) ∙ sym sent.peer

      -- whether its rest is fetched is the same in the history and in the state
      same-room : (has_room l t q && not (is_read l q)) ≡ may_start t p r S
      same-room =
          ap (λ (b : Bool). b && not (is_read l q)) (room-same l t q S h.before ∙ ap (λ (k : Peer). has_place t k S) peer)
          ∙ ap (λ (b : Bool). has_place t p S && not b) (read-same l S h.before.reads q get ∙ ap (λ (k : CacheKey). list_any (is_reading S.entries k) S.exchanges) (sym fits.key))

      starts-as : starts_for l t r.opening (begun l r.opening) ≡ cond (may_start t p r S) (Starts r.opening q) Outdates
      starts-as =
          ap (starts_for l t r.opening) fits.opened
          ∙ ap (λ (b : Bool). cond b (Starts r.opening q) Outdates) same-room

      none-found : (v : ℕ) → notice_in m ≡ Update v → IsGoing u → None ≡ found_in t S (notice_in m) r.opening u
      none-found v is_v goes = sym (ap (λ (n : Shared.Notice). found_in t S n r.opening u) is_v ∙ going-none t S r.opening v u goes)

      begins : (v : ℕ) → notice_in m ≡ Update v → IsGoing u → (b : Bool) → may_start t p r S ≡ b → note_seen ≡ cond b (Starts r.opening q) Outdates
          → IsAlone (cond b (StartsIt r (starting t p r u S) u) (Tells r None))
      begins v is_v goes true may seen_so = record {
        is_told = tells None (none-found v is_v goes);
        exchange = fits.exchange;
        opened = fits.for_it;
        key = fits.key;
        get = get;
        peer = peer;
        starts = seen_so;
        begins = refl;
        first = refl;
        goes = goes;
        version_is = v;
        update = is_v;
      }
      begins v is_v goes false may seen_so = (
        tells None (none-found v is_v goes),
        ap started_by seen_so,
      )

      going-on : (v : ℕ) → notice_in m ≡ Update v → IsGoing u → IsGoing (as_first 0 0 m) → IsAlone (told_so t p S r (Update v) u)
      going-on v is_v goes was =
          subst IsAlone (sym (told-going t p S r v u goes))
          (begins v is_v goes (may_start t p r S) refl
          (counted_as ∙ (ap (λ (n : Shared.Notice). counts_as l t r n (as_first 0 0 m)) is_v ∙ (counts-going l t r v (as_first 0 0 m) was ∙ starts-as))))

      ends-so : (v : ℕ) → notice_in m ≡ Update v → (how : Ending) → u ≡ Ends how → (was : Ending) → as_first 0 0 m ≡ Ends was → IsAlone (told_so t p S r (Update v) u)
      ends-so v is_v how is_u was is_w =
          subst (λ (k : Progress). IsAlone (told_so t p S r (Update v) k)) (sym is_u) (
            tells (found_in t S (Update v) r.opening (Ends how)) (sym (ap (λ (n : Shared.Notice). found_in t S n r.opening u) is_v ∙ ap (found_in t S (Update v) r.opening) is_u)),
            ap started_by (counted_as ∙ (ap (λ (n : Shared.Notice). counts_as l t r n (as_first 0 0 m)) is_v ∙ ap (counts_as l t r (Update v)) is_w)),
          )

      so : IsAlone (told_so t p S r (notice_in m) u)
      so = by (notice_in m) refl
        where
          by : (n : Shared.Notice) → notice_in m ≡ n → IsAlone (told_so t p S r n u)
          by (Other v) is_n = (
            tells None (sym (ap (λ (n : Shared.Notice). found_in t S n r.opening u) is_n)),
            ap started_by (counted_as ∙ ap (λ (n : Shared.Notice). counts_as l t r n (as_first 0 0 m)) is_n),
          )
          by (Update v) is_n = elim (first-alike (length S.entries) m) [
            | inl it ↦ ends-so v is_n it.0 it.1 it.2 it.3
            | inr it ↦ going-on v is_n it.0 it.1
          ]

    -- what comes of it where it was expected
    told-by : (i : ℕ) → answers l p m ≡ Some i → leb 32 m.code ≡ true → note_seen ≡ notified l t m (watch_under l m.token) → news ≡ N.Response
        → IsAlone (tells_of t p m S (find (W.is_under m.token) rs))
    told-by i to response seen is_news =
        subst (λ (v : Option Registration). IsAlone (tells_of t p m S v))
        (sym (ap (find (W.is_under m.token)) (sym (watches-are l t p d m S h none room)) ∙ found-held m.token (watches l)))
        (by (watch_under l m.token) refl seen)
      where
        count : (w : Watch) → watch_under l m.token ≡ Some w → (b : Bool) → counts_to t m w.held ≡ b
            → note_seen ≡ cond b (counts_as l t w.held (notice_in m) (as_first 0 0 m)) Unobserved
            → IsAlone (cond b (told_so t p S w.held (notice_in m) (as_first (length S.entries) 0 m)) Nothing)
        count w under false is seen = unseen seen
        count w under true is seen = so i to response is_news w under is seen

        by : (v : Option Watch) → watch_under l m.token ≡ v → note_seen ≡ notified l t m v → IsAlone (tells_of t p m S (option_map held_of v))
        by None under seen = unseen seen
        by (Some w) under seen = count w under (counts_to t m w.held) refl seen

    -- by its kind
    found-first : (i : ℕ) → answers l p m ≡ Some i → (f : FirstSending) × (first_at l i ≡ Some f)
    found-first i to = answers-first l p m i to

    own : is_such m.kind ≡ true → (to : Option ℕ) → find (is_under_at l p m) (expected l) ≡ to → answers l p m ≡ answers_by l p m Con (eqb m.code 0) (leb 32 m.code)
        → IsAlone (told_alone t p news m S)
    own such to is kinds = by (leb 32 m.code) refl to is
      where
        remembered : (verdict l t p d m S h none room).remembered ≡ true
        remembered = (judged l t p d m S h none room).remembered ∙ such

        link_is : list_any (is_awaited m.token) (link_of S.links p).awaited ≡ is_some (find (is_under_at l p m) (expected l))
        link_is =
            (h.before.reads.links_are p).awaits m.token
            ∙ (sym (list_any-append (is_under_at l p m) (awaited l) (watched l)) ∙ any-find (is_under_at l p m) (expected l))

        news_is : news ≡ cond (leb 32 m.code && is_some (find (is_under_at l p m) (expected l))) N.Response N.Quiet
        news_is =
            news-by t (link_of S.links p) m m.kind such remembered
            ∙ ap (λ (b : Bool). cond (leb 32 m.code && b) N.Response N.Quiet) link_is

        quiet : news ≡ N.Quiet → note_seen ≡ Unobserved → IsAlone (told_alone t p news m S)
        quiet q seen = subst (λ (n : News). IsAlone (told_alone t p n m S)) (sym q) (unseen seen)

        small-seen : leb 32 m.code ≡ false → note_seen ≡ Unobserved
        small-seen small = each (answers l p m)
          where
            each : (to : Option ℕ) → observation_of l t m to ≡ Unobserved
            each None = refl
            each (Some i) = ap (λ (b : Bool). cond b (observation_by l t m i (first_at l i)) Unobserved) small

        by : (r : Bool) → leb 32 m.code ≡ r → (v : Option ℕ) → find (is_under_at l p m) (expected l) ≡ v → IsAlone (told_alone t p news m S)
        by false r v f = quiet (news_is ∙ ap (λ (b : Bool). cond (b && is_some (find (is_under_at l p m) (expected l))) N.Response N.Quiet) r) (small-seen r)
        by true r None f =
            quiet
            (news_is ∙ (ap (λ (v : Option ℕ). cond (leb 32 m.code && is_some v) N.Response N.Quiet) f ∙ ap (λ (b : Bool). cond b N.Response N.Quiet) (and-no (leb 32 m.code))))
            (ap (observation_of l t m) (kinds ∙ (ap (answers_by l p m Con (eqb m.code 0)) r ∙ f)))
        by true r (Some i) f =
            let to : answers l p m ≡ Some i = kinds ∙ (ap (answers_by l p m Con (eqb m.code 0)) r ∙ f) in
            let first = found-first i to in
            let heard_so : news ≡ N.Response =
            news_is ∙ (ap (λ (v : Option ℕ). cond (leb 32 m.code && is_some v) N.Response N.Quiet) f ∙ ap (λ (b : Bool). cond (b && true) N.Response N.Quiet) r) in
            subst (λ (n : News). IsAlone (told_alone t p n m S)) (sym heard_so) (told-by i to r (seen-as i to r first.0 first.1) heard_so)

    -- an ACK or RST is no notification
    other : is_such m.kind ≡ false → note_seen ≡ Unobserved → IsAlone (told_alone t p news m S)
    other not_such seen = by news
      where
        none-tells : (v : Option Registration) → IsAlone (tells_of t p m S v)
        none-tells None = unseen seen
        none-tells (Some r) =
            subst (λ (b : Bool). IsAlone (cond b (told_so t p S r (notice_in m) (as_first (length S.entries) 0 m)) Nothing))
            (sym (ap (λ (b : Bool). b && counts_for (notice_in m) t r) not_such)) (unseen seen)

        by : (n : News) → IsAlone (told_alone t p n m S)
        by N.Response = none-tells (find (W.is_under m.token) rs)
        by N.Quiet = unseen seen
        by (N.Reset of) = unseen seen
        by N.Lost = unseen seen

    not-counted : is_such m.kind ≡ false → (v : Option Watch) → notified l t m v ≡ Unobserved
    not-counted not_such None = refl
    not-counted not_such (Some w) = ap (λ (b : Bool). cond (b && counts_for (notice_in m) t w.held) (counts_as l t w.held (notice_in m) (as_first 0 0 m)) Unobserved) not_such

    acked : is_such m.kind ≡ false → note_seen ≡ Unobserved
    acked not_such = by (answers l p m) refl (leb 32 m.code) refl
      where
        by : (to : Option ℕ) → answers l p m ≡ to → (r : Bool) → leb 32 m.code ≡ r → note_seen ≡ Unobserved
        by None is r e = ap (observation_of l t m) is
        by (Some i) is false e = ap (observation_of l t m) is ∙ ap (λ (b : Bool). cond b (observation_by l t m i (first_at l i)) Unobserved) e
        by (Some i) is true e = let first = found-first i is in seen-as i is e first.0 first.1 ∙ not-counted not_such (watch_under l m.token)

    pub alone : IsAlone (told_alone t p news m S)
    alone = by m.kind refl
      where
        by : (k : MsgType) → m.kind ≡ k → IsAlone (told_alone t p news m S)
        by Con is = own (ap is_such is) (find (is_under_at l p m) (expected l)) refl (ap (λ (k : MsgType). answers_by l p m k (eqb m.code 0) (leb 32 m.code)) is)
        by Non is = own (ap is_such is) (find (is_under_at l p m) (expected l)) refl (own-kind (ap (λ (k : MsgType). answers_by l p m k (eqb m.code 0) (leb 32 m.code)) is))
          where
            own-kind : answers l p m ≡ answers_by l p m Non (eqb m.code 0) (leb 32 m.code) → answers l p m ≡ answers_by l p m Con (eqb m.code 0) (leb 32 m.code)
            own-kind e = e ∙ same (leb 32 m.code)
              where
                same : (b : Bool) → answers_by l p m Non (eqb m.code 0) b ≡ answers_by l p m Con (eqb m.code 0) b
                same true = refl
                same false = refl
        by Ack is = other (ap is_such is) (acked (ap is_such is))
        by Rst is = other (ap is_such is) (acked (ap is_such is))

    -- what a notification leaves
    module _ (r : Registration) (stored : Option Stored) (k : IsTold r stored) where
      pub told-changed : map held_of told ≡ noticed m.token (notice_in m) t rs
      told-changed =
          ap (map held_of) (told-of l t p d m S h none room (answers l p m) k.sending (counts_as l t r (notice_in m) (as_first 0 0 m)) k.to k.seen
          ∙ (counted-told l t k.sending m r (notice_in m) (as_first 0 0 m) (watches l)).0)
          ∙ (changed-held m t (watches l) ∙ ap (noticed m.token (notice_in m) t) (watches-are l t p d m S h none room))

      pub told-counting : counting l x.note ≡ Some k.watch
      told-counting =
          counting-of l t p d m S h none room (answers l p m) k.sending (counts_as l t r (notice_in m) (as_first 0 0 m)) k.to k.seen
          ∙ (ap (λ (b : Bool). cond b (watch_under l m.token) None) (counted-told l t k.sending m r (notice_in m) (as_first 0 0 m) (watches l)).1 ∙ k.under)
