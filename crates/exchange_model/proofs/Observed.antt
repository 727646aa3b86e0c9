-- What a message that is new leaves of what is observed, and under which tokens something is expected then.
use Rattle.std.proofs.Common.{◌≡◌, ℕ, Bool, true, false, cond, not, ◌&&◌, ◌||◌, eqb, leb, List, [], ◌∷◌, ◌++◌, map, Option, Some, None, option_map, refl, sym, ap, subst, ◌∙◌, append-nil}
use Rattle.std.specs.Prelude.{filter, find, is_some}
use Rattle.std.specs.List.{Contains, list_any}
use Rattle.std.specs.Str.{bytes_eq}
use Rattle.std.proofs.lemmas.Bool.{false≢true, and_parts, eqb-true}
use Rattle.std.proofs.lemmas.Bool.Decides.{Decides-eqb}
use Rattle.std.proofs.lemmas.List.Elements.{filter_agree}
use Rattle.std.proofs.lemmas.List.Folds.{list_any-append}
use Rattle.std.proofs.lemmas.Map.Views.{Contains-from_any}
use Rattle.std.proofs.lemmas.Slice.Eq.{bytes_eq-Decides}
use Rattle.coap_codec.specs.Spelling.{Content, Spells}
use Rattle.uri_map.specs.declared.peer.Peer.{Peer}
use Rattle.uri_map.specs.Peers.{same_peer}
use Rattle.uri_map.proofs.CallerLemmas.{same_peer-same}
use Rattle.message_layer.specs.declared.verdict.News.{News}
use Rattle.message_layer.specs.declared.verdict.News.TheVariants as N
use Rattle.cache_key.specs.Keys.{same_place}
use Rattle.observe_share.specs.declared.registration.Registration.{Registration}
use Rattle.observe_share.specs.declared.notice.Notice.{Notice as Told}
use Rattle.observe_share.specs.declared.notice.Notice.TheVariants.{Update, Other}
use Rattle.observe_share.specs.Watches.{counted, heard_by, noticed, without}
use Rattle.observe_share.specs.Watches as W
use Rattle.resp_cache.specs.Stored.{Stored}
use Rattle.ask_model.specs.Requests.{CoapRequest}
use Rattle.ask_model.specs.Sharing.{asked_place}
use Rattle.history_laws.specs.Readings.{Noted}
use Rattle.history_laws.specs.Transmissions.{first_at}
use Rattle.history_laws.specs.Exchanges.{openings, waits_for, awaited}
use Rattle.history_laws.specs.Observing.{Watch, is_under as is_under_in, notice_in, watches}
use Rattle.history_laws.specs.Hearing.{answers, can_be_remembered, is_such, notice_of, repeated, went_under}
use Rattle.history_laws.specs.Justified.{Legal}
use Rattle.history_laws.proofs.CallerLemmas.{any-of, begun-listed, contains-mapped, eqb-itself, find-any, find-some, under-watch, watch-fits}
use Rattle.history_links.specs.Agrees.{awaits, expects, notified}
use Rattle.history_links.specs.Steps.{ended_token, EndsReset, Forgets, heard, IsUnnoticed}
use Rattle.history_links.proofs.CallerLemmas.{awaits-after, hit, is_ended}
use Rattle.exchange_model.specs.declared.kept.Exchange.{Exchange}
use Rattle.exchange_model.specs.State.{State, link_of}
use Rattle.exchange_model.specs.Watching.{is_one_of, is_written_by, registered, registers, registration_of, token_of, tokens_of}
use Rattle.exchange_model.specs.Reads.{held_of, IsSentUnder}
use Rattle.exchange_model.specs.Matters.{answered_in, asked_in}
use Rattle.exchange_model.specs.Hearing.{Numbers, unless_registered, unless_updated}
use Rattle.exchange_model.specs.Laws.{MayHear}
use Rattle.exchange_model.proofs.Answered.{ended, hit-one, hits, judged, none-hit, of-it, start, verdict}
use Rattle.exchange_model.proofs.Apart.{AreApart, awaited-of, comes_to, notified-tells, under-of, watch-unawaited, watches-apart}
use Rattle.exchange_model.proofs.Borne.{answers-peer}
use Rattle.exchange_model.proofs.Hearing.{among-awaited}
use Rattle.exchange_model.proofs.Left.{legal-so}
use Rattle.exchange_model.proofs.Noticing.{registers-response}
use Rattle.exchange_model.proofs.ToldAlone.{IsTold}
use Rattle.exchange_model.proofs.Notices.{found-held, waits-open}
use Rattle.exchange_model.proofs.Outrun.{asked-here}
use Rattle.exchange_model.proofs.Over.{AnswersIt, reset-empty}
use Rattle.exchange_model.proofs.Watches.{and-no, elsewhere-come, eq-turn, gone-unawaited, or-no, others-come}
use Rattle.exchange_model.proofs.Written.{none-dropped}
use Rattle.exchange_model.proofs.Watched.{renewed-come, ended-come, ended-elsewhere, observing-get, replied-token}

module _ (l : List Noted) (t : ℕ) (p : Peer) (d : List ℕ) (m : Content) (n : Numbers) (S : State) (h : MayHear l t p d S)
    (spelled : Spells m d) (none : repeated l t p m ≡ None) (room : can_be_remembered l t p m ≡ true) where
  abbrev x : Noted
  x = heard l t p d m

  abbrev rs : List Registration
  rs = S.watches

  legal-now : Legal (x ∷ l)
  legal-now = legal-so l t p d m n S h spelled none room

  are : map held_of (watches l) ≡ rs
  are = h.before.reads.watches_are

  -- what is expected after it, where this is observed
  expects-now : (after : List Registration) → map held_of (watches (x ∷ l)) ≡ after → (token : List ℕ)
      → expects (x ∷ l) p token
      ≡ ((not (is_ended (ended l t p d m S h none room) token) && awaits l p token) || list_any (comes_to p token) after)
  expects-now after left token =
      ap (λ (b : Bool). b || notified (x ∷ l) p token)
      (awaits-after l t p (link_of S.links p) d m (answers l p m) (notice_of l t p m (answers l p m)) (verdict l t p d m S h none room) h.before.reads.legal (judged l t p d m S h none room) token)
      ∙ ap (λ (b : Bool). (not (is_ended (ended l t p d m S h none room) token) && awaits l p token) || b)
      (notified-tells (x ∷ l) p token legal-now ∙ ap (list_any (comes_to p token)) left)

  expects-before : (token : List ℕ) → expects l p token ≡ (awaits l p token || list_any (comes_to p token) rs)
  expects-before token =
      ap (λ (b : Bool). awaits l p token || b) (notified-tells l p token h.before.reads.legal ∙ ap (list_any (comes_to p token)) are)

  unnoticed-by : (after : List Registration) → map held_of (watches (x ∷ l)) ≡ after → (q : Peer)
      → ((token : List ℕ) → list_any (comes_to q token) after ≡ list_any (comes_to q token) rs) → IsUnnoticed l x q
  unnoticed-by after left q same token =
      notified-tells (x ∷ l) q token legal-now
      ∙ (ap (list_any (comes_to q token)) left
      ∙ (same token ∙ sym (notified-tells l q token h.before.reads.legal ∙ ap (list_any (comes_to q token)) are)))

  come-unawaited : (token : List ℕ) → list_any (comes_to p token) rs ≡ true → awaits l p token ≡ false
  come-unawaited token comes =
      let one = find-any (comes_to p token) (map held_of (watches l)) (ap (list_any (comes_to p token)) are ∙ comes) in
      let it = find-some (comes_to p token) (map held_of (watches l)) one.0 one.1 in
      let w = contains-mapped held_of (watches l) one.0 it.0 in
      let under : one.0.token ≡ token = (bytes_eq-Decides one.0.token token).0 (and_parts (same_peer one.0.key.place.peer p) _ it.1).1 in
      subst (λ (k : List ℕ). awaits l p k ≡ false) (ap (λ (r : Registration). r.token) w.2 ∙ under)
      (watch-unawaited l w.0 p h.before.reads.legal (watch-fits l w.0 h.before.reads.legal w.1))

  -- A message that is no reply ends nothing that is awaited.
  module _ (found : answered_in (ended l t p d m S h none room) S.exchanges ≡ None) where
    never-awaited : (token : List ℕ) (i o : ℕ) → is_ended (ended l t p d m S h none room) token ≡ true → Contains (awaited l) i → waits_for l o ≡ Some i
        → went_under p token (first_at l i) ≡ true → ⊥
    never-awaited token i o is has waits went =
        let hit_it : hits l t p d m S h none room o ≡ true =
        ap (hit (answers l p m) m) waits ∙ ((judged l t p d m S h none room).awaits i token (any-of (eqb i) (awaited l) i has (eqb-itself i)) went ∙ is) in
        let e = hit-one l t p d m S h none room o (waits-open l o i h.before.reads.legal waits) hit_it in
        false≢true (sym (none-hit l t p d m S h none room found e.0 e.1)
        ∙ subst (λ (k : ℕ). hits l t p d m S h none room k ≡ true) (sym e.2) hit_it)

    ended-unawaited : (token : List ℕ) → is_ended (ended l t p d m S h none room) token ≡ true → awaits l p token ≡ false
    ended-unawaited token is = by (awaits l p token) refl
      where
        by : (b : Bool) → awaits l p token ≡ b → b ≡ false
        by false e = refl
        by true e =
            let one = find-any (λ (i : ℕ). went_under p token (first_at l i)) (awaited l) e in
            let it = find-some (λ (i : ℕ). went_under p token (first_at l i)) (awaited l) one.0 one.1 in
            let o = awaited-of l (openings l) one.0 it.0 in
            absurd (never-awaited token one.0 o.0 is it.0 o.1 it.1)

    awaits-stay : (token : List ℕ) → (not (is_ended (ended l t p d m S h none room) token) && awaits l p token) ≡ awaits l p token
    awaits-stay token = by (is_ended (ended l t p d m S h none room) token) refl
      where
        by : (b : Bool) → is_ended (ended l t p d m S h none room) token ≡ b → (not b && awaits l p token) ≡ awaits l p token
        by false e = refl
        by true e = sym (ended-unawaited token e)

    pub silent-forgets : map held_of (watches (x ∷ l)) ≡ rs → Forgets l x p (is_one_of [])
    silent-forgets left token =
        expects-now rs left token
        ∙ (ap (λ (b : Bool). b || list_any (comes_to p token) rs) (awaits-stay token) ∙ sym (expects-before token))

    pub silent-resets : EndsReset l p (verdict l t p d m S h none room).news (is_one_of [])
    silent-resets of is awaited =
        absurd (false≢true (sym (ended-unawaited of (ap (λ (n : News). is_ended (ended_token n m.token) of) is ∙ (bytes_eq-Decides of of).1 refl)) ∙ awaited))

    pub silent-unnoticed : map held_of (watches (x ∷ l)) ≡ rs → (q : Peer) → IsUnnoticed l x q
    silent-unnoticed left q = unnoticed-by rs left q (λ token. refl)

    -- A notification that counts leaves its watch with what it told, or ends it.
    module _ (r : Registration) (stored : Option Stored) (k : IsTold l t p d m S h none room found r stored) where
      found-r : find (W.is_under m.token) rs ≡ Some r
      found-r =
          ap (find (W.is_under m.token)) (sym are)
          ∙ (found-held m.token (watches l) ∙ (ap (λ (v : Option Watch). option_map held_of v) k.under ∙ ap (λ (z : Registration). Some z) k.held))

      token-of : r.token ≡ m.token
      token-of = (bytes_eq-Decides r.token m.token).0 (find-some (W.is_under m.token) rs r found-r).1

      -- It is of the peer that was heard.
      of-peer : (q : Peer) → same_peer p q ≡ false → same_peer r.key.place.peer q ≡ false
      of-peer q away =
          let has = find-some (is_under_in m.token) (watches l) k.watch k.under in
          let fits = watch-fits l k.watch h.before.reads.legal has.0 in
          let u = under-of l k.watch fits in
          let it = under-watch l p m k.sending k.watch h.before.reads.legal k.response k.to k.under in
          let own : first_at l k.sending ≡ Some u.first = ap (first_at l) it.sending ∙ u.is in
          let peer = answers-peer l p m k.sending u.first k.to own in
          let same : r.key.place.peer ≡ p = ap (λ (z : Registration). z.key.place.peer) (sym k.held) ∙ (sym u.peer ∙ same_peer-same u.first.peer p peer) in
          ap (λ (v : Peer). same_peer v q) same ∙ away

      ends-so : (v : Option ℕ) → notice_in m ≡ Other v → heard_by (notice_in m) t r ≡ None
      ends-so v is =
          ap (λ (b : Bool). cond b (counted (notice_in m) t r) (Some r)) (and_parts (is_such m.kind) _ k.counted).1
          ∙ ap (λ (z : Told). counted z t r) is

      pub told-forgets : map held_of (watches (x ∷ l)) ≡ noticed m.token (notice_in m) t rs → (z : Told) → notice_in m ≡ z
          → Forgets l x p (is_one_of (unless_updated z r))
      told-forgets left (Update v) is token =
          expects-now (noticed m.token (Update v) t rs) (left ∙ ap (λ (z : Told). noticed m.token z t rs) is) token
          ∙ (ap (λ (b : Bool). (not (is_ended (ended l t p d m S h none room) token) && awaits l p token) || b) (renewed-come p token m.token v t rs)
          ∙ (ap (λ (b : Bool). b || list_any (comes_to p token) rs) (awaits-stay token) ∙ sym (expects-before token)))
      told-forgets left (Other v) is token =
          expects-now (noticed m.token (notice_in m) t rs) left token
          ∙ (ap (λ (b : Bool). (not (is_ended (ended l t p d m S h none room) token) && awaits l p token) || b)
          (ended-come p token m.token (notice_in m) t rs r (subst AreApart are (watches-apart l h.before.reads.legal)) found-r (ends-so v is))
          ∙ (ap (λ (e : Bool). (not e && awaits l p token) || (not (bytes_eq token m.token) && list_any (comes_to p token) rs)) ended-is
          ∙ (both (bytes_eq token m.token) (awaits l p token) (list_any (comes_to p token) rs)
          ∙ (ap (λ (g : Bool). not g && (awaits l p token || list_any (comes_to p token) rs)) gone-is
          ∙ ap (λ (b : Bool). not (is_one_of (r.token ∷ []) token) && b) (sym (expects-before token))))))
        where
          ended-is : is_ended (ended l t p d m S h none room) token ≡ bytes_eq token m.token
          ended-is = ap (λ (y : News). is_ended (ended_token y m.token) token) k.news_is

          gone-is : bytes_eq token m.token ≡ is_one_of (r.token ∷ []) token
          gone-is = ap (bytes_eq token) (sym token-of) ∙ sym (or-no (bytes_eq token r.token))

          both : (e a c : Bool) → ((not e && a) || (not e && c)) ≡ (not e && (a || c))
          both true a c = refl
          both false a c = refl

      pub told-resets : (gone : List ℕ → Bool) → EndsReset l p (verdict l t p d m S h none room).news gone
      told-resets gone of is awaited = absurd (never (sym k.news_is ∙ is))
        where
          never : N.Response ≡ N.Reset of → ⊥
          never e = cc

      pub told-unnoticed : map held_of (watches (x ∷ l)) ≡ noticed m.token (notice_in m) t rs → (z : Told) → notice_in m ≡ z → (q : Peer) → same_peer p q ≡ false → IsUnnoticed l x q
      told-unnoticed left (Update v) is q away =
          unnoticed-by (noticed m.token (Update v) t rs) (left ∙ ap (λ (z : Told). noticed m.token z t rs) is) q (λ token. renewed-come q token m.token v t rs)
      told-unnoticed left (Other v) is q away =
          unnoticed-by (noticed m.token (notice_in m) t rs) left q
          (λ token. ended-elsewhere q token m.token (notice_in m) t rs r found-r (of-peer q away) (ends-so v is))

  -- The exchange that it answers.
  module _ (e : Exchange) (it : AnswersIt (start l t p d m S h none room) l t p m S e) where
    abbrev asked : Option CoapRequest
    asked = asked_in S.entries e.ask

    i : ℕ
    i = it.sending

    under-it : IsSentUnder l e.peer e.token (Some it.sending)
    under-it = subst (IsSentUnder l e.peer e.token) (sym it.kept.awaits ∙ it.waits) it.kept.sent

    at-peer : same_peer e.peer p ≡ true
    at-peer = ap (λ (q : Peer). same_peer q p) (sym under-it.2) ∙ answers-peer l p m it.sending under-it.0 it.answered under-it.1

    awaited-it : awaits l p e.token ≡ true
    awaited-it =
        any-of (λ (i : ℕ). went_under p e.token (first_at l i)) (awaited l) it.sending
        (Contains-from_any eqb-true it.sending (awaited l) (among-awaited (waits_for l) it.sending e.opening it.waits (openings l) (any-of (eqb e.opening) (openings l) e.opening (begun-listed l e.opening (ap is_some it.kept.opening)) (eqb-itself e.opening))))
        (ap (went_under p e.token) under-it.1
        ∙ (ap (λ (q : Peer). same_peer q p && bytes_eq under-it.0.message.token e.token) under-it.2
        ∙ (ap (λ (b : Bool). b && bytes_eq under-it.0.message.token e.token) at-peer
        ∙ (bytes_eq-Decides under-it.0.message.token e.token).1 under-it.3)))

    -- Nothing is told under its token.
    uncome : (token : List ℕ) → bytes_eq token e.token ≡ true → list_any (comes_to p token) rs ≡ false
    uncome token same = by (list_any (comes_to p token) rs) refl
      where
        by : (b : Bool) → list_any (comes_to p token) rs ≡ b → b ≡ false
        by false f = refl
        by true f =
            let is : token ≡ e.token = (bytes_eq-Decides token e.token).0 same in
            absurd (false≢true (sym (come-unawaited token f) ∙ (ap (awaits l p) is ∙ awaited-it)))

    awaited-so : (token : List ℕ) → bytes_eq token e.token ≡ true → awaits l p token ≡ true
    awaited-so token same = ap (awaits l p) ((bytes_eq-Decides token e.token).0 same) ∙ awaited-it

    ended-so : (token : List ℕ) → is_ended (ended l t p d m S h none room) token ≡ bytes_eq token e.token
    ended-so token = ap (λ (v : Option (List ℕ)). is_ended v token) (of-it l t p d m S h none room e it)

    -- what it registers comes under its token, from its peer
    new-comes : (q : Peer) (token : List ℕ) → registers m e rs ≡ true
        → list_any (comes_to q token) (registration_of t m e asked) ≡ (same_peer e.peer q && bytes_eq token e.token)
    new-comes q token is =
        ap (λ (v : Option CoapRequest). list_any (comes_to q token) (registration_of t m e v)) (asked-here l S h.before.reads e it.kept)
        ∙ (or-no (same_peer it.kept.request.peer q && bytes_eq m.token token)
        ∙ (ap (λ (v : Peer). same_peer v q && bytes_eq m.token token) it.kept.peer
        ∙ ap (λ (b : Bool). same_peer e.peer q && b) (eq-turn m.token token ∙ ap (bytes_eq token) m-token)))
      where
        m-token : m.token ≡ e.token
        m-token = replied-token l t p m S e.token (of-it l t p d m S h none room e it) (registers-response l t p d m S h none room e it is)

    registered-comes : (q : Peer) (token : List ℕ) (b : Bool) → registers m e rs ≡ b
        → list_any (comes_to q token) (registered t m e asked rs) ≡ (list_any (comes_to q token) rs || (b && (same_peer e.peer q && bytes_eq token e.token)))
    registered-comes q token true is =
        ap (λ (c : Bool). list_any (comes_to q token) (cond c (rs ++ registration_of t m e asked) rs)) is
        ∙ (list_any-append (comes_to q token) rs (registration_of t m e asked)
        ∙ ap (λ (b : Bool). list_any (comes_to q token) rs || b) (new-comes q token is))
    registered-comes q token false is =
        ap (λ (c : Bool). list_any (comes_to q token) (cond c (rs ++ registration_of t m e asked) rs)) is
        ∙ sym (or-no (list_any (comes_to q token) rs))

    gone-of : (b : Bool) (token : List ℕ) → registers m e rs ≡ b → is_one_of (unless_registered m e rs) token ≡ (not b && bytes_eq token e.token)
    gone-of true token is = ap (λ (c : Bool). is_one_of (cond c [] (e.token ∷ [])) token) is
    gone-of false token is = ap (λ (c : Bool). is_one_of (cond c [] (e.token ∷ [])) token) is ∙ or-no (bytes_eq token e.token)

    -- the truth of it, where this is what is registered, and its own token the one that is asked about or not
    settled-bools : (g e a c : Bool) → (e ≡ true → a ≡ true) → (e ≡ true → c ≡ false)
        → ((not e && a) || (c || (g && e))) ≡ (not (not g && e) && (a || c))
    settled-bools true true a c f k = ap (λ (b : Bool). b || true) (k refl) ∙ sym (ap (λ (b : Bool). b || c) (f refl))
    settled-bools true false a c f k = ap (λ (b : Bool). a || b) (or-no c)
    settled-bools false true a c f k = or-no c ∙ k refl
    settled-bools false false a c f k = ap (λ (b : Bool). a || b) (or-no c)

    pub registered-forgets : map held_of (watches (x ∷ l)) ≡ registered t m e asked rs → Forgets l x p (is_one_of (unless_registered m e rs))
    registered-forgets left token = by (registers m e rs) refl
      where
        by : (b : Bool) → registers m e rs ≡ b → expects (x ∷ l) p token ≡ (not (is_one_of (unless_registered m e rs) token) && expects l p token)
        by b is =
            expects-now (registered t m e asked rs) left token
            ∙ (ap (λ (k : Bool). (not k && awaits l p token) || list_any (comes_to p token) (registered t m e asked rs)) (ended-so token)
            ∙ (ap (λ (k : Bool). (not (bytes_eq token e.token) && awaits l p token) || k) (registered-comes p token b is)
            ∙ (ap (λ (k : Bool). (not (bytes_eq token e.token) && awaits l p token) || (list_any (comes_to p token) rs || (b && (k && bytes_eq token e.token)))) at-peer
            ∙ (settled-bools b (bytes_eq token e.token) (awaits l p token) (list_any (comes_to p token) rs) (awaited-so token) (uncome token)
            ∙ (ap (λ (k : Bool). not k && (awaits l p token || list_any (comes_to p token) rs)) (sym (gone-of b token is))
            ∙ ap (λ (k : Bool). not (is_one_of (unless_registered m e rs) token) && k) (sym (expects-before token)))))))

    -- where it rejects the message, nothing is registered
    pub answered-resets : (more : List (List ℕ)) → EndsReset l p (verdict l t p d m S h none room).news (is_one_of (unless_registered m e rs ++ more))
    answered-resets more of is awaited =
        list_any-append (bytes_eq of) (unless_registered m e rs) more
        ∙ (ap (λ (b : Bool). b || is_one_of more of) (gone-of false of unregistered ∙ same))
      where
        unregistered : registers m e rs ≡ false
        unregistered = by (registers m e rs) refl
          where
            by : (b : Bool) → registers m e rs ≡ b → b ≡ false
            by false f = refl
            by true f =
                let response = registers-response l t p d m S h none room e it f in
                let zero = (Decides-eqb m.code 0).0 (reset-empty l t p m S of is) in
                absurd (false≢true (ap (leb 32) (sym zero) ∙ response))

        same : bytes_eq of e.token ≡ true
        same = (bytes_eq-Decides of e.token).1 (some-token (ap (λ (y : News). ended_token y m.token) (sym is) ∙ of-it l t p d m S h none room e it))
          where
            some-token : Some of ≡ Some e.token → of ≡ e.token
            some-token f = cc

    pub registered-unnoticed : map held_of (watches (x ∷ l)) ≡ registered t m e asked rs → (q : Peer) → same_peer p q ≡ false → IsUnnoticed l x q
    registered-unnoticed left q away = unnoticed-by (registered t m e asked rs) left q (λ token. by token (registers m e rs) refl)
      where
        elsewhere : same_peer e.peer q ≡ false
        elsewhere = ap (λ (v : Peer). same_peer v q) (same_peer-same e.peer p at-peer) ∙ away

        by : (token : List ℕ) (b : Bool) → registers m e rs ≡ b → list_any (comes_to q token) (registered t m e asked rs) ≡ list_any (comes_to q token) rs
        by token b is =
            registered-comes q token b is
            ∙ (ap (λ (k : Bool). list_any (comes_to q token) rs || (b && (k && bytes_eq token e.token))) elsewhere
            ∙ (ap (λ (k : Bool). list_any (comes_to q token) rs || k) (and-no b) ∙ or-no (list_any (comes_to q token) rs)))

    -- A write registers nothing, and ends what is observed at its place.
    module _ (write : eqb it.kept.request.method 1 ≡ false) where
      abbrev drop : Registration → Bool
      drop = is_written_by asked

      unregistered : registers m e rs ≡ false
      unregistered = by (registers m e rs) refl
        where
          by : (b : Bool) → registers m e rs ≡ b → b ≡ false
          by false f = refl
          by true f =
              let observing = (and_parts e.observes _ f).0 in
              absurd (false≢true (sym write ∙ observing-get l e h.before.reads.legal it.kept observing))

      dropped-left : map held_of (watches (x ∷ l)) ≡ without drop (registered t m e asked rs) → map held_of (watches (x ∷ l)) ≡ without drop rs
      dropped-left left = left ∙ ap (λ (c : Bool). without drop (cond c (rs ++ registration_of t m e asked) rs)) unregistered

      write-bools : (e g a c : Bool) → (e ≡ true → c ≡ false) → (g ≡ true → a ≡ false)
          → ((not e && a) || (not g && c)) ≡ (not (e || g) && (a || c))
      write-bools true g a c f k = ap (λ (b : Bool). not g && b) (f refl) ∙ and-no (not g)
      write-bools false true a c f k = or-no a ∙ k refl
      write-bools false false a c f k = refl

      write-forgets : map held_of (watches (x ∷ l)) ≡ without drop (registered t m e asked rs)
          → Forgets l x p (is_one_of (unless_registered m e rs ++ tokens_of drop rs))
      write-forgets left token =
          expects-now (without drop rs) (dropped-left left) token
          ∙ (ap (λ (k : Bool). (not k && awaits l p token) || list_any (comes_to p token) (without drop rs)) (ended-so token)
          ∙ (ap (λ (k : Bool). (not (bytes_eq token e.token) && awaits l p token) || k)
          (others-come p token drop rs (subst AreApart are (watches-apart l h.before.reads.legal)))
          ∙ (write-bools (bytes_eq token e.token) (is_one_of (tokens_of drop rs) token) (awaits l p token) (list_any (comes_to p token) rs) (uncome token) unawaited
          ∙ (ap (λ (k : Bool). not k && (awaits l p token || list_any (comes_to p token) rs)) (sym gone-is)
          ∙ ap (λ (k : Bool). not (is_one_of (unless_registered m e rs ++ tokens_of drop rs) token) && k) (sym (expects-before token))))))
        where
          unawaited : is_one_of (tokens_of drop rs) token ≡ true → awaits l p token ≡ false
          unawaited g = gone-unawaited l p token drop h.before.reads.legal (ap (λ (ss : List Registration). is_one_of (tokens_of drop ss) token) are ∙ g)

          gone-is : is_one_of (unless_registered m e rs ++ tokens_of drop rs) token ≡ (bytes_eq token e.token || is_one_of (tokens_of drop rs) token)
          gone-is =
              list_any-append (bytes_eq token) (unless_registered m e rs) (tokens_of drop rs)
              ∙ ap (λ (b : Bool). b || is_one_of (tokens_of drop rs) token) (gone-of false token unregistered)

      dropped-away : (q : Peer) → same_peer p q ≡ false → (r : Registration) → drop r ≡ true → same_peer r.key.place.peer q ≡ false
      dropped-away q away r is =
          let a = it.kept in
          let at : same_place r.key.place (asked_place a.request) ≡ true =
          (and_parts (not (eqb a.request.method 1)) _ (ap (λ (v : Option CoapRequest). is_written_by v r) (sym (asked-here l S h.before.reads e a)) ∙ is)).1 in
          let peer : same_peer r.key.place.peer a.request.peer ≡ true = (and_parts (same_peer r.key.place.peer a.request.peer) _ at).0 in
          let same : r.key.place.peer ≡ p = same_peer-same r.key.place.peer a.request.peer peer ∙ (a.peer ∙ same_peer-same e.peer p at-peer) in
          ap (λ (v : Peer). same_peer v q) same ∙ away

      write-unnoticed : map held_of (watches (x ∷ l)) ≡ without drop (registered t m e asked rs) → (q : Peer) → same_peer p q ≡ false → IsUnnoticed l x q
      write-unnoticed left q away =
          unnoticed-by (without drop rs) (dropped-left left) q (λ token. elsewhere-come q token drop rs (dropped-away q away))

    -- A GET ends none.
    module _ (get : eqb it.kept.request.method 1 ≡ true) where
      none-written : (r : Registration) → is_written_by asked r ≡ false
      none-written r =
          ap (λ (v : Option CoapRequest). is_written_by v r) (asked-here l S h.before.reads e it.kept)
          ∙ ap (λ (b : Bool). not b && W.is_at (asked_place it.kept.request) r) get

      get-left : without (is_written_by asked) (registered t m e asked rs) ≡ registered t m e asked rs
      get-left = filter_agree _ _ (λ r. ap not (none-written r)) (registered t m e asked rs) ∙ none-dropped (registered t m e asked rs)

      no-tokens : (ss : List Registration) → tokens_of (is_written_by asked) ss ≡ []
      no-tokens ss = ap (map token_of) (filter_agree (is_written_by asked) (λ (r : Registration). false) none-written ss ∙ nothing ss)
        where
          nothing : (ss : List Registration) → filter (λ (r : Registration). false) ss ≡ []
          nothing [] = refl
          nothing (s ∷ ss) = nothing ss

    -- Either way it is so.
    pub over-forgets : map held_of (watches (x ∷ l)) ≡ without (is_written_by asked) (registered t m e asked rs)
        → Forgets l x p (is_one_of (unless_registered m e rs ++ tokens_of (is_written_by asked) rs))
    over-forgets left = by (eqb it.kept.request.method 1) refl
      where
        by : (b : Bool) → eqb it.kept.request.method 1 ≡ b → Forgets l x p (is_one_of (unless_registered m e rs ++ tokens_of (is_written_by asked) rs))
        by false write = write-forgets write left
        by true get =
            subst (λ (ks : List (List ℕ)). Forgets l x p (is_one_of (unless_registered m e rs ++ ks))) (sym (no-tokens get rs))
            (subst (λ (ks : List (List ℕ)). Forgets l x p (is_one_of ks)) (sym (append-nil (unless_registered m e rs)))
            (registered-forgets (left ∙ get-left get)))

    pub over-unnoticed : map held_of (watches (x ∷ l)) ≡ without (is_written_by asked) (registered t m e asked rs) → (q : Peer) → same_peer p q ≡ false → IsUnnoticed l x q
    over-unnoticed left q away = by (eqb it.kept.request.method 1) refl
      where
        by : (b : Bool) → eqb it.kept.request.method 1 ≡ b → IsUnnoticed l x q
        by false write = write-unnoticed write left q away
        by true get = registered-unnoticed (left ∙ get-left get) q away
