-- What a message that is new is to what is observed, in the history and in the state, where it answers an exchange.
use Rattle.std.proofs.Common.{◌≡◌, ℕ, Bool, true, false, cond, eqb, ltb, leb, List, [], ◌∷◌, ◌++◌, length, map, Option, Some, None, refl, sym, ap, ◌∙◌}
use Rattle.std.specs.Prelude.{◌&&◌}
use Rattle.std.proofs.lemmas.Bool.{false≢true}
use Rattle.std.proofs.lemmas.Bool.Decides.{Decides-eqb}
use Rattle.coap_codec.specs.Spelling.{Content}
use Rattle.uri_map.specs.declared.peer.Peer.{Peer}
use Rattle.observe_share.specs.declared.registration.Registration.{Registration}
use Rattle.ask_model.specs.Sharing.{asked_key}
use Rattle.journal_book.specs.Entries.{Hears}
use Rattle.history_laws.specs.Readings.{Noted, Observation, Unobserved, Registers, Says}
use Rattle.history_laws.specs.Transmissions.{FirstSending, first_at}
use Rattle.history_laws.specs.Exchanges.{Begun, begun, waits_for, opens_by, started_by}
use Rattle.history_laws.specs.Observing.{Watch, as_first, counting, counts, is_some_of, notice_by, notice_in, number_or_zero, registered as registered_in, registered_of, told_by, version, watch_under, watches, watches_by as watched_by}
use Rattle.history_laws.specs.Hearing.{answers, can_be_remembered, is_free, is_this, is_update, may_register, notice_of, notified, observation_by, observation_of, registers as registers_as, repeated}
use Rattle.history_laws.proofs.CallerLemmas.{eqb-itself, first-found, waits-first}
use Rattle.history_links.specs.Steps.{heard}
use Rattle.exchange_model.specs.declared.kept.Exchange.{Exchange}
use Rattle.exchange_model.specs.State.{State}
use Rattle.exchange_model.specs.Watching.{registered, registers, registration_of}
use Rattle.exchange_model.specs.Reads.{held_of}
use Rattle.exchange_model.specs.Matters.{asked_in}
use Rattle.exchange_model.specs.Laws.{MayHear}
use Rattle.exchange_model.proofs.Answered.{start}
use Rattle.exchange_model.proofs.Outrun.{asked-here}
use Rattle.exchange_model.proofs.Over.{AnswersIt}
use Rattle.exchange_model.proofs.Watches.{and-no, map-length}
use Rattle.exchange_model.proofs.Notices.{map-joined}

module _ (l : List Noted) (t : ℕ) (p : Peer) (d : List ℕ) (m : Content) (S : State)
    (h : MayHear l t p d S) (none : repeated l t p m ≡ None) (room : can_be_remembered l t p m ≡ true) where
  abbrev x : Noted
  x = heard l t p d m

  abbrev rs : List Registration
  rs = S.watches

  pub watches-are : map held_of (watches l) ≡ rs
  watches-are = h.before.reads.watches_are

  abbrev pub note_seen : Observation
  note_seen = observation_of l t m (answers l p m)

  -- what is observed after it, but for what the end of a write ends
  abbrev pub told : List Watch
  told = watched_by l t (Hears p d) x.note (watches l)

  pub told-of : (to : Option ℕ) (i : ℕ) (o : Observation) → to ≡ Some i → observation_of l t m to ≡ o
      → watched_by l t (Hears p d) (Says m to (notice_of l t p m to)) (watches l) ≡ told_by l t i m o (watches l)
  told-of to i o is seen =
      ap (λ (v : Option ℕ). watched_by l t (Hears p d) (Says m v (notice_of l t p m v)) (watches l)) is
      ∙ ap (λ (b : Observation). told_by l t i m b (watches l)) (ap (observation_of l t m) (sym is) ∙ seen)

  pub told-none : (to : Option ℕ) → to ≡ None → watched_by l t (Hears p d) (Says m to (notice_of l t p m to)) (watches l) ≡ watches l
  told-none to is = ap (λ (v : Option ℕ). watched_by l t (Hears p d) (Says m v (notice_of l t p m v)) (watches l)) is

  pub counting-of : (to : Option ℕ) (i : ℕ) (o : Observation) → to ≡ Some i → observation_of l t m to ≡ o
      → counting l (Says m to (notice_of l t p m to)) ≡ cond (counts o) (watch_under l m.token) None
  counting-of to i o is seen =
      ap (λ (v : Option ℕ). counting l (Says m v (notice_of l t p m v))) is
      ∙ ap (λ (b : Observation). cond (counts b) (watch_under l m.token) None) (ap (observation_of l t m) (sym is) ∙ seen)

  pub counting-none : (to : Option ℕ) → to ≡ None → counting l (Says m to (notice_of l t p m to)) ≡ None
  counting-none to is = ap (λ (v : Option ℕ). counting l (Says m v (notice_of l t p m v))) is

  -- A reply to an open exchange.
  module _ (e : Exchange) (it : AnswersIt (start l t p d m S h none room) l t p m S e) where
    i : ℕ
    i = it.sending

    sent-first : (f : FirstSending) × (first_at l it.sending ≡ Some f) × (f.opening ≡ e.opening)
    sent-first = let own = waits-first l e.opening it.sending it.waits in (_, first-found l own.0 e.opening it.sending own.1 own.2 own.3, refl)

    reply-seen : leb 32 m.code ≡ true → note_seen ≡ registers_as (may_register l e.opening m)
    reply-seen response =
        let f = sent-first in
        ap (observation_of l t m) it.answered
        ∙ (ap (λ (b : Bool). cond b (observation_by l t m it.sending (first_at l it.sending)) Unobserved) response
        ∙ (ap (observation_by l t m it.sending) f.1
        ∙ (ap (λ (o : ℕ). cond (is_this it.sending (waits_for l o)) (registers_as (may_register l o m)) (notified l t m (watch_under l m.token))) f.2
        ∙ (ap (λ (v : Option ℕ). cond (is_this it.sending v) (registers_as (may_register l e.opening m)) (notified l t m (watch_under l m.token))) it.waits
        ∙ ap (λ (b : Bool). cond b (registers_as (may_register l e.opening m)) (notified l t m (watch_under l m.token))) (eqb-itself it.sending)))))

    may-same : may_register l e.opening m ≡ registers m e rs
    may-same =
        let a = it.kept in
        ap (λ (b : Bool). b && (is_update (notice_in m) && is_free l e.opening (begun l e.opening))) a.observes
        ∙ (ap (λ (v : Option Begun). e.observes && (is_update (notice_in m) && is_free l e.opening v)) a.opening
        ∙ (ap (λ (b : Bool). e.observes && (is_update (notice_in m) && (b && ltb (length (watches l)) 64))) (sym a.current)
        ∙ ap (λ (k : ℕ). e.observes && (is_update (notice_in m) && (e.current && ltb k 64))) (sym (map-length held_of (watches l)) ∙ ap length watches-are)))

    new-held : map held_of (registered_in l t it.sending m (first_at l it.sending)) ≡ registration_of t m e (asked_in S.entries e.ask)
    new-held =
        let f = sent-first in
        let a = it.kept in
        ap (λ (v : Option FirstSending). map held_of (registered_in l t it.sending m v)) f.1
        ∙ (ap (λ (o : ℕ). map held_of (registered_of l t it.sending m o (begun l o))) f.2
        ∙ (ap (λ (v : Option Begun). map held_of (registered_of l t it.sending m e.opening v)) a.opening
        ∙ (ap (λ (k : ℕ). record { key = asked_key a.request; token = m.token; opening = e.opening; version = number_or_zero (version m); moment = t; asked = k } ∷ []) a.asked
        ∙ ap (registration_of t m e) (sym (asked-here l S h.before.reads e a)))))

    reply-told : (b : Bool) → registers m e rs ≡ b → note_seen ≡ registers_as b → map held_of told ≡ cond b (rs ++ registration_of t m e (asked_in S.entries e.ask)) rs
    reply-told true is seen =
        ap (map held_of) (told-of (answers l p m) it.sending Registers it.answered seen)
        ∙ (map-joined held_of (watches l) (registered_in l t it.sending m (first_at l it.sending))
        ∙ (ap (λ (ys : List Registration). map held_of (watches l) ++ ys) new-held
        ∙ ap (λ (ys : List Registration). ys ++ registration_of t m e (asked_in S.entries e.ask)) watches-are))
    reply-told false is seen = ap (map held_of) (told-of (answers l p m) it.sending Unobserved it.answered seen) ∙ watches-are

    counts-not : (b : Bool) → counts (registers_as b) ≡ false
    counts-not true = refl
    counts-not false = refl

    -- By a response it may register.
    pub response-told : leb 32 m.code ≡ true → map held_of told ≡ registered t m e (asked_in S.entries e.ask) rs
    response-told response =
        let seen = reply-seen response ∙ ap registers_as may-same in
        by (registers m e rs) refl seen
      where
        by : (b : Bool) → registers m e rs ≡ b → note_seen ≡ registers_as b → map held_of told ≡ cond b (rs ++ registration_of t m e (asked_in S.entries e.ask)) rs
        by b is seen = reply-told b is seen

    pub response-silent : leb 32 m.code ≡ true → counting l x.note ≡ None
    response-silent response =
        counting-of (answers l p m) it.sending _ it.answered (reply-seen response)
        ∙ ap (λ (b : Bool). cond b (watch_under l m.token) None) (counts-not (may_register l e.opening m))

    -- An RST registers nothing.
    empty-seen : leb 32 m.code ≡ false → note_seen ≡ Unobserved
    empty-seen small =
        ap (observation_of l t m) it.answered
        ∙ ap (λ (b : Bool). cond b (observation_by l t m it.sending (first_at l it.sending)) Unobserved) small

    pub empty-told : leb 32 m.code ≡ false → map held_of told ≡ rs
    empty-told small = ap (map held_of) (told-of (answers l p m) it.sending Unobserved it.answered (empty-seen small)) ∙ watches-are

    pub empty-silent : leb 32 m.code ≡ false → counting l x.note ≡ None
    empty-silent small = counting-of (answers l p m) it.sending Unobserved it.answered (empty-seen small)

    -- It begins none.
    pub answered-unopened : opens_by x.note ≡ None
    answered-unopened = by (leb 32 m.code) refl
      where
        as-none : (b : Bool) → started_by (registers_as b) ≡ None
        as-none true = refl
        as-none false = refl

        by : (b : Bool) → leb 32 m.code ≡ b → started_by note_seen ≡ None
        by true response = ap started_by (reply-seen response) ∙ as-none (may_register l e.opening m)
        by false small = ap started_by (empty-seen small)

    -- So what is observed after any answer is what the state says.
    no-update : leb 32 m.code ≡ false → registers m e rs ≡ false
    no-update small =
        ap (λ (b : Bool). e.observes && (b && (e.current && ltb (length rs) 64))) (other-code (eqb m.code 69) refl) ∙ and-no e.observes
      where
        other-code : (b : Bool) → eqb m.code 69 ≡ b → is_update (notice_by (b && is_some_of (as_first 0 0 m)) (version m)) ≡ false
        other-code false is = refl
        other-code true is = absurd (false≢true (sym small ∙ ap (leb 32) ((Decides-eqb m.code 69).0 is)))

    pub answered-told : map held_of told ≡ registered t m e (asked_in S.entries e.ask) rs
    answered-told = by (leb 32 m.code) refl
      where
        by : (b : Bool) → leb 32 m.code ≡ b → map held_of told ≡ registered t m e (asked_in S.entries e.ask) rs
        by true response = response-told response
        by false small =
            empty-told small
            ∙ sym (ap (λ (b : Bool). cond b (rs ++ registration_of t m e (asked_in S.entries e.ask)) rs) (no-update small))

    pub answered-silent : counting l x.note ≡ None
    answered-silent = by (leb 32 m.code) refl
      where
        by : (b : Bool) → leb 32 m.code ≡ b → counting l x.note ≡ None
        by true response = response-silent response
        by false small = empty-silent small

    pub registers-response : registers m e rs ≡ true → leb 32 m.code ≡ true
    registers-response is = by (leb 32 m.code) refl
      where
        by : (b : Bool) → leb 32 m.code ≡ b → b ≡ true
        by true e = refl
        by false small = absurd (false≢true (sym (no-update small) ∙ is))
