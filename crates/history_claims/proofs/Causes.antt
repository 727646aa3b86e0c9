-- An own answer names its cause.
use Rattle.std.proofs.Common.{◌≡◌, ℕ, ◌+◌, ◌<◌, ◌≤◌, ◌⊎◌, true, inl, inr, List, [], ◌∷◌, ◌++◌, length, Option, Some, None, refl, sym, ap, subst, ◌∙◌, arith, append_assoc}
use Rattle.std.specs.Prelude.{is_none}
use Rattle.std.proofs.lemmas.Bool.Decides.{eqb_tells, leb_tells}
use Rattle.std.specs.List.{Contains}
use Rattle.std.proofs.lemmas.Bool.{false≢true, or_cases}
use Rattle.std.proofs.lemmas.List.Elements.{Contains-push}
use Rattle.limits.specs.declared.TheConstants.{MAX_TRANSMIT_WAIT}
use Rattle.coap_codec.specs.declared.message.MsgType.TheVariants.{Rst}
use Rattle.coap_codec.specs.declared.block.Block.{Block}
use Rattle.coap_codec.specs.Spelling.{Content}
use Rattle.uri_map.specs.declared.peer.Peer.{Peer}
use Rattle.ask_model.specs.Requests.{CoapRequest, Requests, Refuses}
use Rattle.ask_model.specs.Views.{Ask}
use Rattle.ask_model.specs.declared.cause.Cause.{Cause}
use Rattle.ask_model.specs.declared.cause.Cause.TheVariants as C
use Rattle.journal_book.specs.Entries.{Fault, Answers, Hears, Passes, Written}
use Rattle.history_laws.specs.Confirmations.{empty}
use Rattle.history_laws.specs.Connections.{is_open}
use Rattle.history_laws.specs.Readings.{Noted, Note, Plain, Says, entries, at, before, noted}
use Rattle.history_laws.specs.Progress.{Reply, Ending, Reset, TimedOut, Turned}
use Rattle.history_laws.specs.Transmissions.{Transmission, given_up, transmission, sent_last}
use Rattle.history_laws.specs.Exchanges.{opens_by, Begun, begun, late_by, is_late, Expired, expires, turn, waits_for, replies, kept, end_here, end_of, ask_behind, begins_with, heard_for}
use Rattle.history_laws.specs.Justified.{IsAsk, IsTurnedAway as WasTurnedAway, IsRefused as WasRefused, IsOverdue, Caused, Ends, reads, pending, Follows, MayCome, Legal, Stands}
use Rattle.history_laws.specs.Laws.{IsFirst}
use Rattle.history_laws.proofs.CallerLemmas.{at-before, at-below, at-newest, at-same, at-still, before-twice, begun-before, begun-early, ends-first, follows-at, IsFirst-below, legal-before, length-before, none-after-end, none-some, replies-fit, sent-for, some-is, waits-first}
use Rattle.history_claims.specs.Headline.{IsEntry, IsSentFor, IsHeard, IsUnanswered}
use Rattle.history_claims.specs.Causes.{IsUnsettled, IsUnsent, IsTurnedAway, IsCutOff, IsRepliedTo, IsTimedOut, IsGivenUp, IsReset, IsRefused, IsCausedBy, AreCaused}
use Rattle.history_claims.proofs.Entries.{entries-at, newest-before}
use Rattle.history_claims.proofs.Sending.{first-before, sent-as}
use Rattle.history_claims.proofs.Repeats.{heard-entry}
use Rattle.history_claims.proofs.Waiting.{unanswered-till, IsLatest, last-newest, latest}
use Rattle.history_claims.proofs.Hands.{no-input}
use Rattle.history_claims.proofs.Alike.{sent-like}
use Rattle.history_claims.proofs.Asking.{answers-ask, asked-by}
use Rattle.history_claims.proofs.Pending.{unsent-in}
use Rattle.history_claims.proofs.Readers.{Reads, reads-at}
use Rattle.history_claims.proofs.Ending.{turn-expired, reset-turn, expired-turn, rejected-in}
use Rattle.history_claims.proofs.Unsent.{Over, none-for-other, sent-last-none, sent-last-first}
use Rattle.history_claims.proofs.GivenUp.{unsettled-till, given-up-at}
use Rattle.history_claims.proofs.Alone.{alone}
use Rattle.history_claims.proofs.Crowded.{crowded-at}
use Rattle.history_claims.proofs.Halted.{stands-as, not-understood, unsent-after, cut-off, replied-last}

not-late : (t : ℕ) (b : Begun) → late_by t b ≡ true → b.since + MAX_TRANSMIT_WAIT ≤ t
not-late t b e = elim (leb_tells (b.since + MAX_TRANSMIT_WAIT) t) [ inl v ↦ v.1 | inr v ↦ absurd (false≢true (sym v.0 ∙ e)) ]

-- an exchange that is past its end was opened so long ago
late-since : (l : List Noted) (n k s : ℕ) (b : Begun) → begun l k ≡ Some b → is_late s (begun (before l n) k) ≡ true → b.since + MAX_TRANSMIT_WAIT ≤ s
late-since l n k s b opened late = go (begun (before l n) k) refl late
  where
    go : (o : Option Begun) → begun (before l n) k ≡ o → is_late s o ≡ true → b.since + MAX_TRANSMIT_WAIT ≤ s
    go None is h = absurd (false≢true h)
    go (Some a) is h =
        subst (λ (b : Begun). b.since + MAX_TRANSMIT_WAIT ≤ s) (some-is a b (sym (begun-before l n k a is) ∙ opened)) (not-late s a h)

hears-not : (s t : ℕ) (p : Peer) (b : List ℕ) (u v : Note) → noted s (Hears p b) u ≡ noted t Passes v → ⊥
hears-not s t p b u v e = go (ap (λ (x : Noted). x.written.deed) e)
  where
    go : Hears p b ≡ Passes → ⊥
    go f = cc

plain-opens : (q : CoapRequest) → opens_by Plain ≡ Some q → ⊥
plain-opens q e = none-some q e

-- an answer that stands, with what it answers
module _ (l : List Noted) (n t c k : ℕ) (cause : Cause) (j : ℕ) (legal : Legal l) (note : Note)
    (here : at l n ≡ Some (noted t (Answers c k (Fault cause j)) note)) (ask : Ask) (asked : IsAsk (before l n) k c ask) where
  len : length (before l n) ≡ n
  len = length-before l n _ here

  below : (i : ℕ) (x : Noted) → at (before l n) i ≡ Some x → i < n
  below i x e = subst (λ (m : ℕ). i < m) len (at-below (before l n) i x e)

  earlier : (i : ℕ) (x : Noted) → at (before l n) i ≡ Some x → x.written.moment ≤ t
  earlier i x e =
      let a = at-newest (before l n) i x (legal-before l n legal) e in
      let b = newest-before l n _ legal here in
      omega (arith, a, b)

  turned-away : WasTurnedAway (before l n) k → IsTurnedAway (entries l) c k
  turned-away h =
      let stands = at-before l n k _ h.stands in
      record {
        moment = h.moment;
        request = h.request;
        asked = asked-by l n c k ask (Requests h.request) h.moment h.conn h.ask Plain asked stands h.sense;
        alone = alone l k h.moment h.conn h.ask h.request legal stands h.sense;
        crowded = crowded-at l k h.moment h.conn h.ask h.request legal stands h.sense;
        unsent = unsent-in l k k k h.request legal
            (λ t i p m late. none-for-other l k h.conn h.moment h.ask Plain legal stands plain-opens t i p m)
            (λ t i p m late. none-for-other l k h.conn h.moment h.ask Plain legal stands plain-opens t i p m);
      }

  refused : (cause : Cause) → WasRefused (before l n) k cause → IsRefused (entries l) c k cause
  refused cause h =
      record {
        moment = h.asked.moment;
        status = h.status;
        asked = asked-by l n c k ask (Refuses cause h.status) h.asked.moment h.conn h.ask h.asked.note asked (at-before l n k _ h.asked.stands) h.sense;
      }

  ask-before : k < n
  ask-before = below k _ asked.stands

  early : Legal (before l n)
  early = legal-before l n legal

  -- an exchange that the ask reads
  module _ (o : ℕ) (own : reads (before l n) k ≡ Some o) where
    x : Reads l n c k o
    x = reads-at l n c k o ask _ legal here asked own

    abbrev q : CoapRequest
    q = x.request

    -- how it ended stands in an entry before
    reset : Ends (before l n) o j Reset → (j < n) × IsReset (entries l) c k j
    reset h =
        let end = ends-first (before l n) o j Reset h in
        let y : Noted = end.0 in
        let late = before (before l n) j in
        let u = reset-turn (begun late o) (kept late o) (turn late o y) j (heard_for late o) end.3 in
        let it = rejected-in late o y (follows-at (before l n) j y early end.1) u in
        let first = first-before l n _ o _ _ _ (first-before (before l n) j it.sent_at o it.sending it.peer it.sent it.first) in
        let sent = sent-as l it.sent_at o it.sending it.peer it.sent x.exchange legal x.opened first in
        let peer : it.peer ≡ q.peer = sent.0 ∙ x.like.peer in
        let there : at l j ≡ Some y = at-before l n j y end.1 in
        let said : Noted = noted y.written.moment (Hears it.peer it.bytes) (Says it.message (Some it.sending) it.notice) in
        let twice : late ≡ before l j = before-twice l n j _ here (below j y end.1) in
        let unsettled : IsUnsettled (entries l) it.peer it.sending it.sent j =
        unsettled-till l j y it.sent_at o it.sending it.peer it.sent it.way legal there
        (subst (λ (v : List Noted). IsFirst v it.sent_at o it.sending it.peer it.sent) twice it.first)
        (subst (λ (v : List Noted). transmission v it.sending ≡ Some it.way) twice it.on_way)
        (subst (λ (v : List Noted). waits_for v o ≡ Some it.sending) twice it.waited) in (
          below j y end.1,
          record {
            request = q;
            opening = ask_behind l o;
            since = x.exchange.since;
            entry = o;
            shared = x.shared;
            live = x.later j Reset h;
            sending = it.sending;
            sent = it.sent;
            block = sent.1;
            sent_for = sent-like (entries l) o x.exchange.request q sent.1 it.sending it.sent x.like sent.2;
            after = subst (λ (m : ℕ). it.sending < m) (length-before (before l n) j y end.1) (IsFirst-below late it.sent_at o it.sending it.peer it.sent it.first);
            unsettled = subst (λ (p : Peer). IsUnsettled (entries l) p it.sending it.sent j) peer unsettled;
            reset = y.written.moment;
            heard = subst (λ (p : Peer). IsHeard (entries l) p j y.written.moment (empty Rst it.sent.mid)) peer
                (heard-entry l it.peer j y.written.moment it.bytes (empty Rst it.sent.mid) said.note (stands-as l j y said there it.entry) it.spelled);
          },
        )

    -- the message for the ask, to which no reply came, or the latest one, or none
    abbrev Unheard : Type 0
    Unheard = (m : Content) × (block : Option Block) × IsSentFor (entries l) o q block j m × IsUnanswered (entries l) q.peer j m n

    abbrev Named : Type 0
    Named = Unheard ⊎ (IsRepliedTo (entries l) n k o (ask_behind l o) q j ⊎ ((j ≡ k) × IsUnsent (entries l) o k o q))

    abbrev IsNamed : Type 0
    IsNamed = (sent_last (before l n) o ≡ Some j) ⊎ ((sent_last (before l n) o ≡ None) × (j ≡ k))

    abbrev IsOver : Type 0
    IsOver =
        (x.exchange.since + MAX_TRANSMIT_WAIT ≤ t)
        ⊎ ((m : Content) × (block : Option Block) × IsSentFor (entries l) o q block j m × IsGivenUp (entries l) k t q.peer j m)

    -- the latest first sending of the exchange
    last-first : sent_last (before l n) o ≡ Some j → (s : ℕ) × (p : Peer) × (m : Content) × IsFirst (before l n) s o j p m
    last-first some =
        let ask = ask-before in
        let first = x.not_later in
        sent-last-first (before l n) o j x.exchange early (begun-early l n o x.exchange (at-below l n _ here) x.opened (omega (arith, first, ask))) some

    -- which is the newest of them, also before its end
    newest : sent_last (before l n) o ≡ Some j → (s i : ℕ) (p : Peer) (m : Content) → IsFirst (before l n) s o i p m → i ≤ j
    newest some s i p m f = last-newest (before l n) s o i j p m some f

    first-then : (e : ℕ) (how : Ending) → Ends (before l n) o e how → (s : ℕ) (p : Peer) (m : Content) → IsFirst (before l n) s o j p m
        → IsFirst (before (before l n) e) s o j p m
    first-then e how h s p m f =
        let end = ends-first (before l n) o e how h in
        let sooner = none-after-end (before l n) s o j e p m how early f h in
        record { bytes = f.bytes; timeout = f.timeout; stands = at-still (before l n) e j _ _ end.1 sooner f.stands }

    latest-then : (e : ℕ) (how : Ending) → Ends (before l n) o e how → sent_last (before l n) o ≡ Some j
        → IsLatest (waits_for (before (before l n) e) o) (replies (before (before l n) e) o) j
    latest-then e how h some =
        let end = ends-first (before l n) o e how h in
        let f = last-first some in
        latest (before (before l n) e) f.0 o j f.1 f.2 (first-then e how h f.0 f.1 f.2 f.3) end.2
        (λ s i p m g. newest some s i p m (first-before (before l n) e s o i p m g))

    -- a tick found the exchange past its end, or its message given up
    expired : (e : ℕ) → IsNamed → Ends (before l n) o e TimedOut → IsOver
    expired e named h =
        let end = ends-first (before l n) o e TimedOut h in
        let y : Noted = end.0 in
        let s : ℕ = y.written.moment in
        let u : turn (before l e) o y ≡ Expired =
        subst (λ (v : List Noted). turn v o y ≡ Expired) twice (expired-turn (begun (before (before l n) e) o) (kept (before (before l n) e) o) (turn (before (before l n) e) o y) e (heard_for (before (before l n) e) o) end.3) in
        let it = turn-expired (before l e) o y u in
        let tick = at-before l n e y end.1 ∙ ap (λ (v : Noted). Some v) it.entry in
        go (waits_for (before l e) o) refl s y.note (earlier e y end.1) tick it.over
      where
        by-late : (s : ℕ) → s ≤ t → is_late s (begun (before l e) o) ≡ true → IsOver
        by-late s soon late = let since = late-since l e o s x.exchange x.opened late in inl (omega (arith, since, soon))

        that-one : (i : ℕ) → waits_for (before (before l n) e) o ≡ Some i → (s : ℕ) (p : Peer) (m : Content) → IsFirst (before l n) s o i p m
            → IsNamed → i ≡ j
        that-one i waits s p m soon (inl some) =
            elim (latest-then e TimedOut h some) [ inl w ↦ some-is _ _ (sym waits ∙ w) | inr w ↦ absurd (none-some i (sym w.4 ∙ waits)) ]
        that-one i waits s p m soon (inr none) = absurd (sent-last-none (before l n) s o i p m none.0 soon)

        twice : before (before l n) e ≡ before l e
        twice = let end = ends-first (before l n) o e TimedOut h in before-twice l n e _ here (below e end.0 end.1)

        by-tick : (i s : ℕ) (note : Note) → s ≤ t → at l e ≡ Some (noted s Passes note) → waits_for (before l e) o ≡ Some i
            → (y : Option Transmission) → transmission (before l e) i ≡ y → given_up s y ≡ true → IsOver
        by-tick i s note soon tick waits None is over = absurd (false≢true over)
        by-tick i s note soon tick waits (Some y) is over =
            let w = waits-first (before l e) o i waits in
            let first : IsFirst l w.0 o i w.1 w.2 = first-before l e w.0 o i w.1 w.2 w.3 in
            let lt = subst (λ (m : ℕ). i < m) (length-before l e _ tick) (at-below (before l e) i _ w.3.stands) in
            let up = given-up-at l w.0 o i w.1 w.2 k e s t note y legal first (x.later e TimedOut h) lt tick is over waits soon in
            let sent = sent-as l w.0 o i w.1 w.2 x.exchange legal x.opened first in
            let was : IsFirst (before l n) w.0 o i w.1 w.2 =
            first-before (before l n) e w.0 o i w.1 w.2 (subst (λ (v : List Noted). IsFirst v w.0 o i w.1 w.2) (sym twice) w.3) in
            let same : i ≡ j = that-one i (subst (λ (v : List Noted). waits_for v o ≡ Some i) (sym twice) waits) w.0 w.1 w.2 was named in
            let given = subst (λ (p : Peer). IsGivenUp (entries l) k t p i w.2) (sent.0 ∙ x.like.peer) up in
            let for_it = sent-like (entries l) o x.exchange.request q sent.1 i w.2 x.like sent.2 in
            inr (subst (λ (j : ℕ). (m : Content) × (block : Option Block) × IsSentFor (entries l) o q block j m × IsGivenUp (entries l) k t q.peer j m) same
            (w.2, sent.1, for_it, given))

        go : (w : Option ℕ) → waits_for (before l e) o ≡ w → (s : ℕ) (note : Note) → s ≤ t → at l e ≡ Some (noted s Passes note)
            → expires (before l e) o s w ≡ true → IsOver
        go None is s note soon tick over = by-late s soon over
        go (Some i) is s note soon tick over =
            elim (or_cases (is_late s (begun (before l e) o)) (given_up s (transmission (before l e) i)) over) [
              | inl late ↦ by-late s soon late
              | inr up ↦ by-tick i s note soon tick is (transmission (before l e) i) refl up
            ]

    -- No reply came to the message of an exchange that timed out.
    abbrev HasTimedOut : Type 0
    HasTimedOut = ((e : ℕ) × Ends (before l n) o e TimedOut) ⊎ IsOverdue (before l n) t o

    -- an input may come before what is heard; and none comes after the end
    heard-late : (e i s : ℕ) (p : Peer) (m : Content) → Ends (before l n) o e TimedOut → e < i → i < n → IsHeard (entries l) p i s m → ⊥
    heard-late e i s p m ended late less h =
        let there = entries-at l i _ h.stands in
        let stands = at-still l n i _ _ here less there.1 in
        no-input (before l n) c k o e TimedOut ask early asked own ended (x.later e TimedOut ended) (opened-still (follows-at l n _ legal here))
        (waits-still (follows-at l n _ legal here))
        i _ late stands (comes (before (before l n) i) s p h.bytes there.0 (follows-at (before l n) i _ early stands))
      where
        opened-still : Follows (before l n) t (Answers c k (Fault cause j)) note → is_open (before l n) c ≡ true
        opened-still may = may.1

        waits-still : Follows (before l n) t (Answers c k (Fault cause j)) note → pending (before l n) c ≡ Some k
        waits-still may = may.2

        comes : (v : List Noted) (s : ℕ) (p : Peer) (b : List ℕ) (note : Note) → Follows v s (Hears p b) note → MayCome v
        comes v s p b note may = may.0

    unanswered-then : (e : ℕ) (h : Ends (before l n) o e TimedOut) (s : ℕ) (p : Peer) (m : Content) → IsFirst (before l n) s o j p m
        → waits_for (before (before l n) e) o ≡ Some j → IsUnanswered (entries l) p j m n
    unanswered-then e h s p m first waits i y less r =
        let end = ends-first (before l n) o e TimedOut h in
        let there = at-before l n e end.0 end.1 in
        let twice : before (before l n) e ≡ before l e = before-twice l n e _ here (below e end.0 end.1) in
        elim (leb_tells e i) [
          | inl w ↦ elim (eqb_tells e i) [
            | inl u ↦ absurd (not-heard e i end.0 p y r.moment u.1 there end.3 r.heard)
            | inr u ↦ let le = w.1 in let not = u.1 in absurd (heard-late e i r.moment p y h (omega (arith, le, not)) less r.heard)
          ]
          | inr w ↦
              unanswered-till l e end.0 s o j p m legal (legal-before l e legal) there
              (subst (λ (v : List Noted). IsFirst v s o j p m) twice (first-then e TimedOut h s p m first))
              (subst (λ (v : List Noted). waits_for v o ≡ Some j) twice waits) i y w.1 r
        ]
      where
        -- the end is a tick
        not-heard : (e i : ℕ) (y : Noted) (p : Peer) (z : Content) (s : ℕ) → e ≡ i → at l e ≡ Some y
            → end_here (begun (before (before l n) e) o) (kept (before (before l n) e) o) e (heard_for (before (before l n) e) o) (turn (before (before l n) e) o y) ≡ Some TimedOut → IsHeard (entries l) p i s z → ⊥
        not-heard e i y p z s same there ends h =
            let it = turn-expired (before (before l n) e) o y (expired-turn (begun (before (before l n) e) o) (kept (before (before l n) e) o) (turn (before (before l n) e) o y) e (heard_for (before (before l n) e) o) ends) in
            let tick = stands-as l e y _ there it.entry in
            let heard = entries-at l i _ h.stands in
            hears-not s y.written.moment p h.bytes heard.0 y.note
            (at-same l i _ _ heard.1 (subst (λ (e : ℕ). at l e ≡ Some (noted y.written.moment Passes y.note)) same tick))

    over-now : HasTimedOut → Over o (before l n)
    over-now (inl end) = inl (ap is_none end.1)
    over-now (inr due) = inr due.0

    -- No reply came to it, or the last of all did.
    unheard : (s : ℕ) (p : Peer) (m : Content) → IsFirst (before l n) s o j p m → IsUnanswered (entries l) p j m n → Unheard
    unheard s p m f none =
        let sent = sent-as l s o j p m x.exchange legal x.opened (first-before l n s o j p m f) in (
          m,
          sent.1,
          sent-like (entries l) o x.exchange.request q sent.1 j m x.like sent.2,
          subst (λ (p : Peer). IsUnanswered (entries l) p j m n) (sent.0 ∙ x.like.peer) none,
        )

    -- it was opened before its message was sent
    was-opened : (v : List Noted) (s : ℕ) (p : Peer) (m : Content) → Legal v → ((b : Begun) → begun v o ≡ Some b → begun l o ≡ Some b)
        → IsFirst v s o j p m → begun v o ≡ Some x.exchange
    was-opened v s p m legal grown f =
        let it = sent-for v s o j p m legal f in
        it.opened ∙ ap (λ (b : Begun). Some b) (some-is _ _ (sym (grown it.exchange it.opened) ∙ x.opened))

    -- what was heard ends so
    heard-so : (v : List Noted) (others : List Reply) (last : Reply) → replies v o ≡ others ++ last ∷ []
        → heard_for v o ≡ (begins_with v o ++ others) ++ last ∷ []
    heard-so v others last e =
        ap (λ (rs : List Reply). begins_with v o ++ rs) e ∙ sym (append_assoc (begins_with v o) others (last ∷ []))

    last-before : (v : List Noted) (others : List Reply) (last : Reply) → Legal v → replies v o ≡ others ++ last ∷ [] → length v ≤ n → last.number < n
    last-before v others last legal all le =
        let has : Contains (replies v o) last = subst (λ (rs : List Reply). Contains rs last) (sym all) (Contains-push others last) in
        let fits = replies-fit v o last legal has in
        let lt = at-below v last.number _ fits.heard in
        omega (arith, lt, le)

    named-by : HasTimedOut → sent_last (before l n) o ≡ Some j → Named
    named-by (inr due) some =
        let f = last-first some in
        elim (latest (before l n) f.0 o j f.1 f.2 f.3 due.1 (newest some)) [
          | inl waits ↦ inl (unheard f.0 f.1 f.2 f.3 (unanswered-till l n _ f.0 o j f.1 f.2 legal early here f.3 waits))
          | inr w ↦
              inr (inl (replied-last l n t c k o (Fault cause j) legal note here x j n _ here (was-opened (before l n) f.0 f.1 f.2 early (λ b e. begun-before l n o b e) f.3) due.1
              (over-now (inr due)) (newest some) (begins_with (before l n) o ++ w.0) w.1 (heard-so (before l n) w.0 w.1 w.2) w.3 (last-before (before l n) w.0 w.1 early w.2 (omega (arith, len)))))
        ]
    named-by (inl ended) some =
        let f = last-first some in
        let e : ℕ = ended.0 in
        let end = ends-first (before l n) o e TimedOut ended.1 in
        let before_end : e < n = below e end.0 end.1 in
        let there = at-before l n e end.0 end.1 in
        let twice : before (before l n) e ≡ before l e = before-twice l n e _ here before_end in
        let size = length-before l e _ there in
        elim (latest-then e TimedOut ended.1 some) [
          | inl waits ↦ inl (unheard f.0 f.1 f.2 f.3 (unanswered-then e ended.1 f.0 f.1 f.2 f.3 waits))
          | inr w ↦
              let all : replies (before l e) o ≡ w.0 ++ w.1 ∷ [] = subst (λ (v : List Noted). replies v o ≡ w.0 ++ w.1 ∷ []) twice w.2 in
              let going = subst (λ (v : List Noted). end_of v o ≡ None) twice end.2 in
              let first = subst (λ (v : List Noted). IsFirst v f.0 o j f.1 f.2) twice (first-then e TimedOut ended.1 f.0 f.1 f.2 f.3) in
              inr (inl (replied-last l n t c k o (Fault cause j) legal note here x j e end.0 there (was-opened (before l e) f.0 f.1 f.2 (legal-before l e legal) (λ b g. begun-before l e o b g) first) going
              (over-now (inl ended)) (newest some) (begins_with (before l e) o ++ w.0) w.1 (heard-so (before l e) w.0 w.1 all) w.3 (last-before (before l e) w.0 w.1 (legal-before l e legal) all (omega (arith, size, before_end)))))
        ]

    names : HasTimedOut → IsNamed → (j < n) × Named
    names how (inl some) = (below j _ (last-first some).3.stands, named-by how some)
    names how (inr none) = (
      subst (λ (j : ℕ). j < n) (sym none.1) ask-before,
      inr (inr (none.1, unsent-after l n t c k o (Fault cause j) legal note here x o (over-now how) (λ s i p m late f. sent-last-none (before l n) s o i p m none.0 f))),
    )

    timed-out : IsNamed → HasTimedOut → (j < n) × IsTimedOut (entries l) n t c k j
    timed-out named how =
        let it = names how named in (
          it.0,
          record { request = q; opening = ask_behind l o; since = x.exchange.since; entry = o; shared = x.shared; names = it.1; over = late how },
        )
      where
        late : HasTimedOut → IsOver
        late (inl end) = expired end.0 named end.1
        late (inr due) = inl (late-since l n o t x.exchange x.opened due.2)

  caused : (cause : Cause) → Caused (before l n) t k cause j → (j < n) × IsCausedBy (entries l) n t c k cause j
  caused C.Busy h = (subst (λ (j : ℕ). j < n) (sym h.0) ask-before, (h.0, busy h.1))
    where
      busy : WasTurnedAway (before l n) k ⊎ ((o : ℕ) × (e : ℕ) × (reads (before l n) k ≡ Some o) × Ends (before l n) o e Turned)
          → IsTurnedAway (entries l) c k ⊎ IsCutOff (entries l) n c k
      busy (inl away) = inl (turned-away away)
      busy (inr cut) = inr (cut-off l n t c k cut.0 (Fault cause j) legal note here (x cut.0 cut.2) cut.1 cut.3)
  caused C.Timeout h = timed-out h.0 h.1 h.2 h.3
  caused C.Reset h = reset h.0 h.1 h.2
  caused C.NotUnderstood h = not-understood l n t c k h.0 (Fault cause j) legal note here (x h.0 h.1) j h.2
  caused C.BadHttp h = (subst (λ (j : ℕ). j < n) (sym h.1) ask-before, (h.1, refused C.BadHttp h.2))
  caused C.NoMap h = (subst (λ (j : ℕ). j < n) (sym h.1) ask-before, (h.1, refused C.NoMap h.2))
  caused C.Method h = (subst (λ (j : ℕ). j < n) (sym h.1) ask-before, (h.1, refused C.Method h.2))
  caused C.Media h = (subst (λ (j : ℕ). j < n) (sym h.1) ask-before, (h.1, refused C.Media h.2))

pub causes-in : (l : List Noted) (n t c k : ℕ) (cause : Cause) (j : ℕ) → Legal l → IsEntry (entries l) n t (Answers c k (Fault cause j))
    → (j < n) × IsCausedBy (entries l) n t c k cause j
causes-in l n t c k cause j legal e =
    let there = entries-at l n _ e in
    let it = answers-ask l n t c k (Fault cause j) legal e in
    caused l n t c k cause j legal there.0 there.1 it.0.ask it.0.asked cause it.0.grounds

pub names-cause : (h : List Written) → Stands h → AreCaused h
names-cause h s =
    subst AreCaused s.entries_are (λ n t c k cause j. causes-in s.reading n t c k cause j s.legal)
