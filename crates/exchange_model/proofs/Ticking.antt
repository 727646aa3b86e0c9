-- A tick keeps that the journal stands, and that the state says what it says.
use Rattle.std.proofs.Common.{◌≡◌, ℕ, ◌+◌, ◌<◌, ◌≤◌, ◌⊎◌, Bool, true, false, cond, not, inl, inr, List, [], ◌∷◌, map, Option, Some, None, refl, sym, subst, ◌∙◌, arith}
use Rattle.std.specs.Prelude.{fold, filter, unwrap_or}
use Rattle.std.specs.List.{AllByRecursion, Contains, list_any}
use Rattle.std.proofs.lemmas.Bool.{false≢true, leb-false, or_parts, not_from_false, not-true}
use Rattle.std.proofs.lemmas.Bool.Decides.{leb_tells}
use Rattle.std.proofs.lemmas.List.Sums.{length-filter, count_by-le-length}
use Rattle.limits.specs.declared.TheConstants.{MAX_TRANSMIT_WAIT}
use Rattle.uri_map.specs.declared.peer.Peer.{Peer}
use Rattle.uri_map.specs.Peers.{same_peer}
use Rattle.ask_model.specs.declared.cause.Cause.TheVariants as C
use Rattle.journal_book.specs.Entries.{Passes, Fault}
use Rattle.message_layer.specs.Values.{LinkState, empty_link}
use Rattle.message_layer.specs.declared.state.Outstanding.{Outstanding}
use Rattle.message_layer.specs.declared.state.Waiting.{Waiting}
use Rattle.history_laws.specs.Readings.{Noted, Plain, ticked as at_tick, noted}
use Rattle.observe_share.specs.declared.registration.Registration.{Registration}
use Rattle.observe_share.specs.Watches.{is_idle}
use Rattle.history_laws.specs.Observing.{Watch, watches}
use Rattle.history_laws.specs.Exchanges.{end_of}
use Rattle.history_laws.proofs.CallerLemmas.{all-filter, all-more, all-of, all-passes, none-of}
use Rattle.history_links.specs.Steps.{is_over, passed_link}
use Rattle.exchange_model.specs.declared.kept.Exchange.{Exchange}
use Rattle.exchange_model.specs.declared.kept.Reader.{Reader}
use Rattle.exchange_model.specs.State.{PeerLink, State, link_of}
use Rattle.exchange_model.specs.Reads.{held_of, Reads}
use Rattle.exchange_model.specs.Resting.{IsUndue, LinkRests, HasExchange, Rests}
use Rattle.exchange_model.specs.Hearing.{goes_on, is_past, is_in_vain, expires, is_gone, passes, timed_out}
use Rattle.exchange_model.specs.Keeping.{HasMids, Kept, MayStep, TicksKeeps, IsDone, TicksDo}
use Rattle.history_laws.specs.Justified.{HasGrounds}
use Rattle.exchange_model.specs.Growing.{RiseByAsk}
use Rattle.exchange_model.specs.Laws.{Before}
use Rattle.exchange_model.specs.Calls.{Telling, tells, timeout_for, told_late, is_due, link_due, something_due, peer_of, move_all}
use Rattle.exchange_model.proofs.Amid.{RestAt}
use Rattle.exchange_model.proofs.Readers.{ReaderIn, reader-keeps, readers-wait, readers-rise-in, readers-apart, rise-filter, Apart}
use Rattle.exchange_model.proofs.Telling.{readers_in, IsAmong, ReadWith, all-in, all-told, kept-told, tells-links, tells-exchanges}
use Rattle.exchange_model.proofs.Tellings.{is-told, late_reads, readers-late, among-late, late-all}
use Rattle.exchange_model.proofs.Expiring.{expires-alike}
use Rattle.exchange_model.proofs.Grounds.{GroundsFor, IsTold, told-grounds, told-moves}
use Rattle.exchange_model.proofs.Lately.{watches-asked}
use Rattle.exchange_model.proofs.Lists.{all-both, all-map}
use Rattle.exchange_model.proofs.Moving.{not-due, is_among, Ready, all-moved}
use Rattle.exchange_model.proofs.TimingOut.{passed-over}
use Rattle.exchange_model.proofs.Passing.{link-passed, passes-leads}
use Rattle.exchange_model.proofs.Opened.{OpenIn, open-ones}
use Rattle.exchange_model.proofs.Outrun.{left-all, left-has}
use Rattle.exchange_model.proofs.Resting.{rests-at-rest}

abbrev passed_by : ℕ → List Noted → List Noted
passed_by t l = noted t Passes Plain ∷ l

-- an exchange that a tick ended, as whoever reads it is told
abbrev IsTimedOut : List Noted → Exchange → Type 0
IsTimedOut l e = (k : ℕ) → GroundsFor l k e.opening (Fault C.Timeout (unwrap_or e.sending k))

-- After the entry nothing is given up, and what goes on is in time.

passed-mids : (t : ℕ) (gone : List ℕ → Bool) (s : LinkState) → HasMids s → HasMids (passed_link t gone s)
passed-mids t gone s h =
    let goes = λ (w : Waiting). not (gone w.token) in
    let same = length-filter goes s.waiting in
    let fewer = count_by-le-length goes s.waiting in
    let enough = h.enough in
    record { small = all-filter (λ (w : Waiting). w.first_mid < 65536) goes s.waiting h.small; enough = omega (arith, same, fewer, enough) }

passed-goes : (t : ℕ) (gone : List ℕ → Bool) (s : LinkState) → is_over t (passed_link t gone s).outstanding ≡ false
passed-goes t gone s = by (is_over t s.outstanding) refl
  where
    by : (b : Bool) → is_over t s.outstanding ≡ b → is_over t (cond b None s.outstanding) ≡ false
    by true e = refl
    by false e = e

going-in-time : (t : ℕ) (links : List PeerLink) (e : Exchange) → not (expires t links e) ≡ true → t < e.since + MAX_TRANSMIT_WAIT
going-in-time t links e h =
    let now = or_parts (is_past t e) (is_in_vain t (link_of links e.peer) e) (not-true (expires t links e) h) in
    elim (leb_tells (e.since + MAX_TRANSMIT_WAIT) t) [ inl w ↦ absurd (false≢true (sym now.0 ∙ w.0)) | inr w ↦ w.1 ]

-- an endpoint without a link
pub unlinked : (xs : List PeerLink) (p : Peer) → is_among (map peer_of xs) p ≡ false → link_of xs p ≡ empty_link
unlinked [] p h = refl
unlinked (x ∷ xs) p h =
    let away = or_parts (same_peer x.peer p) (is_among (map peer_of xs) p) h in
    rw (away.0) (unlinked xs p away.1)

pub passed-ready : (l : List Noted) (t : ℕ) (S : State) → Rests l S → S.sealed ≡ false → S.moment ≤ t → ((p : Peer) → HasMids (link_of S.links p))
    → Ready (map peer_of (passes t S).links) (passed_by t l) t (passes t S)
passed-ready l t S r unsealed later mids =
    let led = passes-leads l t S (record { reads = r.reads; later = later }) (r.reads.sealed_is ∙ unsealed, rests-at-rest l S r) in
    record {
      amid = record {
        before = record { reads = led.reads; later = omega arith };
        unsealed = unsealed;
        mids = λ p. subst HasMids (sym (link-passed t S p S.links)) (passed-mids t (is_gone t S) (link_of S.links p) (mids p));
        in_time = left-all (λ (e : Exchange). t < e.since + MAX_TRANSMIT_WAIT) (λ e h. h) S.entries (timed_out t S) (filter (goes_on t S) S.exchanges)
            (all-more _ (λ (e : Exchange). t < e.since + MAX_TRANSMIT_WAIT) (going-in-time t S.links) (filter (goes_on t S) S.exchanges) (all-passes (goes_on t S) S.exchanges));
      };
      quiet = refl;
      tick = refl;
      goes = λ p. subst (λ (s : LinkState). is_over t s.outstanding ≡ false) (sym (link-passed t S p S.links)) (passed-goes t (is_gone t S) (link_of S.links p));
      rest = λ p away. rested p (unlinked (passes t S).links p away);
    }
  where
    rested : (p : Peer) → link_of (passes t S).links p ≡ empty_link → RestAt (passed_by t l) (passes t S) p
    rested p e = rw (e) refl

-- Those that end are over, and each that is read goes on or ends.

ended-over : (l : List Noted) (t : ℕ) (S : State) → Before l t S → AllByRecursion (IsTimedOut (passed_by t l)) (filter (expires t S.links) S.exchanges)
ended-over l t S b =
    let q = expires t S.links in
    all-more (λ (e : Exchange). OpenIn b.reads.start l e × (q e ≡ true)) (IsTimedOut (passed_by t l)) one (filter q S.exchanges)
    (all-both (OpenIn b.reads.start l) (λ (e : Exchange). q e ≡ true) (filter q S.exchanges) (all-filter (OpenIn b.reads.start l) q S.exchanges (open-ones l S b.reads)) (all-passes q S.exchanges))
  where
    one : (e : Exchange) → OpenIn b.reads.start l e × (expires t S.links e ≡ true) → IsTimedOut (passed_by t l) e
    one e h k = passed-over l t k e h.0.0 (none-of (end_of l e.opening) h.0.1) (sym (expires-alike l t S.links e b.reads.legal b.reads.links_are h.0.0) ∙ h.1)

goes-or-ends : (q : Exchange → Bool) (es : List Exchange) (k : ℕ) → HasExchange es k → HasExchange (filter (λ (e : Exchange). not (q e)) es) k ⊎ HasExchange (filter q es) k
goes-or-ends q [] k h = absurd h
goes-or-ends q (e ∷ es) k (inl h) = by (q e)
  where
    by : (b : Bool) → HasExchange (cond (not b) (e ∷ filter (λ (x : Exchange). not (q x)) es) (filter (λ (x : Exchange). not (q x)) es)) k ⊎ HasExchange (cond b (e ∷ filter q es) (filter q es)) k
    by true = inr (inl h)
    by false = inl (inl h)
goes-or-ends q (e ∷ es) k (inr h) = by (q e) (goes-or-ends q es k h)
  where
    by : (b : Bool) → HasExchange (filter (λ (x : Exchange). not (q x)) es) k ⊎ HasExchange (filter q es) k
        → HasExchange (cond (not b) (e ∷ filter (λ (x : Exchange). not (q x)) es) (filter (λ (x : Exchange). not (q x)) es)) k ⊎ HasExchange (cond b (e ∷ filter q es) (filter q es)) k
    by true (inl w) = inl w
    by true (inr w) = inr (inr w)
    by false (inl w) = inl (inr w)
    by false (inr w) = inr w

read-either : (S S1 : State) (q : Exchange → Bool) → ((k : ℕ) → HasExchange (filter (λ (e : Exchange). not (q e)) S.exchanges) k → HasExchange S1.exchanges k)
    → AllByRecursion (λ (r : Reader). HasExchange S.exchanges r.opening) S.readers
    → ReadWith S1.exchanges (told_late (filter q S.exchanges) S.readers) S.readers
read-either S S1 q has a =
    all-more (λ (r : Reader). HasExchange S.exchanges r.opening × (HasExchange (filter q S.exchanges) r.opening → IsAmong (told_late (filter q S.exchanges) S.readers) r.ask)) _
    one S.readers (all-both _ _ S.readers a (among-late (filter q S.exchanges) S.readers))
  where
    one : (r : Reader) → HasExchange S.exchanges r.opening × (HasExchange (filter q S.exchanges) r.opening → IsAmong (told_late (filter q S.exchanges) S.readers) r.ask)
        → HasExchange S1.exchanges r.opening ⊎ IsAmong (told_late (filter q S.exchanges) S.readers) r.ask
    one r h = elim (goes-or-ends q S.exchanges r.opening h.0) [ inl w ↦ inl (has r.opening w) | inr w ↦ inr (h.1 w) ]

-- what a tick leaves at which something is due
record Done (t : ℕ) (S : State) : Type 0 where
  kept : Kept S
  links : (p : Peer) → LinkRests t (link_of S.links p)
  in_time : AllByRecursion (λ (e : Exchange). t < e.since + MAX_TRANSMIT_WAIT) S.exchanges
  asked : AllByRecursion (λ (r : Registration). t < r.asked + 120000) S.watches

asked-lately : (l : List Noted) (t : ℕ) (S : State) → Reads l S → at_tick l ≡ t → AllByRecursion (λ (r : Registration). t < r.asked + 120000) S.watches
asked-lately l t S r same =
    subst (AllByRecursion (λ (v : Registration). t < v.asked + 120000)) r.watches_are
    (all-map held_of (λ (v : Registration). t < v.asked + 120000) (watches l)
    (subst (λ (k : ℕ). AllByRecursion (λ (w : Watch). k < w.held.asked + 120000) (watches l)) same (watches-asked l r.legal)))

all-done : (t : ℕ) (S : State) → MayStep t S → Done t (fold (tells t) (move_all t (passes t S)) (told_late (timed_out t S) S.readers))
all-done t S may =
    let l = may.kept.reading in
    let r = may.kept.rests in
    let S1 = passes t S in
    let es = timed_out t S in
    let xs = told_late es S.readers in
    let moved = all-moved (map peer_of S1.links) (passed_by t l) t S1 (passed-ready l t S r may.unsealed may.later may.kept.mids) in
    let m = moved.1 in
    let S2 = move_all t S1 in
    let readers : AllByRecursion (ReaderIn l) S.readers = subst (AllByRecursion (ReaderIn l)) r.reads.readers_are (readers-wait l r.reads.legal) in
    let apart : Apart (readers_in xs) = rw (readers-late es S.readers)
    (readers-apart l _ (rise-filter (late_reads es) S.readers (subst RiseByAsk r.reads.readers_are (readers-rise-in l r.reads.legal))) (all-filter (ReaderIn l) (late_reads es) S.readers readers)) in
    let has : AllByRecursion (Contains S2.readers) (readers_in xs) = rw (readers-late es S.readers, m.readers) (all-filter (Contains S.readers) (late_reads es) S.readers (all-in S.readers)) in
    let over = ended-over l t S (record { reads = r.reads; later = may.later }) in
    let grounds = late-all (IsTold (passed_by t l)) (ReaderIn (passed_by t l)) es S.readers
    (λ e x in_es a same. is-told (passed_by t l) (timeout_for x e) a (subst (λ (o : ℕ). GroundsFor (passed_by t l) x.ask o (Fault C.Timeout (unwrap_or e.sending x.ask))) (sym same) (all-of (IsTimedOut (passed_by t l)) es e over in_es x.ask)))
    (passed-readers t l S.readers readers) in
    let told = all-told xs moved.0 t S2 m.amid.before m.quiet (rw (m.readers, m.conns) r.served) has apart
    (all-more (IsTold (passed_by t l)) (λ (x : Telling). HasGrounds moved.0 t x.reader.ask x.grounds) (λ x h. told-grounds moved.0 t x (told-moves (passed_by t l) moved.0 x m.goes h)) xs grounds) in
    let tick = told.1.tick ∙ m.goes.tick in
    record {
      kept = kept-told moved.0 t xs S2 told.0 told.1 m.rest m.amid.in_time (rw (m.readers) (read-either S S2 (expires t S.links) (λ k h. m.has k (left-has S.entries es (filter (goes_on t S) S.exchanges) k h)) r.reading)) m.amid.mids;
      links = λ p. rw (tells-links t xs S2) (subst (λ (k : ℕ). LinkRests k (link_of S2.links p)) m.goes.tick (m.rest p));
      in_time = rw (tells-exchanges t xs S2) (subst (λ (k : ℕ). AllByRecursion (λ (e : Exchange). k < e.since + MAX_TRANSMIT_WAIT) S2.exchanges) m.goes.tick m.amid.in_time);
      asked = asked-lately told.0 t (fold (tells t) S2 xs) told.1.before.reads tick;
    }
  where
    passed-readers : (t : ℕ) (l : List Noted) (rs : List Reader) → AllByRecursion (ReaderIn l) rs → AllByRecursion (ReaderIn (passed_by t l)) rs
    passed-readers t l rs a = all-more (ReaderIn l) (ReaderIn (passed_by t l)) (λ x h. reader-keeps (noted t Passes Plain) l x (λ e. e) refl refl h) rs a

pub ticks-keeps : TicksKeeps
ticks-keeps t S may = by (something_due t S)
  where
    by : (b : Bool) → Kept (cond b (fold (tells t) (move_all t (passes t S)) (told_late (timed_out t S) S.readers)) S)
    by true = (all-done t S may).kept
    by false = may.kept

-- Where it leaves no entry nothing was due.

pub undue-link : (t : ℕ) (xs : List PeerLink) → list_any (link_due t) xs ≡ false → (p : Peer) → is_due t (link_of xs p).outstanding ≡ false
undue-link t [] h p = refl
undue-link t (x ∷ xs) h p =
    let both = or_parts (link_due t x) (list_any (link_due t) xs) h in
    by (same_peer x.peer p) both.0 (undue-link t xs both.1 p)
  where
    by : (b : Bool) → link_due t x ≡ false → is_due t (link_of xs p).outstanding ≡ false → is_due t (cond b x.link (link_of xs p)).outstanding ≡ false
    by true here later = here
    by false here later = later

undue-rests : (t tick : ℕ) (s : LinkState) → LinkRests tick s → is_due t s.outstanding ≡ false → LinkRests t s
undue-rests t tick s = by s.outstanding
  where
    by : (v : Option Outstanding) → IsUndue tick v s.waiting → is_due t v ≡ false → IsUndue t v s.waiting
    by None h e = h
    by (Some o) h e = not-due t o e

none-ends : (t : ℕ) (links : List PeerLink) (es : List Exchange) → list_any (expires t links) es ≡ false → AllByRecursion (λ (e : Exchange). t < e.since + MAX_TRANSMIT_WAIT) es
none-ends t links [] h = tt
none-ends t links (e ∷ es) h =
    let both = or_parts (expires t links e) (list_any (expires t links) es) h in
    (going-in-time t links e (not_from_false (expires t links e) both.0), none-ends t links es both.1)

none-idle : (t : ℕ) (rs : List Registration) → list_any (is_idle t) rs ≡ false → AllByRecursion (λ (r : Registration). t < r.asked + 120000) rs
none-idle t [] h = tt
none-idle t (r ∷ rs) h =
    let both = or_parts (is_idle t r) (list_any (is_idle t) rs) h in (leb-false (r.asked + 120000) t both.0, none-idle t rs both.1)

pub ticks-do : TicksDo
ticks-do t S may = by (something_due t S) refl
  where
    by : (b : Bool) → something_due t S ≡ b → IsDone t (cond b (fold (tells t) (move_all t (passes t S)) (told_late (timed_out t S) S.readers)) S)
    by true e = let done = all-done t S may in record { links = done.links; in_time = done.in_time; asked = done.asked }
    by false e =
        let none = or_parts (list_any (link_due t) S.links) _ e in
        let open_now = or_parts (list_any (expires t S.links) S.exchanges) (list_any (is_idle t) S.watches) none.1 in
        let r = may.kept.rests in
        record {
          links = λ p. undue-rests t (at_tick may.kept.reading) (link_of S.links p) (r.links p) (undue-link t S.links none.0 p);
          in_time = none-ends t S.links S.exchanges open_now.0;
          asked = none-idle t S.watches open_now.1;
        }
