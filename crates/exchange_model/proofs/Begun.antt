-- What an ask leaves.
use Rattle.std.proofs.Common.{eqb, sym, subst, ◌<◌, ◌≡◌, ℕ, ◌+◌, Bool, true, false, cond, List, [], ◌∷◌, ◌++◌, length, map, Option, Some, None, refl, ap, ◌∙◌, arith, length-append}
use Rattle.std.specs.Prelude.{is_some, is_none, option_map}
use Rattle.std.specs.List.{AllByRecursion}
use Rattle.std.specs.Str.{bytes_eq}
use Rattle.std.proofs.lemmas.Slice.Eq.{bytes_eq-Decides}
use Rattle.std.proofs.lemmas.List.{map_push}
use Rattle.uri_map.specs.declared.peer.Peer.{Peer}
use Rattle.message_layer.specs.Values.{LinkState}
use Rattle.message_layer.specs.Sending.{waits, queued, submitted}
use Rattle.message_layer.specs.declared.state.Outstanding.{Outstanding}
use Rattle.message_layer.specs.declared.state.Waiting.{Waiting}
use Rattle.resp_cache.specs.Stored.{Stored}
use Rattle.ask_model.specs.Requests.{Sense, CoapRequest}
use Rattle.ask_model.specs.Views.{Ask}
use Rattle.ask_model.specs.declared.cause.Cause.TheVariants as C
use Rattle.journal_book.specs.Entries.{Deed, Asks}
use Rattle.history_laws.specs.Numbering.{token_number}
use Rattle.history_laws.specs.Readings.{Noted}
use Rattle.history_laws.specs.Transmissions.{FirstSending, firsts}
use Rattle.history_laws.proofs.CallerLemmas.{all-more, all-of, find-some, rank-below, watch-fits}
use Rattle.observe_share.specs.declared.registration.Registration.{Registration}
use Rattle.exchange_model.specs.declared.kept.Exchange.{Exchange}
use Rattle.exchange_model.specs.declared.kept.Reader.{Reader}
use Rattle.exchange_model.specs.State.{PeerLink, State, link_of, with_link}
use Rattle.exchange_model.specs.Steps.{exchange_for, begins, entered, given_out, is_under, unwatched, went_out}
use Rattle.exchange_model.specs.Hearing.{Numbers}
use Rattle.exchange_model.specs.Reads.{Reads}
use Rattle.exchange_model.specs.Watching.{is_one_of, is_renewed_by, tokens_of, touched}
use Rattle.exchange_model.proofs.Apart.{under-of}
use Rattle.exchange_model.proofs.LetGo.{handed-let-go, let-go-all}
use Rattle.exchange_model.proofs.Watches.{gone-stands}
use Rattle.exchange_model.specs.Calls.{serves, served_in, IsAlone, asked_for, asked_with, asked_by, refused, next}
use Rattle.exchange_model.specs.Entering.{going_as, sent_as, first_deeds, in_turn, at_once, awaits_no_more, begun, entered_all, BeginsEnter, ServedEnters, JoinsEnter, RefusalsEnter, BusyEnters}
use Rattle.exchange_model.proofs.Opened.{OpenIn, open-ones}
use Rattle.exchange_model.proofs.Entered.{put, next-put, turn_of, out-at}
use Rattle.exchange_model.proofs.LinksHeard.{Turns, turns}
use Rattle.exchange_model.specs.declared.kept.Stale.{Stale}

pub refusals-enter : RefusalsEnter
refusals-enter t c a n cause status S e =
    ap (λ (z : Sense). asked_by z t c a n S) e ∙ ap (λ (z : Sense). record (refused t c a cause S) { watches = touched t z S.watches }) e

alone : (t c : ℕ) (a : Ask) (q : CoapRequest) (n : Numbers) (S : State) → IsAlone t q S
    → asked_for (served_in q t S) t c a q n S ≡ asked_with None t c a q n S
alone t c a q n S none = ap (λ (v : Option Stored). asked_for v t c a q n S) none.0 ∙ ap (λ (v : Option Exchange). asked_with v t c a q n S) none.1

pub served-enters : ServedEnters
served-enters t c a q n s S sense served =
    ap (λ (z : Sense). asked_by z t c a n S) sense
    ∙ (ap (λ (v : Option Stored). asked_for v t c a q n S) served
    ∙ ap (λ (z : Sense). record (serves t c a q s S) { watches = touched t z S.watches }) sense)

pub busy-enters : BusyEnters
busy-enters t c a q n S e none full =
    ap (λ (z : Sense). asked_by z t c a n S) e
    ∙ (alone t c a q n S none
    ∙ (ap (λ (b : Bool). cond b (next t q.peer (begins t c a q n.token n.text n.word S))
    (refused t c a C.Busy S)) full
    ∙ ap (λ (z : Sense). record (refused t c a C.Busy S) { watches = touched t z S.watches }) e))

pub joins-enter : JoinsEnter
joins-enter t c a q n e S sense none found =
    ap (λ (z : Sense). asked_by z t c a n S) sense ∙ ap (λ (v : Option Stored). asked_for v t c a q n S) none ∙ ap (λ (v : Option Exchange). asked_with v t c a q n S) found

-- No exchange but the new one has its token.
itself : (token : List ℕ) → bytes_eq token token ≡ true
itself token = (bytes_eq-Decides token token).1 refl

pub not-under : (token : List ℕ) (i : ℕ) (e : Exchange) → is_under token e ≡ false
    → went_out token i e ≡ e
not-under token i e h = ap (λ (b : Bool). cond b (record e { sending = Some i; awaits = true }) e) h

others-stay : (token : List ℕ) (i : ℕ) (es : List Exchange)
    → AllByRecursion (λ (e : Exchange). is_under token e ≡ false) es
    → map (went_out token i) es ≡ es
others-stay token i [] a = refl
others-stay token i (e ∷ es) a =
    ap (λ (x : Exchange). x ∷ map (went_out token i) es) (not-under token i e a.0)
    ∙ ap (λ (xs : List Exchange). e ∷ xs) (others-stay token i es a.1)

new-sent : (w : Waiting) (i : ℕ) (v : Option Outstanding) (es : List Exchange) (e : Exchange)
    → e.token ≡ w.token → e.sending ≡ None → e.awaits ≡ false
    → AllByRecursion (λ (x : Exchange). is_under w.token x ≡ false) es
    → sent_as (going_as i (at_once w v)) (es ++ e ∷ []) ≡ es
    ++ record e { sending = option_map (λ (x : Waiting). i) (at_once w v); awaits = is_some (at_once w v) } ∷ []
new-sent w i (Some o) es e same unsent still a =
    ap (λ (s : Option ℕ). es ++ record e { sending = s } ∷ []) unsent
    ∙ ap (λ (b : Bool). es ++ record e { sending = None; awaits = b } ∷ []) still
new-sent w i None es e same unsent still a =
    map_push (went_out w.token i) es e
    ∙ (ap (λ (xs : List Exchange). xs ++ went_out w.token i e ∷ []) (others-stay w.token i es a)
    ∙ ap (λ (b : Bool). es ++ cond b (record e { sending = Some i; awaits = true }) e ∷ [])
    (ap (λ (k : List ℕ). bytes_eq k w.token) same ∙ itself w.token))

-- where nothing is outstanding nothing else waits
turn-at-once : (w : Waiting) (v : Option Outstanding) (ws : List Waiting) → Turns v ws
    → in_turn (is_none v) (ws ++ w ∷ []) ≡ at_once w v
turn-at-once w (Some o) ws h = refl
turn-at-once w None ws h = ap (λ (us : List Waiting). in_turn true (us ++ w ∷ [])) h

-- A message that goes out is nothing to these tables.
opens-framed : (t : ℕ) (p : Peer) (m : Option ℕ) (w : Option Waiting) (n : ℕ) (es : List Exchange) (us : List Stale) (rs : List Reader) (vs : List Registration) (xs : List PeerLink)
    (fs : List Exchange) (ys : List PeerLink) (S : State)
    → put t (first_deeds t p m w) es xs (record S { issued = n; exchanges = fs; stales = us; readers = rs; watches = vs; links = ys })
    ≡ (let S1 = entered_all t (first_deeds t p m w) S in record S1 { issued = n; exchanges = es; stales = us; readers = rs; watches = vs; links = xs })
opens-framed t p m None n es us rs vs xs fs ys S = refl
opens-framed t p m (Some w) n es us rs vs xs fs ys S = refl

-- No watch is under the new token: those have lower numbers.
new-apart : (l : List Noted) (S : State) (r : Reads l S) (drop : Registration → Bool) (token : List ℕ) → token_number token ≡ S.issued
    → is_one_of (tokens_of drop S.watches) token ≡ false
new-apart l S r drop token number = by (is_one_of (tokens_of drop S.watches) token) refl
  where
    by : (b : Bool) → is_one_of (tokens_of drop S.watches) token ≡ b → b ≡ false
    by false e = refl
    by true e =
        let w = gone-stands l token drop (subst (λ (rs : List Registration). is_one_of (tokens_of drop rs) token ≡ true) (sym r.watches_are) e) in
        let u = under-of l w.0 (watch-fits l w.0 r.legal w.1) in
        let it = find-some (λ (f : FirstSending). eqb f.number w.0.sending) (firsts l) u.first u.is in
        let less = all-of (λ (f : FirstSending). token_number f.message.token < S.issued) (firsts l) u.first r.tokens_are it.0 in
        let same = ap token_number (u.token ∙ w.2) in
        absurd (omega (arith, less, same, number))

pub begins-enter : BeginsEnter
begins-enter t c a q n S may drained numbered sense none place =
    ap (λ (z : Sense). asked_by z t c a n S) sense
    ∙ (alone t c a q n S none
    ∙ (ap (λ (b : Bool). cond b (next t q.peer S1) (refused t c a C.Busy S)) place
    ∙ (next-put t q.peer s1 S.links S1 refl (out-at q.peer S.links drained.out)
    ∙ (ap (λ (x : Option Waiting). put t (first_deeds t q.peer s.last_mid x)
    (sent_as (going_as (length S1.entries) x) S1.exchanges) links S1) turn
    ∙ (ap (λ (i : ℕ). put t ds (sent_as (going_as i up) S1.exchanges) links S1)
    (length-append S.entries (record { moment = t; deed = Asks c a } ∷ []))
    ∙ (ap (λ (es : List Exchange). put t ds es links S1)
    (new-sent w (length S.entries + 1) s.outstanding S.exchanges
    (exchange_for t a q n.token S) refl refl refl fresh)
    ∙ (ap (λ (u : LinkState). put t ds (begun t c a q n S).exchanges (with_link q.peer (given_out u) S.links) S1) released
    ∙ opens-framed t q.peer s.last_mid up (S.issued + 1) (begun t c a q n S).exchanges S1.stales S1.readers S1.watches (begun t c a q n S).links S1.exchanges S1.links (entered t (Asks c a) S))))))))
  where
    s : LinkState
    s = unwatched q S

    tokens : List (List ℕ)
    tokens = tokens_of (is_renewed_by q) S.watches

    released : submitted t (waits n.token n.text n.word) (unwatched q S) ≡ awaits_no_more tokens (submitted t (waits n.token n.text n.word) (link_of S.links q.peer))
    released =
        sym (let-go-all tokens (submitted t (waits n.token n.text n.word) (link_of S.links q.peer))
        ∙ handed-let-go t (waits n.token n.text n.word) (is_one_of tokens) (link_of S.links q.peer)
        (new-apart may.kept.reading S may.kept.rests.reads (is_renewed_by q) n.token numbered.number)
        (λ e. subst (λ (v : Option Outstanding). Turns v (link_of S.links q.peer).waiting) e
        (turns _ (link_of S.links q.peer).outstanding (link_of S.links q.peer).waiting (may.kept.rests.links q.peer))))

    w : Waiting
    w = waits n.token n.text n.word

    s1 : LinkState
    s1 = queued t w s

    S1 : State
    S1 = begins t c a q n.token n.text n.word S

    up : Option Waiting
    up = at_once w s.outstanding

    ds : List Deed
    ds = first_deeds t q.peer s.last_mid up

    links : List PeerLink
    links = with_link q.peer (given_out (submitted t w s)) S.links

    turn : turn_of s1 ≡ up
    turn = turn-at-once w s.outstanding s.waiting
        (turns _ s.outstanding s.waiting (may.kept.rests.links q.peer))

    other : (e : Exchange) → OpenIn may.kept.rests.reads.start may.kept.reading e → (b : Bool)
        → bytes_eq e.token n.token ≡ b → b ≡ false
    other e h false k = refl
    other e h true k =
        let same = ap token_number ((bytes_eq-Decides e.token n.token).0 k) in
        let less = rank-below may.kept.reading e.opening _ may.kept.rests.reads.legal h.0.opening h.1 in
        let mine = h.0.number in
        let issued = may.kept.rests.reads.issued_are in
        let next = numbered.number in
        absurd (omega (arith, same, less, mine, issued, next))

    fresh : AllByRecursion (λ (e : Exchange). is_under n.token e ≡ false) S.exchanges
    fresh = all-more (OpenIn may.kept.rests.reads.start may.kept.reading) (λ (e : Exchange). is_under n.token e ≡ false)
        (λ e h. other e h (bytes_eq e.token n.token) refl) S.exchanges
        (open-ones may.kept.reading S may.kept.rests.reads)
