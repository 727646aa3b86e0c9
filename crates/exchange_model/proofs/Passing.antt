-- A tick ends what took too long.
use Rattle.std.proofs.lemmas.Bool.{false≢true}
use Rattle.std.proofs.Common.{◌⊎◌, inl, inr, length, ◌≡◌, ℕ, ◌+◌, Bool, true, false, cond, List, [], ◌∷◌, ◌++◌, map, Option, Some, None, is_some, refl, sym, ap, subst, ◌∙◌, eqb}
use Rattle.std.specs.Prelude.{filter, not, ◌&&◌, ◌||◌, ⊤}
use Rattle.std.specs.List.{AllByRecursion, Contains, list_any}
use Rattle.std.proofs.lemmas.Bool.{and_parts, not-true, not-false}
use Rattle.std.proofs.lemmas.Slice.Eq.{bytes_eq-Decides}
use Rattle.std.proofs.lemmas.List.Elements.{All-contains_itself, recursion_from_All, filter_agree}
use Rattle.uri_map.specs.declared.peer.Peer.{Peer}
use Rattle.uri_map.specs.Peers.{same_peer}
use Rattle.uri_map.proofs.CallerLemmas.{same_peer-same}
use Rattle.message_layer.specs.Values.{LinkState}
use Rattle.message_layer.specs.declared.state.Waiting.{Waiting}
use Rattle.ask_model.specs.Sharing.{asked_key, asked_place}
use Rattle.observe_share.specs.declared.registration.Registration.{Registration}
use Rattle.observe_share.specs.Watches.{without}
use Rattle.journal_book.specs.Entries.{Passes, Written}
use Rattle.history_laws.specs.Progress.{Whole, Ending, Renewed}
use Rattle.history_laws.specs.Exchanges.{Turn, Nothing, Sent, Replied, Rejected, Expired, turn, end_here, end_by, end_of, Begun, begun, is_late, expires as ends_at, waits_for, goes_to, is_going, is_waiting, waiting, rank, openings, open_exchanges, kept as kept_of, End, heard_for}
use Rattle.history_laws.specs.Justified.{Ends, Legal}
use Rattle.history_laws.specs.Observing.{idles, is_current, Watch, watches}
use Rattle.history_laws.specs.Readings.{Noted, Plain, noted}
use Rattle.history_laws.specs.Hearing.{went_under}
use Rattle.history_laws.specs.Transmissions.{FirstSending, first_at}
use Rattle.history_laws.specs.Joining.{outrun}
use Rattle.history_laws.proofs.CallerLemmas.{all-filter, all-more, all-of, all-passes, and-left, begun-below, contains-filter, eqb-same, filter-by, filtered-from, find-any, find-some, issued-same, open-exactly, replies-stay, some-is, waiting-all, waiting-begun, waiting-goes, waiting-unsent, watches-fit, WatchFits}
use Rattle.history_links.specs.Agrees.{Start, IsWaitingFor, notified, WaitIn, Agrees}
use Rattle.history_links.specs.Steps.{passed_link, EndWaiting, EndTokens}
use Rattle.history_links.proofs.CallerLemmas.{going-passed, pass-agrees, passed-quiet, token-found, waits-passed}
use Rattle.exchange_model.specs.declared.kept.Exchange.{Exchange}
use Rattle.exchange_model.specs.State.{PeerLink, State, link_of}
use Rattle.exchange_model.specs.Reads.{held_of, IsSentUnder, ExchangeIn, WaitsUnder, opening_of, Reads, awaited_by, got_in, PiecesIn, StalesIn, kept_in}
use Rattle.exchange_model.specs.Watching.{is_one_of, tokens_of}
use Rattle.exchange_model.specs.Steps.{is_under}
use Rattle.exchange_model.specs.Matters.{outrun_by, numbers_of, left_by, stale_in}
use Rattle.exchange_model.specs.Hearing.{expires, is_gone, is_unwatched, is_written_late, passed, timed_out, is_of_none, is_stale_of_none}
use Rattle.exchange_model.specs.Laws.{PassesLeads}
use Rattle.exchange_model.specs.declared.kept.Piece.{Piece}
use Rattle.history_laws.specs.Progress.{numbers}
use Rattle.exchange_model.proofs.Pieces.{pieces-quiet}
use Rattle.exchange_model.proofs.Retiring.{store-retired}
use Rattle.exchange_model.proofs.Apart.{comes_to, notified-tells, watches-apart}
use Rattle.exchange_model.proofs.Watches.{coming-stands, map-filtered, newest-quiet, others-come, outdated-quiet}
use Rattle.exchange_model.proofs.Unwritten.{current-after, watches-current}
use Rattle.exchange_model.proofs.Expiring.{exchange-apart, expires-alike, awaited-open, kept-at, gone-of}
use Rattle.exchange_model.proofs.Lists.{all-both, filter-map, filter-both}
use Rattle.exchange_model.proofs.Silent.{later-than, link-before, moment-now}
use Rattle.exchange_model.proofs.Opened.{OpenIn, open-ones}
use Rattle.exchange_model.proofs.Outrun.{EndsThose, left-all, left-each, left-openings, current-now}
use Rattle.exchange_model.proofs.Tables.{exchange-stays}
use Rattle.exchange_model.proofs.Stales.{stale-spared, stales-quiet}
use Rattle.history_laws.specs.Storing.{first_in}

abbrev ticked_at : ℕ → Noted
ticked_at t = noted t Passes Plain

-- what the history and the state keep

abbrev goes_on : List Noted → ℕ → ℕ → Bool
goes_on l t o = not (ends_at l o t (waits_for l o))

abbrev stays : ℕ → State → Exchange → Bool
stays t S e = not (expires t S.links e)

open-passed : (l : List Noted) (t : ℕ) (S : State) → Reads l S → open_exchanges (ticked_at t ∷ l) ≡ map opening_of (filter (stays t S) S.exchanges)
open-passed l t S r =
    filter_agree (is_going (ticked_at t ∷ l)) (λ (o : ℕ). goes_on l t o && is_going l o) (going-passed l t) (openings l)
    ∙ (filter-both (goes_on l t) (is_going l) (openings l)
    ∙ (ap (filter (goes_on l t)) r.keys
    ∙ (filter-map (goes_on l t) opening_of S.exchanges
    ∙ ap (map opening_of) (filter-by (λ (e : Exchange). goes_on l t e.opening) (stays t S) S.exchanges
    (all-more (ExchangeIn r.start l) _ (λ e a. ap not (sym (expires-alike l t S.links e r.legal r.links_are a))) S.exchanges r.exchanges_are)))))

passes-going : (l : List Noted) (t : ℕ) (S : State) (r : Reads l S) (e : Exchange) → OpenIn r.start l e → is_going (ticked_at t ∷ l) e.opening ≡ stays t S e
passes-going l t S r e a =
    going-passed l t e.opening
    ∙ (ap (λ (b : Bool). goes_on l t e.opening && b) a.1
    ∙ (and-true (goes_on l t e.opening) ∙ ap not (sym (expires-alike l t S.links e r.legal r.links_are a.0))))
  where
    and-true : (b : Bool) → (b && true) ≡ b
    and-true true = refl
    and-true false = refl

passes-ends : (l : List Noted) (t : ℕ) (S : State) → Reads l S → EndsThose (ticked_at t) l S (timed_out t S)
passes-ends l t S r = record {
  ended = λ f h. let from = filtered-from (expires t S.links) S.exchanges f h in (from.0, passes-going l t S r f (open_in f from.0) ∙ ap not from.1);
  all = λ f has gone. (f, contains-filter (expires t S.links) S.exchanges f has (not-false (expires t S.links f) (sym (passes-going l t S r f (open_in f has)) ∙ gone)), refl);
}
  where
    open_in : (e : Exchange) → Contains S.exchanges e → OpenIn r.start l e
    open_in e has = all-of (OpenIn r.start l) S.exchanges e (open-ones l S r) has

exchange-kept : (l : List Noted) (t : ℕ) (S : State) (r : Reads l S) → (e : Exchange) (b : Bool) → (a : ExchangeIn r.start l e) → stays t S e ≡ true
    → b ≡ not (outrun (ticked_at t ∷ l) (asked_place a.request) e.opening) → ExchangeIn r.start (ticked_at t ∷ l) (record e { current = b })
exchange-kept l t S r e b a goes current =
    exchange-stays (ticked_at t) l e b e.newest (λ h. h)
    (waits-passed l t e.opening ∙ ap (λ (b : Bool). cond b None (waits_for l e.opening)) (sym (expires-alike l t S.links e r.legal r.links_are a) ∙ not-true (expires t S.links e) goes)) refl refl a current
    (λ get. newest-quiet (ticked_at t) l (asked_key a.request) (got_in l e.opening) e.newest refl (a.newest get))
    (λ s k. outdated-quiet (ticked_at t) l (asked_key a.request) (first_in s.list) refl ∙ a.newest_kept s k)

-- what is kept of a link

pub link-passed : (t : ℕ) (S : State) (p : Peer) (xs : List PeerLink) → link_of (map (passed t S) xs) p ≡ passed_link t (is_gone t S) (link_of xs p)
link-passed t S p [] = refl
link-passed t S p (x ∷ xs) = by (same_peer x.peer p) (link-passed t S p xs)
  where
    by : (b : Bool) → link_of (map (passed t S) xs) p ≡ passed_link t (is_gone t S) (link_of xs p)
        → cond b (passed_link t (is_gone t S) x.link) (link_of (map (passed t S) xs) p) ≡ passed_link t (is_gone t S) (cond b x.link (link_of xs p))
    by true h = refl
    by false h = h

-- The tokens that are gone are those of what is awaited and ends.
awaited-ends : (l : List Noted) (t : ℕ) (S : State) (p : Peer) → Reads l S → (o i : ℕ) (token : List ℕ) → waits_for l o ≡ Some i
    → went_under p token (first_at l i) ≡ true → ends_at l o t (Some i) ≡ is_gone t S token
awaited-ends l t S p r o i token waits under =
    let k = kept-at l S o r (awaited-open l o i r.legal waits) in
    let e = k.0 in
    let awaited : awaited_by e.awaits e.sending ≡ Some i = sym k.3.awaits ∙ (ap (waits_for l) k.2 ∙ waits) in
    let sent : IsSentUnder l e.peer e.token (Some i) = subst (IsSentUnder l e.peer e.token) awaited k.3.sent in
    let found = token-found p token (first_at l i) under in
    let same : sent.0 ≡ found.0 = some-is _ _ (sym sent.1 ∙ found.1) in
    let tokens : e.token ≡ token = sym sent.3 ∙ (ap (λ (f : FirstSending). f.message.token) same ∙ found.2) in
    ap (ends_at l o t) (sym waits) ∙ gone-of l t S e o token r k.1 k.2 tokens

-- They are those of what waits and ends, too.
waiting-ends : (l : List Noted) (t : ℕ) (S : State) (p : Peer) (r : Reads l S) → (o : ℕ) (w : Waiting) → Contains (waiting l p) o → Contains (link_of S.links p).waiting w
    → IsWaitingFor r.start l o w → is_late t (begun l o) ≡ is_gone t S w.token
waiting-ends l t S p r o w ho hw a =
    let waits = all-of (λ (q : ℕ). is_waiting l p q ≡ true) (waiting l p) o (waiting-all l p) ho in
    let b = waiting-begun l p o waits in
    let k = kept-at l S o r ((open-exactly l o).1 (ap is_some b.1, waiting-goes l p o waits)) in
    let e = k.0 in
    let opening : begun l o ≡ Some (record { since = e.since; request = k.3.request }) = subst (λ (q : ℕ). begun l q ≡ Some (record { since = e.since; request = k.3.request })) k.2 k.3.opening in
    let goes : same_peer k.3.request.peer p ≡ true = subst (λ (b : Option Begun). goes_to p b ≡ true) opening (and-left (goes_to p (begun l o)) _ waits) in
    let peer : e.peer ≡ p = sym k.3.peer ∙ same_peer-same k.3.request.peer p goes in
    let under : WaitsUnder (link_of S.links p).waiting e =
    subst (λ (q : Peer). WaitsUnder (link_of S.links q).waiting e) peer (all-of (λ (x : Exchange). WaitsUnder (link_of S.links x.peer).waiting x) S.exchanges e r.waiting_are k.1) in
    let tokens = under w hw (a.numbered ∙ (ap (λ (q : ℕ). r.start.issued + rank l q) (sym k.2) ∙ k.3.number)) in
    ap (ends_at l o t) (sym (waiting-unsent l p o waits)) ∙ gone-of l t S e o w.token r k.1 k.2 (sym tokens)

all-end : (start : Start) (l : List Noted) (t : ℕ) (gone : List ℕ → Bool) (P : ℕ → Type 0) (Q : Waiting → Type 0)
    → ((o : ℕ) (w : Waiting) → P o → Q w → IsWaitingFor start l o w → is_late t (begun l o) ≡ gone w.token)
    → (os : List ℕ) (ws : List Waiting) → AllByRecursion P os → AllByRecursion Q ws → WaitIn start l os ws → EndWaiting l t gone os ws
all-end start l t gone P Q one [] [] a b i = tt
all-end start l t gone P Q one [] (w ∷ ws) a b i = tt
all-end start l t gone P Q one (o ∷ os) [] a b i = tt
all-end start l t gone P Q one (o ∷ os) (w ∷ ws) a b i = (one o w a.0 b.0 i.0, all-end start l t gone P Q one os ws a.1 b.1 i.1)

among-itself : {X : Type 0} (xs : List X) → AllByRecursion (Contains xs) xs
among-itself xs = recursion_from_All (Contains xs) xs (All-contains_itself xs)

-- What is observed after it.
watches-passed : (l : List Noted) (t : ℕ) (S : State) (r : Reads l S) → Legal (ticked_at t ∷ l) → map held_of (watches (ticked_at t ∷ l)) ≡ without (is_unwatched t S) S.watches
watches-passed l t S r legal =
    ap (map held_of) (sym (filter-both (is_current (ticked_at t ∷ l)) (λ (w : Watch). not (idles t w)) (watches l))
    ∙ filter-by (λ (w : Watch). is_current (ticked_at t ∷ l) w && not (idles t w)) (λ (w : Watch). not (is_unwatched t S w.held)) (watches l)
    (all-more (λ (w : Watch). WatchFits l w × (is_current l w ≡ true)) _ one (watches l)
    (all-both (WatchFits l) (λ (w : Watch). is_current l w ≡ true) (watches l) (watches-fit l r.legal) (watches-current l r.legal))))
    ∙ (map-filtered held_of (λ (v : Registration). not (is_unwatched t S v)) (watches l) ∙ ap (without (is_unwatched t S)) r.watches_are)
  where
    neither : (i b : Bool) → (not b && not i) ≡ not (i || b)
    neither true true = refl
    neither true false = refl
    neither false true = refl
    neither false false = refl

    one : (w : Watch) → WatchFits l w × (is_current l w ≡ true) → (is_current (ticked_at t ∷ l) w && not (idles t w)) ≡ not (is_unwatched t S w.held)
    one w h =
        ap (λ (b : Bool). b && not (idles t w)) (current-after (ticked_at t) l S r legal (timed_out t S) (passes-ends l t S r) w (begun-below l w.held.opening h.0.exchange h.0.opened) h.1)
        ∙ neither (idles t w) (is_written_late S.entries (timed_out t S) w.held)

-- The tokens that are gone are those of what is observed and ends, too.
watched-ends : (l : List Noted) (t : ℕ) (S : State) (p : Peer) → Reads l S → Legal (ticked_at t ∷ l) → (token : List ℕ)
    → notified (ticked_at t ∷ l) p token ≡ (not (is_gone t S token) && notified l p token)
watched-ends l t S p r legal token =
    notified-tells (ticked_at t ∷ l) p token legal
    ∙ (ap (list_any (comes_to p token)) (watches-passed l t S r legal ∙ ap (without (is_unwatched t S)) (sym r.watches_are))
    ∙ (others-come p token (is_unwatched t S) (map held_of (watches l)) (watches-apart l r.legal)
    ∙ (ap (λ (rs : List Registration). not (is_one_of (tokens_of (is_unwatched t S) rs) token) && list_any (comes_to p token) (map held_of (watches l))) r.watches_are
    ∙ (by (list_any ends S.exchanges) refl (list_any (comes_to p token) (map held_of (watches l))) refl (is_one_of (tokens_of (is_unwatched t S) S.watches) token)
    ∙ ap (λ (b : Bool). not (is_gone t S token) && b) (sym (notified-tells l p token r.legal))))))
  where
    ends : Exchange → Bool
    ends e = is_under token e && expires t S.links e

    apart : list_any ends S.exchanges ≡ true → list_any (comes_to p token) (map held_of (watches l)) ≡ true → ⊥
    apart any comes =
        let found = find-any ends S.exchanges any in
        let it = find-some ends S.exchanges found.0 found.1 in
        exchange-apart l found.0 token r.legal (all-of (ExchangeIn r.start l) S.exchanges found.0 r.exchanges_are it.0)
        ((bytes_eq-Decides found.0.token token).0 (and_parts (is_under token found.0) (expires t S.links found.0) it.1).0) (coming-stands l p token comes)

    by : (a : Bool) → list_any ends S.exchanges ≡ a → (c : Bool) → list_any (comes_to p token) (map held_of (watches l)) ≡ c → (b : Bool) → (not b && c) ≡ (not (a || b) && c)
    by false e c f b = refl
    by true e false f true = refl
    by true e false f false = refl
    by true e true f b = absurd (apart e f)

end-tokens : (l : List Noted) (t : ℕ) (S : State) (p : Peer) → Reads l S → Legal (ticked_at t ∷ l) → EndTokens l t p (link_of S.links p) (is_gone t S)
end-tokens l t S p r legal = record {
  awaited = awaited-ends l t S p r;
  waiting = all-end r.start l t (is_gone t S) (Contains (waiting l p)) (Contains (link_of S.links p).waiting) (waiting-ends l t S p r) (waiting l p) (link_of S.links p).waiting
      (among-itself (waiting l p)) (among-itself (link_of S.links p).waiting) (r.links_are p).waits;
  watched = watched-ends l t S p r legal;
}

fewer-wait : (t : ℕ) (S : State) (e : Exchange) → WaitsUnder (link_of S.links e.peer).waiting e → WaitsUnder (link_of (map (passed t S) S.links) e.peer).waiting e
fewer-wait t S e under =
    subst (λ (s : LinkState). WaitsUnder s.waiting e) (sym (link-passed t S e.peer S.links))
    (λ w h. under w ((filtered-from (λ (v : Waiting). not (is_gone t S v.token)) (link_of S.links e.peer).waiting w h).0))

-- A tick ends nothing with a response, nor is anything renewed by it.
abbrev IsOfReplies : Ending → Type 0
IsOfReplies (Whole w rs) = ⊤
IsOfReplies (Renewed s r) = ⊤
IsOfReplies how = ⊥

passed-no-response : (l : List Noted) (t o : ℕ) (how : Ending) → IsOfReplies how → end_of l o ≡ None → Ends (ticked_at t ∷ l) o (length l) how → ⊥
passed-no-response l t o how of going e = by (turn l o (ticked_at t)) (expired (ends_at l o t (waits_for l o))) (sym (ap (end_by (end_here (begun l o) (kept_of l o) (length l) (heard_for l o) (turn l o (ticked_at t))) (length l)) going) ∙ e)
  where
    expired : (b : Bool) → (cond b Expired Nothing ≡ Expired) ⊎ (cond b Expired Nothing ≡ Nothing)
    expired true = inl refl
    expired false = inr refl

    by : (u : Turn) → (u ≡ Expired) ⊎ (u ≡ Nothing) → end_by (end_here (begun l o) (kept_of l o) (length l) (heard_for l o) u) (length l) None ≡ Some (record { number = length l; how = how }) → ⊥
    by Expired h e = subst IsOfReplies (sym (ap (λ (f : End). f.how) (some-is _ _ e))) of
    by Nothing h e = absurd cc
    by (Sent i) h e = absurd cc
    by Rejected h e = subst IsOfReplies (sym (ap (λ (f : End). f.how) (some-is _ _ e))) of
    by (Replied i m place) (inl h) e = absurd cc
    by (Replied i m place) (inr h) e = absurd cc

-- The pieces of what goes on are as before.
not-over : (l : List Noted) (t : ℕ) (S : State) (r : Reads l S) (e : Exchange) → ExchangeIn r.start l e → stays t S e ≡ true → (es : List Exchange)
    → AllByRecursion (ExchangeIn r.start l) es → list_any (λ (f : Exchange). eqb e.opening f.opening) (filter (expires t S.links) es) ≡ false
not-over l t S r e a goes [] all = refl
not-over l t S r e a goes (f ∷ es) all = by (expires t S.links f) refl (not-over l t S r e a goes es all.1)
  where
    differs : (b : Bool) → eqb e.opening f.opening ≡ b → expires t S.links f ≡ true → b ≡ false
    differs false q over = refl
    differs true q over =
        let same = eqb-same e.opening f.opening q in
        let its : expires t S.links e ≡ expires t S.links f =
        expires-alike l t S.links e r.legal r.links_are a
        ∙ (ap (λ (o : ℕ). ends_at l o t (waits_for l o)) same ∙ sym (expires-alike l t S.links f r.legal r.links_are all.0)) in
        sym (its ∙ over) ∙ not-true (expires t S.links e) goes

    by : (b : Bool) → expires t S.links f ≡ b → list_any (λ (f : Exchange). eqb e.opening f.opening) (filter (expires t S.links) es) ≡ false
        → list_any (λ (f : Exchange). eqb e.opening f.opening) (cond b (f ∷ filter (expires t S.links) es) (filter (expires t S.links) es)) ≡ false
    by true is ih = rw (differs (eqb e.opening f.opening) refl is) ih
    by false is ih = ih

numbers-spared : (o : ℕ) (over : List Exchange) (xs : List Piece) → list_any (λ (f : Exchange). eqb o f.opening) over ≡ false
    → numbers_of o (filter (is_of_none over) xs) ≡ numbers_of o xs
numbers-spared o over [] none = refl
numbers-spared o over (x ∷ xs) none = by (eqb x.opening o) refl (is_of_none over x) refl (numbers-spared o over xs none)
  where
    spared : x.opening ≡ o → is_of_none over x ≡ true
    spared same = ap not (ap (λ (k : ℕ). list_any (λ (f : Exchange). eqb k f.opening) over) same ∙ none)

    by : (b : Bool) → eqb x.opening o ≡ b → (c : Bool) → is_of_none over x ≡ c → numbers_of o (filter (is_of_none over) xs) ≡ numbers_of o xs
        → numbers_of o (cond c (x ∷ filter (is_of_none over) xs) (filter (is_of_none over) xs)) ≡ numbers_of o (x ∷ xs)
    by true is true left ih = rw (is) (ap (λ (ns : List ℕ). x.number ∷ ns) ih)
    by true is false left ih = absurd (false≢true (sym left ∙ spared (eqb-same x.opening o is)))
    by false is true left ih = rw (is) ih
    by false is false left ih = rw (is) ih

pieces-passed : (l : List Noted) (t : ℕ) (S : State) → Reads l S
    → PiecesIn (ticked_at t ∷ l) (left_by S.entries (timed_out t S) (filter (stays t S) S.exchanges)) (filter (is_of_none (timed_out t S)) S.pieces)
pieces-passed l t S r = record {
  fetched = left-all (λ (e : Exchange). numbers (got_in n e.opening) ≡ numbers_of e.opening (filter (is_of_none (timed_out t S)) S.pieces)) (λ e k. k) S.entries (timed_out t S) kept
      (all-more _ _ (λ e h. h.0 ∙ sym (numbers-spared e.opening (timed_out t S) S.pieces (not-over l t S r e h.1.0 h.1.1 S.exchanges r.exchanges_are))) kept
      (all-both _ _ kept (all-filter _ (stays t S) S.exchanges old.fetched)
      (all-both (ExchangeIn r.start l) (λ (e : Exchange). stays t S e ≡ true) kept (all-filter (ExchangeIn r.start l) (stays t S) S.exchanges r.exchanges_are) (all-passes (stays t S) S.exchanges))));
  below = all-filter _ (is_of_none (timed_out t S)) S.pieces old.below;
}
  where
    n : List Noted
    n = ticked_at t ∷ l

    kept : List Exchange
    kept = filter (stays t S) S.exchanges

    old : PiecesIn n S.exchanges S.pieces
    old = pieces-quiet (ticked_at t) l S.exchanges S.pieces (ExchangeIn r.start l) (λ e h. (_, h.opening))
        (λ e h. replies-stay (length l) _ _ (passed-quiet l t e.opening)) r.exchanges_are r.pieces_are

-- So is what they ask about.
stales-passed : (l : List Noted) (t : ℕ) (S : State) → Reads l S
    → StalesIn (ticked_at t ∷ l) (left_by S.entries (timed_out t S) (filter (stays t S) S.exchanges)) (filter (is_stale_of_none (timed_out t S)) S.stales)
stales-passed l t S r = record {
  kept = left-all (λ (e : Exchange). kept_in n e.opening ≡ stale_in e.opening (filter (is_stale_of_none (timed_out t S)) S.stales)) (λ e k. k) S.entries (timed_out t S) going
      (all-more _ _ (λ e h. h.0 ∙ sym (stale-spared e.opening (timed_out t S) S.stales (not-over l t S r e h.1.0 h.1.1 S.exchanges r.exchanges_are))) going
      (all-both _ _ going (all-filter _ (stays t S) S.exchanges old.kept)
      (all-both (ExchangeIn r.start l) (λ (e : Exchange). stays t S e ≡ true) going (all-filter (ExchangeIn r.start l) (stays t S) S.exchanges r.exchanges_are) (all-passes (stays t S) S.exchanges))));
  below = all-filter _ (is_stale_of_none (timed_out t S)) S.stales old.below;
}
  where
    n : List Noted
    n = ticked_at t ∷ l

    going : List Exchange
    going = filter (stays t S) S.exchanges

    old : StalesIn n S.exchanges S.stales
    old = stales-quiet (ticked_at t) l S.exchanges S.stales (ExchangeIn r.start l) (λ e h. (_, h.opening))
        (λ e h. replies-stay (length l) _ _ (passed-quiet l t e.opening)) r.exchanges_are r.stales_are

pub passes-leads : PassesLeads
passes-leads l t S b may =
    let r = b.reads in
    let n = ticked_at t ∷ l in
    let later = later-than l t S b in
    let kept = filter (stays t S) S.exchanges in
    record {
      follows = (may, tt);
      reads = record {
        start = r.start;
        few = r.few;
        entries_are = ap (λ (es : List Written). es ++ record { moment = t; deed = Passes } ∷ []) r.entries_are;
        legal = (r.legal, later, (may, tt));
        sealed_is = r.sealed_is;
        moment_is = moment-now l t S b;
        opened_are = r.opened_are;
        opens_are = r.opens_are;
        issued_are = ap (λ (k : ℕ). r.start.issued + k) (issued-same (ticked_at t) l refl (λ o goes. passed-quiet l t o)) ∙ r.issued_are;
        conns_are = r.conns_are;
        readers_are = r.readers_are;
        keys = open-passed l t S r ∙ sym (left-openings S.entries (timed_out t S) kept);
        exchanges_are = left-each (ExchangeIn r.start n) (λ (e : Exchange). ExchangeIn r.start l e × (stays t S e ≡ true)) S.entries (timed_out t S)
            (λ e a. exchange-kept l t S r e (outrun_by S.entries (timed_out t S) e).current a.0 a.1
            (current-now (ticked_at t) l S r (timed_out t S) (passes-ends l t S r) (r.legal, later, (may, tt)) e a.0)) kept
            (all-both (ExchangeIn r.start l) (λ (e : Exchange). stays t S e ≡ true) kept (all-filter (ExchangeIn r.start l) (stays t S) S.exchanges r.exchanges_are) (all-passes (stays t S) S.exchanges));
        pieces_are = pieces-passed l t S r;
        stales_are = stales-passed l t S r;
        watches_are = watches-passed l t S r (r.legal, later, (may, tt));
        store_is = store-retired (ticked_at t) l S r (r.legal, later, (may, tt)) (timed_out t S) (passes-ends l t S r) refl tt (λ o w rs going e. passed-no-response l t o (Whole w rs) tt going e)
            (λ o s r going e. passed-no-response l t o (Renewed s r) tt going e);
        tokens_are = r.tokens_are;
        waiting_are = left-all (λ (e : Exchange). WaitsUnder (link_of (map (passed t S) S.links) e.peer).waiting e) (λ e k. k) S.entries (timed_out t S) kept
            (all-more _ _ (fewer-wait t S) kept (all-filter (λ (e : Exchange). WaitsUnder (link_of S.links e.peer).waiting e) (stays t S) S.exchanges r.waiting_are));
        links_are = λ p. subst (Agrees b.reads.start n p) (sym (link-passed t S p S.links))
            (pass-agrees _ l t p (link_of S.links p) (is_gone t S) (link-before l t S b p) (end-tokens l t S p r (r.legal, later, (may, tt))));
      };
    }
