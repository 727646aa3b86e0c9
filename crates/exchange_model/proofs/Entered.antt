-- Entries that are added in one piece, and the tables after them.
use Rattle.std.proofs.Common.{◌≡◌, ℕ, ◌+◌, Bool, true, false, cond, List, [], ◌∷◌, ◌++◌, length, map, Option, Some, None, refl, sym, ap, ◌∙◌, arith, length-append}
use Rattle.std.specs.Prelude.{is_none, is_some}
use Rattle.std.specs.List.{AllByRecursion}
use Rattle.std.proofs.lemmas.Bool.{false≢true}
use Rattle.uri_map.specs.declared.peer.Peer.{Peer}
use Rattle.uri_map.specs.Peers.{same_peer}
use Rattle.uri_map.proofs.CallerLemmas.{same_peer-itself}
use Rattle.message_layer.specs.Values.{LinkState}
use Rattle.message_layer.specs.Sending.{first_sent, with_outstanding, next_by as call_next_by, submitted_by}
use Rattle.message_layer.specs.declared.state.Outstanding.{Outstanding}
use Rattle.message_layer.specs.declared.state.Waiting.{Waiting}
use Rattle.observe_share.specs.declared.registration.Registration.{Registration}
use Rattle.resp_cache.specs.declared.pair.Pair.{Pair}
use Rattle.journal_book.specs.Entries.{Deed}
use Rattle.exchange_model.specs.declared.kept.Exchange.{Exchange}
use Rattle.exchange_model.specs.declared.kept.Piece.{Piece}
use Rattle.exchange_model.specs.State.{PeerLink, State, link_of, with_link}
use Rattle.exchange_model.specs.Steps.{entered, given_out, went_out}
use Rattle.exchange_model.specs.Calls.{next_by, next}
use Rattle.exchange_model.specs.Entering.{entered_all, Going, going_as, sent_as, first_deeds, in_turn}
use Rattle.exchange_model.proofs.Tables.{link-same}
use Rattle.exchange_model.proofs.LinksHeard.{turned}
use Rattle.exchange_model.specs.declared.kept.Stale.{Stale}

-- entries, and two tables after them
abbrev pub put : ℕ → List Deed → List Exchange → List PeerLink → State → State
put t ds es xs S = let S1 = entered_all t ds S in record S1 { exchanges = es; links = xs }

-- What entries do is the same whatever these tables are.
pub framed : (t : ℕ) (ds : List Deed) (n : ℕ) (es : List Exchange) (xs : List PeerLink) (S : State)
    → entered_all t ds (record S { issued = n; exchanges = es; links = xs })
    ≡ (let S1 = entered_all t ds S in record S1 { issued = n; exchanges = es; links = xs })
framed t [] n es xs S = refl
framed t (d ∷ ds) n es xs S = framed t ds n es xs (entered t d S)

apart : (t : ℕ) (ds : List Deed) (es : List Exchange) (xs : List PeerLink) (S : State)
    → entered_all t ds (record S { exchanges = es; links = xs }) ≡ put t ds es xs S
apart t [] es xs S = refl
apart t (d ∷ ds) es xs S = apart t ds es xs (entered t d S)

pub stored : (t : ℕ) (ds : List Deed) (pieces : List Piece) (stales : List Stale) (watches : List Registration) (store : List Pair) (S : State)
    → entered_all t ds (record S { pieces = pieces; stales = stales; watches = watches; store = store })
    ≡ (let S1 = entered_all t ds S in record S1 { pieces = pieces; stales = stales; watches = watches; store = store })
stored t [] pieces stales watches store S = refl
stored t (d ∷ ds) pieces stales watches store S = stored t ds pieces stales watches store (entered t d S)

pub issued-stored : (t : ℕ) (ds : List Deed) (n : ℕ) (pieces : List Piece) (stales : List Stale) (watches : List Registration) (store : List Pair) (S : State)
    → entered_all t ds (record S { issued = n; pieces = pieces; stales = stales; watches = watches; store = store })
    ≡ (let S1 = entered_all t ds S in record S1 { issued = n; pieces = pieces; stales = stales; watches = watches; store = store })
issued-stored t [] n pieces stales watches store S = refl
issued-stored t (d ∷ ds) n pieces stales watches store S = issued-stored t ds n pieces stales watches store (entered t d S)

pub entered-both : (t : ℕ) (ds fs : List Deed) (S : State)
    → entered_all t (ds ++ fs) S ≡ entered_all t fs (entered_all t ds S)
entered-both t [] fs S = refl
entered-both t (d ∷ ds) fs S = entered-both t ds fs (entered t d S)

pub put-put : (t : ℕ) (ds fs : List Deed) (es gs : List Exchange) (xs ys : List PeerLink)
    (S : State) → put t fs gs ys (put t ds es xs S) ≡ put t (ds ++ fs) gs ys S
put-put t ds fs es gs xs ys S =
    ap (λ (U : State). record U { exchanges = gs; links = ys })
    (apart t fs es xs (entered_all t ds S))
    ∙ ap (λ (U : State). record U { exchanges = gs; links = ys }) (sym (entered-both t ds fs S))

-- one piece after another
pub after : (t : ℕ) (ds fs : List Deed) (es gs : List Exchange) (xs ys : List PeerLink)
    (S S1 S2 : State)
    → S1 ≡ put t ds es xs S → S2 ≡ put t fs gs ys S1 → S2 ≡ put t (ds ++ fs) gs ys S
after t ds fs es gs xs ys S S1 S2 a b = b ∙ (ap (put t fs gs ys) a ∙ put-put t ds fs es gs xs ys S)

pub entries-more : (t : ℕ) (ds : List Deed) (S : State)
    → length (entered_all t ds S).entries ≡ length S.entries + length ds
entries-more t [] S = omega arith
entries-more t (d ∷ ds) S =
    let ih = entries-more t ds (entered t d S) in
    let one : length (entered t d S).entries ≡ length S.entries + 1 =
    length-append S.entries (record { moment = t; deed = d } ∷ []) in
    omega (arith, ih, one)

pub sent-both : (gs hs : List Going) (es : List Exchange)
    → sent_as hs (sent_as gs es) ≡ sent_as (gs ++ hs) es
sent-both [] hs es = refl
sent-both (g ∷ gs) hs es = sent-both gs hs (map (went_out g.token g.number) es)

-- links

pub with-with : (p : Peer) (s u : LinkState) (xs : List PeerLink)
    → with_link p u (with_link p s xs) ≡ with_link p u xs
with-with p s u [] = rw (same_peer-itself p) refl
with-with p s u (x ∷ xs) = by (same_peer x.peer p) refl (with-with p s u xs)
  where
    by : (b : Bool) → same_peer x.peer p ≡ b → with_link p u (with_link p s xs) ≡ with_link p u xs
        → with_link p u (cond b (record { peer = x.peer; link = s } ∷ xs) (x ∷ with_link p s xs))
        ≡ cond b (record { peer = x.peer; link = u } ∷ xs) (x ∷ with_link p u xs)
    by true e ih = rw (e) refl
    by false e ih = rw (e) (ap (λ (ys : List PeerLink). x ∷ ys) ih)

-- a link from which something was sent is there
pub link-there : (p : Peer) (xs : List PeerLink) → is_some (link_of xs p).last_mid ≡ true
    → with_link p (link_of xs p) xs ≡ xs
link-there p [] h = absurd (false≢true h)
link-there p (x ∷ xs) h = by (same_peer x.peer p) refl h (link-there p xs)
  where
    by : (b : Bool) → same_peer x.peer p ≡ b → is_some (cond b x.link (link_of xs p)).last_mid
        ≡ true → (is_some (link_of xs p).last_mid ≡ true → with_link p (link_of xs p) xs ≡ xs)
        → cond b (record { peer = x.peer; link = cond b x.link (link_of xs p) } ∷ xs)
        (x ∷ with_link p (cond b x.link (link_of xs p)) xs) ≡ x ∷ xs
    by true e h ih = refl
    by false e h ih = ap (λ (ys : List PeerLink). x ∷ ys) (ih h)

pub out-at : (p : Peer) (xs : List PeerLink) → AllByRecursion (λ (x : PeerLink). x.link.out ≡ []) xs
    → (link_of xs p).out ≡ []
out-at p [] a = refl
out-at p (x ∷ xs) a = by (same_peer x.peer p) a.0 (out-at p xs a.1)
  where
    by : (b : Bool) → x.link.out ≡ [] → (link_of xs p).out ≡ []
        → (cond b x.link (link_of xs p)).out ≡ []
    by true here ih = here
    by false here ih = ih

pub given-itself : (s : LinkState) → s.out ≡ [] → given_out s ≡ s
given-itself s e = ap (λ (us : List (List ℕ)). record s { out = us }) (sym e)

-- The next message, where it has its turn.

abbrev pub turn_of : LinkState → Option Waiting
turn_of s = in_turn (is_none s.outstanding) s.waiting

-- the link after it
abbrev went : ℕ → LinkState → Option Outstanding → List Waiting → LinkState
went t s None ws = call_next_by t s ws
went t s (Some o) ws = s

went-turned : (t : ℕ) (s : LinkState) (v : Option Outstanding)
    → went t s v s.waiting ≡ submitted_by t s v
went-turned t s None = refl
went-turned t s (Some o) = refl

-- a turn of a link
abbrev stepped : ℕ → Peer → LinkState → Option Outstanding → List Waiting → State → State
stepped t p u None [] S = S
stepped t p u (Some o) ws S = S
stepped t p u None (w ∷ ws) S =
    put t (first_deeds t p u.last_mid (Some w))
    (sent_as (going_as (length S.entries) (Some w)) S.exchanges)
    (with_link p (given_out (with_outstanding u ws (first_sent t u.last_mid w))) S.links) S

next-stepped : (t : ℕ) (p : Peer) (S : State) (v : Option Outstanding) (ws : List Waiting)
    → next_by t p v ws S ≡ stepped t p (link_of S.links p) v ws S
next-stepped t p S None [] = refl
next-stepped t p S (Some o) ws = refl
next-stepped t p S None (w ∷ ws) = refl

pub next-put : (t : ℕ) (p : Peer) (s : LinkState) (xs : List PeerLink) (S : State)
    → S.links ≡ with_link p s xs → s.out ≡ []
    → next t p S ≡ put t (first_deeds t p s.last_mid (turn_of s))
    (sent_as (going_as (length S.entries) (turn_of s)) S.exchanges)
    (with_link p (given_out (turned t s)) xs) S
next-put t p s xs S links none =
    next-stepped t p S (link_of S.links p).outstanding (link_of S.links p).waiting
    ∙ (ap (λ (u : LinkState). stepped t p u u.outstanding u.waiting S) here
    ∙ (by s.outstanding s.waiting refl refl
    ∙ ap (λ (u : LinkState). after_turn s.outstanding s.waiting (given_out u))
    (went-turned t s s.outstanding)))
  where
    here : link_of S.links p ≡ s
    here = ap (λ (ys : List PeerLink). link_of ys p) links ∙ link-same p s xs

    after_turn : Option Outstanding → List Waiting → LinkState → State
    after_turn v ws u =
        let w = in_turn (is_none v) ws in
        put t (first_deeds t p s.last_mid w) (sent_as (going_as (length S.entries) w) S.exchanges)
        (with_link p u xs) S

    still : (u : LinkState) → s ≡ u → S ≡ record S { links = with_link p u xs }
    still u e = ap (λ (ys : List PeerLink). record S { links = ys })
        (links ∙ ap (λ (v : LinkState). with_link p v xs) e)

    by : (v : Option Outstanding) (ws : List Waiting) → s.outstanding ≡ v → s.waiting ≡ ws
        → stepped t p s v ws S ≡ after_turn v ws (given_out (went t s v ws))
    by None [] e f = still (given_out (went t s None []))
        (ap (λ (v : Option Outstanding). record s { outstanding = v }) e
        ∙ ap (λ (us : List (List ℕ)). record s { outstanding = None; out = us }) none)
    by (Some o) ws e f = still (given_out s) (sym (given-itself s none))
    by None (w ∷ ws) e f =
        let u = given_out (with_outstanding s ws (first_sent t s.last_mid w)) in
        ap (λ (ys : List PeerLink). put t (first_deeds t p s.last_mid (Some w))
        (sent_as (going_as (length S.entries) (Some w)) S.exchanges) ys S)
        (ap (with_link p u) links ∙ with-with p s u xs)
