-- What an entry that leaves a peer alone leaves of what a link keeps.
use Rattle.std.proofs.Common.{◌≡◌, ℕ, ◌≤◌, ◌<◌, Bool, inl, inr, length, arith, is_some, true, false, ◌+◌, ◌&&◌, List, [], ◌∷◌, Option, Some, None, refl, sym, ap, subst, ◌∙◌, cond}
use Rattle.std.specs.Prelude.{option_map, ◌||◌}
use Rattle.std.specs.List.{AllByRecursion, list_any, filter_map}
use Rattle.std.proofs.lemmas.Bool.Decides.{eqb_tells}
use Rattle.uri_map.specs.declared.peer.Peer.{Peer}
use Rattle.resp_cache.specs.Stored.{Stored}
use Rattle.ask_model.specs.Requests.{Manner}
use Rattle.message_layer.specs.Values.{LinkState}
use Rattle.message_layer.specs.declared.state.Waiting.{Waiting}
use Rattle.message_layer.specs.declared.state.Heard.{Heard}
use Rattle.message_layer.specs.declared.state.Reply.{Reply}
use Rattle.history_laws.specs.Readings.{Noted, at, newest, before}
use Rattle.history_laws.specs.Transmissions.{bears_token, firsts, first_at}
use Rattle.history_laws.specs.Progress.{Reply as ExchangeReply, progress, next_message}
use Rattle.history_laws.specs.Exchanges.{Begun, begun, kept, openings, turn, waits_for, replies, heard_for, end_of, awaited, is_waiting, waiting, issued, rank}
use Rattle.history_laws.specs.Hearing.{went_under, went_as, is_like, heard_before, live_heard, recalls}
use Rattle.history_laws.specs.Confirming.{answered_as}
use Rattle.history_laws.proofs.CallerLemmas.{all-more, at-cases, at-keeps, begun-keeps, issued-same, none-submitted, NoReply, queue-same, rank-keeps, replies-stay, waiting-all, waiting-begun, waiting-stays, before-keeps, begun-below, heard-stays}
use Rattle.history_links.specs.Agrees.{Start, IsWaitingFor, TurnIn, WaitIn, reply_of, awaits, awaits_ack, HeardIn, Agrees, notified, expects}
use Rattle.history_laws.specs.Observing.{manner, manner_by, observes, tag_of, unless_replied, wants_in, watched}

-- From the newest entry on is from an older one on.
pub since : {s : ℕ} (l : List Noted) {t u : ℕ} → newest l ≤ t → (s ≤ u) × (t ≤ u) → (s ≤ u) × (newest l ≤ u)
since l earlier from = (from.0, let later = from.1 in omega (arith, earlier, later))

pub filter_map-same : {X Y : Type 0} (f g : X → Option Y) → ((x : X) → f x ≡ g x) → (xs : List X) → filter_map f xs ≡ filter_map g xs
filter_map-same f g same [] = refl
filter_map-same f g same (x ∷ xs) = rw (same x, filter_map-same f g same xs) refl

-- The newer history says of first sendings, exchanges and messages on their way what the older one says.
pub record Still (l n : List Noted) : Type 0 where
  pub later : newest l ≤ newest n
  pub stands : (i : ℕ) (x : Noted) → at l i ≡ Some x → at n i ≡ Some x
  pub firsts_are : firsts n ≡ firsts l
  pub recalled_are : (p : Peer) → list_any (recalls p) n ≡ list_any (recalls p) l
  pub openings_are : openings n ≡ openings l
  pub begun_are : (o : ℕ) → begun n o ≡ begun l o
  pub waits_are : (o : ℕ) → waits_for n o ≡ waits_for l o
  pub ends_are : (o : ℕ) → end_of n o ≡ end_of l o
  pub replies_are : (o : ℕ) → replies n o ≡ replies l o
  pub heard_are : (o : ℕ) {b : Begun} → begun l o ≡ Some b → heard_for n o ≡ heard_for l o
  pub ranks_are : (o : ℕ) {b : Begun} → begun l o ≡ Some b → rank n o ≡ rank l o
  pub waiting_are : (p : Peer) → waiting n p ≡ waiting l p
  pub issued_are : issued n ≡ issued l
  pub watched_are : watched n ≡ watched l
  pub observes_are : (o : ℕ) {b : Begun} → begun l o ≡ Some b → observes n o ≡ observes l o
  pub kept_are : (o : ℕ) {b : Begun} → begun l o ≡ Some b → kept n o ≡ kept l o

pub first_at-still : (l n : List Noted) → Still l n → (i : ℕ) → first_at n i ≡ first_at l i
first_at-still l n e i = rw (e.firsts_are) refl

pub awaited-still : (l n : List Noted) → Still l n → awaited n ≡ awaited l
awaited-still l n e = rw (e.openings_are) (filter_map-same (waits_for n) (waits_for l) e.waits_are (openings l))

-- An exchange keeps what its message was submitted as.
pub record Keeps (l n : List Noted) (o : ℕ) : Type 0 where
  pub begun_is : (b : Begun) → begun l o ≡ Some b → begun n o ≡ Some b
  pub heard_are : heard_for n o ≡ heard_for l o
  pub rank_is : rank n o ≡ rank l o
  pub manner_is : manner n o ≡ manner l o

pub waits-one : {start : Start} (l n : List Noted) (o : ℕ) (w : Waiting) → Keeps l n o → (bears_token l w.token ≡ false → bears_token n w.token ≡ false)
    → IsWaitingFor start l o w → IsWaitingFor start n o w
waits-one {start = start} l n o w keeps apart a = record {
  since = a.since;
  request = a.request;
  opening = keeps.begun_is (record { since = a.since; request = a.request }) a.opening;
  message = a.message;
  next = ap (λ (f : Manner). next_message f a.request (progress a.request (heard_for n o)) 0 w.token) keeps.manner_is
      ∙ (ap (λ (rs : List ExchangeReply). next_message (manner l o) a.request (progress a.request rs) 0 w.token) keeps.heard_are ∙ a.next);
  spelled = a.spelled;
  token_size = a.token_size;
  token_apart = apart a.token_apart;
  numbered = a.numbered ∙ sym (ap (λ (k : ℕ). start.issued + k) keeps.rank_is);
  least = a.least;
  greatest = a.greatest;
}

waits-each : (start : Start) (l n : List Noted) → firsts n ≡ firsts l → (os : List ℕ) (ws : List Waiting) → AllByRecursion (Keeps l n) os → WaitIn start l os ws → WaitIn start n os ws
waits-each start l n same [] [] keeps a = a
waits-each start l n same [] (w ∷ ws) keeps a = a
waits-each start l n same (o ∷ os) [] keeps a = a
waits-each start l n same (o ∷ os) (w ∷ ws) keeps a = (waits-one l n o w keeps.0 (λ e. rw (same) e) a.0, waits-each start l n same os ws keeps.1 a.1)

-- While no reply comes to it, an exchange asks to observe, or doesn't.
pub observes-keep : (x : Noted) (l : List Noted) (o : ℕ) (b : Begun) → begun l o ≡ Some b → replies (x ∷ l) o ≡ replies l o → observes (x ∷ l) o ≡ observes l o
observes-keep x l o b begins same =
    ap (λ (h : List Noted). unless_replied (wants_in h (at (x ∷ l) o)) (replies (x ∷ l) o)) (before-keeps x l o below)
    ∙ (ap (λ (v : Option Noted). unless_replied (wants_in (before l o) v) (replies (x ∷ l) o)) here ∙ ap (unless_replied (wants_in (before l o) (at l o))) same)
  where
    below : o < length l
    below = begun-below l o b begins

    here : at (x ∷ l) o ≡ at l o
    here = elim (at-cases x l o) [ inl w ↦ let place = w.0 in let lt = below in absurd (omega (arith, place, lt)) | inr w ↦ w.1 ]

-- It keeps what it kept, and so its next message asks in the same manner.
pub kept-keeps : (x : Noted) (l : List Noted) (o : ℕ) → o < length l → kept (x ∷ l) o ≡ kept l o
kept-keeps x l o below = elim (eqb_tells (length l) o) [ inl e ↦ let same = e.1 in absurd (omega (arith, below, same)) | inr e ↦ rw (e.0) refl ]

pub manner-same : (l n : List Noted) (o : ℕ) → kept n o ≡ kept l o → replies n o ≡ replies l o → observes n o ≡ observes l o → manner n o ≡ manner l o
manner-same l n o keeps replied same =
    ap (λ (v : Option Stored). manner_by (tag_of v (replies n o)) (observes n o)) keeps
    ∙ (ap (λ (rs : List ExchangeReply). manner_by (tag_of (kept l o) rs) (observes n o)) replied ∙ ap (manner_by (tag_of (kept l o) (replies l o))) same)

pub manner-keep : (x : Noted) (l : List Noted) (o : ℕ) (b : Begun) → begun l o ≡ Some b → replies (x ∷ l) o ≡ replies l o → manner (x ∷ l) o ≡ manner l o
manner-keep x l o b begins same =
    manner-same l (x ∷ l) o (kept-keeps x l o (begun-below l o b begins)) same (observes-keep x l o b begins same)

-- Who waits keeps it, whatever comes.
pub waiting-keeps : (x : Noted) (l : List Noted) (p : Peer) (o : ℕ) → is_waiting l p o ≡ true → Keeps l (x ∷ l) o
waiting-keeps x l p o e =
    let b = waiting-begun l p o e in
    let same = waiting-stays x l p o e in
    record {
      begun_is = λ c is. begun-keeps x l o c is;
      heard_are = heard-stays x l o b.0 b.1 same;
      rank_is = rank-keeps x l o b.0 b.1 same;
      manner_is = manner-keep x l o b.0 b.1 same;
    }

pub waits-all : (start : Start) (x : Noted) (l : List Noted) (p : Peer) → firsts (x ∷ l) ≡ firsts l → (os : List ℕ) (ws : List Waiting)
    → AllByRecursion (λ (o : ℕ). is_waiting l p o ≡ true) os → WaitIn start l os ws → WaitIn start (x ∷ l) os ws
waits-all start x l p same os ws waiting =
    waits-each start l (x ∷ l) same os ws (all-more (λ (o : ℕ). is_waiting l p o ≡ true) (Keeps l (x ∷ l)) (waiting-keeps x l p) os waiting)

-- One entry more leaves what it says, where it leaves these.
pub still-by : (x : Noted) (l : List Noted) → newest l ≤ x.written.moment → firsts (x ∷ l) ≡ firsts l → openings (x ∷ l) ≡ openings l
    → ((o : ℕ) → begun (x ∷ l) o ≡ begun l o) → ((o : ℕ) → waits_for (x ∷ l) o ≡ waits_for l o) → ((o : ℕ) → end_of (x ∷ l) o ≡ end_of l o)
    → ((o : ℕ) → NoReply (turn l o x)) → ((p : Peer) → recalls p x ≡ false) → watched (x ∷ l) ≡ watched l → Still l (x ∷ l)
still-by x l later firsts_are openings_are begun_are waits_are ends_are quiet own watched_are = record {
  later = later;
  stands = λ i y e. at-keeps x l i y e;
  firsts_are = firsts_are;
  recalled_are = λ p. rw (own p) refl;
  openings_are = openings_are;
  begun_are = begun_are;
  waits_are = waits_are;
  ends_are = ends_are;
  replies_are = replied;
  heard_are = λ o {b} e. heard-stays x l o b e (replied o);
  ranks_are = λ o {b} e. rank-keeps x l o b e (replied o);
  waiting_are = λ p. queue-same x l p (none-submitted x l p openings_are (λ o w. quiet o)) (λ o w. waiting p o ∙ w);
  issued_are = issued-same x l openings_are (λ o goes. quiet o);
  watched_are = watched_are;
  observes_are = λ o {b} e. observes-keep x l o b e (replied o);
  kept_are = λ o {b} e. kept-keeps x l o (begun-below l o b e);
}
  where
    replied : (o : ℕ) → replies (x ∷ l) o ≡ replies l o
    replied o = replies-stay (length l) (turn l o x) (replies l o) (quiet o)

    waiting : (p : Peer) (o : ℕ) → is_waiting (x ∷ l) p o ≡ is_waiting l p o
    waiting p o = rw (begun_are o, waits_are o, ends_are o) refl

-- It says of what was heard from the peer what the older one says.
pub record SameHeard (l n : List Noted) (p : Peer) : Type 0 where
  pub later : newest l ≤ newest n
  pub before : (t mid : ℕ) → heard_before n t p mid ≡ heard_before l t p mid
  pub live : (t : ℕ) → live_heard n t p ≡ live_heard l t p
  pub below : (t mid j : ℕ) → heard_before l t p mid ≡ Some j → at n j ≡ at l j

pub list_any-same : {X : Type 0} (p q : X → Bool) → ((x : X) → p x ≡ q x) → (xs : List X) → list_any p xs ≡ list_any q xs
list_any-same p q same [] = refl
list_any-same p q same (x ∷ xs) = rw (same x, list_any-same p q same xs) refl

-- What was heard before stands among the entries.
below : (x : Noted) (l : List Noted) (t : ℕ) (p : Peer) (mid j : ℕ) (b : Bool) → is_like t p mid x ≡ b
    → ((k : ℕ) → heard_before l t p mid ≡ Some k → k < length l) → heard_before (x ∷ l) t p mid ≡ Some j → j < length (x ∷ l)
below x l t p mid j true e ih h =
    let is : Some (length l) ≡ Some j = subst (λ (b : Bool). cond b (Some (length l)) (heard_before l t p mid) ≡ Some j) e h in
    let same : length l ≡ j = cc in
    omega (arith, same)
below x l t p mid j false e ih h =
    let is : heard_before l t p mid ≡ Some j = subst (λ (b : Bool). cond b (Some (length l)) (heard_before l t p mid) ≡ Some j) e h in
    let lt = ih j is in
    omega (arith, lt)

pub heard-below : (l : List Noted) (t : ℕ) (p : Peer) (mid j : ℕ) → heard_before l t p mid ≡ Some j → j < length l
heard-below [] t p mid j e = cc
heard-below (x ∷ older) t p mid j e = below x older t p mid j (is_like t p mid x) refl (λ k. heard-below older t p mid k) e

pub heard-at : (x : Noted) (l : List Noted) (t : ℕ) (p : Peer) (mid j : ℕ) → heard_before l t p mid ≡ Some j → at (x ∷ l) j ≡ at l j
heard-at x l t p mid j e =
    let lt = heard-below l t p mid j e in
    elim (at-cases x l j) [ inl w ↦ let same = w.0 in absurd (omega (arith, same, lt)) | inr w ↦ w.1 ]

-- the answers to what is heard again
abbrev pub answers_in : List Noted → ℕ → Reply
answers_in l j = reply_of (answered_as (at l j))

found-same : (l n : List Noted) (found : Option ℕ) → ((j : ℕ) → found ≡ Some j → at n j ≡ at l j)
    → option_map (answers_in n) found ≡ option_map (answers_in l) found
found-same l n None same = refl
found-same l n (Some j) same = rw (same j refl) refl

pub heard-still : {start : Start} (l n : List Noted) (p : Peer) (heard : List Heard) → SameHeard l n p → HeardIn start l p heard → HeardIn start n p heard
heard-still l n p heard e a = record {
  repeats = λ t mid later.
      a.repeats t mid (since l e.later later)
      ∙ (sym (found-same l n (heard_before l t p mid) (e.below t mid))
      ∙ ap (option_map (answers_in n)) (sym (e.before t mid)));
  live = λ t later. a.live t (since l e.later later) ∙ sym (e.live t);
}

-- Where the link keeps its other tables too, it agrees still.
pub rest-still : {start : Start} (l n : List Noted) (p : Peer) (s r : LinkState) → Still l n → SameHeard l n p → Agrees start l p s → TurnIn n p r.outstanding
    → r.waiting ≡ s.waiting → r.last_mid ≡ s.last_mid → r.given ≡ s.given → r.awaited ≡ s.awaited → r.heard ≡ s.heard → Agrees start n p r
rest-still {start = start} l n p s r e h a turn waiting_is last_is given_is awaited_is heard_is = record {
  turn = turn;
  known = ap is_some last_is ∙ (a.known ∙ rw (e.firsts_are, e.recalled_are p) refl);
  last = λ t later. rw (last_is, e.firsts_are) (a.last t (since l e.later later));
  count_up = λ t later. rw (e.firsts_are) (a.count_up t (since l e.later later));
  given = λ t later. rw (given_is, e.firsts_are) (a.given t (since l e.later later));
  waits = rw (waiting_is, e.waiting_are p) (waits-each start l n e.firsts_are (waiting l p) s.waiting (all-more (λ (o : ℕ). is_waiting l p o ≡ true) (Keeps l n) (keeps l n e p) (waiting l p) (waiting-all l p)) a.waits);
  awaits = λ token. rw (awaited_is) (a.awaits token ∙ sym (expects-still l n e p token));
  acks = λ mid token. rw (awaited_is) (a.acks mid token ∙ sym (acks-still l n e p mid token));
  heard = rw (heard_is) (heard-still l n p s.heard h a.heard);
}
  where
    keeps : (l n : List Noted) → Still l n → (p : Peer) (o : ℕ) → is_waiting l p o ≡ true → Keeps l n o
    keeps l n e p o w =
        let b = waiting-begun l p o w in
        record { begun_is = λ c is. e.begun_are o ∙ is; heard_are = e.heard_are o b.1; rank_is = e.ranks_are o b.1; manner_is = manner-same l n o (e.kept_are o b.1) (e.replies_are o) (e.observes_are o b.1) }

    awaits-still : (l n : List Noted) → Still l n → (p : Peer) (token : List ℕ) → awaits n p token ≡ awaits l p token
    awaits-still l n e p token =
        rw (awaited-still l n e)
        (list_any-same (λ (i : ℕ). went_under p token (first_at n i)) (λ (i : ℕ). went_under p token (first_at l i)) (λ i. rw (first_at-still l n e i) refl) (awaited l))

    notified-still : (l n : List Noted) → Still l n → (p : Peer) (token : List ℕ) → notified n p token ≡ notified l p token
    notified-still l n e p token =
        rw (e.watched_are)
        (list_any-same (λ (i : ℕ). went_under p token (first_at n i)) (λ (i : ℕ). went_under p token (first_at l i)) (λ i. rw (first_at-still l n e i) refl) (watched l))

    expects-still : (l n : List Noted) → Still l n → (p : Peer) (token : List ℕ) → expects n p token ≡ expects l p token
    expects-still l n e p token =
        ap (λ (b : Bool). b || notified n p token) (awaits-still l n e p token) ∙ ap (λ (b : Bool). awaits l p token || b) (notified-still l n e p token)

    acks-still : (l n : List Noted) → Still l n → (p : Peer) (mid : ℕ) (token : List ℕ) → awaits_ack n p mid token ≡ awaits_ack l p mid token
    acks-still l n e p mid token =
        rw (awaited-still l n e)
        (list_any-same (λ (i : ℕ). went_under p token (first_at n i) && went_as p mid (first_at n i)) (λ (i : ℕ). went_under p token (first_at l i) && went_as p mid (first_at l i)) (λ i. rw (first_at-still l n e i) refl) (awaited l))
