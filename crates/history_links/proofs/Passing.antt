-- After a tick, the link agrees: what was given up isn't outstanding, and what has ended isn't awaited.
use Rattle.std.proofs.Common.{◌≡◌, ℕ, Bool, true, false, cond, List, [], ◌∷◌, length, Option, Some, None, refl, sym, ap, subst, ◌∙◌}
use Rattle.std.specs.Prelude.{◌&&◌, ◌||◌, not, is_none, option_and_then, filter}
use Rattle.std.specs.List.{AllByRecursion, list_any, filter_map}
use Rattle.std.proofs.lemmas.Bool.{false≢true}
use Rattle.uri_map.specs.declared.peer.Peer.{Peer}
use Rattle.resp_cache.specs.Stored.{Stored}
use Rattle.journal_book.specs.Entries.{Passes}
use Rattle.message_layer.specs.declared.state.Outstanding.{Outstanding}
use Rattle.message_layer.specs.declared.state.Waiting.{Waiting}
use Rattle.history_laws.specs.Readings.{Noted, Plain, noted}
use Rattle.history_laws.specs.Progress.{Reply}
use Rattle.history_laws.specs.Transmissions.{FirstSending, first_at, last_sent, transmission, if_outstanding}
use Rattle.history_laws.specs.Exchanges.{Begun, begun, kept, is_late, Expired, Nothing, expires, turn, waits_by, waits_for, End, end_here, end_by, end_of, heard_for, is_going, goes_to, is_waiting, waiting, openings}
use Rattle.history_laws.specs.Hearing.{went_under, went_as}
use Rattle.history_laws.proofs.CallerLemmas.{all-more, and-left, at-keeps, filter-by, none-submitted, NoReply, queue-kept, waiting-all}
use Rattle.history_links.specs.Agrees.{Start, way_of, TurnIn, IsWaitingFor, WaitIn, awaits, notified}
use Rattle.history_links.specs.Steps.{is_over, EndWaiting, PassAgrees}
use Rattle.history_links.proofs.Queueing.{but-awaits, but-acks}
use Rattle.history_links.proofs.Copying.{is-last, is-outstanding}
use Rattle.history_links.proofs.Still.{since, waiting-keeps, waits-one, heard-at, heard-still}
use Rattle.history_links.proofs.Saying.{none-out}

abbrev ticked_at : ℕ → Noted
ticked_at t = noted t Passes Plain

-- exchanges

ends-waiting : (b : Bool) (w : Option ℕ) → waits_by (cond b Expired Nothing) w ≡ cond b None w
ends-waiting true w = refl
ends-waiting false w = refl

pub waits-passed : (l : List Noted) (t o : ℕ) → waits_for (ticked_at t ∷ l) o ≡ cond (expires l o t (waits_for l o)) None (waits_for l o)
waits-passed l t o = ends-waiting (expires l o t (waits_for l o)) (waits_for l o)

ends-going : (a : Option Begun) (s : Option Stored) (n : ℕ) (rs : List Reply) (b : Bool) (old : Option End)
    → is_none (end_by (end_here a s n rs (cond b Expired Nothing)) n old) ≡ (not b && is_none old)
ends-going a s n rs true None = refl
ends-going a s n rs true (Some e) = refl
ends-going a s n rs false old = refl

pub going-passed : (l : List Noted) (t o : ℕ) → is_going (ticked_at t ∷ l) o ≡ (not (expires l o t (waits_for l o)) && is_going l o)
going-passed l t o = ends-going (begun l o) (kept l o) (length l) (heard_for l o) (expires l o t (waits_for l o)) (end_of l o)

-- Who waits and isn't late waits still.
waiting-passed : (l : List Noted) (t : ℕ) (p : Peer) (o : ℕ) → is_waiting (ticked_at t ∷ l) p o ≡ (is_waiting l p o && not (is_late t (begun l o)))
waiting-passed l t p o = rw (going-passed l t o, waits-passed l t o) (by (goes_to p (begun l o)) (is_going l o) (waits_for l o))
  where
    none : (g v e : Bool) → (g && ((not e && v) && is_none (cond {A = Option ℕ} e None None))) ≡ ((g && (v && true)) && not e)
    none true true true = refl
    none true true false = refl
    none true false true = refl
    none true false false = refl
    none false v true = refl
    none false v false = refl

    some : (g v e n : Bool) (i : ℕ) → (g && ((not e && v) && is_none (cond e None (Some i)))) ≡ ((g && (v && false)) && n)
    some true true true n i = refl
    some true true false n i = refl
    some true false true n i = refl
    some true false false n i = refl
    some false v e n i = refl

    by : (g v : Bool) (w : Option ℕ) → (g && ((not (expires l o t w) && v) && is_none (cond (expires l o t w) None w))) ≡ ((g && (v && is_none w)) && not (is_late t (begun l o)))
    by g v None = none g v (is_late t (begun l o))
    by g v (Some i) = some g v (expires l o t (Some i)) (not (is_late t (begun l o))) i

pub passed-quiet : (l : List Noted) (t o : ℕ) → NoReply (turn l o (ticked_at t))
passed-quiet l t o = by (expires l o t (waits_for l o))
  where
    by : (b : Bool) → NoReply (cond b Expired Nothing)
    by true = tt
    by false = tt

queue-passed : (l : List Noted) (t : ℕ) (p : Peer) → waiting (ticked_at t ∷ l) p ≡ filter (λ (o : ℕ). not (is_late t (begun l o))) (waiting l p)
queue-passed l t p =
    queue-kept (ticked_at t) l p (none-submitted (ticked_at t) l p refl (λ o w. passed-quiet l t o))
    ∙ filter-by (is_waiting (ticked_at t ∷ l) p) (λ (o : ℕ). not (is_late t (begun l o))) (waiting l p)
    (all-more (λ (o : ℕ). is_waiting l p o ≡ true) (λ (o : ℕ). is_waiting (ticked_at t ∷ l) p o ≡ not (is_late t (begun l o)))
    (λ o w. waiting-passed l t p o ∙ ap (λ (v : Bool). v && not (is_late t (begun l o))) w) (waiting l p) (waiting-all l p))

waits-on : (start : Start) (l : List Noted) (t : ℕ) (p : Peer) (gone : List ℕ → Bool) (os : List ℕ) (ws : List Waiting)
    → AllByRecursion (λ (o : ℕ). is_waiting l p o ≡ true) os → WaitIn start l os ws → EndWaiting l t gone os ws
    → WaitIn start (ticked_at t ∷ l) (filter (λ (o : ℕ). not (is_late t (begun l o))) os) (filter (λ (w : Waiting). not (gone w.token)) ws)
waits-on start l t p gone [] [] w a e = a
waits-on start l t p gone [] (v ∷ ws) w a e = absurd a
waits-on start l t p gone (o ∷ os) [] w a e = absurd a
waits-on start l t p gone (o ∷ os) (w ∷ ws) waits a e = rw (e.0) (by (gone w.token) (waits-on start l t p gone os ws waits.1 a.1 e.1))
  where
    kept : IsWaitingFor start (ticked_at t ∷ l) o w
    kept = waits-one l (ticked_at t ∷ l) o w (waiting-keeps (ticked_at t) l p o waits.0) (λ e. e) a.0

    by : (b : Bool) → WaitIn start (ticked_at t ∷ l) (filter (λ (o : ℕ). not (is_late t (begun l o))) os) (filter (λ (w : Waiting). not (gone w.token)) ws)
        → WaitIn start (ticked_at t ∷ l) (cond (not b) (o ∷ filter (λ (o : ℕ). not (is_late t (begun l o))) os) (filter (λ (o : ℕ). not (is_late t (begun l o))) os))
        (cond (not b) (w ∷ filter (λ (w : Waiting). not (gone w.token)) ws) (filter (λ (w : Waiting). not (gone w.token)) ws))
    by true h = h
    by false h = (kept, h)

-- what is outstanding

turn-passed : (l : List Noted) (t : ℕ) (p : Peer) (v : Option Outstanding) → TurnIn l p v → TurnIn (ticked_at t ∷ l) p (cond (is_over t v) None v)
turn-passed l t p None a = none-out l (ticked_at t ∷ l) (last_sent l p) gone a
  where
    gone : (i : ℕ) → transmission l i ≡ None → transmission (ticked_at t ∷ l) i ≡ None
    gone i e = rw (e) refl
turn-passed l t p (Some o) a = by (is_over t (Some o)) refl
  where
    n : List Noted
    n = ticked_at t ∷ l

    last : last_sent l p ≡ Some a.first
    last = is-last l p (last_sent l p) a.first a.is

    way : (b : Bool) → is_over t (Some o) ≡ b → transmission (ticked_at t ∷ l) a.first.number ≡ cond b None (Some (way_of o))
    way b e = rw (a.way, e) refl

    by : (b : Bool) → is_over t (Some o) ≡ b → TurnIn (ticked_at t ∷ l) p (cond b None (Some o))
    by true e =
        let none = way true e in
        subst (λ (w : Option FirstSending). option_and_then (if_outstanding (ticked_at t ∷ l)) w ≡ None) (sym last) (rw (none) refl)
    by false e =
        let some = way false e in
        record {
          first = a.first;
          timeout = a.timeout;
          stands = at-keeps (ticked_at t) l a.first.number _ a.stands;
          is = subst (λ (w : Option FirstSending). option_and_then (if_outstanding (ticked_at t ∷ l)) w ≡ Some a.first) (sym last) (is-outstanding (ticked_at t ∷ l) a.first (way_of o) some);
          way = some;
          token = a.token;
          mid = a.mid;
        }

-- what is awaited

ended-one : (ended : Bool) → true ≡ ended → (rest old : Bool) → rest ≡ (not ended && old) → rest ≡ (not ended && (true || old))
ended-one true e rest old h = h
ended-one false e rest old h = absurd (false≢true (sym e))

going-one : (ended : Bool) → false ≡ ended → (rest old : Bool) → (true || rest) ≡ (not ended && (true || old))
going-one true e rest old = absurd (false≢true e)
going-one false e rest old = refl

awaits-passed : (f : ℕ → Bool) (ended : Bool) (now old : ℕ → Option ℕ) (over : ℕ → Option ℕ → Bool) → ((q : ℕ) → now q ≡ cond (over q (old q)) None (old q))
    → ((q i : ℕ) → old q ≡ Some i → f i ≡ true → over q (Some i) ≡ ended) → (os : List ℕ)
    → list_any f (filter_map now os) ≡ (not ended && list_any f (filter_map old os))
awaits-passed f ended now old over is same [] = by ended
  where
    by : (b : Bool) → false ≡ (not b && false)
    by true = refl
    by false = refl
awaits-passed f ended now old over is same (q ∷ os) = by (old q) refl (awaits-passed f ended now old over is same os)
  where
    nothing : (b : Bool) → cond {A = Option ℕ} b None None ≡ None
    nothing true = refl
    nothing false = refl

    some : (i : ℕ) → old q ≡ Some i → (b : Bool) → f i ≡ b → (e : Bool) → over q (Some i) ≡ e → (b ≡ true → e ≡ ended)
        → list_any f (filter_map now os) ≡ (not ended && list_any f (filter_map old os))
        → list_any f (filter_map now (q ∷ os)) ≡ (not ended && list_any f (filter_map old (q ∷ os)))
    some i v true e true h agrees ih = rw (is q, v, h, e) (ended-one ended (agrees refl) (list_any f (filter_map now os)) (list_any f (filter_map old os)) ih)
    some i v true e false h agrees ih = rw (is q, v, h, e) (going-one ended (agrees refl) (list_any f (filter_map now os)) (list_any f (filter_map old os)))
    some i v false e true h agrees ih = rw (is q, v, h, e) ih
    some i v false e false h agrees ih = rw (is q, v, h, e) ih

    by : (v : Option ℕ) → old q ≡ v → list_any f (filter_map now os) ≡ (not ended && list_any f (filter_map old os))
        → list_any f (filter_map now (q ∷ os)) ≡ (not ended && list_any f (filter_map old (q ∷ os)))
    by None e ih = rw (is q, e, nothing (over q None)) ih
    by (Some i) e ih = some i e (f i) refl (over q (Some i)) refl (λ h. same q i e h) ih

or-and : (c a b : Bool) → (c && (a || b)) ≡ ((c && a) || (c && b))
or-and true a b = refl
or-and false a b = refl

pub pass-agrees : PassAgrees
pass-agrees start l t p s gone b e =
    let a = b.agrees in
    let n = ticked_at t ∷ l in
    record {
      turn = turn-passed l t p s.outstanding a.turn;
      known = a.known;
      last = λ u after. a.last u (since l b.later after);
      count_up = λ u after. a.count_up u (since l b.later after);
      given = λ u after. a.given u (since l b.later after);
      waits = subst (λ (os : List ℕ). WaitIn start n os (filter (λ (w : Waiting). not (gone w.token)) s.waiting))
          (sym (queue-passed l t p)) (waits-on start l t p gone (waiting l p) s.waiting (waiting-all l p) a.waits e.waiting);
      awaits = λ token.
          but-awaits gone token s.awaited
          ∙ (ap (λ (v : Bool). not (gone token) && v) (a.awaits token)
          ∙ (or-and (not (gone token)) (awaits l p token) (notified l p token)
          ∙ sym (ap (λ (v : Bool). v || notified n p token)
          (awaits-passed (λ (i : ℕ). went_under p token (first_at l i)) (gone token) (waits_for n) (waits_for l) (λ q w. expires l q t w) (waits-passed l t)
          (λ q i v h. e.awaited q i token v h) (openings l))
          ∙ ap (λ (v : Bool). (not (gone token) && awaits l p token) || v) (e.watched token))));
      acks = λ mid token.
          but-acks gone mid token s.awaited
          ∙ (ap (λ (v : Bool). not (gone token) && v) (a.acks mid token)
          ∙ sym (awaits-passed (λ (i : ℕ). went_under p token (first_at l i) && went_as p mid (first_at l i)) (gone token) (waits_for n) (waits_for l) (λ q w. expires l q t w) (waits-passed l t)
          (λ q i v h. e.awaited q i token v (and-left (went_under p token (first_at l i)) _ h)) (openings l)));
      heard = heard-still l n p s.heard (record {
        later = b.later;
        before = λ u mid. refl;
        live = λ u. refl;
        below = λ u mid j h. heard-at (ticked_at t) l u p mid j h;
      }) a.heard;
    }
