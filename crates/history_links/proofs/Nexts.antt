-- After the message that waits first is sent, the link agrees.
use Rattle.std.proofs.Common.{◌≡◌, ℕ, ◌<◌, ◌≤◌, ◌+◌, Bool, true, false, cond, eqb, inl, inr, List, [], ◌∷◌, ◌++◌, length, Option, Some, refl, sym, ap, subst, ◌∙◌, arith}
use Rattle.std.specs.Prelude.{count_by, filter, ◌&&◌, ◌||◌, is_none, is_some, option_and_then}
use Rattle.std.proofs.lemmas.Bool.Decides.{eqb_tells}
use Rattle.std.specs.List.{AllByRecursion, list_any}
use Rattle.std.specs.Str.{bytes_eq}
use Rattle.std.proofs.lemmas.List.Folds.{list_any-append}
use Rattle.std.proofs.lemmas.Slice.Eq.{bytes_eq-Decides}
use Rattle.coap_codec.specs.Spelling.{Content}
use Rattle.uri_map.specs.declared.peer.Peer.{Peer}
use Rattle.uri_map.proofs.CallerLemmas.{same_peer-itself}
use Rattle.history_laws.specs.Numbering.{token_number}
use Rattle.message_layer.specs.Mids.{is_in_use}
use Rattle.message_layer.specs.Hearing.{is_awaited, is_awaited_by_ack}
use Rattle.message_layer.specs.Sending.{first_sent}
use Rattle.message_layer.specs.declared.state.Waiting.{Waiting}
use Rattle.message_layer.specs.declared.state.Awaited.{Awaited}
use Rattle.message_layer.specs.declared.state.Outstanding.{Outstanding}
use Rattle.history_laws.specs.Readings.{Noted, First}
use Rattle.history_laws.specs.Transmissions.{FirstSending, firsts, first_at, last_sent, if_outstanding, is_recent, mids_used, transmission}
use Rattle.history_laws.specs.Exchanges.{openings, waits_for, awaited, is_waiting, waiting, submitted, rank}
use Rattle.history_laws.specs.Justified.{Legal}
use Rattle.history_laws.specs.Hearing.{went_under, went_as, recalls}
use Rattle.history_laws.proofs.CallerLemmas.{any-of, at-new, begun-listed, eqb-itself, filter-all, none-submitted, queue-kept, queue-rises, rank-apart, RisesBy, waiting-all, waiting-begun, waiting-goes, waiting-unsent}
use Rattle.history_links.specs.Agrees.{Start, way_of, IsOut, recent_to, HasMid, CountUp, IsLast, IsWaitingFor, WaitIn, awaits, awaits_ack}
use Rattle.history_links.specs.Steps.{NextFollows}
use Rattle.history_links.proofs.Facts.{waits-below, and-turn}
use Rattle.history_links.proofs.Mids.{count-cons, has-next}
use Rattle.history_links.proofs.Still.{since, waiting-keeps, waits-one, heard-still}
use Rattle.history_links.proofs.Copying.{is-outstanding, unheard-sent}
use Rattle.history_links.proofs.Sending.{head, head-waits, next-of, next-small, message-of, may-be-first}
use Rattle.history_links.proofs.Sent.{sent, sent-quiet, waiting-sent, not-waiting, waits-sent, one-awaited, count-push, in-use-recent, first-other}
use Rattle.history_links.proofs.Notices.{expects-more}

-- those that wait still

other-token : (a b : List ℕ) → token_number a < token_number b → bytes_eq a b ≡ false
other-token a b lt = by (bytes_eq a b) refl
  where
    by : (v : Bool) → bytes_eq a b ≡ v → v ≡ false
    by true e = let same = ap token_number ((bytes_eq-Decides a b).0 e) in absurd (omega (arith, lt, same))
    by false e = refl

still-waits : {start : Start} (l : List Noted) (t : ℕ) (p : Peer) (b : List ℕ) (w : Option ℕ) (o : ℕ) (v : Waiting) (mine : IsWaitingFor start l o v) (m : Content) → m.token ≡ v.token
    → Legal l → is_waiting l p o ≡ true → (os : List ℕ) (ws : List Waiting) → AllByRecursion (λ (q : ℕ). is_waiting l p q ≡ true) os
    → AllByRecursion (λ (q : ℕ). submitted l o < submitted l q) os → WaitIn start l os ws → WaitIn start (sent t p b w o m ∷ l) os ws
still-waits l t p b w o v mine m e legal waits [] [] a r i = i
still-waits l t p b w o v mine m e legal waits [] (x ∷ ws) a r i = i
still-waits l t p b w o v mine m e legal waits (q ∷ os) [] a r i = i
still-waits l t p b w o v mine m e legal waits (q ∷ os) (x ∷ ws) a r i =
    let goes = ap is_none (waiting-goes l p o waits) in
    let also = ap is_none (waiting-goes l p q a.0) in
    let less : rank l o < rank l q = rank-apart l o q _ _ legal mine.opening i.0.opening goes also r.0 in
    let numbers : token_number m.token < token_number x.token =
    let d = ap token_number e in let f = mine.numbered in let g = i.0.numbered in omega (arith, less, d, f, g) in (
      waits-one l (sent t p b w o m ∷ l) q x (waiting-keeps (sent t p b w o m) l p q a.0) (λ e. rw (other-token m.token x.token numbers) e) i.0,
      still-waits l t p b w o v mine m e legal waits os ws a.1 r.1 i.1,
    )

-- the history after it, and what it says

abbrev pub first-of : (l : List Noted) (t o : ℕ) (p : Peer) (m : Content) → FirstSending
first-of l t o p m = record { number = length l; moment = t; opening = o; peer = p; message = m }

last-sent : (l : List Noted) (t : ℕ) (p : Peer) (b : List ℕ) (w : Option ℕ) (o : ℕ) (m : Content)
    → last_sent (sent t p b w o m ∷ l) p ≡ Some (record { number = length l; moment = t; opening = o; peer = p; message = m })
last-sent l t p b w o m = rw (same_peer-itself p) refl

sent-out : (l : List Noted) (t : ℕ) (p : Peer) (m : Content) (o : ℕ) (x : Outstanding) → x.token ≡ m.token → x.mid ≡ m.mid → x.sent ≡ t → x.retransmissions ≡ 0
    → IsOut (sent t p x.datagram (Some x.timeout) o m ∷ l) p x
sent-out l t p m o x token mid moment none =
    let n = sent t p x.datagram (Some x.timeout) o m ∷ l in
    let way : transmission n (length l) ≡ Some (way_of x) = rw (eqb-itself (length l), moment, none) refl in
    let f : FirstSending = record { number = length l; moment = t; opening = o; peer = p; message = m } in
    record {
      first = f;
      timeout = Some x.timeout;
      stands = at-new (sent t p x.datagram (Some x.timeout) o m) l;
      is = subst (λ (v : Option FirstSending). option_and_then (if_outstanding n) v ≡ Some f) (sym (last-sent l t p x.datagram (Some x.timeout) o m)) (is-outstanding n f (way_of x) way);
      way = way;
      token = sym token;
      mid = sym mid;
    }

counts-up : (l : List Noted) (t : ℕ) (p : Peer) (b : List ℕ) (w : Option ℕ) (o : ℕ) (m : Content) (u : ℕ) → m.mid < 65536 → HasMid m.mid (recent_to l u p)
    → CountUp (recent_to l u p) → CountUp (recent_to (sent t p b w o m ∷ l) u p)
counts-up l t p b w o m u small next c = by (is_recent u p (first-of l t o p m)) refl
  where
    by : (v : Bool) → is_recent u p (first-of l t o p m) ≡ v → CountUp (recent_to (sent t p b w o m ∷ l) u p)
    by true e = rw (e) (small, next, c)
    by false e = rw (e) c

recent-now : (l : List Noted) (t u : ℕ) (p : Peer) (o : ℕ) (m : Content) → t ≤ u
    → is_recent u p (record { number = length l; moment = t; opening = o; peer = p; message = m }) ≡ is_in_use u t
recent-now l t u p o m later = rw (same_peer-itself p) (sym (in-use-recent u t later))

given-more : (l : List Noted) (t : ℕ) (p : Peer) (b : List ℕ) (w : Option ℕ) (o : ℕ) (m : Content) (given : List ℕ) (u : ℕ) → count_by (is_in_use u) given ≡ mids_used l u p
    → t ≤ u → count_by (is_in_use u) (given ++ t ∷ []) ≡ mids_used (sent t p b w o m ∷ l) u p
given-more l t p b w o m given u a later =
    let f : FirstSending = record { number = length l; moment = t; opening = o; peer = p; message = m } in
    count-push (is_in_use u) given t
    ∙ (ap (λ (n : ℕ). cond (is_in_use u t) (1 + n) n) a
    ∙ (ap (λ (c : Bool). cond c (1 + mids_used l u p) (mids_used l u p)) (sym (recent-now l t u p o m later))
    ∙ sym (count-cons (is_recent u p) f (firsts l))))

-- the newest first sending is found by its number
newer-first : (l : List Noted) (t : ℕ) (p : Peer) (b : List ℕ) (w : Option ℕ) (o : ℕ) (m : Content)
    → first_at (sent t p b w o m ∷ l) (length l) ≡ Some (record { number = length l; moment = t; opening = o; peer = p; message = m })
newer-first l t p b w o m = rw (eqb-itself (length l)) refl

or-none : (a : Bool) → (a || false) ≡ a
or-none true = refl
or-none false = refl

-- what the link awaits more
more-awaited : (test : Awaited → Bool) (awaited : List Awaited) (a : Awaited) → list_any test (awaited ++ a ∷ []) ≡ (list_any test awaited || test a)
more-awaited test awaited a = list_any-append test awaited (a ∷ []) ∙ ap (λ (v : Bool). list_any test awaited || v) (or-none (test a))

is-opened : (l : List Noted) (p : Peer) (o : ℕ) → is_waiting l p o ≡ true → list_any (eqb o) (openings l) ≡ true
is-opened l p o e = let b = waiting-begun l p o e in any-of (eqb o) (openings l) o (begun-listed l o (ap is_some b.1)) (eqb-itself o)

awaits-more : (l : List Noted) (t : ℕ) (p : Peer) (b : List ℕ) (w : Option ℕ) (o : ℕ) (m : Content) → is_waiting l p o ≡ true → (token : List ℕ) → awaits (sent t p b w o m ∷ l) p token ≡ (awaits l p token || bytes_eq m.token token)
awaits-more l t p b w o m waits token =
    let n = sent t p b w o m ∷ l in
    one-awaited (λ (i : ℕ). went_under p token (first_at n i)) (λ (i : ℕ). went_under p token (first_at l i)) (waits_for n) (waits_for l) o (length l)
    (waits-sent l t p b w o m) (waiting-unsent l p o waits)
    (λ q i h. ap (went_under p token) (first-other l t p b w o m i (waits-below l q i h))) (openings l)
    ∙ rw (is-opened l p o waits, newer-first l t p b w o m, same_peer-itself p) refl

acks-more : (l : List Noted) (t : ℕ) (p : Peer) (b : List ℕ) (w : Option ℕ) (o : ℕ) (m : Content) → is_waiting l p o ≡ true → (mid : ℕ) (token : List ℕ)
    → awaits_ack (sent t p b w o m ∷ l) p mid token ≡ (awaits_ack l p mid token || (bytes_eq m.token token && eqb m.mid mid))
acks-more l t p b w o m waits mid token =
    let n = sent t p b w o m ∷ l in
    one-awaited (λ (i : ℕ). went_under p token (first_at n i) && went_as p mid (first_at n i)) (λ (i : ℕ). went_under p token (first_at l i) && went_as p mid (first_at l i))
    (waits_for n) (waits_for l) o (length l) (waits-sent l t p b w o m) (waiting-unsent l p o waits)
    (λ q i h. ap (λ (f : Option FirstSending). went_under p token f && went_as p mid f) (first-other l t p b w o m i (waits-below l q i h))) (openings l)
    ∙ rw (is-opened l p o waits, newer-first l t p b w o m, same_peer-itself p) refl

-- who waits after it
gone : (l : List Noted) (t : ℕ) (p : Peer) (b : List ℕ) (w : Option ℕ) (o : ℕ) (m : Content) (os : List ℕ)
    → AllByRecursion (λ (q : ℕ). is_waiting l p q ≡ true) os → AllByRecursion (λ (q : ℕ). submitted l o < submitted l q) os
    → filter (is_waiting (sent t p b w o m ∷ l) p) (o ∷ os) ≡ os
gone l t p b w o m os a r =
    ap (λ (v : Bool). cond v (o ∷ filter (is_waiting (sent t p b w o m ∷ l) p) os) (filter (is_waiting (sent t p b w o m ∷ l) p) os)) (not-waiting l t p p b w o m)
    ∙ filter-all (is_waiting (sent t p b w o m ∷ l) p) os (each os a r)
  where
    other : (q : ℕ) → submitted l o < submitted l q → eqb o q ≡ false
    other q lt = elim (eqb_tells o q) [ inl e ↦ let same = ap (submitted l) e.1 in absurd (omega (arith, same, lt)) | inr e ↦ e.0 ]

    each : (os : List ℕ) → AllByRecursion (λ (q : ℕ). is_waiting l p q ≡ true) os → AllByRecursion (λ (q : ℕ). submitted l o < submitted l q) os
        → AllByRecursion (λ (q : ℕ). is_waiting (sent t p b w o m ∷ l) p q ≡ true) os
    each [] a r = tt
    each (q ∷ os) a r = (waiting-sent l t p p b w o m q (other q r.0) ∙ a.0, each os a.1 r.1)

pub next-follows : NextFollows
next-follows start l t p s w ws b q small few free e =
    let legal = b.legal in
    let later = b.later in
    let a = b.agrees in
    let h = head l p s w ws a e in
    let o = h.opening in
    let m = message-of l o w h.waits s.last_mid in
    let x = first_sent t s.last_mid w in
    let waits = head-waits l p w ws h in
    let n = sent t p x.datagram (Some x.timeout) o m ∷ l in
    let others = subst (AllByRecursion (λ (q : ℕ). is_waiting l p q ≡ true)) h.is (waiting-all l p) in
    let rises = subst (RisesBy (submitted l)) h.is (queue-rises l p legal) in
    let still : waiting n p ≡ h.others = queue-kept (sent t p x.datagram (Some x.timeout) o m) l p
    (none-submitted (sent t p x.datagram (Some x.timeout) o m) l p refl (λ q w. sent-quiet l t p x.datagram (Some x.timeout) o m q))
    ∙ (ap (filter (is_waiting n p)) h.is ∙ gone l t p x.datagram (Some x.timeout) o m h.others others.1 rises.0) in (
      o,
      m,
      waits,
      h.waits,
      refl,
      record {
        follows = (q.unsealed, (q.quiet, may-be-first l t p s w ws h legal (b.started, later) a few free));
        agrees = record {
          turn = sent-out l t p m o x refl refl refl refl;
          known = sym (ap (λ (v : Option FirstSending). is_some v || list_any (recalls p) l) (last-sent l t p x.datagram (Some x.timeout) o m));
          last = λ u after. subst (IsLast u p (Some x.mid)) (sym (last-sent l t p x.datagram (Some x.timeout) o m)) (λ recent. refl);
          count_up = λ u after.
              counts-up l t p x.datagram (Some x.timeout) o m u (next-small s.last_mid w.first_mid small)
              (has-next l u p s.last_mid x.mid legal (a.last u (since l later after)) (next-of s.last_mid w.first_mid)) (a.count_up u (since l later after));
          given = λ u after. given-more l t p x.datagram (Some x.timeout) o m s.given u (a.given u (since l later after)) after.1;
          waits = subst (λ (v : List ℕ). WaitIn start n v ws) (sym still) (still-waits l t p x.datagram (Some x.timeout) o w h.waits m refl legal waits h.others ws others.1 rises.0 h.more);
          awaits = λ token. more-awaited (is_awaited token) s.awaited _ ∙ (ap (λ (v : Bool). v || bytes_eq w.token token) (a.awaits token)
              ∙ sym (expects-more l t p x.datagram (Some x.timeout) o m token (bytes_eq m.token token) legal (awaits-more l t p x.datagram (Some x.timeout) o m waits token)));
          acks = λ mid token.
              more-awaited (is_awaited_by_ack mid token) s.awaited _
              ∙ (ap (λ (v : Bool). v || (eqb m.mid mid && bytes_eq w.token token)) (a.acks mid token)
              ∙ (ap (λ (v : Bool). awaits_ack l p mid token || v) (and-turn (eqb m.mid mid) (bytes_eq w.token token))
              ∙ sym (acks-more l t p x.datagram (Some x.timeout) o m waits mid token)));
          heard = heard-still l n p s.heard (unheard-sent l t p p x.datagram (Some x.timeout) (First o m) later) a.heard;
        };
      },
    )
