-- What the messages of one peer leave of the link to another.
use Rattle.std.proofs.Common.{◌≡◌, ℕ, ◌+◌, ◌<◌, ◌≤◌, Bool, true, false, eqb, ltb, inl, inr, List, [], ◌∷◌, length, Option, Some, None, refl, sym, ap, subst, ◌∙◌, arith}
use Rattle.std.specs.Prelude.{◌&&◌, ◌||◌, is_none, is_some, option_and_then}
use Rattle.std.specs.List.{AllByRecursion, list_any}
use Rattle.std.specs.Str.{bytes_eq}
use Rattle.std.proofs.lemmas.Bool.{false≢true, ltb-true, ltb-false}
use Rattle.std.proofs.lemmas.Slice.Eq.{bytes_eq-Decides}
use Rattle.std.proofs.lemmas.Bool.Decides.{eqb_tells}
use Rattle.coap_codec.specs.Spelling.{Content}
use Rattle.uri_map.specs.declared.peer.Peer.{Peer}
use Rattle.uri_map.specs.Peers.{same_peer}
use Rattle.ask_model.specs.Requests.{CoapRequest}
use Rattle.ask_model.specs.Views.{Ask}
use Rattle.uri_map.proofs.CallerLemmas.{same_peer-same}
use Rattle.history_laws.specs.Numbering.{token_number}
use Rattle.message_layer.specs.Values.{LinkState}
use Rattle.message_layer.specs.declared.state.Outstanding.{Outstanding}
use Rattle.message_layer.specs.declared.state.Waiting.{Waiting}
use Rattle.history_laws.specs.Readings.{Noted, Note, First, Copies, at, newest, noted}
use Rattle.journal_book.specs.Entries.{Sends}
use Rattle.history_laws.specs.Transmissions.{FirstSending, firsts, first_at, last_sent, if_outstanding, is_recent, mids_used, transmission, outstanding}
use Rattle.history_laws.specs.Exchanges.{Begun, begun, openings, goes_to, waits_for, is_going, is_waiting, waiting, submitted, rank}
use Rattle.history_laws.specs.Hearing.{went_under, went_as, recalls}
use Rattle.history_laws.specs.Justified.{Legal}
use Rattle.history_laws.proofs.CallerLemmas.{and-left, at-below, at-keeps, eqb-itself, find-some, listed-below, none-submitted, opened-queued, queue-same, rank-apart, some-is, submitted-apart, waiting-all, waiting-goes, waiting-unsent}
use Rattle.history_links.specs.Agrees.{Start, IsLast, TurnIn, IsWaitingFor, WaitIn, awaits, awaits_ack, Agrees}
use Rattle.history_links.specs.Steps.{AskElsewhere, FirstElsewhere, CopyElsewhere, IsOpening, IsUnnoticed}
use Rattle.history_links.proofs.Facts.{waits-below}
use Rattle.history_links.proofs.Mids.{count-cons}
use Rattle.history_links.proofs.Still.{since, waiting-keeps, waits-all, waits-one, heard-at, heard-still, rest-still}
use Rattle.history_links.proofs.Copying.{is-last, still-copy, unheard-sent}
use Rattle.history_links.proofs.Sent.{sent, sent-quiet, waits-sent, waiting-sent, not-waiting, one-awaited, first-other}
use Rattle.history_links.proofs.Notices.{expects-other}
use Rattle.history_links.proofs.Tokens.{found-first}
use Rattle.history_links.proofs.Queueing.{asked, begun-here, opens-for, others-wait, awaited-same, turn-kept, asked-expects}

-- what is outstanding

pub last-number : (l : List Noted) (p : Peer) (f : FirstSending) → last_sent l p ≡ Some f → f.number < length l
last-number l p f e =
    listed-below l f (find-some (λ (f : FirstSending). same_peer f.peer p) (firsts l) f e).0

older-way : (l : List Noted) (t : ℕ) (r : Peer) (b : List ℕ) (w : Option ℕ) (o : ℕ) (m : Content) (i : ℕ) → i < length l
    → transmission (sent t r b w o m ∷ l) i ≡ transmission l i
older-way l t r b w o m i lt = elim (eqb_tells (length l) i) [ inl e ↦ let same = e.1 in absurd (omega (arith, lt, same)) | inr e ↦ rw (e.0) refl ]

last-other : (l : List Noted) (t : ℕ) (p r : Peer) (b : List ℕ) (w : Option ℕ) (o : ℕ) (m : Content) → same_peer r p ≡ false
    → last_sent (sent t r b w o m ∷ l) p ≡ last_sent l p
last-other l t p r b w o m e = rw (e) refl

out-by : (l : List Noted) (t : ℕ) (p r : Peer) (b : List ℕ) (w : Option ℕ) (o : ℕ) (m : Content) (v : Option FirstSending) → last_sent l p ≡ v
    → option_and_then (if_outstanding (sent t r b w o m ∷ l)) v ≡ option_and_then (if_outstanding l) v
out-by l t p r b w o m None e = refl
out-by l t p r b w o m (Some f) e = rw (older-way l t r b w o m f.number (last-number l p f e)) refl

out-other : (l : List Noted) (t : ℕ) (p r : Peer) (b : List ℕ) (w : Option ℕ) (o : ℕ) (m : Content) → same_peer r p ≡ false
    → outstanding (sent t r b w o m ∷ l) p ≡ outstanding l p
out-other l t p r b w o m e = ap (option_and_then (if_outstanding (sent t r b w o m ∷ l))) (last-other l t p r b w o m e) ∙ out-by l t p r b w o m (last_sent l p) refl

turn-other : (l : List Noted) (t : ℕ) (p r : Peer) (b : List ℕ) (w : Option ℕ) (o : ℕ) (m : Content) → same_peer r p ≡ false
    → (v : Option Outstanding) → TurnIn l p v → TurnIn (sent t r b w o m ∷ l) p v
turn-other l t p r b w o m e None a = out-other l t p r b w o m e ∙ a
turn-other l t p r b w o m e (Some x) a = record {
  first = a.first;
  timeout = a.timeout;
  stands = at-keeps (sent t r b w o m) l a.first.number _ a.stands;
  is = out-other l t p r b w o m e ∙ a.is;
  way = older-way l t r b w o m a.first.number (at-below l a.first.number _ a.stands) ∙ a.way;
  token = a.token;
  mid = a.mid;
}

-- who waits

goes-elsewhere : (l : List Noted) (p r : Peer) (o : ℕ) → is_waiting l r o ≡ true → same_peer r p ≡ false → is_waiting l p o ≡ false
goes-elsewhere l p r o e other = by (begun l o) refl
  where
    peer : (b : Begun) → begun l o ≡ Some b → same_peer b.request.peer r ≡ true
    peer b h = subst (λ (v : Option Begun). goes_to r v ≡ true) h (and-left (goes_to r (begun l o)) _ e)

    by : (v : Option Begun) → begun l o ≡ v → is_waiting l p o ≡ false
    by None h = rw (h) refl
    by (Some b) h =
        let same = same_peer-same b.request.peer r (peer b h) in
        let elsewhere : same_peer b.request.peer p ≡ false = subst (λ (q : Peer). same_peer q p ≡ false) (sym same) other in
        rw (h) (rw (elsewhere) refl)

waiting-other : (l : List Noted) (t : ℕ) (p r : Peer) (b : List ℕ) (w : Option ℕ) (o : ℕ) (m : Content) → is_waiting l r o ≡ true → same_peer r p ≡ false → (q : ℕ)
    → is_waiting (sent t r b w o m ∷ l) p q ≡ is_waiting l p q
waiting-other l t p r b w o m waits other q = elim (eqb_tells o q) [
  | inl e ↦
      subst (λ (k : ℕ). is_waiting (sent t r b w o m ∷ l) p k ≡ is_waiting l p k) e.1
      (not-waiting l t r p b w o m ∙ sym (goes-elsewhere l p r o waits other))
  | inr e ↦ waiting-sent l t r p b w o m q e.0
]

queue-other : (l : List Noted) (t : ℕ) (p r : Peer) (b : List ℕ) (w : Option ℕ) (o : ℕ) (m : Content) → is_waiting l r o ≡ true → same_peer r p ≡ false
    → waiting (sent t r b w o m ∷ l) p ≡ waiting l p
queue-other l t p r b w o m waits other =
    queue-same (sent t r b w o m) l p (none-submitted (sent t r b w o m) l p refl (λ q h. sent-quiet l t r b w o m q)) (λ q h. waiting-other l t p r b w o m waits other q ∙ h)

-- Tokens of exchanges that aren't one differ.
token-differs : (a b : List ℕ) → (token_number a ≡ token_number b → ⊥) → bytes_eq a b ≡ false
token-differs a b never = by (bytes_eq a b) refl
  where
    by : (v : Bool) → bytes_eq a b ≡ v → v ≡ false
    by true e = absurd (never (ap token_number ((bytes_eq-Decides a b).0 e)))
    by false e = refl

-- Of two that wait the tokens are apart.
ranks-differ : (l : List Noted) (p r : Peer) (o q : ℕ) (b c : Begun) → Legal l → begun l o ≡ Some b → begun l q ≡ Some c → is_waiting l r o ≡ true → is_waiting l p q ≡ true
    → (o ≡ q → ⊥) → rank l o ≡ rank l q → ⊥
ranks-differ l p r o q b c legal e f waits also never same = by (ltb (submitted l o) (submitted l q)) refl (ltb (submitted l q) (submitted l o)) refl
  where
    mine : is_going l o ≡ true
    mine = ap is_none (waiting-goes l r o waits)

    its : is_going l q ≡ true
    its = ap is_none (waiting-goes l p q also)

    by : (x : Bool) → ltb (submitted l o) (submitted l q) ≡ x → (y : Bool) → ltb (submitted l q) (submitted l o) ≡ y → ⊥
    by true h y g = let lt = rank-apart l o q b c legal e f mine its (ltb-true _ _ h) in omega (arith, lt, same)
    by false h true g = let lt = rank-apart l q o c b legal f e its mine (ltb-true _ _ g) in omega (arith, lt, same)
    by false h false g =
        let a = ltb-false (submitted l o) (submitted l q) h in let d = ltb-false (submitted l q) (submitted l o) g in
        never (submitted-apart l o q b c legal e f mine its (omega (arith, a, d)))

same-rank : (a b c : ℕ) → a + b ≡ a + c → b ≡ c
same-rank a b c e = omega (arith, e)

waits-other : {start : Start} (l : List Noted) (t : ℕ) (p r : Peer) (b : List ℕ) (w : Option ℕ) (o : ℕ) (m : Content) (v : Waiting) → Legal l → IsWaitingFor start l o v → m.token ≡ v.token
    → is_waiting l r o ≡ true → is_waiting l p o ≡ false → (os : List ℕ) (ws : List Waiting) → AllByRecursion (λ (q : ℕ). is_waiting l p q ≡ true) os → WaitIn start l os ws
    → WaitIn start (sent t r b w o m ∷ l) os ws
waits-other {start = start} l t p r b w o m v legal mine e waits gone [] [] a i = i
waits-other {start = start} l t p r b w o m v legal mine e waits gone [] (x ∷ ws) a i = i
waits-other {start = start} l t p r b w o m v legal mine e waits gone (q ∷ os) [] a i = i
waits-other {start = start} l t p r b w o m v legal mine e waits gone (q ∷ os) (x ∷ ws) a i =
    let never : o ≡ q → ⊥ = λ same. false≢true (sym gone ∙ subst (λ (k : ℕ). is_waiting l p k ≡ true) (sym same) a.0) in
    let apart : token_number m.token ≡ token_number x.token → ⊥ =
    λ same. ranks-differ l p r o q _ _ legal mine.opening i.0.opening waits a.0 never (same-rank start.issued (rank l o) (rank l q) (sym mine.numbered ∙ (ap token_number (sym e) ∙ (same ∙ i.0.numbered)))) in (
      waits-one l (sent t r b w o m ∷ l) q x (waiting-keeps (sent t r b w o m) l p q a.0) (λ e. rw (token-differs m.token x.token apart) e) i.0,
      waits-other l t p r b w o m v legal mine e waits gone os ws a.1 i.1,
    )

-- IDs and tokens of others

mids-other : (l : List Noted) (t u : ℕ) (p r : Peer) (b : List ℕ) (w : Option ℕ) (o : ℕ) (m : Content) → same_peer r p ≡ false
    → mids_used (sent t r b w o m ∷ l) u p ≡ mids_used l u p
mids-other l t u p r b w o m e =
    count-cons (is_recent u p) (record { number = length l; moment = t; opening = o; peer = r; message = m }) (firsts l) ∙ rw (e) refl

newest-other : (l : List Noted) (t : ℕ) (p r : Peer) (b : List ℕ) (w : Option ℕ) (o : ℕ) (m : Content) (token : List ℕ) → same_peer r p ≡ false
    → went_under p token (first_at (sent t r b w o m ∷ l) (length l)) ≡ false
newest-other l t p r b w o m token e = rw (eqb-itself (length l)) (rw (e) refl)

or-nothing : (a c : Bool) → (a || (c && false)) ≡ a
or-nothing true c = refl
or-nothing false true = refl
or-nothing false false = refl

awaits-other : (l : List Noted) (t : ℕ) (p r : Peer) (b : List ℕ) (w : Option ℕ) (o : ℕ) (m : Content) → is_waiting l r o ≡ true → same_peer r p ≡ false → (token : List ℕ)
    → awaits (sent t r b w o m ∷ l) p token ≡ awaits l p token
awaits-other l t p r b w o m waits other token =
    let n = sent t r b w o m ∷ l in
    one-awaited (λ (i : ℕ). went_under p token (first_at n i)) (λ (i : ℕ). went_under p token (first_at l i)) (waits_for n) (waits_for l) o (length l)
    (waits-sent l t r b w o m) (waiting-unsent l r o waits)
    (λ q i h. ap (went_under p token) (first-other l t r b w o m i (waits-below l q i h))) (openings l)
    ∙ (ap (λ (c : Bool). awaits l p token || (list_any (eqb o) (openings l) && c)) (newest-other l t p r b w o m token other)
    ∙ or-nothing (awaits l p token) (list_any (eqb o) (openings l)))

acks-other : (l : List Noted) (t : ℕ) (p r : Peer) (b : List ℕ) (w : Option ℕ) (o : ℕ) (m : Content) → is_waiting l r o ≡ true → same_peer r p ≡ false → (mid : ℕ) (token : List ℕ)
    → awaits_ack (sent t r b w o m ∷ l) p mid token ≡ awaits_ack l p mid token
acks-other l t p r b w o m waits other mid token =
    let n = sent t r b w o m ∷ l in
    one-awaited (λ (i : ℕ). went_under p token (first_at n i) && went_as p mid (first_at n i)) (λ (i : ℕ). went_under p token (first_at l i) && went_as p mid (first_at l i))
    (waits_for n) (waits_for l) o (length l) (waits-sent l t r b w o m) (waiting-unsent l r o waits)
    (λ q i h. ap (λ (f : Option FirstSending). went_under p token f && went_as p mid f) (first-other l t r b w o m i (waits-below l q i h))) (openings l)
    ∙ (ap (λ (c : Bool). awaits_ack l p mid token || (list_any (eqb o) (openings l) && (c && went_as p mid (first_at n (length l))))) (newest-other l t p r b w o m token other)
    ∙ or-nothing (awaits_ack l p mid token) (list_any (eqb o) (openings l)))

-- A first sending to another peer, of a message that waited there, leaves the link.
pub first-elsewhere : {start : Start} (l : List Noted) (t : ℕ) (p r : Peer) (s : LinkState) (b : List ℕ) (u : Option ℕ) (o : ℕ) (m : Content) (w : Waiting) → Legal l → newest l ≤ t → Agrees start l p s
    → same_peer r p ≡ false → is_waiting l r o ≡ true → IsWaitingFor start l o w → m.token ≡ w.token → Agrees start (sent t r b u o m ∷ l) p s
first-elsewhere {start = start} l t p r s b u o m w legal later a other waits mine token =
    let n = sent t r b u o m ∷ l in
    record {
      turn = turn-other l t p r b u o m other s.outstanding a.turn;
      known = a.known ∙ sym (ap (λ (v : Option FirstSending). is_some v || list_any (recalls p) l) (last-other l t p r b u o m other));
      last = λ v after. subst (IsLast v p s.last_mid) (sym (last-other l t p r b u o m other)) (a.last v (since l later after));
      count_up = λ v after. rw (other) (a.count_up v (since l later after));
      given = λ v after. a.given v (since l later after) ∙ sym (mids-other l t v p r b u o m other);
      waits = subst (λ (os : List ℕ). WaitIn start n os s.waiting) (sym (queue-other l t p r b u o m waits other))
          (waits-other l t p r b u o m w legal mine token waits (goes-elsewhere l p r o waits other) (waiting l p) s.waiting (waiting-all l p) a.waits);
      awaits = λ v. a.awaits v ∙ sym (expects-other l t p r b u o m v legal (awaits-other l t p r b u o m waits other v));
      acks = λ mid v. a.acks mid v ∙ sym (acks-other l t p r b u o m waits other mid v);
      heard = heard-still l n p s.heard (unheard-sent l t r p b u (First o m) later) a.heard;
    }

-- an ask that opens an exchange with another peer

not-here : (l : List Noted) (t c : ℕ) (a : Ask) (q : CoapRequest) (note : Note) (p : Peer) → IsOpening q note → same_peer q.peer p ≡ false → is_waiting (asked t c a note ∷ l) p (length l) ≡ false
not-here l t c a q note p i e = rw (begun-here l t c a q note i) (rw (e) refl)

waiting-elsewhere : (l : List Noted) (t c : ℕ) (a : Ask) (q : CoapRequest) (note : Note) (p : Peer) → Legal l → IsOpening q note → same_peer q.peer p ≡ false
    → waiting (asked t c a note ∷ l) p ≡ waiting l p
waiting-elsewhere l t c a q note p legal i e =
    queue-same (asked t c a note) l p (opened-queued (asked t c a note) l p q legal (opens-for q note i) (λ o. tt) false (not-here l t c a q note p i e))
    (λ o. others-wait l t c a q note p o i)

pub asked-elsewhere : {start : Start} (l : List Noted) (t : ℕ) (p : Peer) (s : LinkState) (c : ℕ) (a : Ask) (q : CoapRequest) (note : Note) → Legal l → newest l ≤ t → Agrees start l p s
    → same_peer q.peer p ≡ false → IsOpening q note → IsUnnoticed l (asked t c a note) p → Agrees start (asked t c a note ∷ l) p s
asked-elsewhere {start = start} l t p s c a q note legal later g e i same =
    let n = asked t c a note ∷ l in
    record {
      turn = turn-kept l n p s.outstanding (λ i x h. at-keeps (asked t c a note) l i x h) refl (λ i. refl) g.turn;
      known = g.known;
      last = λ u after. g.last u (since l later after);
      count_up = λ u after. g.count_up u (since l later after);
      given = λ u after. g.given u (since l later after);
      waits = subst (λ (v : List ℕ). WaitIn start n v s.waiting) (sym (waiting-elsewhere l t c a q note p legal i e)) (waits-all start (asked t c a note) l p refl (waiting l p) s.waiting (waiting-all l p) g.waits);
      awaits = λ token. g.awaits token ∙ sym (asked-expects l t c a q note p token legal i ∙ ap (λ (b : Bool). awaits l p token || b) (same token));
      acks = λ mid token. g.acks mid token ∙ sym (rw (awaited-same l t c a q note legal i) refl);
      heard = heard-still l n p s.heard (record {
        later = later;
        before = λ u mid. refl;
        live = λ u. refl;
        below = λ u mid j h. heard-at (asked t c a note) l u p mid j h;
      }) g.heard;
    }

-- a copy of a message to another peer

pub number-differs : (l : List Noted) (p : Peer) (i : ℕ) (g f : FirstSending) → first_at l i ≡ Some g → same_peer g.peer p ≡ false → last_sent l p ≡ Some f → eqb i f.number ≡ false
number-differs l p i g f e other last =
    let mine = (find-some (λ (f : FirstSending). same_peer f.peer p) (firsts l) f last).1 in
    let found = found-first l (λ (f : FirstSending). same_peer f.peer p) f last in
    elim (eqb_tells i f.number) [
      | inl w ↦
          let same : g ≡ f = some-is g f (sym e ∙ (ap (first_at l) w.1 ∙ found)) in
          absurd (false≢true (sym other ∙ subst (λ (h : FirstSending). same_peer h.peer p ≡ true) (sym same) mine))
      | inr w ↦ w.0
    ]

pub nothing-found : (l : List Noted) (p : Peer) (i : ℕ) (f : FirstSending) → first_at l i ≡ None → last_sent l p ≡ Some f → eqb i f.number ≡ false
nothing-found l p i f e last =
    let found = found-first l (λ (f : FirstSending). same_peer f.peer p) f last in
    elim (eqb_tells i f.number) [ inl w ↦ absurd (none-some (sym e ∙ (ap (first_at l) w.1 ∙ found))) | inr w ↦ w.0 ]
  where
    none-some : None ≡ Some f → ⊥
    none-some e = cc

-- The timers of a peer's messages are as before where those of others are looked at alone.
pub turn-where : (l n : List Noted) (p : Peer) → ((i : ℕ) (x : Noted) → at l i ≡ Some x → at n i ≡ Some x) → firsts n ≡ firsts l
    → ((f : FirstSending) → last_sent l p ≡ Some f → transmission n f.number ≡ transmission l f.number) → (v : Option Outstanding) → TurnIn l p v → TurnIn n p v
turn-where l n p stands firsts_are same v a = by v a
  where
    outs : (w : Option FirstSending) → last_sent l p ≡ w → option_and_then (if_outstanding n) w ≡ option_and_then (if_outstanding l) w
    outs None e = refl
    outs (Some f) e = rw (same f e) refl

    out_is : outstanding n p ≡ outstanding l p
    out_is = rw (firsts_are) (outs (last_sent l p) refl)

    by : (v : Option Outstanding) → TurnIn l p v → TurnIn n p v
    by None a = out_is ∙ a
    by (Some o) a = record {
      first = a.first;
      timeout = a.timeout;
      stands = stands a.first.number _ a.stands;
      is = out_is ∙ a.is;
      way = same a.first (is-last l p (last_sent l p) a.first a.is) ∙ a.way;
      token = a.token;
      mid = a.mid;
    }

pub copied-elsewhere : {start : Start} (l : List Noted) (t : ℕ) (p r : Peer) (s : LinkState) (b : List ℕ) (i : ℕ) (g : FirstSending) → newest l ≤ t → Agrees start l p s
    → first_at l i ≡ Some g → same_peer g.peer p ≡ false → Agrees start (noted t (Sends r b None) (Copies i) ∷ l) p s
copied-elsewhere l t p r s b i g later a e other =
    let n = noted t (Sends r b None) (Copies i) ∷ l in
    rest-still l n p s s (still-copy l t r b i later) (unheard-sent l t r p b None (Copies i) later) a
    (turn-where l n p (λ j x h. at-keeps (noted t (Sends r b None) (Copies i)) l j x h) refl
    (λ f last. rw (number-differs l p i g f e other last) refl) s.outstanding a.turn) refl refl refl refl refl

pub ask-elsewhere : AskElsewhere
ask-elsewhere start l t p s c a q note b e i same = asked-elsewhere l t p s c a q note b.legal b.later b.agrees e i same

pub send-elsewhere : FirstElsewhere
send-elsewhere start l t p r s d u o m w b e waits mine token = first-elsewhere l t p r s d u o m w b.legal b.later b.agrees e waits mine token

pub copy-elsewhere : CopyElsewhere
copy-elsewhere start l t p r s d i g b e other = copied-elsewhere l t p r s d i g b.later b.agrees e other
