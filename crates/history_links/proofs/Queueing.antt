-- An ask that opens an exchange puts its message behind those that wait.
use Rattle.std.proofs.Common.{◌≡◌, ℕ, ◌<◌, ◌≤◌, ◌+◌, ◌-◌, Bool, true, false, cond, ltb, inl, inr, List, [], ◌∷◌, ◌++◌, length, Option, Some, None, refl, sym, ap, subst, ◌∙◌, arith, append-nil, eqb}
use Rattle.std.specs.Prelude.{filter, count_by, option_and_then, ◌||◌, ◌&&◌, not}
use Rattle.std.specs.List.{filter_map, list_any}
use Rattle.std.proofs.lemmas.List.Sums.{length-filter}
use Rattle.std.proofs.lemmas.Bool.{lt-ltb, ltb-true}
use Rattle.std.proofs.lemmas.Bool.Decides.{eqb_tells}
use Rattle.std.proofs.lemmas.Bool.{and_parts, false≢true}
use Rattle.std.proofs.lemmas.Map.Views.{any-filter_same}
use Rattle.std.proofs.lemmas.Slice.Eq.{bytes_eq-Decides}
use Rattle.std.specs.Str.{bytes_eq}
use Rattle.std.proofs.lemmas.List.Elements.{filter_map-append}
use Rattle.uri_map.specs.declared.peer.Peer.{Peer}
use Rattle.uri_map.specs.Peers.{same_peer}
use Rattle.resp_cache.specs.Stored.{Stored}
use Rattle.ask_model.specs.Requests.{CoapRequest, Manner, Plainly, opening_message}
use Rattle.ask_model.specs.Views.{Ask}
use Rattle.uri_map.proofs.CallerLemmas.{same_peer-itself}
use Rattle.journal_book.specs.Entries.{Asks}
use Rattle.message_layer.specs.Mids.{is_in_use, pruned}
use Rattle.message_layer.specs.Hearing.{is_awaited, is_awaited_by_ack, mid_is}
use Rattle.message_layer.specs.Sending.{waits}
use Rattle.message_layer.specs.declared.state.Awaited.{Awaited}
use Rattle.message_layer.specs.declared.state.Waiting.{Waiting}
use Rattle.message_layer.specs.declared.state.Outstanding.{Outstanding}
use Rattle.message_layer.proofs.Effects.{filter-kept}
use Rattle.history_laws.specs.Readings.{Noted, Note, Begins, Renews, at, noted, before}
use Rattle.history_laws.specs.Transmissions.{FirstSending, firsts, if_outstanding, transmission, last_sent, first_at}
use Rattle.history_laws.specs.Progress.{Reply, progress, next_message}
use Rattle.history_laws.specs.Exchanges.{begun, kept, kept_by, opened_by, openings, opens_by, waits_for, replies, begins_by, begins_with, heard_for, awaited, is_waiting, is_submitted_at, waiting}
use Rattle.history_laws.specs.Observing.{manner, manner_by, observes, tag_of, unless_replied, wants_by, wants_in}
use Rattle.history_laws.specs.Hearing.{went_under, went_as}
use Rattle.history_laws.specs.Justified.{Legal}
use Rattle.history_laws.proofs.CallerLemmas.{all-more, asks-first, at-keeps, begun-below, eqb-itself, filter-all, not-yet, opened-queued, opened-rank, replies-none, unbegun, waiting-all, waiting-begun, and-right, at-new, before-new}
use Rattle.history_links.specs.Agrees.{Start, TurnIn, IsWaitingFor, WaitIn, awaits, awaits_ack, expects, notified}
use Rattle.history_links.specs.Steps.{QueuedAgrees, IsOpening, but_gone, first_manner, Forgets}
use Rattle.history_links.proofs.Still.{since, waits-all, heard-at, heard-still}

-- lists with one more

none-more : (f : ℕ → Option ℕ) (xs : List ℕ) (x : ℕ) → f x ≡ None → filter_map f (xs ++ x ∷ []) ≡ filter_map f xs
none-more f xs x e = filter_map-append f xs (x ∷ []) ∙ rw e (append-nil (filter_map f xs))

-- what is outstanding stays

turn-by : (l n : List Noted) (last : Option FirstSending) → ((i : ℕ) → transmission n i ≡ transmission l i)
    → option_and_then (if_outstanding n) last ≡ option_and_then (if_outstanding l) last
turn-by l n None same = refl
turn-by l n (Some f) same = rw (same f.number) refl

pub turn-kept : (l n : List Noted) (p : Peer) (o : Option Outstanding) → ((i : ℕ) (x : Noted) → at l i ≡ Some x → at n i ≡ Some x) → firsts n ≡ firsts l
    → ((i : ℕ) → transmission n i ≡ transmission l i) → TurnIn l p o → TurnIn n p o
turn-kept l n p None stands firsts_are same a = rw (firsts_are) (turn-by l n (last_sent l p) same ∙ a)
turn-kept l n p (Some o) stands firsts_are same a = record {
  first = a.first;
  timeout = a.timeout;
  stands = stands a.first.number _ a.stands;
  is = rw (firsts_are) (turn-by l n (last_sent l p) same ∙ a.is);
  way = same a.first.number ∙ a.way;
  token = a.token;
  mid = a.mid;
}

-- moments of IDs that are in use no more

still-in-use : (t u g : ℕ) → t ≤ u → is_in_use u g ≡ true → is_in_use t g ≡ true
still-in-use t u g later e = let h = ltb-true (u - g) 494000 e in lt-ltb (t - g) 494000 (omega (arith, h, later))

pub given-kept : (t u : ℕ) (given : List ℕ) → t ≤ u → count_by (is_in_use u) (filter (is_in_use t) given) ≡ count_by (is_in_use u) given
given-kept t u given later =
    sym (length-filter (is_in_use u) (filter (is_in_use t) given))
    ∙ (ap length (filter-kept (is_in_use u) (is_in_use t) (λ g e. still-in-use t u g later e) given) ∙ length-filter (is_in_use u) given)

pub pruned-count : (t u n : ℕ) (given : List ℕ) → t ≤ u → count_by (is_in_use u) (pruned t n given) ≡ count_by (is_in_use u) given
pruned-count t u n given later = by (ltb (length given + n) 32768)
  where
    by : (b : Bool) → count_by (is_in_use u) (cond b given (filter (is_in_use t) given)) ≡ count_by (is_in_use u) given
    by true = refl
    by false = given-kept t u given later

-- an ask that opens an exchange

abbrev pub asked : ℕ → ℕ → Ask → Note → Noted
asked t c a note = noted t (Asks c a) note

pub opens-for : (q : CoapRequest) (note : Note) → IsOpening q note → opens_by note ≡ Some q
opens-for q (Begins r) i = ap (λ (v : CoapRequest). Some v) i
opens-for q (Renews r s) i = ap (λ (v : CoapRequest). Some v) i.0
opens-for q note i = absurd i

begun-other : (l : List Noted) (t c : ℕ) (a : Ask) (q : CoapRequest) (note : Note) (o : ℕ) → IsOpening q note → o < length l → begun (asked t c a note ∷ l) o ≡ begun l o
begun-other l t c a q note o i lt = elim (eqb_tells (length l) o) [
  | inl e ↦ let same = e.1 in absurd (omega (arith, lt, same))
  | inr e ↦ rw (opens-for q note i, e.0) refl
]

pub begun-here : (l : List Noted) (t c : ℕ) (a : Ask) (q : CoapRequest) (note : Note) → IsOpening q note → begun (asked t c a note ∷ l) (length l) ≡ Some (record { since = t; request = q })
begun-here l t c a q note i = rw (opens-for q note i, eqb-itself (length l)) refl

it-waits : (l : List Noted) (t c : ℕ) (a : Ask) (q : CoapRequest) (note : Note) (p : Peer) → Legal l → IsOpening q note → q.peer ≡ p → is_waiting (asked t c a note ∷ l) p (length l) ≡ true
it-waits l t c a q note p legal i to =
    let none = unbegun l (length l) legal (not-yet l) in
    let peer : same_peer q.peer p ≡ true = subst (λ (r : Peer). same_peer q.peer r ≡ true) to (same_peer-itself q.peer) in
    rw (begun-here l t c a q note i, none.0, none.1) (rw (peer) refl)

pub others-wait : (l : List Noted) (t c : ℕ) (a : Ask) (q : CoapRequest) (note : Note) (p : Peer) (o : ℕ) → IsOpening q note → is_waiting l p o ≡ true → is_waiting (asked t c a note ∷ l) p o ≡ true
others-wait l t c a q note p o i e =
    let b = waiting-begun l p o e in
    rw (begun-other l t c a q note o i (begun-below l o b.0 b.1)) e

pub waits-more : (l : List Noted) (t c : ℕ) (a : Ask) (q : CoapRequest) (note : Note) (p : Peer) → Legal l → IsOpening q note → q.peer ≡ p
    → waiting (asked t c a note ∷ l) p ≡ waiting l p ++ length l ∷ []
waits-more l t c a q note p legal i to =
    let x = asked t c a note in
    let old = filter-all (is_waiting (x ∷ l) p) (waiting l p)
    (all-more (λ (o : ℕ). is_waiting l p o ≡ true) (λ (o : ℕ). is_waiting (x ∷ l) p o ≡ true) (λ o. others-wait l t c a q note p o i) (waiting l p) (waiting-all l p)) in
    ap (λ (v : List ℕ). v ++ filter (is_submitted_at (x ∷ l) p (length l)) (openings (x ∷ l))) old
    ∙ ap (λ (v : List ℕ). waiting l p ++ v) (opened-queued x l p q legal (opens-for q note i) (λ o. tt) true (it-waits l t c a q note p legal i to))

pub wait-push : (start : Start) (n : List Noted) (os : List ℕ) (ws : List Waiting) (o : ℕ) (w : Waiting) → WaitIn start n os ws → IsWaitingFor start n o w → WaitIn start n (os ++ o ∷ []) (ws ++ w ∷ [])
wait-push start n [] [] o w a i = (i, tt)
wait-push start n [] (v ∷ ws) o w a i = absurd a
wait-push start n (q ∷ os) [] o w a i = absurd a
wait-push start n (q ∷ os) (v ∷ ws) o w a i = (a.0, wait-push start n os ws o w a.1 i)

pub awaited-same : (l : List Noted) (t c : ℕ) (a : Ask) (q : CoapRequest) (note : Note) → Legal l → IsOpening q note → awaited (asked t c a note ∷ l) ≡ awaited l
awaited-same l t c a q note legal i =
    ap (filter_map (waits_for l)) (ap (λ (v : Option CoapRequest). opened_by (length l) v (openings l)) (opens-for q note i))
    ∙ none-more (waits_for l) (openings l) (length l) (unbegun l (length l) legal (not-yet l)).0

pub replied : (l : List Noted) (t c : ℕ) (a : Ask) (note : Note) → Legal l → replies (asked t c a note ∷ l) (length l) ≡ []
replied l t c a note legal = (replies-none l (length l) legal (not-yet l)).1

begins-here : (n : ℕ) (q : CoapRequest) (note : Note) → IsOpening q note → begins_by n note ≡ []
begins-here n q (Begins r) i = refl
begins-here n q (Renews r s) i = refl
begins-here n q note i = absurd i

pub heard-here : (l : List Noted) (t c : ℕ) (a : Ask) (q : CoapRequest) (note : Note) → Legal l → IsOpening q note
    → heard_for (asked t c a note ∷ l) (length l) ≡ []
heard-here l t c a q note legal i =
    ap (λ (bs : List Reply). bs ++ replies (asked t c a note ∷ l) (length l)) nothing ∙ replied l t c a note legal
  where
    nothing : begins_with (asked t c a note ∷ l) (length l) ≡ []
    nothing = rw (eqb-itself (length l)) (begins-here (length l) q note i)

pub kept-here : (l : List Noted) (t c : ℕ) (a : Ask) (note : Note) → kept (asked t c a note ∷ l) (length l) ≡ kept_by note
kept-here l t c a note = rw (eqb-itself (length l)) refl

-- Its first message asks to observe where that is wanted, or about what is kept, and then it is a GET.
pub wants-here : (l : List Noted) (t c : ℕ) (a : Ask) (note : Note) → Legal l → observes (asked t c a note ∷ l) (length l) ≡ wants_by l (Asks c a) note
wants-here l t c a note legal =
    let n = asked t c a note ∷ l in
    ap (λ (rs : List Reply). unless_replied (wants_in (before n (length l)) (at n (length l))) rs) (replied l t c a note legal)
    ∙ (ap (λ (v : Option Noted). wants_in (before n (length l)) v) (at-new (asked t c a note) l) ∙ ap (λ (h : List Noted). wants_by h (Asks c a) note) (before-new (asked t c a note) l))

pub manner-here : (l : List Noted) (t c : ℕ) (a : Ask) (note : Note) → Legal l → manner (asked t c a note ∷ l) (length l) ≡ first_manner l (Asks c a) note
manner-here l t c a note legal =
    let n = asked t c a note ∷ l in
    ap (λ (v : Option Stored). manner_by (tag_of v (replies n (length l))) (observes n (length l))) (kept-here l t c a note)
    ∙ (ap (λ (rs : List Reply). manner_by (tag_of (kept_by note) rs) (observes n (length l))) (replied l t c a note legal)
    ∙ ap (manner_by (tag_of (kept_by note) [])) (wants-here l t c a note legal))

plainly : (l : List Noted) (c : ℕ) (a : Ask) (q : CoapRequest) (note : Note) → IsOpening q note → eqb q.method 1 ≡ false → first_manner l (Asks c a) note ≡ Plainly
plainly l c a q (Begins r) i e = rw (i, e) refl
plainly l c a q (Renews r s) i e = absurd (false≢true (sym e ∙ (and_parts (eqb q.method 1) _ i.1).0))
plainly l c a q note i e = absurd i

pub asked-expects : (l : List Noted) (t c : ℕ) (a : Ask) (q : CoapRequest) (note : Note) (p : Peer) (token : List ℕ) → Legal l → IsOpening q note
    → expects (asked t c a note ∷ l) p token ≡ (awaits l p token || notified (asked t c a note ∷ l) p token)
asked-expects l t c a q note p token legal i = rw (awaited-same l t c a q note legal i) refl

-- What the link lets go of is awaited no more, and nothing else.
pub but-awaits : (gone : List ℕ → Bool) (token : List ℕ) (xs : List Awaited)
    → list_any (is_awaited token) (but_gone gone xs) ≡ (not (gone token) && list_any (is_awaited token) xs)
but-awaits gone token xs =
    any-filter_same (is_awaited token) (λ (x : Awaited). not (gone x.token)) (not (gone token))
    (λ x h. ap (λ (v : List ℕ). not (gone v)) ((bytes_eq-Decides x.token token).0 h)) xs

pub but-acks : (gone : List ℕ → Bool) (mid : ℕ) (token : List ℕ) (xs : List Awaited)
    → list_any (is_awaited_by_ack mid token) (but_gone gone xs) ≡ (not (gone token) && list_any (is_awaited_by_ack mid token) xs)
but-acks gone mid token xs =
    any-filter_same (is_awaited_by_ack mid token) (λ (x : Awaited). not (gone x.token)) (not (gone token))
    (λ x h. ap (λ (v : List ℕ). not (gone v)) ((bytes_eq-Decides x.token token).0 (and-right (mid_is mid x.mid) (bytes_eq x.token token) h))) xs

-- Under what is awaited still, something is expected, so that isn't gone.
pub kept-still : (l : List Noted) (x : Noted) (p : Peer) (gone : List ℕ → Bool) → Forgets l x p gone → (token : List ℕ) → awaits (x ∷ l) p token ≡ true
    → gone token ≡ false
kept-still l x p gone forgets token e = by (gone token) (sym (rw (e) refl) ∙ forgets token)
  where
    by : (b : Bool) → true ≡ (not b && expects l p token) → b ≡ false
    by true h = absurd (false≢true (sym h))
    by false h = refl

pub acks-awaits : (l : List Noted) (p : Peer) (mid : ℕ) (token : List ℕ) → awaits_ack l p mid token ≡ true → awaits l p token ≡ true
acks-awaits l p mid token e = all (awaited l) e
  where
    all : (os : List ℕ) → list_any (λ (i : ℕ). went_under p token (first_at l i) && went_as p mid (first_at l i)) os ≡ true
        → list_any (λ (i : ℕ). went_under p token (first_at l i)) os ≡ true
    all [] e = e
    all (o ∷ os) e = by (went_under p token (first_at l o)) (went_as p mid (first_at l o)) e (all os)
      where
        by : (b c : Bool) → ((b && c) || list_any (λ (i : ℕ). went_under p token (first_at l i) && went_as p mid (first_at l i)) os) ≡ true
            → (list_any (λ (i : ℕ). went_under p token (first_at l i) && went_as p mid (first_at l i)) os ≡ true
            → list_any (λ (i : ℕ). went_under p token (first_at l i)) os ≡ true) → (b || list_any (λ (i : ℕ). went_under p token (first_at l i)) os) ≡ true
        by true c e ih = refl
        by false c e ih = ih e

-- Where the ACKs that are awaited stay the same, they do without what is gone.
pub acks-kept : (l : List Noted) (x : Noted) (p : Peer) (gone : List ℕ → Bool) → Forgets l x p gone → (mid : ℕ) (token : List ℕ)
    → awaits_ack (x ∷ l) p mid token ≡ awaits_ack l p mid token → (not (gone token) && awaits_ack l p mid token) ≡ awaits_ack (x ∷ l) p mid token
acks-kept l x p gone forgets mid token same = by (awaits_ack l p mid token) refl (gone token) refl ∙ sym same
  where
    by : (a : Bool) → awaits_ack l p mid token ≡ a → (g : Bool) → gone token ≡ g → (not g && a) ≡ a
    by false e true f = refl
    by false e false f = refl
    by true e false f = refl
    by true e true f =
        absurd (false≢true (sym (kept-still l x p gone forgets token (acks-awaits (x ∷ l) p mid token (same ∙ e))) ∙ f))

pub queued-agrees : QueuedAgrees
queued-agrees start l t p s c a q note token text word gone b to i spelled size apart number forgets =
    let legal = b.legal in
    let later = b.later in
    let g = b.agrees in
    let n = asked t c a note ∷ l in
    let w = waits token text word in
    let how = first_manner l (Asks c a) note in
    record {
      turn = turn-kept l n p s.outstanding (λ i x e. at-keeps (asked t c a note) l i x e) refl (λ i. refl) g.turn;
      known = g.known;
      last = λ u after. g.last u (since l later after);
      count_up = λ u after. g.count_up u (since l later after);
      given = λ u after. pruned-count t u (length s.waiting) s.given after.1 ∙ g.given u (since l later after);
      waits = subst (λ (v : List ℕ). WaitIn start n v (s.waiting ++ w ∷ [])) (sym (waits-more l t c a q note p legal i to))
          (wait-push start n (waiting l p) s.waiting (length l) w (waits-all start (asked t c a note) l p refl (waiting l p) s.waiting (waiting-all l p) g.waits) record {
            since = t;
            request = q;
            opening = begun-here l t c a q note i;
            message = opening_message how q 0 token;
            next = ap (λ (f : Manner). next_message f q (progress q (heard_for n (length l))) 0 token) (manner-here l t c a note legal)
                ∙ (ap (λ (rs : List Reply). next_message how q (progress q rs) 0 token) (heard-here l t c a q note legal i) ∙ asks-first how q 0 token (plainly l c a q note i));
            spelled = spelled;
            token_size = size;
            token_apart = apart;
            numbered = number ∙ sym (ap (λ (k : ℕ). start.issued + k) (opened-rank (asked t c a note) l legal));
            least = omega arith;
            greatest = omega arith;
          });
      awaits = λ token. but-awaits gone token s.awaited ∙ (ap (λ (b : Bool). not (gone token) && b) (g.awaits token) ∙ sym (forgets token));
      acks = λ mid token.
          but-acks gone mid token s.awaited
          ∙ (ap (λ (b : Bool). not (gone token) && b) (g.acks mid token) ∙ acks-kept l (asked t c a note) p gone forgets mid token (rw (awaited-same l t c a q note legal i) refl));
      heard = heard-still l n p s.heard (record {
        later = later;
        before = λ u mid. refl;
        live = λ u. refl;
        below = λ u mid j e. heard-at (asked t c a note) l u p mid j e;
      }) g.heard;
    }
