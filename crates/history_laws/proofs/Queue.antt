-- What waits at a peer is a queue: whose messages wait, each once, in the order in which they were submitted.
use Rattle.std.proofs.Common.{◌≡◌, ℕ, ◌<◌, ◌⊎◌, Bool, true, false, eqb, leb, inl, inr, List, [], ◌∷◌, ◌++◌, length, Option, Some, None, is_some, refl, sym, ap, subst, ◌∙◌, arith, zero, append-nil}
use Rattle.std.specs.Prelude.{filter, ◌&&◌, is_none}
use Rattle.std.specs.List.{AllByRecursion, Contains, list_any}
use Rattle.std.proofs.lemmas.Bool.{false≢true, and_from}
use Rattle.std.proofs.lemmas.Bool.Decides.{eqb_tells}
use Rattle.std.proofs.lemmas.List.Elements.{Contains-append_left, Contains-append_right}
use Rattle.coap_codec.specs.Spelling.{Content}
use Rattle.uri_map.specs.declared.peer.Peer.{Peer}
use Rattle.ask_model.specs.Requests.{CoapRequest}
use Rattle.journal_book.specs.Entries.{Hears}
use Rattle.history_laws.specs.Readings.{Noted, First, Says, Notice, Starts, noted}
use Rattle.history_laws.specs.Progress.{Reply, Ending, Reset, TimedOut}
use Rattle.history_laws.specs.Exchanges.{Begun, begun_by, begun, started_by, opens_by, openings, Turn, Nothing, Sent, Replied, Rejected, Expired, turn, waits_by, waits_for, replies_by, replies, heard_for, End, kept, end_here, end_by, end_of, is_going, goes_to, is_waiting, waiting, is_submitted_at, submitted_by, submitted}
use Rattle.history_laws.specs.Transmissions.{first_at}
use Rattle.history_laws.specs.Hearing.{may_register, observation_of, registers}
use Rattle.history_laws.specs.Justified.{Follows, Legal}
use Rattle.history_laws.specs.Laws.{IsFirst}
use Rattle.history_laws.proofs.Elements.{all-filter, all-more, all-passes, contains-filter, contains-later, filtered-from, is-some}
use Rattle.history_laws.proofs.Facts.{eqb-itself, eqb-same}
use Rattle.history_laws.proofs.Openings.{begun-listed, listed-begun}
use Rattle.history_laws.proofs.Places.{at-same}
use Rattle.history_laws.proofs.Resting.{and-left, and-right, none-of, none-some, none-is}
use Rattle.history_laws.proofs.Rising.{IsOneAtMost, one-at-most, openings-rising, rising-filter, RisesBy, rises-as, rises-filter, rises-join}
use Rattle.history_laws.proofs.Members.{waiting-all}
use Rattle.history_laws.proofs.Firsts.{first-found}
use Rattle.history_laws.proofs.Registering.{said}
use Rattle.history_laws.proofs.Sent.{begun-below, begun-keeps}
use Rattle.history_laws.proofs.Turns.{turn-replied, waits-first}
use Rattle.history_laws.proofs.Unbegun.{not-yet, replies-none}

-- lists

pub filter-all : {X : Type 0} (q : X → Bool) (xs : List X) → AllByRecursion (λ (x : X). q x ≡ true) xs → filter q xs ≡ xs
filter-all q [] a = refl
filter-all q (x ∷ xs) a = rw (a.0) (ap (λ (v : List _). x ∷ v) (filter-all q xs a.1))

pub filter-none : {X : Type 0} (q : X → Bool) (xs : List X) → AllByRecursion (λ (x : X). q x ≡ false) xs → filter q xs ≡ []
filter-none q [] a = refl
filter-none q (x ∷ xs) a = rw (a.0) (filter-none q xs a.1)

pub any-none : {X : Type 0} (q : X → Bool) (xs : List X) → AllByRecursion (λ (x : X). q x ≡ false) xs → list_any q xs ≡ false
any-none q [] a = refl
any-none q (x ∷ xs) a = rw (a.0) (any-none q xs a.1)

pub listed-are : (P : ℕ → Type 0) (os : List ℕ) → ((o : ℕ) → Contains os o → P o) → AllByRecursion P os
listed-are P [] h = tt
listed-are P (o ∷ os) h = (h o (zero, omega arith, refl), listed-are P os (λ q c. h q (contains-later o os q c)))

differ : (a b : ℕ) → a < b → eqb a b ≡ false
differ a b lt = elim (eqb_tells a b) [ inl w ↦ let same = w.1 in absurd (omega (arith, same, lt)) | inr w ↦ w.0 ]

-- what submits a message

-- a turn that is no reply
abbrev pub NoReply : Turn → Type 0
NoReply (Replied i m place) = ⊥
NoReply u = Unit {0}

pub replies-stay : (n : ℕ) (u : Turn) (rs : List Reply) → NoReply u → replies_by n u rs ≡ rs
replies-stay n Nothing rs h = refl
replies-stay n (Sent i) rs h = refl
replies-stay n (Replied i m place) rs h = absurd h
replies-stay n Rejected rs h = refl
replies-stay n Expired rs h = refl

submitted-push : (o : ℕ) (rs : List Reply) (r : Reply) → submitted_by o (rs ++ r ∷ []) ≡ r.number
submitted-push o [] r = refl
submitted-push o (s ∷ rs) r = submitted-push s.number rs r

-- a reply to the exchange, which submits its next message
abbrev pub IsReplyAt : Noted → List Noted → ℕ → Type 0
IsReplyAt x l o =
    (i : ℕ) × (m : Content) × (place : Bool) × (turn l o x ≡ Replied i m place) × (submitted (x ∷ l) o ≡ length l)

pub submitted-cases : (x : Noted) (l : List Noted) (o : ℕ) → (replies (x ∷ l) o ≡ replies l o) ⊎ IsReplyAt x l o
submitted-cases x l o = by (turn l o x) refl
  where
    by : (u : Turn) → turn l o x ≡ u → (replies (x ∷ l) o ≡ replies l o) ⊎ IsReplyAt x l o
    by Nothing e = inl (rw (e) refl)
    by (Sent i) e = inl (rw (e) refl)
    by (Replied i m place) e = inr (i, m, place, e, rw (e) (submitted-push o (replies l o) record { number = length l; sending = i; message = m }))
    by Rejected e = inl (rw (e) refl)
    by Expired e = inl (rw (e) refl)

submitted-or : (l : List Noted) (o : ℕ) → (submitted l o ≡ o) ⊎ (submitted l o < length l)
submitted-or [] o = inl refl
submitted-or (x ∷ older) o = elim (submitted-cases x older o) [
  | inl same ↦
      let stays : submitted (x ∷ older) o ≡ submitted older o = ap (submitted_by o) same in
      elim (submitted-or older o) [ inl e ↦ inl (stays ∙ e) | inr lt ↦ inr (omega (arith, lt, stays)) ]
  | inr r ↦ let e = r.4 in inr (omega (arith, e))
]

pub submitted-below : (l : List Noted) (o : ℕ) (b : Begun) → begun l o ≡ Some b → submitted l o < length l
submitted-below l o b e = elim (submitted-or l o) [ inl is ↦ let lt = begun-below l o b e in omega (arith, is, lt) | inr lt ↦ lt ]

-- who waits

pub waiting-goes : (l : List Noted) (p : Peer) (o : ℕ) → is_waiting l p o ≡ true → end_of l o ≡ None
waiting-goes l p o e = none-of (end_of l o) (and-left (is_going l o) _ (and-right (goes_to p (begun l o)) _ e))

pub waiting-unsent : (l : List Noted) (p : Peer) (o : ℕ) → is_waiting l p o ≡ true → waits_for l o ≡ None
waiting-unsent l p o e = none-of (waits_for l o) (and-right (is_going l o) _ (and-right (goes_to p (begun l o)) _ e))

pub waiting-begun : (l : List Noted) (p : Peer) (o : ℕ) → is_waiting l p o ≡ true → (b : Begun) × (begun l o ≡ Some b)
waiting-begun l p o e = by (begun l o) refl (and-left (goes_to p (begun l o)) _ e)
  where
    by : (v : Option Begun) → begun l o ≡ v → goes_to p v ≡ true → (b : Begun) × (begun l o ≡ Some b)
    by None is h = absurd (false≢true h)
    by (Some b) is h = (b, is)

-- Who awaits no reply gets none.
pub unawaited-stays : (x : Noted) (l : List Noted) (o : ℕ) → waits_for l o ≡ None → replies (x ∷ l) o ≡ replies l o
unawaited-stays x l o e = elim (submitted-cases x l o) [
  | inl same ↦ same
  | inr r ↦ absurd (none-some r.0 (sym e ∙ (turn-replied l o x r.0 r.1 r.2 r.3).waited))
]

-- Nor does who awaits what was awaited before.
pub awaiting-stays : (x : Noted) (l : List Noted) (o : ℕ) → waits_for (x ∷ l) o ≡ waits_for l o → replies (x ∷ l) o ≡ replies l o
awaiting-stays x l o same = elim (submitted-cases x l o) [
  | inl stays ↦ stays
  | inr r ↦
      let none : waits_for (x ∷ l) o ≡ None = ap (λ (u : Turn). waits_by u (waits_for l o)) r.3 in
      absurd (none-some r.0 (sym none ∙ (same ∙ (turn-replied l o x r.0 r.1 r.2 r.3).waited)))
]

pub waiting-stays : (x : Noted) (l : List Noted) (p : Peer) (o : ℕ) → is_waiting l p o ≡ true → replies (x ∷ l) o ≡ replies l o
waiting-stays x l p o e = unawaited-stays x l o (waiting-unsent l p o e)

pub waiting-submitted : (x : Noted) (l : List Noted) (p : Peer) (o : ℕ) → is_waiting l p o ≡ true → submitted (x ∷ l) o ≡ submitted l o
waiting-submitted x l p o e = ap (submitted_by o) (waiting-stays x l p o e)

pub waiting-below : (l : List Noted) (p : Peer) (o : ℕ) → is_waiting l p o ≡ true → submitted l o < length l
waiting-below l p o e = let b = waiting-begun l p o e in submitted-below l o b.0 b.1

-- One message at most is submitted by an entry.

pub submits-by : (x : Noted) (l : List Noted) (o : ℕ) → submitted (x ∷ l) o ≡ length l → (o ≡ length l) ⊎ IsReplyAt x l o
submits-by x l o e = elim (submitted-cases x l o) [
  | inl same ↦
      let stays : submitted (x ∷ l) o ≡ submitted l o = ap (submitted_by o) same in
      elim (submitted-or l o) [ inl is ↦ inl (sym is ∙ (sym stays ∙ e)) | inr lt ↦ absurd (omega (arith, lt, stays, e)) ]
  | inr r ↦ inr r
]

-- What is a reply to an exchange opens none.

abbrev pub OpensOrReplies : Noted → List Noted → Type 0
OpensOrReplies x l = (q : ℕ) → IsReplyAt x l q → opens_by x.note ≡ None

registers-none : (b : Bool) → started_by (registers b) ≡ None
registers-none true = refl
registers-none false = refl

-- It registers, or doesn't, and is no notification.
pub awaited-registers : (l : List Noted) (o t : ℕ) (m : Content) (i : ℕ) → waits_for l o ≡ Some i → leb 32 m.code ≡ true
    → observation_of l t m (Some i) ≡ registers (may_register l o m)
awaited-registers l o t m i waited response =
    let w = waits-first l o i waited in
    by w.0 w.1 w.2 (first-found l w.0 o i w.1 w.2 w.3)
  where
    by : (s : ℕ) (p : Peer) (n : Content) → first_at l i ≡ Some (record { number = i; moment = s; opening = o; peer = p; message = n })
        → observation_of l t m (Some i) ≡ registers (may_register l o m)
    by s p n found = rw (response, found, waited, eqb-itself i) refl

pub awaited-none : (l : List Noted) (o t : ℕ) (m : Content) (i : ℕ) → waits_for l o ≡ Some i → leb 32 m.code ≡ true
    → started_by (observation_of l t m (Some i)) ≡ None
awaited-none l o t m i waited response = ap started_by (awaited-registers l o t m i waited response) ∙ registers-none (may_register l o m)

pub awaited-not : (l : List Noted) (o t : ℕ) (m : Content) (i k : ℕ) (q : CoapRequest) → waits_for l o ≡ Some i → leb 32 m.code ≡ true
    → observation_of l t m (Some i) ≡ Starts k q → ⊥
awaited-not l o t m i k q waited response e = none-some q (sym (awaited-none l o t m i waited response) ∙ ap started_by e)

says-both : (m n : Content) (to : Option ℕ) (i : ℕ) (u v : Notice) → Says m to u ≡ Says n (Some i) v → (m ≡ n) × (to ≡ Some i)
says-both m n to i u v e = (cc, cc)

pub said-either : (l : List Noted) (t : ℕ) (p : Peer) (d : List ℕ) (m : Content) (to : Option ℕ) (notice : Notice)
    → observation_of l t m to ≡ notice.observation → OpensOrReplies (noted t (Hears p d) (Says m to notice)) l
said-either l t p d m to notice is q r =
    let it = turn-replied l q (noted t (Hears p d) (Says m to notice)) r.0 r.1 r.2 r.3 in
    let same = says-both m r.1 to r.0 notice it.notice (ap (λ (v : Noted). v.note) it.entry) in
    let response : leb 32 m.code ≡ true = subst (λ (n : Content). leb 32 n.code ≡ true) (sym same.0) it.response in
    ap started_by (sym is ∙ ap (observation_of l t m) same.1) ∙ awaited-none l q t m r.0 it.waited response

pub either-by : (x : Noted) (l : List Noted) → Follows l x.written.moment x.written.deed x.note → OpensOrReplies x l
either-by x l may q r =
    let it = turn-replied l q x r.0 r.1 r.2 r.3 in
    let t = x.written.moment in
    let follows : Follows l t (Hears it.peer it.bytes) (Says r.1 (Some r.0) it.notice) =
    subst (λ (v : Noted). Follows l v.written.moment v.written.deed v.note) it.entry may in
    let is = said l t it.peer it.bytes r.1 r.0 it.notice follows in
    ap (λ (v : Noted). opens_by v.note) it.entry ∙ (ap started_by (sym is.observation) ∙ awaited-none l q t r.1 r.0 it.waited it.response)

opens-none : (x : Noted) (l : List Noted) (q : ℕ) → OpensOrReplies x l → IsReplyAt x l q → is_some (begun (x ∷ l) (length l)) ≡ true → ⊥
opens-none x l q either r e = false≢true (sym (ap is_some (none (either q r))) ∙ e)
  where
    none : opens_by x.note ≡ None → begun (x ∷ l) (length l) ≡ None
    none note = rw (note, not-yet l) refl

first-owner : (l : List Noted) (s t o q i : ℕ) (p r : Peer) (m n : Content) → IsFirst l s o i p m → IsFirst l t q i r n → o ≡ q
first-owner l s t o q i p r m n f g = owner (ap (λ (v : Noted). v.note) (at-same l i _ _ f.stands g.stands))
  where
    owner : First o m ≡ First q n → o ≡ q
    owner e = cc

said-to : (m n : Content) (i j : ℕ) (u v : Notice) → Says m (Some i) u ≡ Says n (Some j) v → i ≡ j
said-to m n i j u v e = cc

replied-once : (x : Noted) (l : List Noted) (o q : ℕ) → IsReplyAt x l o → IsReplyAt x l q → o ≡ q
replied-once x l o q r s =
    let a = turn-replied l o x r.0 r.1 r.2 r.3 in
    let b = turn-replied l q x s.0 s.1 s.2 s.3 in
    let same : r.0 ≡ s.0 = said-to r.1 s.1 r.0 s.0 a.notice b.notice (sym (ap (λ (v : Noted). v.note) a.entry) ∙ ap (λ (v : Noted). v.note) b.entry) in
    let f = waits-first l o r.0 a.waited in
    let g = waits-first l q r.0 (subst (λ (i : ℕ). waits_for l q ≡ Some i) (sym same) b.waited) in
    first-owner l f.0 g.0 o q r.0 f.1 g.1 f.2 g.2 f.3 g.3

pub submitted-once : (x : Noted) (l : List Noted) (o q : ℕ) → OpensOrReplies x l
    → is_some (begun (x ∷ l) o) ≡ true → is_some (begun (x ∷ l) q) ≡ true
    → submitted (x ∷ l) o ≡ length l → submitted (x ∷ l) q ≡ length l → o ≡ q
submitted-once x l o q either a b e f = elim (submits-by x l o e) [
  | inl here ↦ elim (submits-by x l q f) [
    | inl there ↦ here ∙ sym there
    | inr s ↦ absurd (opens-none x l q either s (subst (λ (k : ℕ). is_some (begun (x ∷ l) k) ≡ true) here a))
  ]
  | inr r ↦ elim (submits-by x l q f) [
    | inl there ↦ absurd (opens-none x l o either r (subst (λ (k : ℕ). is_some (begun (x ∷ l) k) ≡ true) there b))
    | inr s ↦ replied-once x l o q r s
  ]
]

new-once : (x : Noted) (l : List Noted) (p : Peer) → OpensOrReplies x l → IsOneAtMost (filter (is_submitted_at (x ∷ l) p (length l)) (openings (x ∷ l)))
new-once x l p either =
    let n = x ∷ l in
    let new = is_submitted_at n p (length l) in
    one-at-most (filter new (openings n)) (rising-filter new (openings n) (openings-rising n)) (λ a b g h.
    let f = filtered-from new (openings n) a g in
    let k = filtered-from new (openings n) b h in
    submitted-once x l a b either (listed-begun n a f.0) (listed-begun n b k.0)
    (eqb-same (submitted n a) (length l) (and-left _ (is_waiting n p a) f.1)) (eqb-same (submitted n b) (length l) (and-left _ (is_waiting n p b) k.1)))

-- The queue is in the order in which its messages were submitted, of which no two were by one entry.
pub queue-rises : (l : List Noted) (p : Peer) → Legal l → RisesBy (submitted l) (waiting l p)
queue-rises [] p legal = tt
queue-rises (x ∷ older) p legal =
    let n = x ∷ older in
    let new = is_submitted_at n p (length older) in
    let old = filter (is_waiting n p) (waiting older p) in
    let waited = all-filter (λ (o : ℕ). is_waiting older p o ≡ true) (is_waiting n p) (waiting older p) (waiting-all older p) in
    rises-join (submitted n) (length older) old (filter new (openings n))
    (rises-as (submitted older) (submitted n) old
    (all-more (λ (o : ℕ). is_waiting older p o ≡ true) (λ (o : ℕ). submitted older o ≡ submitted n o) (λ o h. sym (waiting-submitted x older p o h)) old waited)
    (rises-filter (submitted older) (is_waiting n p) (waiting older p) (queue-rises older p legal.0)))
    (all-more (λ (o : ℕ). is_waiting older p o ≡ true) (λ (o : ℕ). submitted n o < length older)
    (λ o h. let same = waiting-submitted x older p o h in let lt = waiting-below older p o h in omega (arith, same, lt)) old waited)
    (new-once x older p (either-by x older legal.2))
    (all-more (λ (o : ℕ). new o ≡ true) (λ (o : ℕ). submitted n o ≡ length older) (λ o h. eqb-same (submitted n o) (length older) (and-left _ (is_waiting n p o) h)) (filter new (openings n)) (all-passes new (openings n)))

-- What was opened before didn't submit its message by an entry that is no reply to it.
pub old-not : (x : Noted) (l : List Noted) (o : ℕ) (b : Begun) (test : Bool) → begun l o ≡ Some b → (test ≡ true → NoReply (turn l o x))
    → (eqb (submitted (x ∷ l) o) (length l) && test) ≡ false
old-not x l o b false e quiet = and-none (eqb (submitted (x ∷ l) o) (length l))
  where
    and-none : (c : Bool) → (c && false) ≡ false
    and-none true = refl
    and-none false = refl
old-not x l o b true e quiet =
    let stays : submitted (x ∷ l) o ≡ submitted l o = ap (submitted_by o) (replies-stay (length l) (turn l o x) (replies l o) (quiet refl)) in
    let below = submitted-below l o b e in
    rw (differ (submitted (x ∷ l) o) (length l) (omega (arith, stays, below))) refl

pub begun-here : (x : Noted) (l : List Noted) (o : ℕ) (b : Begun) → begun l o ≡ None → begun (x ∷ l) o ≡ Some b → o ≡ length l
begun-here x l o b none e = elim (eqb_tells (length l) o) [
  | inl w ↦ sym w.1
  | inr w ↦ absurd (none-some b (sym none ∙ (sym (not-now (opens_by x.note)) ∙ subst (λ (v : Bool). begun_by (opens_by x.note) v x.written.moment (begun l o) ≡ Some b) w.0 e)))
]
  where
    not-now : (q : Option CoapRequest) → begun_by q false x.written.moment (begun l o) ≡ begun l o
    not-now None = refl
    not-now (Some q) = refl

-- Who waits is in the queue.

pub going-before : (x : Noted) (l : List Noted) (o : ℕ) → is_going (x ∷ l) o ≡ true
    → (end_here (begun l o) (kept l o) (length l) (heard_for l o) (turn l o x) ≡ None) × (end_of l o ≡ None)
going-before x l o e = by (end_here (begun l o) (kept l o) (length l) (heard_for l o) (turn l o x)) (end_of l o) (none-of (end_of (x ∷ l) o) e)
  where
    by : (how : Option Ending) (old : Option End) → end_by how (length l) old ≡ None → (how ≡ None) × (old ≡ None)
    by None old e = (refl, e)
    by (Some how) (Some old) e = cc
    by (Some how) None e = cc

-- It did before, or this entry submits its message.
waits-now : (x : Noted) (l : List Noted) (p : Peer) (o : ℕ) → Legal l → is_waiting (x ∷ l) p o ≡ true
    → (is_waiting l p o ≡ true) ⊎ (submitted (x ∷ l) o ≡ length l)
waits-now x l p o legal e = by (begun l o) refl
  where
    n : List Noted
    n = x ∷ l

    going : (end_here (begun l o) (kept l o) (length l) (heard_for l o) (turn l o x) ≡ None) × (end_of l o ≡ None)
    going = going-before x l o (and-left (is_going n o) _ (and-right (goes_to p (begun n o)) _ e))

    waited : (b : Begun) → begun l o ≡ Some b → (w : Option ℕ) → waits_for l o ≡ w → (u : Turn) → turn l o x ≡ u
        → (is_waiting l p o ≡ true) ⊎ (submitted n o ≡ length l)
    waited b is None none u here =
        let goes : goes_to p (begun l o) ≡ true = subst (λ (v : Option Begun). goes_to p v ≡ true) (begun-keeps x l o b is ∙ sym is) (and-left (goes_to p (begun n o)) _ e) in
        inl (and_from _ _ goes (and_from _ _ (ap is_none going.1) (ap is_none none)))
    waited b is (Some i) some Nothing here = absurd (none-some i (sym (waiting-unsent n p o e) ∙ (rw (here) some)))
    waited b is (Some i) some (Sent j) here = absurd (none-some j (sym (waiting-unsent n p o e) ∙ (rw (here) refl)))
    waited b is (Some i) some (Replied j m place) here = elim (submitted-cases x l o) [
      | inl same ↦ inr (never (begun l o) j m place here same)
      | inr r ↦ inr r.4
    ]
      where
        never : (v : Option Begun) (j : ℕ) (m : Content) (place : Bool) → turn l o x ≡ Replied j m place → replies n o ≡ replies l o → submitted n o ≡ length l
        never v j m place here same = rw (here) (submitted-push o (replies l o) record { number = length l; sending = j; message = m })
    waited b is (Some i) some Rejected here = absurd (none-is Reset (subst (λ (u : Turn). end_here (begun l o) (kept l o) (length l) (heard_for l o) u ≡ None) here going.0))
    waited b is (Some i) some Expired here = absurd (none-is TimedOut (subst (λ (u : Turn). end_here (begun l o) (kept l o) (length l) (heard_for l o) u ≡ None) here going.0))

    by : (v : Option Begun) → begun l o ≡ v → (is_waiting l p o ≡ true) ⊎ (submitted n o ≡ length l)
    by (Some b) is = waited b is (waits_for l o) refl (turn l o x) refl
    by None is =
        let b = waiting-begun n p o e in
        inr (ap (submitted_by o) (unawaited-stays x l o (replies-none l o legal is).0) ∙ (ap (submitted_by o) (replies-none l o legal is).1 ∙ begun-here x l o b.0 is b.1))

pub waiting-has : (l : List Noted) (p : Peer) (o : ℕ) → Legal l → is_waiting l p o ≡ true → Contains (waiting l p) o
waiting-has [] p o legal e = absurd (false≢true e)
waiting-has (x ∷ older) p o legal e =
    let n = x ∷ older in
    let new = is_submitted_at n p (length older) in
    let b = waiting-begun n p o e in
    elim (waits-now x older p o legal.0 e) [
      | inl w ↦ Contains-append_left (filter (is_waiting n p) (waiting older p)) (filter new (openings n)) o
          (contains-filter (is_waiting n p) (waiting older p) o (waiting-has older p o legal.0 w) e)
      | inr here ↦ Contains-append_right (filter (is_waiting n p) (waiting older p)) (filter new (openings n)) o
          (contains-filter new (openings n) o (begun-listed n o (ap is_some b.1))
          (and_from _ _ (subst (λ (k : ℕ). eqb k (length older) ≡ true) (sym here) (eqb-itself (length older))) e))
    ]

-- The queue after an entry that submits nothing.

pub none-submitted : (x : Noted) (l : List Noted) (p : Peer) → openings (x ∷ l) ≡ openings l
    → ((o : ℕ) → is_waiting (x ∷ l) p o ≡ true → NoReply (turn l o x)) → filter (is_submitted_at (x ∷ l) p (length l)) (openings (x ∷ l)) ≡ []
none-submitted x l p same quiet =
    subst (λ (os : List ℕ). filter (is_submitted_at (x ∷ l) p (length l)) os ≡ []) (sym same)
    (filter-none (is_submitted_at (x ∷ l) p (length l)) (openings l) (listed-are (λ (o : ℕ). is_submitted_at (x ∷ l) p (length l) o ≡ false) (openings l) (λ o c.
    let b = is-some (begun l o) (listed-begun l o c) in old-not x l o b.0 (is_waiting (x ∷ l) p o) b.1 (λ w. quiet o w))))

pub queue-kept : (x : Noted) (l : List Noted) (p : Peer) → filter (is_submitted_at (x ∷ l) p (length l)) (openings (x ∷ l)) ≡ []
    → waiting (x ∷ l) p ≡ filter (is_waiting (x ∷ l) p) (waiting l p)
queue-kept x l p none =
    ap (λ (v : List ℕ). filter (is_waiting (x ∷ l) p) (waiting l p) ++ v) none ∙ append-nil (filter (is_waiting (x ∷ l) p) (waiting l p))

pub queue-same : (x : Noted) (l : List Noted) (p : Peer) → filter (is_submitted_at (x ∷ l) p (length l)) (openings (x ∷ l)) ≡ []
    → ((o : ℕ) → is_waiting l p o ≡ true → is_waiting (x ∷ l) p o ≡ true) → waiting (x ∷ l) p ≡ waiting l p
queue-same x l p none still =
    queue-kept x l p none
    ∙ filter-all (is_waiting (x ∷ l) p) (waiting l p) (all-more (λ (o : ℕ). is_waiting l p o ≡ true) (λ (o : ℕ). is_waiting (x ∷ l) p o ≡ true) still (waiting l p) (waiting-all l p))
