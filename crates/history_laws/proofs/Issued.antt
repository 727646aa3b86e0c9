-- How many tokens were issued, and before which message.
use Rattle.std.proofs.Common.{◌≡◌, ℕ, ◌<◌, ◌≤◌, ◌+◌, ◌⊎◌, Bool, true, false, cond, eqb, inl, inr, List, [], ◌∷◌, ◌++◌, length, Option, Some, None, is_some, refl, sym, ap, subst, ◌∙◌, arith}
use Rattle.std.specs.Prelude.{filter, ◌&&◌, is_none}
use Rattle.std.specs.List.{list_any}
use Rattle.std.proofs.lemmas.Bool.{and_from}
use Rattle.std.proofs.lemmas.List.Elements.{filter-append}
use Rattle.uri_map.specs.declared.peer.Peer.{Peer}
use Rattle.ask_model.specs.Requests.{CoapRequest}
use Rattle.history_laws.specs.Readings.{Noted, before}
use Rattle.history_laws.specs.Exchanges.{Begun, begun, opens_by, opened_by, openings, Turn, Nothing, Sent, Replied, Rejected, Expired, turn, waits_for, replies, is_going, is_waiting, is_submitted_at, submitted_by, submitted, is_issued_at, issued_by, issued, rank}
use Rattle.history_laws.specs.Justified.{Legal}
use Rattle.history_laws.proofs.Elements.{any-of, is-some}
use Rattle.history_laws.proofs.Facts.{eqb-itself}
use Rattle.history_laws.proofs.Openings.{begun-listed, listed-begun}
use Rattle.history_laws.proofs.Places.{before-keeps, before-new}
use Rattle.history_laws.proofs.Resting.{none-some}
use Rattle.history_laws.proofs.Sent.{begun-keeps}
use Rattle.history_laws.proofs.Turns.{turn-replied}
use Rattle.history_laws.proofs.Unbegun.{not-yet, replies-none}
use Rattle.history_laws.proofs.Queue.{filter-none, any-none, listed-are, NoReply, submitted-cases, submitted-below, unawaited-stays, either-by, submitted-once, old-not, begun-here, going-before}

-- How many tokens were issued.

pub issued-same : (x : Noted) (l : List Noted) → openings (x ∷ l) ≡ openings l → ((o : ℕ) → is_going (x ∷ l) o ≡ true → NoReply (turn l o x))
    → issued (x ∷ l) ≡ issued l
issued-same x l same quiet =
    ap (λ (b : Bool). issued_by b (issued l))
    (subst (λ (os : List ℕ). list_any (is_issued_at (x ∷ l) (length l)) os ≡ false) (sym same)
    (any-none (is_issued_at (x ∷ l) (length l)) (openings l) (listed-are (λ (o : ℕ). is_issued_at (x ∷ l) (length l) o ≡ false) (openings l) (λ o c.
    let b = is-some (begun l o) (listed-begun l o c) in old-not x l o b.0 (is_going (x ∷ l) o) b.1 (λ w. quiet o w)))))

pub issued-more : (x : Noted) (l : List Noted) (o : ℕ) → is_some (begun (x ∷ l) o) ≡ true → is_going (x ∷ l) o ≡ true → submitted (x ∷ l) o ≡ length l
    → issued (x ∷ l) ≡ issued l + 1
issued-more x l o begins goes here =
    let n = x ∷ l in
    let mine : is_issued_at n (length l) o ≡ true = and_from _ _ (subst (λ (k : ℕ). eqb k (length l) ≡ true) (sym here) (eqb-itself (length l))) goes in
    ap (λ (b : Bool). issued_by b (issued l)) (any-of (is_issued_at n (length l)) (openings n) o (begun-listed n o begins) mine)

issued-rises : (x : Noted) (l : List Noted) → issued l ≤ issued (x ∷ l)
issued-rises x l = by (list_any (is_issued_at (x ∷ l) (length l)) (openings (x ∷ l)))
  where
    by : (b : Bool) → issued l ≤ issued_by b (issued l)
    by true = omega arith
    by false = omega arith

pub issued-few : (l : List Noted) → issued l ≤ length l
issued-few [] = omega arith
issued-few (x ∷ older) = by (list_any (is_issued_at (x ∷ older) (length older)) (openings (x ∷ older))) (issued-few older)
  where
    by : (b : Bool) → issued older ≤ length older → issued_by b (issued older) ≤ length (x ∷ older)
    by true h = omega (arith, h)
    by false h = omega (arith, h)

-- How many were issued before a message was submitted: of two exchanges that are open these are apart.

-- An entry that leaves the replies leaves it.
pub rank-keeps : (x : Noted) (l : List Noted) (o : ℕ) (b : Begun) → begun l o ≡ Some b → replies (x ∷ l) o ≡ replies l o
    → rank (x ∷ l) o ≡ rank l o
rank-keeps x l o b e same =
    let stays : submitted (x ∷ l) o ≡ submitted l o = ap (submitted_by o) same in
    ap (λ (k : ℕ). issued (before (x ∷ l) k)) stays ∙ ap issued (before-keeps x l (submitted l o) (submitted-below l o b e))

-- The message of an open exchange was submitted by this entry, or it was open before.
open-now : (x : Noted) (l : List Noted) (o : ℕ) (b : Begun) → Legal l → begun (x ∷ l) o ≡ Some b → is_going (x ∷ l) o ≡ true
    → (submitted (x ∷ l) o ≡ length l) ⊎ ((begun l o ≡ Some b) × (is_going l o ≡ true) × (replies (x ∷ l) o ≡ replies l o))
open-now x l o b legal e goes = by (begun l o) refl
  where
    by : (v : Option Begun) → begun l o ≡ v → (submitted (x ∷ l) o ≡ length l) ⊎ ((begun l o ≡ Some b) × (is_going l o ≡ true) × (replies (x ∷ l) o ≡ replies l o))
    by None is =
        let none = replies-none l o legal is in
        inl (ap (submitted_by o) (unawaited-stays x l o none.0) ∙ (ap (submitted_by o) none.1 ∙ begun-here x l o b is e))
    by (Some c) is = elim (submitted-cases x l o) [
      | inl same ↦ inr (is ∙ (sym (begun-keeps x l o c is) ∙ e), ap is_none (going-before x l o goes).1, same)
      | inr r ↦ inl r.4
    ]

pub rank-below : (l : List Noted) (o : ℕ) (b : Begun) → Legal l → begun l o ≡ Some b → is_going l o ≡ true → rank l o < issued l
rank-below [] o b legal e goes = absurd (none-some b e)
rank-below (x ∷ older) o b legal e goes = elim (open-now x older o b legal.0 e goes) [
  | inl here ↦
      let one = issued-more x older o (ap is_some e) goes here in
      let at_it : rank (x ∷ older) o ≡ issued older = ap (λ (k : ℕ). issued (before (x ∷ older) k)) here ∙ ap issued (before-new x older) in
      omega (arith, one, at_it)
  | inr w ↦
      let ih = rank-below older o b legal.0 w.0 w.1 in
      let same = rank-keeps x older o b w.0 w.2 in
      let more = issued-rises x older in
      omega (arith, ih, same, more)
]

pub rank-apart : (l : List Noted) (o q : ℕ) (b c : Begun) → Legal l → begun l o ≡ Some b → begun l q ≡ Some c → is_going l o ≡ true → is_going l q ≡ true
    → submitted l o < submitted l q → rank l o < rank l q
rank-apart [] o q b c legal e f goes also lt = absurd (none-some b e)
rank-apart (x ∷ older) o q b c legal e f goes also lt = elim (open-now x older o b legal.0 e goes) [
  | inl here ↦ let below = submitted-below (x ∷ older) q c f in absurd (omega (arith, here, lt, below))
  | inr w ↦
      let mine = rank-keeps x older o b w.0 w.2 in
      elim (open-now x older q c legal.0 f also) [
        | inl here ↦
            let at_it : rank (x ∷ older) q ≡ issued older = ap (λ (k : ℕ). issued (before (x ∷ older) k)) here ∙ ap issued (before-new x older) in
            let less = rank-below older o b legal.0 w.0 w.1 in
            omega (arith, mine, at_it, less)
        | inr v ↦
            let its = rank-keeps x older q c v.0 v.2 in
            let s : submitted (x ∷ older) o ≡ submitted older o = ap (submitted_by o) w.2 in
            let t : submitted (x ∷ older) q ≡ submitted older q = ap (submitted_by q) v.2 in
            let ih = rank-apart older o q b c legal.0 w.0 v.0 w.1 v.1 (omega (arith, lt, s, t)) in
            omega (arith, ih, mine, its)
      ]
]

-- Two that are open were submitted by two entries.
pub submitted-apart : (l : List Noted) (o q : ℕ) (b c : Begun) → Legal l → begun l o ≡ Some b → begun l q ≡ Some c → is_going l o ≡ true → is_going l q ≡ true
    → submitted l o ≡ submitted l q → o ≡ q
submitted-apart [] o q b c legal e f goes also same = absurd (none-some b e)
submitted-apart (x ∷ older) o q b c legal e f goes also same = elim (open-now x older o b legal.0 e goes) [
  | inl here ↦ submitted-once x older o q (either-by x older legal.2) (ap is_some e) (ap is_some f) here (sym same ∙ here)
  | inr w ↦ elim (open-now x older q c legal.0 f also) [
    | inl here ↦ submitted-once x older o q (either-by x older legal.2) (ap is_some e) (ap is_some f) (same ∙ here) here
    | inr v ↦ submitted-apart older o q b c legal.0 w.0 v.0 w.1 v.1 (sym (ap (submitted_by o) w.2) ∙ (same ∙ ap (submitted_by q) v.2))
  ]
]

-- Who awaits no reply gets none.
pub unawaited-quiet : (x : Noted) (l : List Noted) (o : ℕ) → waits_for l o ≡ None → NoReply (turn l o x)
unawaited-quiet x l o e = by (turn l o x) refl
  where
    by : (u : Turn) → turn l o x ≡ u → NoReply u
    by Nothing h = tt
    by (Sent i) h = tt
    by (Replied i m place) h = none-some i (sym e ∙ (turn-replied l o x i m place h).waited)
    by Rejected h = tt
    by Expired h = tt

-- What is submitted by an entry that opens an exchange is its message.

opened-submitted : (x : Noted) (l : List Noted) → Legal l → submitted (x ∷ l) (length l) ≡ length l
opened-submitted x l legal =
    let none = replies-none l (length l) legal (not-yet l) in
    ap (submitted_by (length l)) (unawaited-stays x l (length l) none.0 ∙ none.1)

old-none : (x : Noted) (l : List Noted) (test : ℕ → Bool) → ((o : ℕ) → NoReply (turn l o x))
    → filter (λ (o : ℕ). eqb (submitted (x ∷ l) o) (length l) && test o) (openings l) ≡ []
old-none x l test quiet =
    filter-none (λ (o : ℕ). eqb (submitted (x ∷ l) o) (length l) && test o) (openings l)
    (listed-are (λ (o : ℕ). (eqb (submitted (x ∷ l) o) (length l) && test o) ≡ false) (openings l) (λ o c.
    let b = is-some (begun l o) (listed-begun l o c) in old-not x l o b.0 (test o) b.1 (λ w. quiet o)))

pub opened-queued : (x : Noted) (l : List Noted) (p : Peer) (q : CoapRequest) → Legal l → opens_by x.note ≡ Some q → ((o : ℕ) → NoReply (turn l o x))
    → (b : Bool) → is_waiting (x ∷ l) p (length l) ≡ b
    → filter (is_submitted_at (x ∷ l) p (length l)) (openings (x ∷ l)) ≡ cond b (length l ∷ []) []
opened-queued x l p q legal opens quiet b e =
    let new = is_submitted_at (x ∷ l) p (length l) in
    let listed : openings (x ∷ l) ≡ openings l ++ length l ∷ [] = ap (λ (v : Option CoapRequest). opened_by (length l) v (openings l)) opens in
    ap (filter new) listed
    ∙ (filter-append new (openings l) (length l ∷ [])
    ∙ (ap (λ (v : List ℕ). v ++ filter new (length l ∷ [])) (old-none x l (is_waiting (x ∷ l) p) quiet)
    ∙ ap (λ (v : Bool). cond v (length l ∷ []) []) (ap (λ (v : Bool). v && is_waiting (x ∷ l) p (length l)) here ∙ e)))
  where
    here : eqb (submitted (x ∷ l) (length l)) (length l) ≡ true
    here = ap (λ (k : ℕ). eqb k (length l)) (opened-submitted x l legal) ∙ eqb-itself (length l)

pub opened-issued : (x : Noted) (l : List Noted) → Legal l → is_some (begun (x ∷ l) (length l)) ≡ true → is_going (x ∷ l) (length l) ≡ true → issued (x ∷ l) ≡ issued l + 1
opened-issued x l legal begins goes = issued-more x l (length l) begins goes (opened-submitted x l legal)

pub opened-rank : (x : Noted) (l : List Noted) → Legal l → rank (x ∷ l) (length l) ≡ issued l
opened-rank x l legal = ap (λ (k : ℕ). issued (before (x ∷ l) k)) (opened-submitted x l legal) ∙ ap issued (before-new x l)
