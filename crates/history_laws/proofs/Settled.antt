-- At rest, an open exchange is under way, and an ask that opened none is answered.
use Rattle.std.proofs.Common.{◌≡◌, ℕ, zero, suc, ◌+◌, ◌<◌, ◌≤◌, ◌⊎◌, Bool, true, false, not, ◌||◌, inl, inr, List, [], ◌∷◌, length, take, Option, Some, None, is_some, refl, sym, ap, subst, arith, length-append}
use Rattle.std.specs.Option.{option_map_or}
use Rattle.std.specs.List.{slice_get, list_all, range_with_len, Contains}
use Rattle.std.proofs.lemmas.Option.{slice_get_within}
use Rattle.std.proofs.lemmas.Bool.Decides.{eqb_tells}
use Rattle.std.proofs.lemmas.Bool.{false≢true}
use Rattle.std.proofs.lemmas.List.Elements.{All-contains}
use Rattle.std.proofs.lemmas.List.Sums.{AllPass-from_list_all}
use Rattle.ask_model.specs.Views.{Ask}
use Rattle.journal_book.specs.Entries.{Grounds, Deed, Opens, Asks, Answers, Shuts}
use Rattle.history_laws.specs.Readings.{Noted, Note, noted}
use Rattle.history_laws.specs.Connections.{is_open, asks_by, asks_of, answers_by, answers_of, is_sealed, opened_by, opened, has_opened}
use Rattle.history_laws.specs.Transmissions.{FirstSending, outstanding}
use Rattle.history_laws.specs.Exchanges.{Begun, begun, waits_for, end_of, open_exchanges}
use Rattle.history_laws.specs.Justified.{IsAsk, reads, reads_open, pending, is_in_hand, finds_outstanding, is_under_way, Follows, Legal, AtRest, IsNextConn}
use Rattle.history_laws.specs.Laws.{IsAnswer}
use Rattle.history_laws.proofs.Resting.{and-left, and-right}
use Rattle.history_laws.proofs.Places.{at-new, at-keeps, at-old}
use Rattle.history_laws.proofs.Facts.{eqb-itself}
use Rattle.history_laws.proofs.Elements.{got-last}
use Rattle.history_laws.proofs.Answering.{push-cases, asks-keep, answered-in-order}
use Rattle.history_laws.proofs.Openings.{open-exactly}

-- what passes for all passes for each

each-passes : (g : ℕ → Bool) (xs : List ℕ) (x : ℕ) → list_all g xs ≡ true → Contains xs x → g x ≡ true
each-passes g xs x e h = All-contains (λ (y : ℕ). g y ≡ true) xs x (AllPass-from_list_all g xs e) h

pub range-passes : (g : ℕ → Bool) (a n c : ℕ) → list_all g (range_with_len a n) ≡ true → a ≤ c → c < a + n → g c ≡ true
range-passes g a zero c e low high = absurd (omega (arith, low, high))
range-passes g a (suc n) c e low high =
    elim (eqb_tells a c) [
      | inl w ↦ subst (λ (c : ℕ). g c ≡ true) w.1 (and-left (g a) (list_all g (range_with_len (a + 1) n)) e)
      | inr w ↦ let other = w.1 in
          range-passes g (a + 1) n c (and-right (g a) (list_all g (range_with_len (a + 1) n)) e) (omega (arith, low, other)) (omega (arith, high))
    ]

-- the next connection has no number that was given
pub next-above : (b : Bool) (n c : ℕ) → IsNextConn b n c → n ≤ c
next-above true n c e = omega (arith, e)
next-above false n c e = e

-- a connection that is open has a number below how many were opened
open-step : (older : List Noted) (c t : ℕ) (d : Deed) (note : Note) → (is_open older c ≡ true → c < opened older)
    → Follows older t d note → is_open (noted t d note ∷ older) c ≡ true → c < opened_by d (opened older)
open-step older c t (Opens e) note ih may h =
    let here = next-above (has_opened older) (opened older) e may.1 in
    elim (eqb_tells e c) [ inl w ↦ let a = w.1 in omega (arith, a, here) | inr w ↦ let r = ih (rw (w.0) at h) in omega (arith, r) ]
open-step older c t (Shuts e) note ih may h =
    elim (eqb_tells e c) [ inl w ↦ absurd (false≢true (rw (w.0) at h)) | inr w ↦ ih (rw (w.0) at h) ]
open-step older c t d note ih may h = ih h

pub open-below : (l : List Noted) → Legal l → (c : ℕ) → is_open l c ≡ true → c < opened l
open-below [] legal c e = absurd (false≢true e)
open-below (x ∷ older) legal c e =
    open-step older c x.written.moment x.written.deed x.note (open-below older legal.0 c) legal.2 e

-- an ask is among those of its connection
pub ask-listed : (l : List Noted) (k c : ℕ) (a : Ask) → IsAsk l k c a → (i : ℕ) × (slice_get (asks_of l c) i ≡ Some k)
ask-listed [] k c a h = cc (h.stands)
ask-listed (x ∷ older) k c a h =
    elim (at-old x older k _ h.stands) [
      | inl w ↦ (length (asks_of older c), rw (w.1, w.0) (here older c a))
      | inr w ↦
          let old = ask-listed older k c a (record { moment = h.moment; note = h.note; stands = w }) in
          (old.0, asks-keep older c x.written.deed old.0 k old.1)
    ]
  where
    here : (l : List Noted) (c : ℕ) (a : Ask) → slice_get (asks_by c (length l) (Asks c a) (asks_of l c)) (length (asks_of l c)) ≡ Some (length l)
    here l c a = rw (eqb-itself c) (got-last (asks_of l c) (length l) [])

-- at most one ask of a connection isn't answered
few-step : (l : List Noted) (c t : ℕ) (d : Deed) (note : Note) → Follows l t d note → length (asks_of l c) ≤ length (answers_of l c) + 1
    → length (asks_by c (length l) d (asks_of l c)) ≤ length (answers_by c d (answers_of l c)) + 1
few-step l c t (Asks e a) note may h =
    elim (eqb_tells e c) [
      | inl w ↦
          let all : length (asks_of l c) ≡ length (answers_of l c) = subst (λ (e : ℕ). length (asks_of l e) ≡ length (answers_of l e)) w.1 may.2 in
          rw (w.0) (omega (arith, all, length-append (asks_of l c) (length l ∷ [])))
      | inr w ↦ rw (w.0) h
    ]
few-step l c t (Answers e k g) note may h =
    elim (eqb_tells e c) [ inl w ↦ rw (w.0) (omega (arith, h, length-append (answers_of l c) (k ∷ []))) | inr w ↦ rw (w.0) h ]
few-step l c t d note may h = h

pub few-waiting : (l : List Noted) (c : ℕ) → Legal l → length (asks_of l c) ≤ length (answers_of l c) + 1
few-waiting [] c legal = omega arith
few-waiting (x ∷ older) c legal = few-step older c x.written.moment x.written.deed x.note legal.2 (few-waiting older c legal.0)

-- what is among the answered asks of a connection has an answer that stands
abbrev HasAnswer : List Noted → ℕ → ℕ → Type 0
HasAnswer l c k = (n : ℕ) × (g : Grounds) × IsAnswer l n c k g

HasAnswer-keeps : (x : Noted) (l : List Noted) (c k : ℕ) → HasAnswer l c k → HasAnswer (x ∷ l) c k
HasAnswer-keeps x l c k h = (h.0, h.1, record { moment = h.2.moment; note = h.2.note; stands = at-keeps x l h.0 _ h.2.stands })

answer-step : (l : List Noted) (c t : ℕ) (d : Deed) (note : Note) (i k : ℕ) → (slice_get (answers_of l c) i ≡ Some k → HasAnswer l c k)
    → slice_get (answers_by c d (answers_of l c)) i ≡ Some k → HasAnswer (noted t d note ∷ l) c k
answer-step l c t (Answers e j g) note i k ih h =
    elim (eqb_tells e c) [
      | inl w ↦ elim (push-cases (answers_of l c) j i k (rw (w.0) at h)) [
        | inl old ↦ HasAnswer-keeps _ l c k (ih old)
        | inr new ↦ (
          length l,
          g,
          record { moment = t; note = note; stands = rw (← new.1, ← w.1) (at-new (noted t (Answers e j g) note) l) },
        )
      ]
      | inr w ↦ HasAnswer-keeps _ l c k (ih (rw (w.0) at h))
    ]
answer-step l c t d note i k ih h = HasAnswer-keeps _ l c k (ih h)

answers-stand : (l : List Noted) (c i k : ℕ) → slice_get (answers_of l c) i ≡ Some k → HasAnswer l c k
answers-stand [] c i k h = cc
answers-stand (x ∷ older) c i k h =
    answer-step older c x.written.moment x.written.deed x.note i k (λ e. answers-stand older c i k e) h

taken : (xs : List ℕ) (n i k : ℕ) → i < n → slice_get xs i ≡ Some k → slice_get (take n xs) i ≡ Some k
taken xs zero i k lt e = absurd (omega arith)
taken [] (suc n) i k lt e = cc
taken (x ∷ xs) (suc n) zero k lt e = e
taken (x ∷ xs) (suc n) (suc i) k lt e = taken xs n i k (omega arith) e

least : (i n : ℕ) → i ≤ n → (i ≡ n) ⊎ (i < n)
least zero zero h = inl refl
least zero (suc n) h = inr (omega arith)
least (suc i) zero h = absurd (omega arith)
least (suc i) (suc n) h = elim (least i n (omega arith)) [ inl w ↦ inl (ap suc w) | inr w ↦ inr (omega arith) ]

-- at rest, the ask that an open connection waits for opened an exchange
in-hand : (l : List Noted) (k c : ℕ) → Legal l → AtRest l → is_open l c ≡ true → pending l c ≡ Some k → reads l k ≡ None → ⊥
in-hand l k c legal rest now next none =
    let below = open-below l legal c now in
    let hand : is_in_hand l c ≡ true = range-passes (is_in_hand l) 0 (opened l) c rest.waits (omega arith) (omega (arith, below)) in
    let opened_one : (not true || option_map_or (λ (k : ℕ). reads_open l (reads l k)) (pending l c) true) ≡ true =
    subst (λ (b : Bool). (not b || option_map_or (λ (k : ℕ). reads_open l (reads l k)) (pending l c) true) ≡ true) now hand in
    let reading : option_map_or (λ (k : ℕ). reads_open l (reads l k)) (Some k) true ≡ true =
    subst (λ (o : Option ℕ). option_map_or (λ (k : ℕ). reads_open l (reads l k)) o true ≡ true) next opened_one in
    false≢true (subst (λ (o : Option ℕ). reads_open l o ≡ true) none reading)

-- a connection waits for an ask, or has its answer
pub waited-or-answered : (l : List Noted) (k c : ℕ) (a : Ask) → Legal l → IsAsk l k c a
    → (pending l c ≡ Some k) ⊎ ((n : ℕ) × (g : Grounds) × IsAnswer l n c k g)
waited-or-answered l k c a legal ask =
    let listed = ask-listed l k c a ask in
    let i : ℕ = listed.0 in
    let within = slice_get_within (asks_of l c) i k listed.1 in
    let few = few-waiting l c legal in
    elim (least i (length (answers_of l c)) (omega (arith, within, few))) [
      | inl w ↦ inl (subst (λ (i : ℕ). slice_get (asks_of l c) i ≡ Some k) w listed.1)
      | inr w ↦
          inr
          (answers-stand l c i k
          (subst (λ (xs : List ℕ). slice_get xs i ≡ Some k) (sym (answered-in-order l c legal))
          (taken (asks_of l c) (length (answers_of l c)) i k w listed.1)))
    ]

pub answered-at-once : (l : List Noted) (k c : ℕ) (a : Ask) → Legal l → AtRest l → is_open l c ≡ true → IsAsk l k c a → reads l k ≡ None
    → (n : ℕ) × (g : Grounds) × IsAnswer l n c k g
answered-at-once l k c a legal rest now ask none =
    elim (waited-or-answered l k c a legal ask) [ inl w ↦ absurd (in-hand l k c legal rest now w none) | inr w ↦ w ]

pub sent-at-once : (l : List Noted) (o : ℕ) (b : Begun) → AtRest l → is_sealed l ≡ false → begun l o ≡ Some b → end_of l o ≡ None
    → ((i : ℕ) × (waits_for l o ≡ Some i)) ⊎ ((f : FirstSending) × (outstanding l b.request.peer ≡ Some f))
sent-at-once l o b rest unsealed opening going =
    let listed = (open-exactly l o).1 (ap is_some opening, going) in
    let way = each-passes (is_under_way l) (open_exchanges l) o (rest.sent unsealed) listed in
    go (waits_for l o) refl (outstanding l b.request.peer) refl
    (subst (λ (v : Option Begun). (is_some (waits_for l o) || finds_outstanding l v) ≡ true) opening way)
  where
    go : (w : Option ℕ) → waits_for l o ≡ w → (f : Option FirstSending) → outstanding l b.request.peer ≡ f → (is_some w || is_some f) ≡ true
        → ((i : ℕ) × (waits_for l o ≡ Some i)) ⊎ ((f : FirstSending) × (outstanding l b.request.peer ≡ Some f))
    go (Some i) e f g h = inl (i, e)
    go None e (Some f) g h = inr (f, g)
    go None e None g h = absurd (false≢true h)
