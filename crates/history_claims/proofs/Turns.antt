-- A connection asks, and is answered, in turn.
use Rattle.std.proofs.Common.{◌≡◌, ℕ, suc, ◌<◌, ◌≤◌, inl, inr, List, [], ◌∷◌, ◌++◌, length, Some, refl, sym, subst, arith, length-append}
use Rattle.std.specs.List.{slice_get}
use Rattle.std.proofs.lemmas.Option.{slice_get_within}
use Rattle.std.proofs.lemmas.Bool.Decides.{eqb_tells}
use Rattle.ask_model.specs.Views.{Ask}
use Rattle.journal_book.specs.Entries.{Grounds, Deed, Asks, Answers, Written}
use Rattle.history_laws.specs.Readings.{Noted, Note, entries, before, noted}
use Rattle.history_laws.specs.Connections.{asks_by, asks_of, answers_by, answers_of}
use Rattle.history_laws.specs.Justified.{Follows, Legal, Stands}
use Rattle.history_laws.specs.Laws.{IsAnswer}
use Rattle.history_laws.proofs.CallerLemmas.{at-before, at-below, at-entries, at-still, follows-at, IsAnswer-old, legal-before, next-ask, push-cases}
use Rattle.history_claims.specs.Headline.{IsEntry}
use Rattle.history_claims.proofs.Asking.{answers-ask}
use Rattle.history_claims.proofs.Apart.{answer-at}

-- of the asks of a connection one at most isn't answered

asks-once-answered : (l : List Noted) (c t : ℕ) (a : Ask) (note : Note) → Follows l t (Asks c a) note
    → length (asks_of l c) ≡ length (answers_of l c)
asks-once-answered l c t a note may = may.2

few-step : (l : List Noted) (c t : ℕ) (d : Deed) (note : Note) → Follows l t d note
    → length (asks_of l c) ≤ suc (length (answers_of l c))
    → length (asks_by c (length l) d (asks_of l c)) ≤ suc (length (answers_by c d (answers_of l c)))
few-step l c t (Asks e a) note may ih =
    elim (eqb_tells e c) [
      | inl w ↦
          let same : length (asks_of l c) ≡ length (answers_of l c) =
          subst (λ (e : ℕ). length (asks_of l e) ≡ length (answers_of l e)) w.1 (asks-once-answered l e t a note may) in
          rw (w.0) (omega (arith, same, length-append (asks_of l c) (length l ∷ [])))
      | inr w ↦ rw (w.0) ih
    ]
few-step l c t (Answers e k g) note may ih =
    elim (eqb_tells e c) [
      | inl w ↦ rw (w.0) (omega (arith, ih, length-append (answers_of l c) (k ∷ [])))
      | inr w ↦ rw (w.0) ih
    ]
few-step l c t d note may ih = ih

few-asks : (l : List Noted) (c : ℕ) → Legal l → length (asks_of l c) ≤ suc (length (answers_of l c))
few-asks [] c legal = omega arith
few-asks (x ∷ older) c legal =
    few-step older c x.written.moment x.written.deed x.note legal.2 (few-asks older c legal.0)

-- one that isn't comes after all answers

new-answer : (l : List Noted) (t c k : ℕ) (g : Grounds) (note : Note) (p o : ℕ)
    → length (asks_of l c) ≤ suc (length (answers_of l c))
    → length (answers_of (noted t (Answers c k g) note ∷ l) c) ≤ p
    → slice_get (asks_of (noted t (Answers c k g) note ∷ l) c) p ≡ Some o → ⊥
new-answer l t c k g note p o few le e =
    let within = slice_get_within (asks_of l c) p o e in
    elim (eqb_tells c c) [
      | inl w ↦
          let more : length (answers_of l c ++ k ∷ []) ≤ p = rw (w.0) at le in
          omega (arith, few, within, more, length-append (answers_of l c) (k ∷ []))
      | inr w ↦ absurd (w.1 refl)
    ]

old-answer : (l : List Noted) (c : ℕ) (d : Deed) (n p o : ℕ) → n < length l
    → (length (answers_of l c) ≤ p → slice_get (asks_of l c) p ≡ Some o → n < o)
    → length (answers_by c d (answers_of l c)) ≤ p
    → slice_get (asks_by c (length l) d (asks_of l c)) p ≡ Some o → n < o
old-answer l c (Asks e a) n p o below ih le h =
    elim (eqb_tells e c) [
      | inl w ↦ elim (push-cases (asks_of l c) (length l) p o (rw (w.0) at h)) [
        | inl u ↦ ih le u
        | inr v ↦ let last : length l ≡ o = v.1 in omega (arith, below, last)
      ]
      | inr w ↦ ih le (rw (w.0) at h)
    ]
old-answer l c (Answers e k g) n p o below ih le h =
    elim (eqb_tells e c) [
      | inl w ↦
          let more : length (answers_of l c ++ k ∷ []) ≤ p = rw (w.0) at le in
          ih (omega (arith, more, length-append (answers_of l c) (k ∷ []))) h
      | inr w ↦ ih (rw (w.0) at le) h
    ]
old-answer l c d n p o below ih le h = ih le h

unanswered-after : (l : List Noted) (n c k p o : ℕ) (g : Grounds) → Legal l → IsAnswer l n c k g
    → length (answers_of l c) ≤ p → slice_get (asks_of l c) p ≡ Some o → n < o
unanswered-after [] n c k p o g legal h le e = cc (h.stands)
unanswered-after (x ∷ older) n c k p o g legal h le e =
    elim (IsAnswer-old x older n c k g h) [
      | inl w ↦ absurd (here x w.1.0 w.1.1 w.1.2 le e)
      | inr w ↦ old-answer older c x.written.deed n p o (at-below older n _ w.stands)
          (λ le e. unanswered-after older n c k p o g legal.0 w le e) le e
    ]
  where
    here : (x : Noted) (t : ℕ) (note : Note) → x ≡ noted t (Answers c k g) note → length (answers_of (x ∷ older) c) ≤ p
        → slice_get (asks_of (x ∷ older) c) p ≡ Some o → ⊥
    here x t note is =
        subst (λ (v : Noted). length (answers_of (v ∷ older) c) ≤ p → slice_get (asks_of (v ∷ older) c) p ≡ Some o → ⊥) (sym is)
        (new-answer older t c k g note p o (few-asks older c legal.0))

-- so asks come in turn

turn-in : (l : List Noted) (i j s t c k o : ℕ) (g e : Grounds) → Legal l
    → IsEntry (entries l) i s (Answers c k g) → IsEntry (entries l) j t (Answers c o e) → i < j → i < o
turn-in l i j s t c k o g e legal a b lt =
    let x : IsAnswer l i c k g = answer-at l i s c k g a in
    let y : IsAnswer l j c o e = answer-at l j t c o e b in
    unanswered-after (before l j) i c k (length (answers_of (before l j) c)) o g (legal-before l j legal)
    (record { moment = x.moment; note = x.note; stands = at-still l j i _ _ y.stands lt x.stands })
    (omega arith)
    (next-ask (before l j) y.moment c o e y.note (follows-at l j _ legal y.stands))

pub asked-in-turn : (h : List Written) (i j s t c k o : ℕ) (g e : Grounds) → Stands h
    → IsEntry h i s (Answers c k g) → IsEntry h j t (Answers c o e) → i < j → i < o
asked-in-turn h i j s t c k o g e stands =
    subst (λ (h : List Written). IsEntry h i s (Answers c k g) → IsEntry h j t (Answers c o e) → i < j → i < o) stands.entries_are
    (turn-in stands.reading i j s t c k o g e stands.legal)

-- and each answer is to one

asked-in : (l : List Noted) (n t c k : ℕ) (g : Grounds) → Legal l → IsEntry (entries l) n t (Answers c k g)
    → (k < n) × ((s : ℕ) × (a : Ask) × IsEntry (entries l) k s (Asks c a))
asked-in l n t c k g legal e =
    let it = answers-ask l n t c k g legal e in
    let ask = it.0.asked in (
      subst (λ (m : ℕ). k < m) it.1 (at-below (before l n) k _ ask.stands),
      (ask.moment, it.0.ask, at-entries l k _ (at-before l n k _ ask.stands)),
    )

pub answers-an-ask : (h : List Written) (n t c k : ℕ) (g : Grounds) → Stands h → IsEntry h n t (Answers c k g)
    → (k < n) × ((s : ℕ) × (a : Ask) × IsEntry h k s (Asks c a))
answers-an-ask h n t c k g stands =
    subst (λ (h : List Written). IsEntry h n t (Answers c k g) → (k < n) × ((s : ℕ) × (a : Ask) × IsEntry h k s (Asks c a))) stands.entries_are
    (asked-in stands.reading n t c k g stands.legal)
