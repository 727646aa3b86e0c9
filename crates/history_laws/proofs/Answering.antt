-- Answers come in the order of the asks, and each once.
use Rattle.std.proofs.Common.{◌≡◌, ℕ, zero, suc, ◌<◌, ◌≤◌, ◌⊎◌, inl, inr, List, [], ◌∷◌, ◌++◌, length, take, Some, refl, sym, ap, subst, ◌∙◌, arith, length-append, add-one}
use Rattle.std.specs.List.{slice_get}
use Rattle.std.proofs.lemmas.Option.{slice_get_within}
use Rattle.std.proofs.lemmas.Bool.Decides.{eqb_tells}
use Rattle.std.proofs.lemmas.List.{take-append-le}
use Rattle.ask_model.specs.Views.{Ask}
use Rattle.journal_book.specs.Entries.{Grounds, Deed, Asks, Answers}
use Rattle.history_laws.specs.Readings.{Noted, Note, at, noted}
use Rattle.history_laws.specs.Connections.{asks_by, asks_of, answers_by, answers_of}
use Rattle.history_laws.specs.Justified.{IsAsk, Follows, Legal}
use Rattle.history_laws.specs.Laws.{IsAnswer}
use Rattle.history_laws.proofs.Places.{at-new, at-below, at-old, at-same}
use Rattle.history_laws.proofs.Facts.{IsAsk-keeps}
use Rattle.history_laws.proofs.Elements.{got-more}
use Rattle.history_laws.proofs.Resting.{some-is}

-- an element of a list with one more
pub push-cases : (xs : List ℕ) (y i k : ℕ) → slice_get (xs ++ y ∷ []) i ≡ Some k → (slice_get xs i ≡ Some k) ⊎ ((i ≡ length xs) × (y ≡ k))
push-cases [] y zero k e = inr (refl, cc)
push-cases [] y (suc i) k e = cc
push-cases (x ∷ xs) y zero k e = inl e
push-cases (x ∷ xs) y (suc i) k e = elim (push-cases xs y i k e) [ inl w ↦ inl w | inr w ↦ inr (ap suc w.0, w.1) ]

take-one-more : (xs : List ℕ) (n k : ℕ) → slice_get xs n ≡ Some k → take (suc n) xs ≡ take n xs ++ k ∷ []
take-one-more [] n k e = cc
take-one-more (x ∷ xs) zero k e = ap (λ (x : ℕ). x ∷ []) (some-is x k e)
take-one-more (x ∷ xs) (suc n) k e = ap (λ (zs : List ℕ). x ∷ zs) (take-one-more xs n k e)

-- what stands among the asks of a connection is an ask of it
ask-step : (l : List Noted) (c t : ℕ) (d : Deed) (note : Note) (i k : ℕ)
    → (slice_get (asks_of l c) i ≡ Some k → (a : Ask) × IsAsk l k c a)
    → slice_get (asks_by c (length l) d (asks_of l c)) i ≡ Some k → (a : Ask) × IsAsk (noted t d note ∷ l) k c a
ask-step l c t (Asks e a) note i k ih h =
    elim (eqb_tells e c) [
      | inl w ↦ elim (push-cases (asks_of l c) (length l) i k (rw (w.0) at h)) [
        | inl old ↦ let f = ih old in (f.0, IsAsk-keeps _ l k c f.0 f.1)
        | inr new ↦ (
          a,
          record {
            moment = t;
            note = note;
            stands = subst (λ (k : ℕ). at (noted t (Asks e a) note ∷ l) k ≡ Some (noted t (Asks c a) note)) new.1
                (subst (λ (c : ℕ). at (noted t (Asks e a) note ∷ l) (length l) ≡ Some (noted t (Asks c a) note)) w.1 (at-new (noted t (Asks e a) note) l));
          },
        )
      ]
      | inr w ↦ let f = ih (rw (w.0) at h) in (f.0, IsAsk-keeps _ l k c f.0 f.1)
    ]
ask-step l c t d note i k ih h = let f = ih h in (f.0, IsAsk-keeps _ l k c f.0 f.1)

pub asks-stand : (l : List Noted) (c i k : ℕ) → slice_get (asks_of l c) i ≡ Some k → (a : Ask) × IsAsk l k c a
asks-stand [] c i k h = cc
asks-stand (x ∷ older) c i k h =
    ask-step older c x.written.moment x.written.deed x.note i k (λ e. asks-stand older c i k e) h

asks-below : (l : List Noted) (c i k : ℕ) → slice_get (asks_of l c) i ≡ Some k → k < length l
asks-below l c i k h = let f = asks-stand l c i k h in at-below l k _ f.1.stands

-- an ask stands once among them
asks-step : (l : List Noted) (c : ℕ) (d : Deed) (i j k : ℕ)
    → (slice_get (asks_of l c) i ≡ Some k → slice_get (asks_of l c) j ≡ Some k → i ≡ j)
    → slice_get (asks_by c (length l) d (asks_of l c)) i ≡ Some k → slice_get (asks_by c (length l) d (asks_of l c)) j ≡ Some k → i ≡ j
asks-step l c (Asks e a) i j k ih g h =
    elim (eqb_tells e c) [
      | inl w ↦ elim (push-cases (asks_of l c) (length l) i k (rw (w.0) at g)) [
        | inl u ↦ elim (push-cases (asks_of l c) (length l) j k (rw (w.0) at h)) [
          | inl v ↦ ih u v
          | inr v ↦ let b = asks-below l c i k u in absurd (omega (arith, v.1))
        ]
        | inr u ↦ elim (push-cases (asks_of l c) (length l) j k (rw (w.0) at h)) [
          | inl v ↦ let b = asks-below l c j k v in absurd (omega (arith, u.1))
          | inr v ↦ u.0 ∙ sym v.0
        ]
      ]
      | inr w ↦ ih (rw (w.0) at g) (rw (w.0) at h)
    ]
asks-step l c d i j k ih g h = ih g h

pub asks-once : (l : List Noted) (c i j k : ℕ) → slice_get (asks_of l c) i ≡ Some k → slice_get (asks_of l c) j ≡ Some k → i ≡ j
asks-once [] c i j k g h = cc
asks-once (x ∷ older) c i j k g h = asks-step older c x.written.deed i j k (λ u v. asks-once older c i j k u v) g h

pub asks-keep : (l : List Noted) (c : ℕ) (d : Deed) (i k : ℕ) → slice_get (asks_of l c) i ≡ Some k → slice_get (asks_by c (length l) d (asks_of l c)) i ≡ Some k
asks-keep l c (Asks e a) i k h =
    elim (eqb_tells e c) [ inl w ↦ rw (w.0) (got-more (asks_of l c) ((length l) ∷ []) i k h) | inr w ↦ rw (w.0) h ]
asks-keep l c d i k h = h

pub more-answers : (l : List Noted) (c : ℕ) (d : Deed) → length (answers_of l c) ≤ length (answers_by c d (answers_of l c))
more-answers l c (Answers e k g) =
    elim (eqb_tells e c) [ inl w ↦ rw (w.0) (omega (arith, length-append (answers_of l c) (k ∷ []))) | inr w ↦ rw (w.0) (omega arith) ]
more-answers l c d = omega arith

-- An answer is to an ask that stands among the first of its connection, as many as are answered.
record IsAnswered (l : List Noted) (c k : ℕ) : Type 0 where
  pub place : ℕ
  pub early : place < length (answers_of l c)
  pub is : slice_get (asks_of l c) place ≡ Some k

IsAnswered-keeps : (x : Noted) (l : List Noted) (c k : ℕ) → IsAnswered l c k → IsAnswered (x ∷ l) c k
IsAnswered-keeps x l c k h =
    record {
      place = h.place;
      early = let m = more-answers l c x.written.deed in let e = h.early in omega arith;
      is = asks-keep l c x.written.deed h.place k h.is;
    }

pub IsAnswer-old : (x : Noted) (l : List Noted) (n c k : ℕ) (g : Grounds) → IsAnswer (x ∷ l) n c k g
    → ((n ≡ length l) × ((t : ℕ) × (note : Note) × (x ≡ noted t (Answers c k g) note))) ⊎ IsAnswer l n c k g
IsAnswer-old x l n c k g f =
    elim (at-old x l n _ f.stands) [
      | inl w ↦ inl (w.0, (f.moment, f.note, w.1))
      | inr w ↦ inr (record { moment = f.moment; note = f.note; stands = w })
    ]

pub next-ask : (l : List Noted) (t c k : ℕ) (g : Grounds) (note : Note) → Follows l t (Answers c k g) note
    → slice_get (asks_of l c) (length (answers_of l c)) ≡ Some k
next-ask l t c k g note f = f.2

answer-next : (x : Noted) (l : List Noted) (t c k : ℕ) (g : Grounds) (note : Note) → Follows l x.written.moment x.written.deed x.note
    → x ≡ noted t (Answers c k g) note → slice_get (asks_of l c) (length (answers_of l c)) ≡ Some k
answer-next x l t c k g note may e = next-ask l t c k g note (subst (λ (v : Noted). Follows l v.written.moment v.written.deed v.note) e may)

answered : (l : List Noted) (n c k : ℕ) (g : Grounds) → Legal l → IsAnswer l n c k g → IsAnswered l c k
answered [] n c k g legal h = cc (h.stands)
answered (x ∷ older) n c k g legal h =
    elim (IsAnswer-old x older n c k g h) [
      | inl w ↦ subst (λ (v : Noted). IsAnswered (v ∷ older) c k) (sym w.1.2) (here older w.1.0 c k g w.1.1 (answer-next x older _ c k g _ legal.2 w.1.2))
      | inr w ↦ IsAnswered-keeps x older c k (answered older n c k g legal.0 w)
    ]
  where
    here : (l : List Noted) (t c k : ℕ) (g : Grounds) (note : Note) → slice_get (asks_of l c) (length (answers_of l c)) ≡ Some k
        → IsAnswered (noted t (Answers c k g) note ∷ l) c k
    here l t c k g note is =
        record {
          place = length (answers_of l c);
          early = elim (eqb_tells c c) [ inl w ↦ rw (w.0) (omega (arith, length-append (answers_of l c) (k ∷ []))) | inr w ↦ absurd (w.1 refl) ];
          is = is;
        }

-- an ask that was answered is not the next one of any connection
not-again : (l : List Noted) (c d k : ℕ) → IsAnswered l c k → slice_get (asks_of l d) (length (answers_of l d)) ≡ Some k → ⊥
not-again l c d k h next =
    let a = asks-stand l c h.place k h.is in
    let b = asks-stand l d (length (answers_of l d)) k next in
    let same : c ≡ d = asks-same _ _ _ _ (ap (λ (v : Noted). v.written.deed) (at-same l k _ _ a.1.stands b.1.stands)) in
    let place = asks-once l c h.place (length (answers_of l c)) k h.is (subst (λ (d : ℕ). slice_get (asks_of l d) (length (answers_of l d)) ≡ Some k) (sym same) next) in
    let early = h.early in
    omega arith
  where
    asks-same : (c d : ℕ) (a b : Ask) → Asks c a ≡ Asks d b → c ≡ d
    asks-same c d a b e = cc

pub answered-once : (l : List Noted) (i j c d k : ℕ) (g h : Grounds) → Legal l
    → IsAnswer l i c k g → IsAnswer l j d k h → (i ≡ j) × (c ≡ d)
answered-once [] i j c d k g h legal a b = cc (a.stands)
answered-once (x ∷ older) i j c d k g h legal a b =
    elim (IsAnswer-old x older i c k g a) [
      | inl u ↦ elim (IsAnswer-old x older j d k h b) [
        | inl v ↦ (u.0 ∙ sym v.0, conn-same _ _ _ _ _ _ (ap (λ (v : Noted). v.written.deed) (sym u.1.2 ∙ v.1.2)))
        | inr v ↦ absurd (not-again older d c k (answered older j d k h legal.0 v) (answer-next x older _ c k g _ legal.2 u.1.2))
      ]
      | inr u ↦ elim (IsAnswer-old x older j d k h b) [
        | inl v ↦ absurd (not-again older c d k (answered older i c k g legal.0 u) (answer-next x older _ d k h _ legal.2 v.1.2))
        | inr v ↦ answered-once older i j c d k g h legal.0 u v
      ]
    ]
  where
    conn-same : (c d k m : ℕ) (g h : Grounds) → Answers c k g ≡ Answers d m h → c ≡ d
    conn-same c d k m g h e = cc

in-order-step : (l : List Noted) (c t : ℕ) (d : Deed) (note : Note) → Follows l t d note
    → answers_of l c ≡ take (length (answers_of l c)) (asks_of l c) → length (answers_of l c) ≤ length (asks_of l c)
    → (answers_by c d (answers_of l c) ≡ take (length (answers_by c d (answers_of l c))) (asks_by c (length l) d (asks_of l c)))
    × (length (answers_by c d (answers_of l c)) ≤ length (asks_by c (length l) d (asks_of l c)))
in-order-step l c t (Asks e a) note may ih le =
    elim (eqb_tells e c) [
      | inl w ↦ rw (w.0) (ih ∙ sym (take-append-le _ (asks_of l c) ((length l) ∷ []) le), omega (arith, length-append (asks_of l c) (length l ∷ [])))
      | inr w ↦ rw (w.0) (ih, le)
    ]
in-order-step l c t (Answers e k g) note may ih le =
    elim (eqb_tells e c) [
      | inl w ↦
          let next : slice_get (asks_of l c) (length (answers_of l c)) ≡ Some k =
          subst (λ (e : ℕ). slice_get (asks_of l e) (length (answers_of l e)) ≡ Some k) w.1 (next-ask l t e k g note may) in
          let within = slice_get_within (asks_of l c) _ _ next in
          let len : length (answers_of l c ++ k ∷ []) ≡ suc (length (answers_of l c)) = length-append (answers_of l c) (k ∷ []) ∙ add-one _ in
          let longer : answers_of l c ++ k ∷ [] ≡ take (suc (length (answers_of l c))) (asks_of l c) =
          ap (λ (xs : List ℕ). xs ++ k ∷ []) ih ∙ sym (take-one-more (asks_of l c) (length (answers_of l c)) k next) in
          rw (w.0) (longer ∙ ap (λ (n : ℕ). take n (asks_of l c)) (sym len), omega arith)
      | inr w ↦ rw (w.0) (ih, le)
    ]
in-order-step l c t d note may ih le = (ih, le)

in-order-both : (l : List Noted) (c : ℕ) → Legal l
    → (answers_of l c ≡ take (length (answers_of l c)) (asks_of l c)) × (length (answers_of l c) ≤ length (asks_of l c))
in-order-both [] c legal = (refl, omega arith)
in-order-both (x ∷ older) c legal =
    let ih = in-order-both older c legal.0 in
    in-order-step older c x.written.moment x.written.deed x.note legal.2 ih.0 ih.1

pub answered-in-order : (l : List Noted) (c : ℕ) → Legal l → answers_of l c ≡ take (length (answers_of l c)) (asks_of l c)
answered-in-order l c legal = (in-order-both l c legal).0
