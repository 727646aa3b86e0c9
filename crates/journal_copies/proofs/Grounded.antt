-- One entry more is marked since an answer may rest on it.
use Rattle.std.proofs.Common.{◌≡◌, ℕ, ◌+◌, ◌<◌, ◌≤◌, Bool, true, false, cond, eqb, List, [], ◌∷◌, ◌++◌, length, get_or, take, Option, Some, None, option_map, refl, sym, ap, subst, ◌∙◌, arith, zero, suc, append_assoc}
use Rattle.std.specs.Prelude.{◌||◌, is_none, is_some, slice_get, slice_set}
use Rattle.std.proofs.lemmas.Bool.{false≢true}
use Rattle.std.proofs.lemmas.List.{take_more}
use Rattle.std.proofs.lemmas.Option.{same_Some}
use Rattle.ask_model.specs.Sizes.{capped}
use Rattle.journal_book.specs.Entries.{Ground, Past, Done, done_of, Written, entry_size}
use Rattle.journal_book.specs.declared.entry.Mark.{Mark as RustMark}
use Rattle.journal_book.specs.declared.entry.Mark.TheVariants as M
use Rattle.history_laws.proofs.CallerLemmas.{eqb-itself}
use Rattle.exchange_model.specs.Rotating.{Seen, seen, has, is_remembered}
use Rattle.journal_copies.specs.declared.marks.Marks.{Marks}
use Rattle.journal_copies.specs.Marking.{AreMarks, count_some, kept_as, mark_if, marks_from, marks_with, more_if, weigh}
use Rattle.journal_copies.proofs.Known.{other}

or-all : (b : Bool) → (b || true) ≡ true
or-all true = refl
or-all false = refl

module _ (gs : List ℕ) (g : ℕ) where
  has-other : (hs : List ℕ) (n : ℕ) → (g ≡ n → ⊥) → has (hs ++ g ∷ []) n ≡ has hs n
  has-other [] n ne = rw (other g n ne) refl
  has-other (x ∷ hs) n ne = ap (λ (b : Bool). eqb x n || b) (has-other hs n ne)

  has-new : (hs : List ℕ) (n : ℕ) → g ≡ n → has (hs ++ g ∷ []) n ≡ true
  has-new [] n e =
      let same : eqb g n ≡ true = ap (λ (k : ℕ). eqb k n) e ∙ eqb-itself n in
      rw (same) refl
  has-new (x ∷ hs) n e = ap (λ (b : Bool). eqb x n || b) (has-new hs n e) ∙ or-all (eqb x n)

  module _ (t : ℕ) (xs : List Seen) where
    abbrev marked_so : ℕ → ℕ → Done → Bool → Option RustMark
    marked_so n s done b =
        option_map kept_as (cond b (Some Ground) (cond (is_remembered t xs n s done) (Some Past) None))

    mark-other : (n s : ℕ) (d : Option Done) → (g ≡ n → ⊥)
        → mark_if t xs (gs ++ g ∷ []) n s d ≡ mark_if t xs gs n s d
    mark-other n s None ne = refl
    mark-other n s (Some done) ne = ap (marked_so n s done) (has-other gs n ne)

    mark-new : (n s : ℕ) (done : Done) → g ≡ n
        → mark_if t xs (gs ++ g ∷ []) n s (Some done) ≡ Some M.Ground
    mark-new n s done e = ap (marked_so n s done) (has-new gs n e)

    pub marks-other : (n : ℕ) (ws : List Written)
        → ((k : ℕ) → n ≤ k → k < n + length ws → g ≡ k → ⊥)
        → marks_from t xs (gs ++ g ∷ []) n ws ≡ marks_from t xs gs n ws
    marks-other n [] h = refl
    marks-other n (w ∷ ws) h =
        ap (λ (m : Option RustMark). m ∷ marks_from t xs (gs ++ g ∷ []) (n + 1) ws)
        (mark-other n w.moment (done_of w.deed) (h n (omega arith) (omega arith)))
        ∙ ap (λ (ms : List (Option RustMark)). mark_if t xs gs n w.moment (done_of w.deed) ∷ ms)
        (marks-other (n + 1) ws (λ k le lt. h k (omega (arith, le)) (omega (arith, lt))))

    pub marks-set : (n : ℕ) (ws : List Written) (i : ℕ) (w : Written) (done : Done)
        → slice_get ws i ≡ Some w → done_of w.deed ≡ Some done → g ≡ n + i
        → marks_from t xs (gs ++ g ∷ []) n ws ≡ slice_set (marks_from t xs gs n ws) i (Some M.Ground)
    marks-set n [] i w done at e is = absurd cc
    marks-set n (v ∷ ws) zero w done at e is =
        let d : done_of v.deed ≡ Some done = ap (λ (x : Written). done_of x.deed) (same_Some v w at) ∙ e in
        ap (λ (m : Option RustMark). m ∷ marks_from t xs (gs ++ g ∷ []) (n + 1) ws)
        (ap (mark_if t xs (gs ++ g ∷ []) n v.moment) d ∙ mark-new n v.moment done (omega (arith, is)))
        ∙ ap (λ (ms : List (Option RustMark)). Some M.Ground ∷ ms)
        (marks-other (n + 1) ws (λ k le lt same. omega (arith, le, same, is)))
    marks-set n (v ∷ ws) (suc i) w done at e is =
        ap (λ (m : Option RustMark). m ∷ marks_from t xs (gs ++ g ∷ []) (n + 1) ws)
        (mark-other n v.moment (done_of v.deed) (λ same. omega (arith, same, is)))
        ∙ ap (λ (ms : List (Option RustMark)). mark_if t xs gs n v.moment (done_of v.deed) ∷ ms)
        (marks-set (n + 1) ws i w done at e (omega (arith, is)))

    -- what says nothing that may be copied
    pub marks-same : (n : ℕ) (ws : List Written) (i : ℕ) (w : Written)
        → slice_get ws i ≡ Some w → done_of w.deed ≡ None → g ≡ n + i
        → marks_from t xs (gs ++ g ∷ []) n ws ≡ marks_from t xs gs n ws
    marks-same n [] i w at e is = absurd cc
    marks-same n (v ∷ ws) zero w at e is =
        let d : done_of v.deed ≡ None = ap (λ (x : Written). done_of x.deed) (same_Some v w at) ∙ e in
        ap (λ (m : Option RustMark). m ∷ marks_from t xs (gs ++ g ∷ []) (n + 1) ws)
        (ap (mark_if t xs (gs ++ g ∷ []) n v.moment) d ∙ sym (ap (mark_if t xs gs n v.moment) d))
        ∙ ap (λ (ms : List (Option RustMark)). mark_if t xs gs n v.moment (done_of v.deed) ∷ ms)
        (marks-other (n + 1) ws (λ k le lt same. omega (arith, le, same, is)))
    marks-same n (v ∷ ws) (suc i) w at e is =
        ap (λ (m : Option RustMark). m ∷ marks_from t xs (gs ++ g ∷ []) (n + 1) ws)
        (mark-other n v.moment (done_of v.deed) (λ same. omega (arith, same, is)))
        ∙ ap (λ (ms : List (Option RustMark)). mark_if t xs gs n v.moment (done_of v.deed) ∷ ms)
        (marks-same (n + 1) ws i w at e (omega (arith, is)))

-- What one mark more counts.

abbrev lacks_in : List (Option RustMark) → ℕ → Bool
lacks_in ms i = is_none (get_or ms i (Some M.Past))

count-set : (ms : List (Option RustMark)) (i : ℕ)
    → count_some (slice_set ms i (Some M.Ground)) ≡ count_some ms + cond (lacks_in ms i) 1 0
count-set [] i = refl
count-set (None ∷ ms) zero = omega arith
count-set (Some m ∷ ms) zero = omega arith
count-set (m ∷ ms) (suc i) = let ih = count-set ms i in omega (arith, ih)

weigh-set : (ms : List (Option RustMark)) (ws : List Written) (i : ℕ) (w : Written)
    → slice_get ws i ≡ Some w
    → weigh (slice_set ms i (Some M.Ground)) ws ≡ weigh ms ws + cond (lacks_in ms i) (entry_size w) 0
weigh-set [] ws i w at = refl
weigh-set (m ∷ ms) [] i w at = absurd cc
weigh-set (None ∷ ms) (v ∷ ws) zero w at =
    let same = ap entry_size (same_Some v w at) in omega (arith, same)
weigh-set (Some m ∷ ms) (v ∷ ws) zero w at = omega arith
weigh-set (m ∷ ms) (v ∷ ws) (suc i) w at =
    let ih = weigh-set ms ws i w at in omega (arith, ih)

more-is : (b : Bool) (n k a c : ℕ) → k ≡ capped n → a ≡ capped c → more_if b k a ≡ capped (c + cond b n 0)
more-is true n k a c size e = omega (arith, size, e)
more-is false n k a c size e = e ∙ ap capped (by c)
  where
    by : (i : ℕ) → i ≡ i + 0
    by i = omega arith

pub marked-more : (t : ℕ) (ws : List Written) (gs : List ℕ) (g k : ℕ) (w : Written) (done : Done) (c d : Marks)
    → slice_get ws g ≡ Some w → done_of w.deed ≡ Some done → k ≡ capped (entry_size w)
    → d.marks.items ≡ slice_set c.marks.items g (Some M.Ground)
    → d.count ≡ more_if (lacks_in c.marks.items g) 1 c.count
    → d.bytes ≡ more_if (lacks_in c.marks.items g) k c.bytes
    → AreMarks t ws gs c → AreMarks t ws (gs ++ g ∷ []) d
marked-more t ws gs g k w done c d at e size marks count bytes h = record {
  marks =
      marks ∙ (ap (λ (ms : List (Option RustMark)). slice_set ms g (Some M.Ground)) h.marks
      ∙ sym (marks-set gs g t (seen ws) 0 ws g w done at e (omega arith)));
  count =
      count ∙ (more-is (lacks_in c.marks.items g) 1 1 c.count (count_some c.marks.items) (omega arith) h.count
      ∙ ap capped (sym (ap count_some marks ∙ count-set c.marks.items g)));
  bytes =
      bytes ∙ (more-is (lacks_in c.marks.items g) (entry_size w) k c.bytes (weigh c.marks.items ws) size h.bytes
      ∙ ap capped (sym (ap (λ (ms : List (Option RustMark)). weigh ms ws) marks ∙ weigh-set c.marks.items ws g w at)));
}

still-marks : (t : ℕ) (ws : List Written) (gs hs : List ℕ) (c : Marks)
    → marks_with t ws hs ≡ marks_with t ws gs → AreMarks t ws gs c → AreMarks t ws hs c
still-marks t ws gs hs c e h = record {
  marks = h.marks ∙ sym e;
  count = h.count;
  bytes = h.bytes;
}

pub marked-none : (t : ℕ) (ws : List Written) (gs : List ℕ) (g : ℕ) (w : Written) (c : Marks)
    → slice_get ws g ≡ Some w → done_of w.deed ≡ None
    → AreMarks t ws gs c → AreMarks t ws (gs ++ g ∷ []) c
marked-none t ws gs g w c at e h =
    still-marks t ws gs (gs ++ g ∷ []) c (marks-same gs g t (seen ws) 0 ws g w at e (omega arith)) h

pub marked-past : (t : ℕ) (ws : List Written) (gs : List ℕ) (g : ℕ) (c : Marks)
    → length ws ≤ g → AreMarks t ws gs c → AreMarks t ws (gs ++ g ∷ []) c
marked-past t ws gs g c past h =
    still-marks t ws gs (gs ++ g ∷ []) c
    (marks-other gs g t (seen ws) 0 ws (λ k le lt same. omega (arith, past, lt, same))) h

pub absent : (d : Option Done) → is_some d ≡ false → d ≡ None
absent None e = refl
absent (Some done) e = absurd (false≢true (sym e))

pub present : (d : Option Done) → is_some d ≡ true → (done : Done) × (d ≡ Some done)
present None e = absurd (false≢true e)
present (Some done) e = (done, refl)

-- one number after another
pub marks-step : (t : ℕ) (ws : List Written) (gs ns : List ℕ) (i d : ℕ) (m : Marks) → i < length ns
    → AreMarks t ws ((gs ++ take i ns) ++ get_or ns i d ∷ []) m → AreMarks t ws (gs ++ take (i + 1) ns) m
marks-step t ws gs ns i d m lt h =
    subst (λ (hs : List ℕ). AreMarks t ws hs m)
    (append_assoc gs (take i ns) (get_or ns i d ∷ []) ∙ ap (λ (hs : List ℕ). gs ++ hs) (sym (take_more ns i d lt))) h
