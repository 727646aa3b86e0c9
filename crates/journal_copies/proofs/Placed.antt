-- Where copies stand.
use Rattle.std.proofs.Common.{◌≡◌, ℕ, ◌+◌, ◌<◌, ◌≤◌, Bool, true, false, cond, eqb, List, [], ◌∷◌, ◌++◌, length, map, get_or, drop, Option, Some, None, option_map, refl, sym, ap, ◌∙◌, arith, zero, suc, append_assoc, append-nil}
use Rattle.std.proofs.lemmas.List.{at_drop_more, at_drop_all}
use Rattle.journal_book.specs.Entries.{Mark, Done, done_of, Carries, Written}
use Rattle.journal_book.specs.declared.entry.Mark.{Mark as RustMark}
use Rattle.history_laws.proofs.CallerLemmas.{eqb-itself}
use Rattle.resp_cache.specs.declared.pair.Pair.{Pair}
use Rattle.exchange_model.specs.Rotating.{Seen, seen, copies_from, copies_with, copy_if, copy_of, mark_of, pair_at, place_of}
use Rattle.journal_copies.specs.declared.marks.Marks.{Marks}
use Rattle.journal_copies.specs.declared.places.Places.{Places}
use Rattle.journal_copies.specs.declared.taking.Taken.{Taken}
use Rattle.journal_copies.specs.Marking.{AreMarks, count_some, kept_as, mark_if, marks_from, one_of}
use Rattle.journal_copies.specs.Carrying.{ArePlaces, moved_pair, place_by, place_in, places_from, taken_as}
use Rattle.journal_copies.proofs.Known.{other}
use Rattle.journal_copies.proofs.Copied.{count-is}

-- counted on the way

pub count-goes : (ms : List (Option RustMark)) (i : ℕ) (d : Option RustMark) (n k total : ℕ) → i < length ms
    → k ≡ one_of (get_or ms i d) → n + count_some (drop i ms) ≡ total
    → (n + k) + count_some (drop (i + 1) ms) ≡ total
count-goes ms i d n k total lt one so_far =
    let step : count_some (drop i ms) ≡ one_of (get_or ms i d) + count_some (drop (i + 1) ms) =
    at_drop_more count_some ms i d lt in
    omega (arith, step, one, so_far)

pub count-done : (ms : List (Option RustMark)) (i n total : ℕ) → length ms ≤ i
    → n + count_some (drop i ms) ≡ total → n ≡ total
count-done ms i n total past so_far =
    let none : count_some (drop i ms) ≡ 0 = at_drop_all count_some ms i past in
    omega (arith, none, so_far)

pub count-few : (ms : List (Option RustMark)) → count_some ms ≤ length ms
count-few [] = omega arith
count-few (None ∷ ms) = let ih = count-few ms in omega (arith, ih)
count-few (Some m ∷ ms) = let ih = count-few ms in omega (arith, ih)

pub places-go : (ms : List (Option RustMark)) (i : ℕ) (d : Option RustMark) (next count k x : ℕ) (ps total : List ℕ)
    → i < length ms → k ≡ one_of (get_or ms i d) → x ≡ place_by (get_or ms i d) next count
    → ps ++ places_from next count (drop i ms) ≡ total
    → (ps ++ x ∷ []) ++ places_from (next + k) count (drop (i + 1) ms) ≡ total
places-go ms i d next count k x ps total lt one place so_far =
    append_assoc ps (x ∷ []) (places_from (next + k) count (drop (i + 1) ms))
    ∙ (ap (λ (n : ℕ). ps ++ x ∷ places_from (next + n) count (drop (i + 1) ms)) one
    ∙ (ap (λ (y : ℕ). ps ++ y ∷ places_from (next + one_of (get_or ms i d)) count (drop (i + 1) ms)) place
    ∙ (sym (at_drop_more (λ (xs : List (Option RustMark)). ps ++ places_from next count xs) ms i d lt)
    ∙ so_far)))

pub places-done : (ms : List (Option RustMark)) (i next count : ℕ) (ps total : List ℕ) → length ms ≤ i
    → ps ++ places_from next count (drop i ms) ≡ total → ps ≡ total
places-done ms i next count ps total past so_far =
    sym (append-nil ps)
    ∙ (sym (at_drop_all (λ (xs : List (Option RustMark)). ps ++ places_from next count xs) ms i past)
    ∙ so_far)

-- The place of a copy is the number of those before it.
module _ (t : ℕ) (xs : List Seen) (gs : List ℕ) where
  place-past : (k n : ℕ) (ws : List Written) → k < n
      → place_of (copies_from t xs gs n ws) k ≡ length (copies_from t xs gs n ws)
  place-past k n [] lt = refl
  place-past k n (w ∷ ws) lt =
      by (place-past k (n + 1) ws (omega (arith, lt))) (other n k (λ e. omega (arith, lt, e))) (done_of w.deed)
    where
      rest : List Written
      rest = copies_from t xs gs (n + 1) ws

      of : place_of rest k ≡ length rest → eqb n k ≡ false → (m : Option Mark) (done : Done)
          → place_of (copy_if m n w.moment done ++ rest) k ≡ length (copy_if m n w.moment done ++ rest)
      of ih apart None done = ih
      of ih apart (Some mark) done =
          ap (λ (b : Bool). cond b 0 (place_of rest k + 1)) apart ∙ omega (arith, ih)

      by : place_of rest k ≡ length rest → eqb n k ≡ false → (d : Option Done)
          → place_of (copy_of t xs gs n w.moment d ++ rest) k ≡ length (copy_of t xs gs n w.moment d ++ rest)
      by ih apart None = ih
      by ih apart (Some done) = of ih apart (mark_of t xs gs n w.moment done) done

  add-none : (c : ℕ) → c + 0 ≡ c
  add-none c = omega arith

  place-is : (n k total : ℕ) (ws : List Written) (i : ℕ) → total ≡ k + length (copies_from t xs gs n ws)
      → get_or (places_from k total (marks_from t xs gs n ws)) i total
      ≡ k + place_of (copies_from t xs gs n ws) (n + i)
  place-is n k total [] i e = e
  place-is n k total (w ∷ ws) i e =
      by (λ c j. place-is (n + 1) c total ws j) (done_of w.deed) e
    where
      rest : List Written
      rest = copies_from t xs gs (n + 1) ws

      marks : List (Option RustMark)
      marks = marks_from t xs gs (n + 1) ws

      none : ((c j : ℕ) → total ≡ c + length rest → get_or (places_from c total marks) j total ≡ c + place_of rest ((n + 1) + j))
          → (j : ℕ) → total ≡ k + length rest
          → get_or (places_from k total (None ∷ marks)) j total ≡ k + place_of rest (n + j)
      none ih zero e =
          let past = place-past (n + 0) (n + 1) ws (omega arith) in omega (arith, e, past)
      none ih (suc j) e =
          let same : n + suc j ≡ (n + 1) + j = omega arith in
          ap (λ (c : ℕ). get_or (places_from c total marks) j total) (add-none k)
          ∙ (ih k j e ∙ ap (λ (c : ℕ). k + place_of rest c) (sym same))

      some : ((c j : ℕ) → total ≡ c + length rest → get_or (places_from c total marks) j total ≡ c + place_of rest ((n + 1) + j))
          → (mark : Mark) (m : RustMark) (done : Done) (j : ℕ) → total ≡ k + suc (length rest)
          → get_or (places_from k total (Some m ∷ marks)) j total
          ≡ k + place_of (record { moment = w.moment; deed = Carries n mark done } ∷ rest) (n + j)
      some ih mark m done zero e =
          let here : eqb n (n + 0) ≡ true = ap (eqb n) (add-none n) ∙ eqb-itself n in
          sym (ap (λ (b : Bool). k + cond b 0 (place_of rest (n + 0) + 1)) here ∙ add-none k)
      some ih mark m done (suc j) e =
          let apart : eqb n (n + suc j) ≡ false = other n (n + suc j) (λ same. omega (arith, same)) in
          let same : n + suc j ≡ (n + 1) + j = omega arith in
          ih (k + 1) j (omega (arith, e)) ∙ (ap (λ (c : ℕ). (k + 1) + place_of rest c) (sym same)
          ∙ (add (place_of rest (n + suc j))
          ∙ ap (λ (b : Bool). k + cond b 0 (place_of rest (n + suc j) + 1)) (sym apart)))
        where
          add : (c : ℕ) → (k + 1) + c ≡ k + (c + 1)
          add c = omega arith

      of : ((c j : ℕ) → total ≡ c + length rest → get_or (places_from c total marks) j total ≡ c + place_of rest ((n + 1) + j))
          → (m : Option Mark) (done : Done) → total ≡ k + length (copy_if m n w.moment done ++ rest)
          → get_or (places_from k total (option_map kept_as m ∷ marks)) i total
          ≡ k + place_of (copy_if m n w.moment done ++ rest) (n + i)
      of ih None done e = none ih i e
      of ih (Some mark) done e = some ih mark (kept_as mark) done i e

      by : ((c j : ℕ) → total ≡ c + length rest → get_or (places_from c total marks) j total ≡ c + place_of rest ((n + 1) + j))
          → (d : Option Done) → total ≡ k + length (copy_of t xs gs n w.moment d ++ rest)
          → get_or (places_from k total (mark_if t xs gs n w.moment d ∷ marks)) i total
          ≡ k + place_of (copy_of t xs gs n w.moment d ++ rest) (n + i)
      by ih None e = none ih i e
      by ih (Some done) e = of ih (mark_of t xs gs n w.moment done) done e

pub places-are : (t : ℕ) (ws : List Written) (gs : List ℕ) (m : Marks) (x : Places)
    → AreMarks t ws gs m → ArePlaces m.marks.items x
    → (n : ℕ) → place_in x n ≡ place_of (copies_with t ws gs) n
places-are t ws gs m x h p n =
    let all : x.count ≡ length (copies_with t ws gs) =
    p.count ∙ (ap count_some h.marks ∙ sym (count-is t (seen ws) gs 0 ws)) in
    ap (λ (ps : List ℕ). get_or ps n x.count) p.places
    ∙ (ap (λ (ms : List (Option RustMark)). get_or (places_from 0 x.count ms) n x.count) h.marks
    ∙ (place-is t (seen ws) gs 0 0 x.count ws n (all ∙ by (length (copies_with t ws gs)))
    ∙ (sym (by (place_of (copies_with t ws gs) (0 + n)))
    ∙ ap (place_of (copies_with t ws gs)) (sym (by n)))))
  where
    by : (c : ℕ) → c ≡ 0 + c
    by c = omega arith

-- A pair is carried over by these places.
map-same : (f g : ℕ → ℕ) → ((n : ℕ) → f n ≡ g n) → (ns : List ℕ) → map f ns ≡ map g ns
map-same f g e [] = refl
map-same f g e (n ∷ ns) =
    ap (λ (k : ℕ). k ∷ map f ns) (e n) ∙ ap (λ (ks : List ℕ). g n ∷ ks) (map-same f g e ns)

moved-same : (f g : ℕ → ℕ) → ((n : ℕ) → f n ≡ g n) → (p : Pair) → moved_pair f p ≡ moved_pair g p
moved-same f g e p =
    ap (λ (o : ℕ). record { key = p.key; stored = record p.stored { opening = o; list = map f p.stored.list } }) (e p.stored.opening)
    ∙ ap (λ (ns : List ℕ). record { key = p.key; stored = record p.stored { opening = g p.stored.opening; list = ns } }) (map-same f g e p.stored.list)

abbrev pub moved_taken : (ℕ → ℕ) → Taken → Pair
moved_taken f x = moved_pair f x.pair

pub all-moved : (f : ℕ → ℕ) (cs : List Written) → ((n : ℕ) → f n ≡ place_of cs n) → (xs : List Taken)
    → map (moved_taken f) xs ≡ map (pair_at cs) (map taken_as xs)
all-moved f cs e [] = refl
all-moved f cs e (x ∷ xs) =
    ap (λ (p : Pair). p ∷ map (moved_taken f) xs) (moved-same f (place_of cs) e x.pair)
    ∙ ap (λ (ps : List Pair). pair_at cs (taken_as x) ∷ ps) (all-moved f cs e xs)
