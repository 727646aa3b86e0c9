-- Which pairs are taken.
use Rattle.std.proofs.Common.{◌≡◌, ℕ, ◌+◌, ◌<◌, ◌≤◌, Bool, true, false, cond, List, [], ◌∷◌, ◌++◌, length, map, get_or, drop, Option, Some, None, option_map, refl, sym, ap, subst, ◌∙◌, append_assoc, append-nil}
use Rattle.std.proofs.lemmas.List.{at_drop_more, at_drop_all, map_push}
use Rattle.journal_book.specs.Entries.{Written}
use Rattle.resp_cache.specs.Stored.{is_fresh}
use Rattle.resp_cache.specs.declared.pair.Pair.{Pair}
use Rattle.exchange_model.specs.Backing.{replied_to, replies_backing, with_reply}
use Rattle.exchange_model.specs.Rotating.{Backed, are_few, backed_if, carried_numbers, copies_with, few_of}
use Rattle.journal_copies.specs.declared.marks.Marks.{Marks}
use Rattle.journal_copies.specs.declared.taking.Choice.{Choice}
use Rattle.journal_copies.specs.declared.taking.Taken.{Taken}
use Rattle.journal_copies.specs.Marking.{AreMarks}
use Rattle.journal_copies.specs.Carrying.{GoesOn, IsChoice, all_taken, backed_in, few_in, taken_as, taken_with}

-- what a stored response rests on, reply by reply

abbrev pub behind : List ℕ → Option (List ℕ) → Option (List ℕ)
behind ns rest = option_map (λ (rs : List ℕ). ns ++ rs) rest

reply-more : (ns : List ℕ) (k j : ℕ) (rest : Option (List ℕ))
    → behind ns (with_reply j (Some k) rest) ≡ behind ((ns ++ k ∷ []) ++ j ∷ []) rest
reply-more ns k j None = refl
reply-more ns k j (Some rs) =
    ap (λ (xs : List ℕ). Some xs)
    (sym (append_assoc (ns ++ k ∷ []) (j ∷ []) rs ∙ append_assoc ns (k ∷ []) (j ∷ rs)))

pub back-goes : (ws : List Written) (js : List ℕ) (i d : ℕ) (ns : List ℕ) (k : ℕ) (total : Option (List ℕ))
    → i < length js → replied_to ws (get_or js i d) ≡ Some k
    → behind ns (replies_backing ws (drop i js)) ≡ total
    → behind ((ns ++ k ∷ []) ++ get_or js i d ∷ []) (replies_backing ws (drop (i + 1) js)) ≡ total
back-goes ws js i d ns k total lt found so_far =
    let rest = replies_backing ws (drop (i + 1) js) in
    sym (reply-more ns k (get_or js i d) rest)
    ∙ (ap (λ (o : Option ℕ). behind ns (with_reply (get_or js i d) o rest)) (sym found)
    ∙ (sym (at_drop_more (λ (xs : List ℕ). behind ns (replies_backing ws xs)) js i d lt) ∙ so_far))

pub back-stops : (ws : List Written) (js : List ℕ) (i d : ℕ) (ns : List ℕ) (total : Option (List ℕ))
    → i < length js → replied_to ws (get_or js i d) ≡ None
    → behind ns (replies_backing ws (drop i js)) ≡ total → None ≡ total
back-stops ws js i d ns total lt none so_far =
    let rest = replies_backing ws (drop (i + 1) js) in
    ap (λ (o : Option ℕ). behind ns (with_reply (get_or js i d) o rest)) (sym none)
    ∙ (sym (at_drop_more (λ (xs : List ℕ). behind ns (replies_backing ws xs)) js i d lt) ∙ so_far)

-- the same of a list that is read as another one
pub reply-goes : (ws : List Written) (js ks : List ℕ) (i d : ℕ) (ns ms : List ℕ) (k : ℕ) (total : Option (List ℕ))
    → ks ≡ js → i < length ks → replied_to ws (get_or ks i d) ≡ Some k
    → ms ≡ (ns ++ k ∷ []) ++ get_or ks i d ∷ []
    → behind ns (replies_backing ws (drop i js)) ≡ total
    → behind ms (replies_backing ws (drop (i + 1) js)) ≡ total
reply-goes ws js ks i d ns ms k total same lt found more so_far =
    ap (λ (xs : List ℕ). behind xs (replies_backing ws (drop (i + 1) js))) more
    ∙ (ap (λ (xs : List ℕ). behind ((ns ++ k ∷ []) ++ get_or ks i d ∷ []) (replies_backing ws (drop (i + 1) xs))) (sym same)
    ∙ back-goes ws ks i d ns k total lt found (ap (λ (xs : List ℕ). behind ns (replies_backing ws (drop i xs))) same ∙ so_far))

pub reply-stops : (ws : List Written) (js ks : List ℕ) (i d : ℕ) (ns : List ℕ) (total : Option (List ℕ))
    → ks ≡ js → i < length ks → replied_to ws (get_or ks i d) ≡ None
    → behind ns (replies_backing ws (drop i js)) ≡ total → None ≡ total
reply-stops ws js ks i d ns total same lt none so_far =
    back-stops ws ks i d ns total lt none (ap (λ (xs : List ℕ). behind ns (replies_backing ws (drop i xs))) same ∙ so_far)

pub back-done : (ws : List Written) (js : List ℕ) (i : ℕ) (ns : List ℕ) (total : Option (List ℕ))
    → length js ≤ i → behind ns (replies_backing ws (drop i js)) ≡ total → Some ns ≡ total
back-done ws js i ns total past so_far =
    ap (λ (xs : List ℕ). Some xs) (sym (append-nil ns))
    ∙ (sym (at_drop_all (λ (xs : List ℕ). behind ns (replies_backing ws xs)) js i past) ∙ so_far)

-- one pair more

numbers-push : (bs : List Backed) (b : Backed) → carried_numbers (bs ++ b ∷ []) ≡ carried_numbers bs ++ b.numbers
numbers-push [] b = append-nil b.numbers
numbers-push (x ∷ bs) b =
    ap (λ (ns : List ℕ). x.numbers ++ ns) (numbers-push bs b)
    ∙ sym (append_assoc x.numbers (carried_numbers bs) b.numbers)

module _ (t : ℕ) (ws : List Written) (bs : List Backed) (p : Pair) (old : Choice) (trial : Marks) where
  abbrev mine : List Backed
  mine = backed_if (is_fresh t p.stored) ws p

  abbrev numbers_old : List ℕ
  numbers_old = carried_numbers (all_taken old)

  pub chosen-none : mine ≡ [] → IsChoice t ws trial old → GoesOn t ws bs p old trial old true
  chosen-none none h = (h, ap (λ (xs : List Backed). taken_with t ws (xs ++ bs) old) none)

  pub chosen-stop : (b : Backed) (new : Choice) → mine ≡ b ∷ []
      → are_few (copies_with t ws (numbers_old ++ b.numbers)) ≡ false
      → new.taken.items ≡ old.taken.items → AreMarks t ws (numbers_old ++ []) new.marks
      → GoesOn t ws bs p old trial new false
  chosen-stop b new is many same marks =
      let taken : all_taken new ≡ all_taken old = ap (λ (xs : List Taken). map taken_as xs) same in (
        subst (λ (ns : List ℕ). AreMarks t ws ns new.marks)
            (append-nil numbers_old ∙ ap carried_numbers (sym taken)) marks,
        ap (λ (xs : List Backed). taken_with t ws (xs ++ bs) old) is
            ∙ (ap (λ (few : Bool). all_taken old ++ cond few (b ∷ few_of t ws (numbers_old ++ b.numbers) bs) []) many
            ∙ (append-nil (all_taken old) ∙ sym taken)),
      )

  pub chosen-more : (b : Backed) (new : Choice) (x : Taken) → mine ≡ b ∷ []
      → are_few (copies_with t ws (numbers_old ++ b.numbers)) ≡ true
      → new.taken.items ≡ old.taken.items ++ x ∷ [] → taken_as x ≡ b
      → AreMarks t ws (numbers_old ++ b.numbers) trial → AreMarks t ws (numbers_old ++ b.numbers) new.marks
      → GoesOn t ws bs p old trial new true
  chosen-more b new x is few more same on_trial marks =
      let taken : all_taken new ≡ all_taken old ++ b ∷ [] =
      ap (λ (xs : List Taken). map taken_as xs) more
      ∙ (map_push taken_as old.taken.items x ∙ ap (λ (y : Backed). all_taken old ++ y ∷ []) same) in
      let numbers : carried_numbers (all_taken new) ≡ numbers_old ++ b.numbers =
      ap carried_numbers taken ∙ numbers-push (all_taken old) b in (
        record {
          tried = subst (λ (ns : List ℕ). AreMarks t ws ns trial) (sym numbers) on_trial;
          marks = subst (λ (ns : List ℕ). AreMarks t ws ns new.marks) (sym numbers) marks;
        },
        ap (λ (xs : List Backed). taken_with t ws (xs ++ bs) old) is
            ∙ (ap (λ (f : Bool). all_taken old ++ cond f (b ∷ few_of t ws (numbers_old ++ b.numbers) bs) []) few
            ∙ (sym (append_assoc (all_taken old) (b ∷ []) (few_of t ws (numbers_old ++ b.numbers) bs))
            ∙ (ap (λ (xs : List Backed). xs ++ few_of t ws (numbers_old ++ b.numbers) bs) (sym taken)
            ∙ ap (λ (ns : List ℕ). all_taken new ++ few_of t ws ns bs) (sym numbers)))),
      )

-- all pairs

pub chosen-init : (t : ℕ) (ws : List Written) (ps : List Pair) (c : Choice) → c.taken.items ≡ []
    → taken_with t ws (backed_in t ws ps) c ≡ few_in t ws ps
chosen-init t ws ps c none =
    ap (λ (xs : List Taken). map taken_as xs ++ few_of t ws (carried_numbers (map taken_as xs)) (backed_in t ws ps)) none

pub choice-init : (t : ℕ) (ws : List Written) (trial : Marks) (c : Choice) → c.taken.items ≡ []
    → AreMarks t ws [] trial → AreMarks t ws [] c.marks → IsChoice t ws trial c
choice-init t ws trial c none on_trial marks =
    let numbers : carried_numbers (all_taken c) ≡ [] = ap (λ (xs : List Taken). carried_numbers (map taken_as xs)) none in
    record {
      tried = subst (λ (ns : List ℕ). AreMarks t ws ns trial) (sym numbers) on_trial;
      marks = subst (λ (ns : List ℕ). AreMarks t ws ns c.marks) (sym numbers) marks;
    }

module _ (t : ℕ) (ws : List Written) (ps : List Pair) (i : ℕ) (old : Choice) (total : List Backed) where
  next-pair : (p : Pair) → i < length ps → p ≡ get_or ps i p
      → taken_with t ws (backed_in t ws (drop i ps)) old ≡ total
      → taken_with t ws (backed_if (is_fresh t p.stored) ws p ++ backed_in t ws (drop (i + 1) ps)) old ≡ total
  next-pair p lt at so_far =
      ap (λ (q : Pair). taken_with t ws (backed_if (is_fresh t q.stored) ws q ++ backed_in t ws (drop (i + 1) ps)) old) at
      ∙ (sym (at_drop_more (λ (xs : List Pair). taken_with t ws (backed_in t ws xs) old) ps i p lt) ∙ so_far)

  pub goes-further : (p : Pair) (trial : Marks) (new : Choice) → i < length ps → p ≡ get_or ps i p
      → taken_with t ws (backed_in t ws (drop i ps)) old ≡ total
      → GoesOn t ws (backed_in t ws (drop (i + 1) ps)) p old trial new true
      → taken_with t ws (backed_in t ws (drop (i + 1) ps)) new ≡ total
  goes-further p trial new lt at so_far h = sym h.1 ∙ next-pair p lt at so_far

  pub goes-no-further : (p : Pair) (trial : Marks) (new : Choice) → i < length ps → p ≡ get_or ps i p
      → taken_with t ws (backed_in t ws (drop i ps)) old ≡ total
      → GoesOn t ws (backed_in t ws (drop (i + 1) ps)) p old trial new false
      → all_taken new ≡ total
  goes-no-further p trial new lt at so_far h = sym h.1 ∙ next-pair p lt at so_far

  pub all-looked-at : length ps ≤ i → taken_with t ws (backed_in t ws (drop i ps)) old ≡ total → all_taken old ≡ total
  all-looked-at past so_far =
      sym (append-nil (all_taken old))
      ∙ (sym (at_drop_all (λ (xs : List Pair). taken_with t ws (backed_in t ws xs) old) ps i past) ∙ so_far)
