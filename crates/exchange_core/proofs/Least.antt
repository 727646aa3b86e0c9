-- The least of the asks that were answered.
use Rattle.std.proofs.Common.{◌≡◌, ◌⊎◌, ℕ, ◌≤◌, ◌<◌, ◌+◌, min, inl, inr, List, [], ◌∷◌, ◌++◌, map, length, get_or, take, Option, Some, None, refl, sym, ap, subst, ◌∙◌, arith}
use Rattle.std.specs.Prelude.{IfSome}
use Rattle.std.specs.List.{All, Contains, fold, reduce}
use Rattle.std.proofs.lemmas.Bool.Decides.{leb_tells}
use Rattle.std.proofs.lemmas.List.{map-append, take_more, take_all}
use Rattle.std.proofs.lemmas.List.Elements.{All-nil, All-cons, Contains-append_right}
use Rattle.exchange_core.specs.declared.answer.Answer.{Answer}
use Rattle.exchange_core.specs.Answering.{Given, given_of}

-- The least of a number and others is one of them.
one-of : (a : ℕ) (xs : List ℕ) → (fold min a xs ≡ a) ⊎ Contains xs (fold min a xs)
one-of a [] = inl refl
one-of a (x ∷ xs) =
    elim (leb_tells a x) [
      | inl u ↦
          let same : min a x ≡ a = omega (arith, u.1) in
          elim (one-of (min a x) xs) [ inl e ↦ inl (e ∙ same) | inr has ↦ inr (Contains-append_right (x ∷ []) xs (fold min (min a x) xs) has) ]
      | inr u ↦
          let same : x ≡ min a x = omega (arith, u.1) in
          elim (one-of (min a x) xs) [ inl e ↦ inr (0, omega arith, same ∙ sym e) | inr has ↦ inr (Contains-append_right (x ∷ []) xs (fold min (min a x) xs) has) ]
    ]

least-first : (a : ℕ) (xs : List ℕ) → fold min a xs ≤ a
least-first a [] = omega arith
least-first a (x ∷ xs) = let le = least-first (min a x) xs in omega (arith, le)

least-all : {X : Type 0} (key : X → ℕ) (a : ℕ) (xs : List X) → All (λ (x : X). fold min a (map key xs) ≤ key x) xs
least-all {X} key a [] = All-nil (λ (x : X). fold min a [] ≤ key x)
least-all {X} key a (x ∷ xs) =
    let le = least-first (min a (key x)) (map key xs) in
    All-cons (λ (y : X). fold min (min a (key x)) (map key xs) ≤ key y) x xs (omega (arith, le)) (least-all key (min a (key x)) xs)

pub least-stands : (xs : List ℕ) (o : Option ℕ) → o ≡ reduce min xs → IfSome o (Contains xs)
least-stands [] o is = rw is tt
least-stands (x ∷ xs) o is =
    rw is (elim (one-of x xs) [ inl e ↦ (0, omega arith, sym e) | inr has ↦ Contains-append_right (x ∷ []) xs (fold min x xs) has ])

pub least-below : {X : Type 0} (key : X → ℕ) (xs : List X) (o : Option ℕ) → o ≡ reduce min (map key xs) → IfSome o (λ (k : ℕ). All (λ (x : X). k ≤ key x) xs)
least-below key [] o is = rw is tt
least-below {X} key (x ∷ xs) o is =
    rw is (All-cons (λ (y : X). fold min (key x) (map key xs) ≤ key y) x xs (least-first (key x) (map key xs)) (least-all key (key x) xs))

fold-more : (a : ℕ) (xs : List ℕ) (n : ℕ) → fold min a (xs ++ n ∷ []) ≡ min (fold min a xs) n
fold-more a [] n = refl
fold-more a (x ∷ xs) n = fold-more (min a x) xs n

least-after : (xs : List ℕ) (n k : ℕ) → (reduce min xs ≡ None → k ≡ n) → IfSome (reduce min xs) (λ (d : ℕ). k ≡ min d n)
    → Some k ≡ reduce min (xs ++ n ∷ [])
least-after [] n k first other = ap Some (first refl)
least-after (x ∷ xs) n k first other = ap Some (other ∙ sym (fold-more x xs n))

-- The least of those up to a place, and one more.
pub least-more : {X : Type 0} (key : X → ℕ) (xs : List X) (i : ℕ) (x : X) (old : Option ℕ) (k : ℕ) → old ≡ reduce min (map key (take i xs))
    → i < length xs → x ≡ get_or xs i x → (old ≡ None → k ≡ key x) → IfSome old (λ (d : ℕ). k ≡ min d (key x))
    → Some k ≡ reduce min (map key (take (i + 1) xs))
least-more {X} key xs i x old k was lt is first other =
    let more : take (i + 1) xs ≡ take i xs ++ x ∷ [] = take_more xs i x lt ∙ ap (λ (y : X). take i xs ++ y ∷ []) (sym is) in
    let whole : map key (take (i + 1) xs) ≡ map key (take i xs) ++ key x ∷ [] = ap (λ (ys : List X). map key ys) more ∙ map-append key (take i xs) (x ∷ []) in
    least-after (map key (take i xs)) (key x) k (subst (λ (o : Option ℕ). o ≡ None → k ≡ key x) was first)
    (subst (λ (o : Option ℕ). IfSome o (λ (d : ℕ). k ≡ min d (key x))) was other) ∙ ap (reduce min) (sym whole)

pub least-of-all : {X : Type 0} (key : X → ℕ) (xs : List X) (i : ℕ) (old : Option ℕ) → old ≡ reduce min (map key (take i xs)) → length xs ≤ i
    → old ≡ reduce min (map key xs)
least-of-all {X} key xs i old was le = was ∙ ap (λ (ys : List X). reduce min (map key ys)) (take_all i xs le)

pub asks-of : {R : Type 0} (xs : List (Answer R)) → map (λ (a : Answer R). a.ask) xs ≡ map (λ (x : Given). x.ask) (map given_of xs)
asks-of [] = refl
asks-of (x ∷ xs) = ap (λ (ks : List ℕ). x.ask ∷ ks) (asks-of xs)
