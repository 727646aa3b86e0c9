-- Those with no equal name before them.
use Rattle.std.proofs.Common.{◌≡◌, Bool, true, false, not, cond, ◌||◌, List, [], ◌∷◌, ◌++◌, refl, sym, ap, ◌∙◌, append-nil, ℕ, String, Global, string_bytes}
use Rattle.std.specs.BTreeSet.{BTreeSet, contains_text, UpdatesBy}
use Rattle.std.specs.String.{string_cmp}
use Rattle.std.proofs.lemmas.Map.Text.{btree_set_updates_text}
use Rattle.std.proofs.lemmas.List.Folds.{list_any-append}
use Rattle.std.specs.List.{filter, list_any}
use Rattle.std.specs.Str.{bytes_eq}
use Rattle.std.proofs.lemmas.List.Elements.{filter-append}
use Rattle.proxy_settings.specs.Firsts.{has_other_name, firsts}

tail_kept : {A : Type 0} (p : A → Bool) (x : A) (b a : Bool) → p x ≡ not b → filter p (cond a [] (x ∷ [])) ≡ cond (b || a) [] (x ∷ [])
tail_kept p x true true h = refl
tail_kept p x true false h = rw h refl
tail_kept p x false true h = refl
tail_kept p x false false h = rw h refl

-- one more is kept where no name before it is equal
pub firsts-last : {A : Type 0} (name : A → List ℕ) (xs : List A) (x : A)
    → firsts name (xs ++ x ∷ []) ≡ firsts name xs ++ cond (list_any (λ y. bytes_eq (name y) (name x)) xs) [] (x ∷ [])
firsts-last name [] x = refl
firsts-last name (y ∷ ys) x =
    ap (λ l. y ∷ filter (has_other_name name y) l) (firsts-last name ys x)
    ∙ ap (λ l. y ∷ l) (filter-append (has_other_name name y) (firsts name ys) (cond (list_any (λ z. bytes_eq (name z) (name x)) ys) [] (x ∷ []))
    ∙ ap (λ l. filter (has_other_name name y) (firsts name ys) ++ l)
    (tail_kept (has_other_name name y) x (bytes_eq (name y) (name x)) (list_any (λ z. bytes_eq (name z) (name x)) ys) refl))

either_way : (a b : Bool) → cond b true a ≡ (a || (b || false))
either_way true true = refl
either_way true false = refl
either_way false true = refl
either_way false false = refl

-- What was kept and which names were seen, of those so far.
pub record SoFar {A : Type 0} (name : A → List ℕ) (xs : List A) (seen : BTreeSet (String Global)) (kept : List A) : Type 0 where
  pub first_ones : kept ≡ firsts name xs
  pub names : (q : List ℕ) → contains_text seen q ≡ list_any (λ y. bytes_eq (name y) q) xs

kept_or_not : {A : Type 0} (b added : Bool) (x : A) (kept new : List A) → added ≡ not b
    → (added ≡ true → new ≡ kept ++ x ∷ []) → (added ≡ false → new ≡ kept) → new ≡ kept ++ cond b [] (x ∷ [])
kept_or_not true added x kept new is same more = more is ∙ sym (append-nil kept)
kept_or_not false added x kept new is same more = same is

pub one_more_name : {A : Type 0} (name : A → List ℕ) (xs : List A) (x : A) (k : String Global) (s n : BTreeSet (String Global))
    (added : Bool) (kept new : List A) → string_bytes k ≡ name x
    → added ≡ not (contains_text s (string_bytes k)) → UpdatesBy string_cmp (string_cmp k) s n true
    → (added ≡ true → new ≡ kept ++ x ∷ []) → (added ≡ false → new ≡ kept)
    → SoFar name xs s kept → SoFar name (xs ++ x ∷ []) n new
one_more_name name xs x k s n added kept new same is updates grown stays h = record {
  first_ones =
      kept_or_not (list_any (λ y. bytes_eq (name y) (name x)) xs) added x kept new
      (is ∙ ap (λ q. not (contains_text s q)) same ∙ ap not (h.names (name x))) grown stays
      ∙ ap (λ l. l ++ cond (list_any (λ y. bytes_eq (name y) (name x)) xs) [] (x ∷ [])) h.first_ones
      ∙ sym (firsts-last name xs x);
  names = λ q.
      btree_set_updates_text (string_bytes k) s n true updates q
      ∙ ap (λ c. cond (bytes_eq c q) true (contains_text s q)) same
      ∙ ap (λ a. cond (bytes_eq (name x) q) true a) (h.names q)
      ∙ either_way (list_any (λ y. bytes_eq (name y) q) xs) (bytes_eq (name x) q)
      ∙ sym (list_any-append (λ y. bytes_eq (name y) q) xs (x ∷ []));
}
