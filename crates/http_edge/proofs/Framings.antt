-- What is found in fields, and loops over digits.
use Rattle.std.proofs.Common.{rules, tests, ◌≡◌, ◌⊎◌, inl, inr, ℕ, ◌≤◌, ◌<◌, ◌+◌, ◌-◌, ◌*◌, min, Bool, true, false, ◌||◌, ltb, cond, List, [], ◌∷◌, ◌++◌, length, drop, get_or, refl, sym, ap, ◌∙◌, arith, add-one}
use Rattle.std.proofs.Math.Seq.{drop-cons}
use Rattle.std.proofs.Math.ListN.{drop_of_length-le}
use Rattle.std.proofs.lemmas.List.{length-append, append-nil}
use Rattle.std.proofs.lemmas.List.Folds.{list_any-append}
use Rattle.std.proofs.lemmas.Bool.{le-ltb, lt-ltb, cases_lt}
use Rattle.std.proofs.lemmas.Str.{digit_value_digit}
use Rattle.std.specs.Int.{IsInRange}
use Rattle.std.specs.List.{list_all, list_any}
use Rattle.std.specs.Str.Parse.{digits_value_after}
use Rattle.std.specs.Char.{is_ascii_digit, digit_value}
use Rattle.std.specs.Prelude.{IsTrue, bytes_eq}
use Rattle.std.specs.Bool.{Decides}
use Rattle.std.proofs.lemmas.Slice.Eq.{bytes_eq-Decides}
use Rattle.http_header.specs.Token.{lowercase}
use Rattle.http_edge.specs.declared.framing.Framing.{Framing}
use Rattle.http_edge.specs.declared.framing.Framing.TheVariants.{Sized, Refused}
use Rattle.http_edge.specs.declared.request.BadKind.TheVariants.{Syntax, Large}
use Rattle.http_edge.specs.declared.framing.Values.{Values}
use Rattle.http_edge.specs.declared.framing.Values.TheVariants.{Nothing, One, More}
use Rattle.http_edge.specs.Framing.{within_limit, sized_at, Finds}
use Rattle.http_edge.specs.Lists.{named, same_name, lists, field_lists}

-- The framing that digits give after those of n; all above 65,536 are one.
unfoldable pub length_from : ℕ → List ℕ → Framing
length_from n [] = within_limit n
length_from n (b ∷ bytes) = cond (is_ascii_digit b) (length_from (min (10 * n + (b - 48)) 65537) bytes) (Refused Syntax)

within_same : (n m : ℕ) → n ≡ min m 65537 → (65536 < m) ⊎ (m ≤ 65536) → within_limit n ≡ within_limit m
within_same n m e (inl large) =
    let above : ltb 65536 n ≡ true = lt-ltb 65536 n (omega (arith, e, large)) in
    let over : ltb 65536 m ≡ true = lt-ltb 65536 m large in
    rw (above, over) refl
within_same n m e (inr small) = ap within_limit (omega (arith, e, small))

digit_is : (b : ℕ) → is_ascii_digit b ≡ true → digit_value b + 48 ≡ b
digit_is b d =
    let within : IsInRange 48 57 b = search (rules, tests) in
    digit_value_digit b within

-- The framing that digits give, after those of m.
abbrev FromDigits : ℕ → List ℕ → Framing
FromDigits m bytes = cond (list_all is_ascii_digit bytes) (within_limit (digits_value_after 10 m bytes)) (Refused Syntax)

digit_case : (n m b : ℕ) (bytes : List ℕ) → n ≡ min m 65537 → (t : Bool) → is_ascii_digit b ≡ t → ((k l : ℕ) → k ≡ min l 65537 → length_from k bytes ≡ FromDigits l bytes) → length_from n (b ∷ bytes) ≡ FromDigits m (b ∷ bytes)
unfolding length_from
digit_case n m b bytes e true d more =
    let value = digit_is b d in
    let same : min (10 * n + (b - 48)) 65537 ≡ min (m * 10 + digit_value b) 65537 = omega (arith, e, value) in
    rw d (more (min (10 * n + (b - 48)) 65537) (m * 10 + digit_value b) same)
digit_case n m b bytes e false d more = rw d refl

digits_after : (n m : ℕ) (bytes : List ℕ) → n ≡ min m 65537 → length_from n bytes ≡ FromDigits m bytes
unfolding length_from
digits_after n m [] e = within_same n m e (cases_lt 65536 m)
digits_after n m (b ∷ bytes) e = digit_case n m b bytes e (is_ascii_digit b) refl (λ k l h. digits_after k l bytes h)

pub digits_are : (bytes : List ℕ) → 0 < length bytes → length_from 0 bytes ≡ sized_at bytes
unfolding sized_at
digits_are [] some = absurd (omega (arith, some))
digits_are (b ∷ bytes) some = digits_after 0 0 (b ∷ bytes) (omega arith)

pub digit_goes_on : (n b : ℕ) (bytes : List ℕ) (i d : ℕ) (total : Framing) → i < length bytes → b ≡ get_or bytes i d → is_ascii_digit b ≡ true → length_from n (drop i bytes) ≡ total → length_from (min (10 * n + (b - 48)) 65537) (drop (i + 1) bytes) ≡ total
unfolding length_from
digit_goes_on n b bytes i d total lt is digit e =
    let front : drop i bytes ≡ b ∷ drop (i + 1) bytes = rw (add-one, is) (drop-cons bytes i d lt) in
    let step : length_from n (b ∷ drop (i + 1) bytes) ≡ length_from (min (10 * n + (b - 48)) 65537) (drop (i + 1) bytes) = rw digit refl in
    sym step ∙ ap (length_from n) (sym front) ∙ e

pub digit_fails : (n b : ℕ) (bytes : List ℕ) (i d : ℕ) (total : Framing) → i < length bytes → b ≡ get_or bytes i d → is_ascii_digit b ≡ false → length_from n (drop i bytes) ≡ total → Refused Syntax ≡ total
unfolding length_from
digit_fails n b bytes i d total lt is digit e =
    let front : drop i bytes ≡ b ∷ drop (i + 1) bytes = rw (add-one, is) (drop-cons bytes i d lt) in
    let step : length_from n (b ∷ drop (i + 1) bytes) ≡ Refused Syntax = rw digit refl in
    sym step ∙ ap (length_from n) (sym front) ∙ e

pub digits_end : (n : ℕ) (bytes : List ℕ) (i : ℕ) (total : Framing) → length bytes ≤ i → n ≤ 65536 → length_from n (drop i bytes) ≡ total → Sized n ≡ total
unfolding length_from
digits_end n bytes i total le small e =
    let none : drop i bytes ≡ [] = drop_of_length-le bytes le in
    let test : ltb 65536 n ≡ false = le-ltb 65536 n small in
    let step : length_from n [] ≡ Sized n = rw test refl in
    sym step ∙ ap (length_from n) (sym none) ∙ e

pub digits_large : (n : ℕ) (bytes : List ℕ) (i : ℕ) (total : Framing) → length bytes ≤ i → 65536 < n → length_from n (drop i bytes) ≡ total → Refused Large ≡ total
unfolding length_from
digits_large n bytes i total le large e =
    let none : drop i bytes ≡ [] = drop_of_length-le bytes le in
    let test : ltb 65536 n ≡ true = lt-ltb 65536 n large in
    let step : length_from n [] ≡ Refused Large = rw test refl in
    sym step ∙ ap (length_from n) (sym none) ∙ e

-- one field more

or_false : (t : Bool) → (t || false) ≡ t
or_false true = refl
or_false false = refl

push_case : (t : Bool) (v : List ℕ) (xs ys zs : List (List ℕ)) → xs ≡ ys ++ zs → cond t (v ∷ xs) xs ≡ cond t (v ∷ ys) ys ++ zs
push_case true v xs ys zs e = ap (λ (l : List (List ℕ)). v ∷ l) e
push_case false v xs ys zs e = e

named_push : (name : List ℕ) (fields : List (List ℕ × List ℕ)) (f : List ℕ × List ℕ) → named name (fields ++ f ∷ []) ≡ named name fields ++ named name (f ∷ [])
named_push name [] f = refl
named_push name (g ∷ fields) f = push_case (same_name g.0 name) g.1 (named name (fields ++ f ∷ [])) (named name fields) (named name (f ∷ [])) (named_push name fields f)

-- a field of another name
pub other_name : (wanted : List ℕ) (fields : List (List ℕ × List ℕ)) (name value : List ℕ) → same_name name wanted ≡ false → named wanted fields ≡ named wanted (fields ++ (name, value) ∷ [])
other_name wanted fields name value other =
    let none : named wanted ((name, value) ∷ []) ≡ [] = rw other refl in
    sym (named_push wanted fields (name, value) ∙ ap (λ (l : List (List ℕ)). named wanted fields ++ l) none ∙ append-nil (named wanted fields))

-- a field of the name
that_name : (wanted : List ℕ) (fields : List (List ℕ × List ℕ)) (name value : List ℕ) → same_name name wanted ≡ true → named wanted (fields ++ (name, value) ∷ []) ≡ named wanted fields ++ value ∷ []
that_name wanted fields name value same =
    let one : named wanted ((name, value) ∷ []) ≡ value ∷ [] = rw same refl in
    named_push wanted fields (name, value) ∙ ap (λ (l : List (List ℕ)). named wanted fields ++ l) one

pub first_value : (wanted : List ℕ) (fields : List (List ℕ × List ℕ)) (name value : List ℕ) → same_name name wanted ≡ true → named wanted fields ≡ [] → named wanted (fields ++ (name, value) ∷ []) ≡ value ∷ []
first_value wanted fields name value same none = that_name wanted fields name value same ∙ ap (λ (l : List (List ℕ)). l ++ value ∷ []) none

pub value_again : (wanted : List ℕ) (fields : List (List ℕ × List ℕ)) (name value : List ℕ) → same_name name wanted ≡ true → 0 < length (named wanted fields) → 1 < length (named wanted (fields ++ (name, value) ∷ []))
value_again wanted fields name value same some =
    let size : length (named wanted (fields ++ (name, value) ∷ [])) ≡ length (named wanted fields ++ value ∷ []) = ap length (that_name wanted fields name value same) in
    let parts : length (named wanted fields ++ value ∷ []) ≡ length (named wanted fields) + 1 = length-append (named wanted fields) (value ∷ []) in
    omega (arith, size, parts, some)

pub found_some : (v : Values) (vs : List (List ℕ)) → (v ≡ Nothing → ⊥) → Finds v vs → 0 < length vs
found_some Nothing vs some f = absurd (some refl)
found_some (One w) vs some f = rw f (omega arith)
found_some More vs some f = omega (arith, f)

lists_push : (name member : List ℕ) (fields : List (List ℕ × List ℕ)) (f : List ℕ × List ℕ) → lists name member (fields ++ f ∷ []) ≡ (lists name member fields || field_lists name member f)
unfolding lists
lists_push name member fields f =
    let one : list_any (field_lists name member) (f ∷ []) ≡ field_lists name member f = or_false (field_lists name member f) in
    list_any-append (field_lists name member) fields (f ∷ []) ∙ ap (λ (t : Bool). list_any (field_lists name member) fields || t) one

pub listed_before : (name member : List ℕ) (fields : List (List ℕ × List ℕ)) (f : List ℕ × List ℕ) (old : Bool) → old ≡ lists name member fields → old ≡ true → old ≡ lists name member (fields ++ f ∷ [])
listed_before name member fields f old is so =
    let before : lists name member fields ≡ true = sym is ∙ so in
    so ∙ sym (lists_push name member fields f ∙ rw before refl)

pub listed_last : (name member : List ℕ) (fields : List (List ℕ × List ℕ)) (f : List ℕ × List ℕ) (old now : Bool) → old ≡ lists name member fields → old ≡ false → now ≡ field_lists name member f → now ≡ lists name member (fields ++ f ∷ [])
listed_last name member fields f old now is not_so e =
    let before : lists name member fields ≡ false = sym is ∙ not_so in
    e ∙ sym (lists_push name member fields f ∙ rw before refl)

by_cases : (x y : List ℕ) (r t : Bool) → Decides t (x ≡ y) → (IsTrue r → x ≡ y) → (x ≡ y → IsTrue r) → r ≡ t
by_cases x y true true d f g = refl
by_cases x y true false d f g = sym (d.1 (f refl))
by_cases x y false true d f g = g (d.0 refl)
by_cases x y false false d f g = refl

pub same_by : (a b : List ℕ) (r : Bool) → (IsTrue r → lowercase a ≡ lowercase b) → (lowercase a ≡ lowercase b → IsTrue r) → r ≡ same_name a b
unfolding same_name
same_by a b r f g = by_cases (lowercase a) (lowercase b) r (bytes_eq (lowercase a) (lowercase b)) (bytes_eq-Decides (lowercase a) (lowercase b)) f g

pub no_digits : (bytes : List ℕ) → length bytes ≡ 0 → Refused Syntax ≡ sized_at bytes
unfolding sized_at
no_digits [] none = refl
no_digits (b ∷ bytes) none = absurd (omega (arith, none))
