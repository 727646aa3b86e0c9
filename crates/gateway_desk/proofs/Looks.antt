-- What a look at notes, one after the other, tells of their order.
use Rattle.std.proofs.Common.{◌≡◌, ◌↔◌, ℕ, zero, suc, ◌+◌, ◌<◌, ◌≤◌, max, Bool, true, false, List, [], ◌∷◌, length, drop, get_or, map, Some, None, refl, sym, ap, ◌∙◌, subst, cond, nat_le, add-one, arith}
use Rattle.std.specs.List.{All}
use Rattle.std.proofs.lemmas.Bool.{leb-true}
use Rattle.gateway_desk.specs.Lines.{Line, made, got, told}
use Rattle.gateway_desk.specs.Running.{next_from}
use Rattle.gateway_desk.specs.Settled.{AskFrom, AreInOrder}

drop_suc : {X : Type 0} (xs : List X) (i : ℕ) (x : X) → i < length xs → drop i xs ≡ get_or xs i x ∷ drop (suc i) xs
drop_suc [] i x lt = absurd (omega arith)
drop_suc (y ∷ ys) zero x lt = refl
drop_suc (y ∷ ys) (suc i) x lt = drop_suc ys i x (omega arith)

-- what is left at a place is what stands there, and the rest
pub drop_next : {X : Type 0} (xs : List X) (i : ℕ) (x : X) → i < length xs → x ≡ get_or xs i x → drop i xs ≡ x ∷ drop (i + 1) xs
drop_next xs i x lt e = rw add-one (drop_suc xs i x lt ∙ ap (λ y. y ∷ drop (suc i) xs) (sym e))

-- what holds of all that is read off holds so
pub all_mapped : {X Y : Type 0} (P : Y → Type 0) (f : X → Y) (xs : List X) → All (λ x. P (f x)) xs → All P (map f xs)
all_mapped P f [] h i d lt = absurd (omega arith)
all_mapped P f (x ∷ xs) h zero d lt = h 0 x (omega arith)
all_mapped P f (x ∷ xs) h (suc i) d lt = all_mapped P f xs (λ j e l. h (suc j) e (omega arith)) i d (omega arith)

-- the notes are in order, those from this place on, and their asks come from this number on
abbrev pub AreLeft : ℕ → List Line → Type 0
AreLeft n ls = AskFrom n ls × AreInOrder ls

pub from-zero : (ls : List Line) → AskFrom 0 ls
from-zero [] = tt
from-zero (made k ∷ ls) = (omega arith, from-zero ls)
from-zero (got s ∷ ls) = from-zero ls
from-zero (told s ∷ ls) = from-zero ls

from-less : (a b : ℕ) (ls : List Line) → a ≤ b → AskFrom b ls → AskFrom a ls
from-less a b [] le h = tt
from-less a b (made k ∷ ls) le h = (omega (arith, h.0), from-less a b ls le h.1)
from-less a b (got s ∷ ls) le h = from-less a b ls le h
from-less a b (told s ∷ ls) le h = from-less a b ls le h

from-both : (a b : ℕ) (ls : List Line) → AskFrom a ls → AskFrom b ls → AskFrom (max a b) ls
from-both a b [] h j = tt
from-both a b (made k ∷ ls) h j = (omega (arith, h.0, j.0), from-both a b ls h.1 j.1)
from-both a b (got s ∷ ls) h j = from-both a b ls h j
from-both a b (told s ∷ ls) h j = from-both a b ls h j

some_same : (a b : ℕ) → Some a ≡ Some b → a ≡ b
some_same a b e = cc

ask-on : (b : Bool) (n k m : ℕ) (ls : List Line) → nat_le n k ≡ b → cond b (Some n) None ≡ Some m → AreLeft n (made k ∷ ls) ↔ AreLeft m ls
ask-on true n k m ls t e =
    let same : n ≡ m = some_same n m e in
    let le : n ≤ k = leb-true n k t in (
      λ h. (subst (λ x. AskFrom x ls) same h.0.1, h.1),
      λ h. ((le, subst (λ x. AskFrom x ls) (sym same) h.0), h.1),
    )
ask-on false n k m ls t e = absurd cc

answer-on : (n k m : ℕ) (ls : List Line) → Some (max n (k + 1)) ≡ Some m → (AskFrom n ls × (AskFrom (k + 1) ls × AreInOrder ls)) ↔ AreLeft m ls
answer-on n k m ls e =
    let same : max n (k + 1) ≡ m = some_same (max n (k + 1)) m e in (
      λ h. (subst (λ x. AskFrom x ls) same (from-both n (k + 1) ls h.0 h.1.0), h.1.1),
      λ h. let j = subst (λ x. AskFrom x ls) (sym same) h.0 in (from-less n (max n (k + 1)) ls (omega arith) j, (from-less (k + 1) (max n (k + 1)) ls (omega arith) j, h.1)),
    )

-- one note is looked at
line-on : (l : Line) (ls : List Line) (n m : ℕ) → next_from l n ≡ Some m → AreLeft n (l ∷ ls) ↔ AreLeft m ls
line-on (made k) ls n m e = ask-on (nat_le n k) n k m ls refl e
line-on (got s) ls n m e = answer-on n s.given.number m ls e
line-on (told s) ls n m e = answer-on n s.given.number m ls e

pub look_first : {X : Type 0} (f : X → Line) (xs : List X) → AreLeft 0 (map f xs) ↔ AreInOrder (map f xs)
look_first f xs = (λ h. h.1, λ h. (from-zero (map f xs), h))

-- the same at a place of notes
pub look_on : {X : Type 0} (f : X → Line) (xs : List X) (i n m : ℕ) (x : X) → i < length xs → x ≡ get_or xs i x → next_from (f x) n ≡ Some m
    → AreLeft n (map f (drop i xs)) ↔ AreInOrder (map f xs) → AreLeft m (map f (drop (i + 1) xs)) ↔ AreInOrder (map f xs)
look_on f xs i n m x lt at e inv =
    let step = line-on (f x) (map f (drop (i + 1) xs)) n m e in
    let front : map f (drop i xs) ≡ f x ∷ map f (drop (i + 1) xs) = ap (map f) (drop_next xs i x lt at) in (
      λ h. inv.0 (subst (AreLeft n) (sym front) (step.1 h)),
      λ h. step.0 (subst (AreLeft n) front (inv.1 h)),
    )
