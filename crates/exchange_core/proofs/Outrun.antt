-- Exchanges that outrun others, one after another.
use Rattle.std.proofs.Common.{◌≡◌, ℕ, zero, suc, suc, ◌+◌, ◌<◌, Bool, true, false, cond, ◌||◌, List, [], ◌∷◌, ◌++◌, length, take, get_or, refl, sym, ap, ◌∙◌, arith}
use Rattle.std.specs.List.{AllByRecursion, list_any}
use Rattle.journal_book.specs.Entries.{Written}
use Rattle.exchange_model.specs.declared.kept.Exchange.{Exchange}
use Rattle.exchange_model.specs.Matters.{IsDigested, asked_in, left_by, outrun_by, outruns}

any-last : {X : Type 0} (q : X → Bool) (xs : List X) (x : X) → list_any q (xs ++ x ∷ []) ≡ (list_any q xs || (q x || false))
any-last q [] x = refl
any-last q (y ∷ xs) x = by (q y) (any-last q xs x)
  where
    by : (b : Bool) → list_any q (xs ++ x ∷ []) ≡ (list_any q xs || (q x || false))
        → (b || list_any q (xs ++ x ∷ [])) ≡ ((b || list_any q xs) || (q x || false))
    by true ih = refl
    by false ih = ih

outrun-last : (ws : List Written) (over : List Exchange) (x e : Exchange)
    → outrun_by ws (over ++ x ∷ []) e ≡ outrun_by ws (x ∷ []) (outrun_by ws over e)
outrun-last ws over x e =
    ap (λ (b : Bool). cond b (record e { current = false }) e) (any-last (outruns ws (asked_in ws e.ask)) over x)
    ∙ by (list_any (outruns ws (asked_in ws e.ask)) over) (outruns ws (asked_in ws e.ask) x || false) refl
  where
    by : (b c : Bool) → (outruns ws (asked_in ws e.ask) x || false) ≡ c
        → cond (b || c) (record e { current = false }) e ≡ outrun_by ws (x ∷ []) (cond b (record e { current = false }) e)
    by true true is = rw (is) refl
    by true false is = rw (is) refl
    by false c is = rw (is) refl

pub left-last : (ws : List Written) (over : List Exchange) (x : Exchange) (es : List Exchange)
    → left_by ws (over ++ x ∷ []) es ≡ left_by ws (x ∷ []) (left_by ws over es)
left-last ws over x [] = refl
left-last ws over x (e ∷ es) = rw (outrun-last ws over x e, left-last ws over x es) refl

take-next : {X : Type 0} (xs : List X) (i : ℕ) (d : X) → i < length xs → take (suc i) xs ≡ take i xs ++ get_or xs i d ∷ []
take-next [] i d lt = absurd (omega (arith, lt))
take-next (y ∷ xs) zero d lt = refl
take-next (y ∷ xs) (suc i) d lt = ap (λ (zs : List _). y ∷ zs) (take-next xs i d (omega (arith, lt)))

pub left-next : (ws : List Written) (over : List Exchange) (i : ℕ) (x : Exchange) (old now new : List Exchange)
    → i < length over → x ≡ get_or over i x → now ≡ left_by ws (take i over) old → new ≡ left_by ws (x ∷ []) now
    → new ≡ left_by ws (take (i + 1) over) old
left-next ws over i x old now new lt at here last =
    last ∙ ap (left_by ws (x ∷ [])) here ∙ sym (left-last ws (take i over) x old)
    ∙ ap (λ (xs : List Exchange). left_by ws xs old) (ap (λ (y : Exchange). take i over ++ y ∷ []) at ∙ sym (take-next over i x lt)
    ∙ ap (λ (k : ℕ). take k over) (sym more))
  where
    more : i + 1 ≡ suc i
    more = omega arith

-- They keep the digests of what they were opened for.
pub digested-left : (ws : List Written) (over es : List Exchange) → AllByRecursion (IsDigested ws) es → AllByRecursion (IsDigested ws) (left_by ws over es)
digested-left ws over [] a = tt
digested-left ws over (e ∷ es) a = (by (list_any (outruns ws (asked_in ws e.ask)) over), digested-left ws over es a.1)
  where
    by : (b : Bool) → IsDigested ws (cond b (record e { current = false }) e)
    by true = a.0
    by false = a.0
