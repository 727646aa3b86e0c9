-- Rings as lists of numbers, after a number was moved or put.
use Rattle.std.proofs.Common.{◌≡◌, ℕ, zero, suc, ◌+◌, ◌-◌, ◌<◌, true, false, List, [], ◌∷◌, ◌++◌, length, length-append, get_or, refl, sym, ap, subst, ◌∙◌, arith}
use Rattle.std.specs.List.{AllByRecursion}
use Rattle.resp_cache.specs.Rings.{Follow, IsLinked, IsOrder, IsRing, is_in, numbers_in, without}
use Rattle.resp_cache.proofs.Linking.{IsInside, inside, lacks_without, length_walk, length_without, not_in, numbers_are}
use Rattle.resp_cache.proofs.Orders.{next_lacked, order_first, order_last, order_next}

pub length_numbers : (ls : List ℕ) → length (numbers_in ls) ≡ length ls - 1
length_numbers ls = length_walk (length ls - 1) ls 0

pub ring_inside : (ls ns : List ℕ) (s : ℕ) → IsRing ls ns → is_in s (numbers_in ls) ≡ true → IsInside ls ns s
ring_inside ls ns s r there = inside ls ns (numbers_in ls) s r.linked there

-- A ring with a number in it has 0 besides.
long : (ls ns : List ℕ) (s : ℕ) → IsRing ls ns → is_in s (numbers_in ls) ≡ true → length ls ≡ suc (length (numbers_in ls))
long ls ns s r there =
    let i = ring_inside ls ns s r there in
    let lt = i.older in
    omega (arith, lt, length_numbers ls)

pub left_out : (ls : List ℕ) (s : ℕ) → is_in s (without s (numbers_in ls)) ≡ false
left_out ls s = not_in s (without s (numbers_in ls)) (lacks_without s (numbers_in ls))

made : (ls ns os : List ℕ) → IsLinked ls ns os → IsOrder os → length ls ≡ suc (length os) → (numbers_in ls ≡ os) × IsRing ls ns
made ls ns os k o len =
    let is = numbers_are ls ns os k len in (
      is,
      record {
        linked = subst (λ (xs : List ℕ). IsLinked ls ns xs) (sym is) k;
        order = subst (λ (xs : List ℕ). IsOrder xs) (sym is) o;
      },
    )

pub ring_first : (ls ns ls' ns' : List ℕ) (s : ℕ) → IsRing ls ns → is_in s (numbers_in ls) ≡ true → length ls' ≡ length ls → IsLinked ls' ns' (s ∷ without s (numbers_in ls))
    → (numbers_in ls' ≡ s ∷ without s (numbers_in ls)) × IsRing ls' ns'
ring_first ls ns ls' ns' s r there len k =
    made ls' ns' (s ∷ without s (numbers_in ls)) k (order_first s (numbers_in ls) there r.order)
    (omega (arith, len, long ls ns s r there, length_without s (numbers_in ls) r.order.apart there))

pub ring_last : (ls ns ls' ns' : List ℕ) (s : ℕ) → IsRing ls ns → is_in s (numbers_in ls) ≡ true → length ls' ≡ length ls → IsLinked ls' ns' (without s (numbers_in ls) ++ s ∷ [])
    → (numbers_in ls' ≡ without s (numbers_in ls) ++ s ∷ []) × IsRing ls' ns'
ring_last ls ns ls' ns' s r there len k =
    made ls' ns' (without s (numbers_in ls) ++ s ∷ []) k (order_last s (numbers_in ls) there r.order)
    (omega (arith, len, long ls ns s r there, length_without s (numbers_in ls) r.order.apart there, length-append (without s (numbers_in ls)) (s ∷ [])))

pub ring_next : (ls ns ls' ns' : List ℕ) (s : ℕ) → IsRing ls ns → s ≡ length (numbers_in ls) + 1 → length ls' ≡ length ls - 1 + 2 → IsLinked ls' ns' (numbers_in ls ++ s ∷ [])
    → (numbers_in ls' ≡ numbers_in ls ++ s ∷ []) × IsRing ls' ns'
ring_next ls ns ls' ns' s r is len k =
    let next : s ≡ suc (length (numbers_in ls)) = omega (arith, is) in
    let order = subst (λ (n : ℕ). IsOrder (numbers_in ls ++ n ∷ [])) (sym next) (order_next (numbers_in ls) r.order) in
    made ls' ns' (numbers_in ls ++ s ∷ []) k order (omega (arith, len, length_numbers ls, length-append (numbers_in ls) (s ∷ [])))

pub next_out : (ls ns : List ℕ) (s : ℕ) → IsRing ls ns → s ≡ length (numbers_in ls) + 1 → is_in s (numbers_in ls) ≡ false
next_out ls ns s r is =
    let next : s ≡ suc (length (numbers_in ls)) = omega (arith, is) in
    ap (λ (n : ℕ). is_in n (numbers_in ls)) next ∙ not_in (suc (length (numbers_in ls))) (numbers_in ls) (next_lacked (numbers_in ls) r.order)

-- one more place for a number, which isn't linked yet

get-more : (xs : List ℕ) (i : ℕ) → get_or (xs ++ 0 ∷ []) i 0 ≡ get_or xs i 0
get-more [] zero = refl
get-more [] (suc i) = refl
get-more (x ∷ xs) zero = refl
get-more (x ∷ xs) (suc i) = get-more xs i

follow-more : (ls ns : List ℕ) (a : ℕ) (os : List ℕ) (b : ℕ) → Follow ls ns a os b → Follow (ls ++ 0 ∷ []) (ns ++ 0 ∷ []) a os b
follow-more ls ns a [] b f = (get-more ls a ∙ f.0, get-more ns b ∙ f.1)
follow-more ls ns a (x ∷ xs) b f = ((get-more ls a ∙ f.0.0, get-more ns x ∙ f.0.1), follow-more ls ns x xs b f.1)

pub linked_more : (ls ns ls' ns' os : List ℕ) → ls' ≡ ls ++ 0 ∷ [] → ns' ≡ ns ++ 0 ∷ [] → IsLinked ls ns os → IsLinked ls' ns' os
linked_more ls ns ls' ns' os lm nm k =
    let same = k.same in
    let len1 : length ls' ≡ length ls + 1 = omega (arith, ap length lm, length-append ls (0 ∷ [])) in
    let len2 : length ns' ≡ length ns + 1 = omega (arith, ap length nm, length-append ns (0 ∷ [])) in
    record {
      follow = rw (lm, nm) (follow-more ls ns 0 os 0 k.follow);
      apart = k.apart;
      within = wider os k.within len1;
      same = omega (arith, same, len1, len2);
    }
  where
    wider : (xs : List ℕ) → AllByRecursion (λ s. (0 < s) × (s < length ls)) xs → length ls' ≡ length ls + 1 → AllByRecursion (λ s. (0 < s) × (s < length ls')) xs
    wider [] w e = tt
    wider (x ∷ xs) w e = ((w.0.0, let lt = w.0.1 in omega (arith, lt, e)), wider xs w.1 e)
