-- Rings: what taking a number out and putting it at an end make of them.
use Rattle.std.proofs.Common.{◌≡◌, ◌≢◌, ℕ, zero, suc, ◌-◌, ◌<◌, Bool, true, false, not, cond, eqb, List, [], ◌∷◌, ◌++◌, length, get_or, Some, inl, inr, refl, sym, ap, subst, ◌∙◌, ◌||◌, arith}
use Rattle.std.specs.List.{AllByRecursion, slice_get}
use Rattle.std.proofs.Math.ListN.{set}
use Rattle.std.proofs.lemmas.List.{length-set, get_or-set_same, get_or-set_other}
use Rattle.std.proofs.lemmas.Bool.{eq-eqb, false≢true}
use Rattle.std.proofs.lemmas.Bool.Decides.{eqb_tells}
use Rattle.resp_cache.specs.Rings.{Apart, Follow, IsLinked, Lacks, is_in, last_of, numbers_in, walk, without}
use Rattle.resp_cache.proofs.Lists.{or_false}

pub is_same : (a b : ℕ) → a ≡ b → eqb a b ≡ true
is_same a b e = eq-eqb a b e

pub not_same : (a b : ℕ) → a ≢ b → eqb a b ≡ false
not_same a b differs = elim (eqb_tells a b) [ inl w ↦ absurd (differs w.1) | inr w ↦ w.0 ]

pub differ : (a b : ℕ) → eqb a b ≡ false → a ≢ b
differ a b e same = false≢true (sym e ∙ eq-eqb a b same)

or_second : (b c : Bool) → b ≡ false → (b || c) ≡ true → c ≡ true
or_second true c e h = absurd (false≢true (sym e))
or_second false c e h = h

pub in_rest : (s x : ℕ) (xs : List ℕ) → x ≢ s → is_in s (x ∷ xs) ≡ true → is_in s xs ≡ true
in_rest s x xs other there = or_second (eqb x s) (is_in s xs) (not_same x s other) there

pub lacked : (s : ℕ) (os : List ℕ) → is_in s os ≡ false → Lacks s os
lacked s [] e = tt
lacked s (x ∷ xs) e =
    let h = or_false (eqb x s) (is_in s xs) e in
    (differ x s h.0, lacked s xs h.1)

pub not_in : (s : ℕ) (os : List ℕ) → Lacks s os → is_in s os ≡ false
not_in s [] l = refl
not_in s (x ∷ xs) l = rw (not_same x s l.0) (not_in s xs l.1)

pub in_not : (s : ℕ) (os : List ℕ) → Lacks s os → is_in s os ≡ true → ⊥
in_not s os l there = false≢true (sym (not_in s os l) ∙ there)

pub without_none : (s : ℕ) (os : List ℕ) → Lacks s os → without s os ≡ os
without_none s [] l = refl
without_none s (x ∷ xs) l = rw (not_same x s l.0) (ap (λ (ys : List ℕ). x ∷ ys) (without_none s xs l.1))

pub without_first : (s x : ℕ) (xs : List ℕ) → x ≡ s → Lacks x xs → without s (x ∷ xs) ≡ xs
without_first s x xs e l = rw (is_same x s e) (without_none s xs (subst (λ (n : ℕ). Lacks n xs) e l))

pub without_other : (s x : ℕ) (xs : List ℕ) → x ≢ s → without s (x ∷ xs) ≡ x ∷ without s xs
without_other s x xs other = rw (not_same x s other) refl

pub all_without : (P : ℕ → Type 0) (s : ℕ) (os : List ℕ) → AllByRecursion P os → AllByRecursion P (without s os)
all_without P s [] a = tt
all_without P s (x ∷ xs) a = by (eqb x s) (all_without P s xs a.1)
  where
    by : (b : Bool) → AllByRecursion P (without s xs) → AllByRecursion P (cond (not b) (x ∷ without s xs) (without s xs))
    by true h = h
    by false h = (a.0, h)

pub apart_without : (s : ℕ) (os : List ℕ) → Apart os → Apart (without s os)
apart_without s [] a = tt
apart_without s (x ∷ xs) a = by (eqb x s) (apart_without s xs a.1)
  where
    by : (b : Bool) → Apart (without s xs) → Apart (cond (not b) (x ∷ without s xs) (without s xs))
    by true h = h
    by false h = (all_without (λ t. t ≢ x) s xs a.0, h)

pub lacks_without : (s : ℕ) (os : List ℕ) → Lacks s (without s os)
lacks_without s [] = tt
lacks_without s (x ∷ xs) = by (eqb x s) refl (lacks_without s xs)
  where
    by : (b : Bool) → eqb x s ≡ b → Lacks s (without s xs) → Lacks s (cond (not b) (x ∷ without s xs) (without s xs))
    by true e h = h
    by false e h = (differ x s e, h)

pub length_without : (s : ℕ) (os : List ℕ) → Apart os → is_in s os ≡ true → suc (length (without s os)) ≡ length os
length_without s [] a there = absurd (false≢true there)
length_without s (x ∷ xs) a there =
    elim (eqb_tells x s) [
      | inl w ↦ ap (λ (ys : List ℕ). suc (length ys)) (without_first s x xs w.1 a.0)
      | inr w ↦ ap (λ (ys : List ℕ). suc (length ys)) (without_other s x xs (differ x s w.0))
          ∙ ap suc (length_without s xs a.1 (in_rest s x xs (differ x s w.0) there))
    ]

-- what is written into a list of links

pub set_same : (ls : List ℕ) (i v : ℕ) → i < length ls → get_or (set ls i v) i 0 ≡ v
set_same ls i v lt = get_or-set_same ls i v 0 lt

pub set_other : (ls : List ℕ) (i v j : ℕ) → j ≢ i → get_or (set ls i v) j 0 ≡ get_or ls j 0
set_other ls i v j other = get_or-set_other ls i j v 0 other

pub follow_older : (ls ns : List ℕ) (a : ℕ) (os : List ℕ) (b i v : ℕ) → a ≢ i → Lacks i os → Follow ls ns a os b → Follow (set ls i v) ns a os b
follow_older ls ns a [] b i v other l f = (set_other ls i v a other ∙ f.0, f.1)
follow_older ls ns a (x ∷ xs) b i v other l f = ((set_other ls i v a other ∙ f.0.0, f.0.1), follow_older ls ns x xs b i v l.0 l.1 f.1)

pub follow_newer : (ls ns : List ℕ) (a : ℕ) (os : List ℕ) (b i v : ℕ) → b ≢ i → Lacks i os → Follow ls ns a os b → Follow ls (set ns i v) a os b
follow_newer ls ns a [] b i v other l f = (f.0, set_other ns i v b other ∙ f.1)
follow_newer ls ns a (x ∷ xs) b i v other l f = ((f.0.0, set_other ns i v x l.0 ∙ f.0.1), follow_newer ls ns x xs b i v other l.1 f.1)

-- its neighbours are those that have it as theirs

older_of_newer : (ls ns : List ℕ) (a : ℕ) (os : List ℕ) (b s : ℕ) → Follow ls ns a os b → is_in s os ≡ true → get_or ls (get_or ns s 0) 0 ≡ s
older_of_newer ls ns a [] b s f there = absurd (false≢true there)
older_of_newer ls ns a (x ∷ xs) b s f there =
    elim (eqb_tells x s) [
      | inl w ↦ ap (λ (n : ℕ). get_or ls (get_or ns n 0) 0) (sym w.1) ∙ (ap (λ (n : ℕ). get_or ls n 0) f.0.1 ∙ (f.0.0 ∙ w.1))
      | inr w ↦ older_of_newer ls ns x xs b s f.1 (in_rest s x xs (differ x s w.0) there)
    ]

newer_of_older : (ls ns : List ℕ) (a : ℕ) (os : List ℕ) (b s : ℕ) → Follow ls ns a os b → is_in s os ≡ true → get_or ns (get_or ls s 0) 0 ≡ s
newer_of_older ls ns a [] b s f there = absurd (false≢true there)
newer_of_older ls ns a (x ∷ xs) b s f there =
    elim (eqb_tells x s) [
      | inl w ↦ ap (λ (n : ℕ). get_or ns (get_or ls n 0) 0) (sym w.1) ∙ (first xs f.1 ∙ w.1)
      | inr w ↦ newer_of_older ls ns x xs b s f.1 (in_rest s x xs (differ x s w.0) there)
    ]
  where
    first : (ys : List ℕ) → Follow ls ns x ys b → get_or ns (get_or ls x 0) 0 ≡ x
    first [] g = ap (λ (n : ℕ). get_or ns n 0) g.0 ∙ g.1
    first (y ∷ ys) g = ap (λ (n : ℕ). get_or ns n 0) g.0.0 ∙ g.0.1

-- it is taken out

cut : (ls ns : List ℕ) (a : ℕ) (os : List ℕ) (b p q : ℕ) → p ≡ a → p < length ls → q < length ns → Lacks a os → Apart os → Lacks b os
    → (s : ℕ) → get_or ls s 0 ≡ q → Follow ls ns s os b → Follow (set ls p q) (set ns q p) a os b
cut ls ns a [] b p q pa pl qn l apart lb s older f =
    let qb : b ≡ q = sym f.0 ∙ older in (
      ap (λ (n : ℕ). get_or (set ls p q) n 0) (sym pa) ∙ (set_same ls p q pl ∙ sym qb),
      ap (λ (n : ℕ). get_or (set ns q p) n 0) qb ∙ (set_same ns q p qn ∙ pa),
    )
cut ls ns a (y ∷ ys) b p q pa pl qn l apart lb s older f =
    let qy : y ≡ q = sym f.0.0 ∙ older in
    let p_not : (n : ℕ) → n ≢ a → n ≢ p = λ n other e. other (e ∙ pa) in
    let far : Lacks p ys = subst (λ (n : ℕ). Lacks n ys) (sym pa) l.1 in
    let near : Lacks q ys = subst (λ (n : ℕ). Lacks n ys) qy apart.0 in
    let b_not : b ≢ q = λ e. lb.0 (qy ∙ sym e) in (
      (
        ap (λ (n : ℕ). get_or (set ls p q) n 0) (sym pa) ∙ (set_same ls p q pl ∙ sym qy),
        ap (λ (n : ℕ). get_or (set ns q p) n 0) qy ∙ (set_same ns q p qn ∙ pa),
      ),
      follow_newer (set ls p q) ns y ys b q p b_not near (follow_older ls ns y ys b p q (p_not y l.0) far f.1),
    )

unlinks : (ls ns : List ℕ) (a : ℕ) (os : List ℕ) (b s : ℕ) → get_or ns s 0 < length ls → get_or ls s 0 < length ns → Lacks a os → Apart os → Lacks b os → is_in s os ≡ true
    → Follow ls ns a os b → Follow (set ls (get_or ns s 0) (get_or ls s 0)) (set ns (get_or ls s 0) (get_or ns s 0)) a (without s os) b
unlinks ls ns a [] b s pl qn l apart lb there f = absurd (false≢true there)
unlinks ls ns a (x ∷ xs) b s pl qn l apart lb there f =
    elim (eqb_tells x s) [
      | inl w ↦
          let p : get_or ns s 0 ≡ a = ap (λ (n : ℕ). get_or ns n 0) (sym w.1) ∙ f.0.1 in
          subst (λ (ys : List ℕ). Follow (set ls (get_or ns s 0) (get_or ls s 0)) (set ns (get_or ls s 0) (get_or ns s 0)) a ys b)
          (sym (without_first s x xs w.1 apart.0))
          (cut ls ns a xs b (get_or ns s 0) (get_or ls s 0) p pl qn l.1 apart.1 lb.1 x (ap (λ (n : ℕ). get_or ls n 0) w.1) f.1)
      | inr w ↦
          let other : x ≢ s = differ x s w.0 in
          let rest : is_in s xs ≡ true = in_rest s x xs other there in
          let a_not : a ≢ get_or ns s 0 = λ e. other (sym f.0.0 ∙ (ap (λ (n : ℕ). get_or ls n 0) e ∙ older_of_newer ls ns x xs b s f.1 rest)) in
          let x_not : x ≢ get_or ls s 0 = λ e. in_not s xs (subst (λ (n : ℕ). Lacks n xs) (sym f.0.1 ∙ (ap (λ (n : ℕ). get_or ns n 0) e ∙ newer_of_older ls ns x xs b s f.1 rest)) l.1) rest in
          subst (λ (ys : List ℕ). Follow (set ls (get_or ns s 0) (get_or ls s 0)) (set ns (get_or ls s 0) (get_or ns s 0)) a ys b)
          (sym (without_other s x xs other)) (
            (
              set_other ls (get_or ns s 0) (get_or ls s 0) a a_not ∙ f.0.0,
              set_other ns (get_or ls s 0) (get_or ns s 0) x x_not ∙ f.0.1,
            ),
            unlinks ls ns x xs b s pl qn apart.0 apart.1 lb.1 rest f.1,
          )
    ]

pub lacks_zero : (n : ℕ) (os : List ℕ) → AllByRecursion (λ s. (0 < s) × (s < n)) os → Lacks 0 os
lacks_zero n [] a = tt
lacks_zero n (x ∷ xs) a = ((λ e. absurd (let some = a.0.0 in omega (arith, e, some))), lacks_zero n xs a.1)

so_long : (n m : ℕ) (os : List ℕ) → n ≡ m → AllByRecursion (λ s. (0 < s) × (s < n)) os → AllByRecursion (λ s. (0 < s) × (s < m)) os
so_long n m os e a = subst (λ (k : ℕ). AllByRecursion (λ s. (0 < s) × (s < k)) os) e a

pub linked_without : (ls ns ls' ns' : List ℕ) (s : ℕ) → get_or ns s 0 < length ls → get_or ls s 0 < length ns
    → ls' ≡ set ls (get_or ns s 0) (get_or ls s 0) → ns' ≡ set ns (get_or ls s 0) (get_or ns s 0)
    → (os : List ℕ) → is_in s os ≡ true → IsLinked ls ns os → IsLinked ls' ns' (without s os)
linked_without ls ns ls' ns' s pl qn le ne os there k =
    let zero_not = lacks_zero (length ls) os k.within in
    let len : length ls' ≡ length ls = ap length le ∙ length-set ls (get_or ns s 0) (get_or ls s 0) in
    record {
      follow = rw (le, ne) (unlinks ls ns 0 os 0 s pl qn zero_not k.apart zero_not there k.follow);
      apart = apart_without s os k.apart;
      within = so_long (length ls) (length ls') (without s os) (sym len) (all_without (λ t. (0 < t) × (t < length ls)) s os k.within);
      same = ap length ne ∙ (length-set ns (get_or ls s 0) (get_or ns s 0) ∙ (k.same ∙ sym len));
    }

-- it is put in front

put_front : (ls ns : List ℕ) (os : List ℕ) (b s f : ℕ) → s < length ls → f < length ns → b ≡ 0 → 0 < s → Lacks s os → Apart os → Lacks 0 os → get_or ls 0 0 ≡ f → Follow ls ns 0 os b
    → Follow (set ls s f) (set ns f s) s os b
put_front ls ns [] b s f sl fn b0 some ls_not apart zero_not first g =
    let fb : b ≡ f = sym g.0 ∙ first in
    (set_same ls s f sl ∙ sym fb, ap (λ (n : ℕ). get_or (set ns f s) n 0) fb ∙ set_same ns f s fn)
put_front ls ns (x ∷ xs) b s f sl fn b0 some ls_not apart zero_not first g =
    let fx : x ≡ f = sym g.0.0 ∙ first in
    let b_not : b ≢ f = λ e. zero_not.0 (fx ∙ (sym e ∙ b0)) in (
      (set_same ls s f sl ∙ sym fx, ap (λ (n : ℕ). get_or (set ns f s) n 0) fx ∙ set_same ns f s fn),
      follow_newer (set ls s f) ns x xs b f s b_not (subst (λ (n : ℕ). Lacks n xs) fx apart.0) (follow_older ls ns x xs b s f ls_not.0 ls_not.1 g.1),
    )

pub linked_first : (ls ns ls' ns' : List ℕ) (s : ℕ) → get_or ls 0 0 < length ns → s < length ls → s < length ns → 0 < s
    → ls' ≡ set (set ls s (get_or ls 0 0)) 0 s → ns' ≡ set (set ns (get_or ls 0 0) s) s 0
    → (os : List ℕ) → is_in s os ≡ false → IsLinked ls ns os → IsLinked ls' ns' (s ∷ os)
linked_first ls ns ls' ns' s fn sl sn some le ne os not_there k =
    let f : ℕ = get_or ls 0 0 in
    let s_not = lacked s os not_there in
    let zero_not = lacks_zero (length ls) os k.within in
    let apart0 : 0 ≢ s = λ e. absurd (omega (arith, e, some)) in
    let apart1 : s ≢ 0 = λ e. apart0 (sym e) in
    let len1 : length (set ls s f) ≡ length ls = length-set ls s f in
    let len2 : length (set ns f s) ≡ length ns = length-set ns f s in
    let put = put_front ls ns os 0 s f sl fn refl some s_not k.apart zero_not refl k.follow in
    let follow1 = follow_older (set ls s f) (set ns f s) s os 0 0 s apart1 zero_not put in
    let follow2 = follow_newer (set (set ls s f) 0 s) (set ns f s) s os 0 s 0 apart0 s_not follow1 in
    let len : length ls' ≡ length ls = ap length le ∙ (length-set (set ls s f) 0 s ∙ len1) in
    record {
      follow = subst (λ (xs : List ℕ). Follow xs ns' 0 (s ∷ os) 0) (sym le) (subst (λ (ys : List ℕ). Follow (set (set ls s f) 0 s) ys 0 (s ∷ os) 0) (sym ne)
          ((set_same (set ls s f) 0 s (omega (arith, len1, sl)), set_same (set ns f s) s 0 (omega (arith, len2, sn))), follow2));
      apart = (s_not, k.apart);
      within = so_long (length ls) (length ls') (s ∷ os) (sym len) ((some, sl), k.within);
      same = ap length ne ∙ (length-set (set ns f s) s 0 ∙ (len2 ∙ (k.same ∙ sym len)));
    }

-- it is put at the end

put_end : (ls ns : List ℕ) (a : ℕ) (os : List ℕ) (b s l : ℕ) → l < length ls → s < length ns → get_or ns b 0 ≡ l → Lacks a os → Apart os → Lacks s os → a ≢ s → Follow ls ns a os b
    → Follow (set ls l s) (set ns s l) a os s
put_end ls ns a [] b s l ll sn last a_not apart s_not differs g =
    let al : a ≡ l = sym g.1 ∙ last in
    (ap (λ (n : ℕ). get_or (set ls l s) n 0) al ∙ set_same ls l s ll, set_same ns s l sn ∙ sym al)
put_end ls ns a (x ∷ xs) b s l ll sn last a_not apart s_not differs g =
    let l_in : is_in l (x ∷ xs) ≡ true = last_in x xs g.1 in
    let a_other : a ≢ l = λ e. in_not l (x ∷ xs) (subst (λ (n : ℕ). Lacks n (x ∷ xs)) e a_not) l_in in (
      (set_other ls l s a a_other ∙ g.0.0, set_other ns s l x s_not.0 ∙ g.0.1),
      put_end ls ns x xs b s l ll sn last apart.0 apart.1 s_not.1 s_not.0 g.1,
    )
  where
    last_in : (y : ℕ) (ys : List ℕ) → Follow ls ns y ys b → is_in l (y ∷ ys) ≡ true
    last_in y [] h = rw (is_same y l (sym h.1 ∙ last)) refl
    last_in y (z ∷ zs) h = more (eqb y l) (is_in l (z ∷ zs)) (last_in z zs h.1)
      where
        more : (p q : Bool) → q ≡ true → (p || q) ≡ true
        more true q e = refl
        more false q e = e

follow_push : (ls ns : List ℕ) (a : ℕ) (os : List ℕ) (s b : ℕ) → Follow ls ns a os s → get_or ls s 0 ≡ b → get_or ns b 0 ≡ s → Follow ls ns a (os ++ s ∷ []) b
follow_push ls ns a [] s b g older newer = (g, (older, newer))
follow_push ls ns a (x ∷ xs) s b g older newer = (g.0, follow_push ls ns x xs s b g.1 older newer)

all_push : (P : ℕ → Type 0) (os : List ℕ) (s : ℕ) → AllByRecursion P os → P s → AllByRecursion P (os ++ s ∷ [])
all_push P [] s a p = (p, tt)
all_push P (x ∷ xs) s a p = (a.0, all_push P xs s a.1 p)

pub apart_push : (os : List ℕ) (s : ℕ) → Lacks s os → Apart os → Apart (os ++ s ∷ [])
apart_push [] s l a = (tt, tt)
apart_push (x ∷ xs) s l a = (all_push (λ t. t ≢ x) xs s a.0 (λ e. l.0 (sym e)), apart_push xs s l.1 a.1)

pub linked_last : (ls ns ls' ns' : List ℕ) (s : ℕ) → get_or ns 0 0 < length ls → s < length ls → s < length ns → 0 < s
    → ls' ≡ set (set ls (get_or ns 0 0) s) s 0 → ns' ≡ set (set ns s (get_or ns 0 0)) 0 s
    → (os : List ℕ) → is_in s os ≡ false → IsLinked ls ns os → IsLinked ls' ns' (os ++ s ∷ [])
linked_last ls ns ls' ns' s ll sl sn some le ne os not_there k =
    let l : ℕ = get_or ns 0 0 in
    let s_not = lacked s os not_there in
    let zero_not = lacks_zero (length ls) os k.within in
    let apart0 : 0 ≢ s = λ e. absurd (omega (arith, e, some)) in
    let apart1 : s ≢ 0 = λ e. apart0 (sym e) in
    let len1 : length (set ls l s) ≡ length ls = length-set ls l s in
    let len2 : length (set ns s l) ≡ length ns = length-set ns s l in
    let put = put_end ls ns 0 os 0 s l ll sn refl zero_not k.apart s_not apart0 k.follow in
    let follow1 = follow_older (set ls l s) (set ns s l) 0 os s s 0 apart0 s_not put in
    let follow2 = follow_newer (set (set ls l s) s 0) (set ns s l) 0 os s 0 s apart1 zero_not follow1 in
    let len : length ls' ≡ length ls = ap length le ∙ (length-set (set ls l s) s 0 ∙ len1) in
    record {
      follow = rw (le, ne) (follow_push (set (set ls l s) s 0) (set (set ns s l) 0 s) 0 os s 0 follow2
          (set_same (set ls l s) s 0 (omega (arith, len1, sl))) (set_same (set ns s l) 0 s (omega (arith, len2, sn))));
      apart = apart_push os s s_not k.apart;
      within = so_long (length ls) (length ls') (os ++ s ∷ []) (sym len) (all_push (λ t. (0 < t) × (t < length ls)) os s k.within (some, sl));
      same = ap length ne ∙ (length-set (set ns s l) 0 s ∙ (len2 ∙ (k.same ∙ sym len)));
    }

-- what a walk meets

pub walk_is : (ls ns : List ℕ) (a : ℕ) (os : List ℕ) (b : ℕ) → Follow ls ns a os b → walk (length os) ls a ≡ os
walk_is ls ns a [] b f = refl
walk_is ls ns a (x ∷ xs) b f =
    ap (λ (n : ℕ). n ∷ walk (length xs) ls n) f.0.0 ∙ ap (λ (ys : List ℕ). x ∷ ys) (walk_is ls ns x xs b f.1)

pub length_walk : (n : ℕ) (ls : List ℕ) (a : ℕ) → length (walk n ls a) ≡ n
length_walk zero ls a = refl
length_walk (suc n) ls a = ap suc (length_walk n ls (get_or ls a 0))

pub last_is : (ls ns : List ℕ) (a : ℕ) (os : List ℕ) (b : ℕ) → Follow ls ns a os b → get_or ns b 0 ≡ last_of a os
last_is ls ns a [] b f = f.1
last_is ls ns a (x ∷ xs) b f = last_is ls ns x xs b f.1

pub numbers_are : (ls ns os : List ℕ) → IsLinked ls ns os → length ls ≡ suc (length os) → numbers_in ls ≡ os
numbers_are ls ns os k len =
    let so_many : length ls - 1 ≡ length os = omega (arith, len) in
    ap (λ (n : ℕ). walk n ls 0) so_many ∙ walk_is ls ns 0 os 0 k.follow

-- the neighbours of one are in the ring

newer_below : (n : ℕ) (ls ns : List ℕ) (a : ℕ) (os : List ℕ) (b s : ℕ) → a < n → AllByRecursion (λ t. (0 < t) × (t < n)) os → Follow ls ns a os b → is_in s os ≡ true → get_or ns s 0 < n
newer_below n ls ns a [] b s lt w f there = absurd (false≢true there)
newer_below n ls ns a (x ∷ xs) b s lt w f there =
    elim (eqb_tells x s) [
      | inl v ↦ let e : get_or ns s 0 ≡ a = ap (λ (m : ℕ). get_or ns m 0) (sym v.1) ∙ f.0.1 in omega (arith, e, lt)
      | inr v ↦ newer_below n ls ns x xs b s w.0.1 w.1 f.1 (in_rest s x xs (differ x s v.0) there)
    ]

older_below : (n : ℕ) (ls ns : List ℕ) (a : ℕ) (os : List ℕ) (b s : ℕ) → b < n → AllByRecursion (λ t. (0 < t) × (t < n)) os → Follow ls ns a os b → is_in s os ≡ true → get_or ls s 0 < n
older_below n ls ns a [] b s lt w f there = absurd (false≢true there)
older_below n ls ns a (x ∷ xs) b s lt w f there =
    elim (eqb_tells x s) [
      | inl v ↦ let e = ap (λ (m : ℕ). get_or ls m 0) v.1 in let below = first xs w.1 f.1 in omega (arith, e, below)
      | inr v ↦ older_below n ls ns x xs b s lt w.1 f.1 (in_rest s x xs (differ x s v.0) there)
    ]
  where
    first : (ys : List ℕ) → AllByRecursion (λ t. (0 < t) × (t < n)) ys → Follow ls ns x ys b → get_or ls x 0 < n
    first [] v g = let e = g.0 in omega (arith, e, lt)
    first (y ∷ ys) v g = let e = g.0.0 in let below = v.0.1 in omega (arith, e, below)

within_at : (n : ℕ) (os : List ℕ) (s : ℕ) → AllByRecursion (λ t. (0 < t) × (t < n)) os → is_in s os ≡ true → (0 < s) × (s < n)
within_at n [] s w there = absurd (false≢true there)
within_at n (x ∷ xs) s w there =
    elim (eqb_tells x s) [
      | inl v ↦ subst (λ (m : ℕ). (0 < m) × (m < n)) v.1 w.0
      | inr v ↦ within_at n xs s w.1 (in_rest s x xs (differ x s v.0) there)
    ]

-- What reading and writing at a number of the ring owe.
pub record IsInside (ls ns : List ℕ) (s : ℕ) : Type 0 where
  pub some : 0 < s
  pub older : s < length ls
  pub newer : s < length ns
  pub before : get_or ns s 0 < length ls
  pub behind : get_or ls s 0 < length ns

pub inside : (ls ns os : List ℕ) (s : ℕ) → IsLinked ls ns os → is_in s os ≡ true → IsInside ls ns s
inside ls ns os s k there =
    let w = within_at (length ls) os s k.within there in
    let ring : 0 < length ls = omega (arith, w.0, w.1) in
    let same = k.same in
    record {
      some = w.0;
      older = w.1;
      newer = omega (arith, same, w.1);
      before = newer_below (length ls) ls ns 0 os 0 s ring k.within k.follow there;
      behind = (let below = older_below (length ls) ls ns 0 os 0 s ring k.within k.follow there in omega (arith, same, below));
    }

-- So are the neighbours of 0.
pub first_below : (ls ns os : List ℕ) → IsLinked ls ns os → 0 < length ls → get_or ls 0 0 < length ns
first_below ls ns [] k ring = let e = k.follow.0 in let same = k.same in omega (arith, e, ring, same)
first_below ls ns (x ∷ xs) k ring = let e = k.follow.0.0 in let below = k.within.0.1 in let same = k.same in omega (arith, e, below, same)

last_below : (n a : ℕ) (os : List ℕ) → a < n → AllByRecursion (λ t. (0 < t) × (t < n)) os → last_of a os < n
last_below n a [] lt w = lt
last_below n a (x ∷ xs) lt w = last_below n x xs w.0.1 w.1

pub newest_below : (ls ns os : List ℕ) → IsLinked ls ns os → 0 < length ls → get_or ns 0 0 < length ls
newest_below ls ns os k ring =
    let e = last_is ls ns 0 os 0 k.follow in
    let below = last_below (length ls) 0 os ring k.within in
    omega (arith, e, below)

-- What was read is what stands there, whatever stands in for it.
pub read_at : (ls : List ℕ) (i y : ℕ) → i < length ls → y ≡ get_or ls i y → y ≡ get_or ls i 0
read_at [] i y lt e = absurd (omega (arith, lt))
read_at (x ∷ xs) zero y lt e = e
read_at (x ∷ xs) (suc i) y lt e = read_at xs i y (omega (arith, lt)) e

pub first_gives : (ns : List ℕ) (x : ℕ) → Some x ≡ slice_get ns 0 → x ≡ get_or ns 0 0
first_gives [] x e = absurd cc
first_gives (n ∷ ns) x e = cc
