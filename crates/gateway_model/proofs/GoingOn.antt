-- A client is told to go on once a request.
use Rattle.std.proofs.Common.{◌≡◌, ◌≢◌, ◌⊎◌, inl, inr, ℕ, ◌+◌, ◌≤◌, Bool, true, false, cond, List, [], ◌∷◌, ◌++◌, Option, Some, None, refl, sym, ap, ◌∙◌, subst, arith, eqb-true, eq-eqb, length}
use Rattle.gateway_model.proofs.Recounting.{recount-at}
use Rattle.std.specs.Prelude.{◌==◌}
use Rattle.std.proofs.lemmas.Bool.{both_ways}
use Rattle.ask_model.specs.Views.{Ask}
use Rattle.http_mapping.specs.Means.{closes}
use Rattle.gateway_model.specs.declared.input.When.{When}
use Rattle.gateway_model.specs.Acts.{Act, Opens, TurnsAway, Takes, Hears, Passes, Asks, Denies, Sends, Tells, GoesOn, GivesUp, Forgoes, Rests, Leaves, Misses, Served, Terms, AsksItem, IsClosing, Ends, Does, DoesAll}
use Rattle.gateway_model.specs.Continuing.{goes_by, goes_in, reads_by, reads_in, opens_by, opens_in, untold, ActsContinue}
use Rattle.gateway_model.specs.Emissions.{Emission}
use Rattle.gateway_model.specs.Resting.{any_terms}
use Rattle.gateway_model.specs.Unasked.{Unasked, unasked_at, no_bytes, changed_at, extended}
use Rattle.gateway_model.proofs.Awaiting.{which}
use Rattle.gateway_model.proofs.Numbers.{at-number, extended-number}
use Rattle.gateway_model.proofs.Serving.{item-others, gone-shut}
use Rattle.gateway_model.proofs.Standing.{others-same, own-before, others-left, added-at}

abbrev owed : ℕ → Served → ℕ
owed c s = untold (unasked_at c s.unasked)

at-most-one : (o : Option Unasked) → untold o ≤ 1
at-most-one None = omega arith
at-most-one (Some x) = by x.told
  where
    by : (b : Bool) → cond b 0 1 ≤ 1
    by true = omega arith
    by false = omega arith

-- Where what stands stood so before, no more is owed.
no-more : (o p : Option Unasked) → ((x : Unasked) → o ≡ Some x → p ≡ Some x) → untold o ≤ untold p
no-more None p f = zero-le (untold p)
  where
    zero-le : (n : ℕ) → 0 ≤ n
    zero-le n = omega arith
no-more (Some x) p f = subst (λ (q : Option Unasked). untold (Some x) ≤ untold q) (sym (f x refl)) (same (untold (Some x)))
  where
    same : (n : ℕ) → n ≤ n
    same n = omega arith

told-same : (o p : Option Unasked) → ((x : Unasked) → o ≡ Some x → (y : Unasked) × (p ≡ Some y) × (y.told ≡ x.told))
    → untold o ≤ untold p
told-same None p f = no-more None p (λ x e. absurd cc)
told-same (Some x) p f =
    let y = f x refl in
    subst (λ (q : Option Unasked). untold (Some x) ≤ untold q) (sym y.1)
    (subst (λ (b : Bool). untold (Some x) ≤ cond b 0 1) (sym y.2) (same (untold (Some x))))
  where
    same : (n : ℕ) → n ≤ n
    same n = omega arith

-- one act: what it tells, and what is owed after it, are no more than what it reads and what was owed
abbrev IsOnce : ℕ → Act → Served → Served → Type 0
IsOnce c a old new = goes_by c a + owed c new ≤ reads_by c a + (owed c old + opens_by c a)

plain : (n m : ℕ) → n ≤ m → 0 + n ≤ 0 + (m + 0)
plain n m le = omega arith

kept : (c : ℕ) (old new : Served) → ((x : Unasked) → unasked_at c new.unasked ≡ Some x → unasked_at c old.unasked ≡ Some x)
    → owed c new ≤ owed c old
kept c old new f = no-more (unasked_at c new.unasked) (unasked_at c old.unasked) f

same-at : (c : ℕ) (old new : Served) → new.unasked ≡ old.unasked → owed c new ≤ owed c old
same-at c old new e = kept c old new (λ x h. subst (λ (xs : List Unasked). unasked_at c xs ≡ Some x) e h)

shut-at : (w : When) (c d : ℕ) (old new : Served) → IsClosing w d old new → owed c new ≤ owed c old
shut-at w c d old new h = kept c old new (λ x e. by x e (which c d))
  where
    by : (x : Unasked) → unasked_at c new.unasked ≡ Some x → (c ≡ d) ⊎ (c ≢ d) → unasked_at c old.unasked ≡ Some x
    by x e (inl same) = absurd (gone-shut w d old new h x (subst (λ (i : ℕ). unasked_at i new.unasked ≡ Some x) same e))
    by x e (inr ne) = others-left d c old.unasked x ne (subst (λ (xs : List Unasked). unasked_at c xs ≡ Some x) h.1 e)

-- a request is read
read-at : (M : Terms) (c d n : ℕ) (ask : Ask) (old mid new : Served) → AsksItem M d ask old mid
    → owed c new ≤ owed c mid → (c ≢ d → n ≡ 0) → (c ≡ d → n ≡ 1) → 0 + owed c new ≤ n + (owed c old + 0)
read-at M c d n ask old mid new r le other own = by (which c d)
  where
    by : (c ≡ d) ⊎ (c ≢ d) → 0 + owed c new ≤ n + (owed c old + 0)
    by (inl e) =
        let one = at-most-one (unasked_at c new.unasked) in
        let is = own e in
        omega (arith, one, is)
    by (inr ne) =
        let same = kept c old mid (λ x e. item-others d c M ask old mid ne r x e) in
        omega (arith, le, same)

counted : (c d : ℕ) → ((c ≢ d) → cond {A = ℕ} (d == c) 1 0 ≡ 0) × ((c ≡ d) → cond {A = ℕ} (d == c) 1 0 ≡ 1)
counted c d = by (d == c) refl
  where
    by : (b : Bool) → (d == c) ≡ b → ((c ≢ d) → cond {A = ℕ} b 1 0 ≡ 0) × ((c ≡ d) → cond {A = ℕ} b 1 0 ≡ 1)
    by true t = (λ ne. absurd (ne (sym (eqb-true d c t))), λ e. refl)
    by false t = (λ ne. refl, λ e. absurd (both_ways (d == c) t (eq-eqb d c (sym e))))

once : (M : Terms) (w : When) (c : ℕ) (a : Act) (old : Served) (out : List Emission) (new : Served)
    → Does M w a old out new → IsOnce c a old new
once M w c (Opens d) old out new h = by (which c d)
  where
    by : (c ≡ d) ⊎ (c ≢ d) → 0 + owed c new ≤ 0 + (owed c old + cond (d == c) 1 0)
    by (inl e) =
        let one = at-most-one (unasked_at c new.unasked) in
        let is = (counted c d).1 e in
        omega (arith, one, is)
    by (inr ne) =
        let same = kept c old new (λ x e. there x e (added-at d c old.unasked x (subst (λ (xs : List Unasked). unasked_at c xs ≡ Some x) h.1 e))) in
        omega (arith, same)
      where
        there : (x : Unasked) → unasked_at c new.unasked ≡ Some x → (unasked_at c old.unasked ≡ Some x) ⊎ (x ≡ no_bytes d)
            → unasked_at c old.unasked ≡ Some x
        there x e (inl before) = before
        there x e (inr is) =
            absurd (ne (sym (at-number c new.unasked x e) ∙ ap (λ (y : Unasked). y.number) is))
once M w c TurnsAway old out new h = plain (owed c new) (owed c old) (same-at c old new h.1)
once M w c (Takes d bytes) old out new h = plain (owed c new) (owed c old)
    (told-same (unasked_at c new.unasked) (unasked_at c old.unasked) (λ x e. by x e (which c d)))
  where
    kept_told : (x : Unasked) → (extended bytes x).told ≡ x.told
    kept_told x = one x.closing
      where
        one : (b : Bool) → (cond b x (record x { text = x.text ++ bytes; unread = x.unread + length bytes })).told ≡ x.told
        one true = refl
        one false = refl

    by : (x : Unasked) → unasked_at c new.unasked ≡ Some x → (c ≡ d) ⊎ (c ≢ d)
        → (y : Unasked) × (unasked_at c old.unasked ≡ Some y) × (y.told ≡ x.told)
    by x e (inl same) =
        let before = own-before d (extended bytes) old.unasked x (λ z n. extended-number bytes z ∙ n)
        (subst (λ (i : ℕ). unasked_at i (changed_at d (extended bytes) old.unasked) ≡ Some x) same
        (subst (λ (s : Served). unasked_at c s.unasked ≡ Some x) h.0 e)) in (
          before.0,
          subst (λ (i : ℕ). unasked_at i old.unasked ≡ Some before.0) (sym same) before.1,
          sym (ap (λ (z : Unasked). z.told) before.2 ∙ kept_told before.0),
        )
    by x e (inr ne) = (
      x,
      sym (others-same d c (extended bytes) old.unasked ne (λ z n. extended-number bytes z ∙ n))
          ∙ subst (λ (s : Served). unasked_at c s.unasked ≡ Some x) h.0 e,
      refl,
    )
once M w c (Hears p bytes) old out new h = plain (owed c new) (owed c old) (same-at c old new h.1)
once M w c Passes old out new h =
    plain (owed c new) (owed c old) (same-at c old new (ap (λ (s : Served). s.unasked) h.0))
once M w c (Asks d) old out new h =
    read-at M c d (cond (d == c) 1 0) h.0.ask old new new h.0.reads (same-at c new new refl) (counted c d).0 (counted c d).1
once M w c (Denies d) old out new h =
    read-at M c d (cond (d == c) 1 0) h.1.ask old h.0 new h.1.reads (shut-at w c d h.0 new h.2) (counted c d).0 (counted c d).1
once M w c Sends old out new h = plain (owed c new) (owed c old) (same-at c old new h.unasked)
once M w c (Tells d k) old out new h = plain (owed c new) (owed c old) (by (closes h.answer.mapping.came) h.ends)
  where
    told : owed c h.told ≤ owed c old
    told = same-at c old h.told h.unasked

    by : (b : Bool) → Ends w d b h.told h.after new → owed c new ≤ owed c old
    by true e = let shut = shut-at w c d h.told new e.0 in omega (arith, shut, told)
    by false e = let same = same-at c h.told new (ap (λ (s : Served). s.unasked) e.0) in omega (arith, same, told)
once M w c (GoesOn d) old out new h = by (which c d)
  where
    keeps : (x : Unasked) → x.number ≡ d → h.0.before.number ≡ d
    keeps x n = at-number d old.unasked h.0.before h.0.stands

    none_owed : c ≡ d → owed c new ≤ 0
    none_owed e = subst (λ (i : ℕ). owed i new ≤ 0) (sym e) (own (unasked_at d new.unasked) refl)
      where
        own : (o : Option Unasked) → unasked_at d new.unasked ≡ o → untold o ≤ 0
        own None f = omega arith
        own (Some x) f =
            let before = own-before d (λ (z : Unasked). record h.0.before { told = true; unread = h.0.unread }) old.unasked x keeps
            (subst (λ (xs : List Unasked). unasked_at d xs ≡ Some x) h.0.left f) in
            subst (λ (b : Bool). cond b 0 1 ≤ 0) (sym (ap (λ (z : Unasked). z.told) before.2)) (omega arith)

    one_owed : c ≡ d → owed c old ≡ 1
    one_owed e =
        ap (λ (i : ℕ). owed i old) e ∙ ap untold h.0.stands ∙ ap (λ (b : Bool). cond b 0 1) h.0.untold

    by : (c ≡ d) ⊎ (c ≢ d) → cond (d == c) 1 0 + owed c new ≤ 0 + (owed c old + 0)
    by (inl e) =
        let is = (counted c d).1 e in
        let none = none_owed e in
        let one = one_owed e in
        omega (arith, is, none, one)
    by (inr ne) =
        let is = (counted c d).0 ne in
        let same = kept c old new (λ x e. sym (others-same d c (λ (z : Unasked). record h.0.before { told = true; unread = h.0.unread }) old.unasked ne keeps)
        ∙ subst (λ (xs : List Unasked). unasked_at c xs ≡ Some x) h.0.left e) in
        omega (arith, is, same)
once M w c (GivesUp d) old out new h = plain (owed c new) (owed c old) (shut-at w c d old new h.0)
once M w c (Forgoes d k) old out new h =
    plain (owed c new) (owed c old)
    (let shut = shut-at w c d h.0 new h.2 in
    let told = same-at c old h.0 h.1.unasked in
    omega (arith, shut, told))
once M w c (Rests d) old out new h =
    plain (owed c new) (owed c old)
    (told-same (unasked_at c new.unasked) (unasked_at c old.unasked)
    (λ x e. let y = recount-at d c old.unasked new.unasked h.2 x e in (y.0, y.1, sym (ap (λ (z : Unasked). z.told) y.2))))
once M w c (Leaves d) old out new h = plain (owed c new) (owed c old) (shut-at w c d old new h.0)
once M w c (Misses d) old out new h =
    plain (owed c new) (owed c old) (same-at c old new (ap (λ (s : Served). s.unasked) h.0))

pub all-once : (M : Terms) (w : When) (acts : List Act) (old : Served) (out : List Emission) (new : Served) (c : ℕ)
    → DoesAll M w acts old out new
    → goes_in c acts + untold (unasked_at c new.unasked)
    ≤ reads_in c acts + (untold (unasked_at c old.unasked) + opens_in c acts)
all-once M w [] old out new c h = plain (owed c new) (owed c old) (same-at c old new (ap (λ (s : Served). s.unasked) h.0))
all-once M w (a ∷ acts) old out new c h =
    add (goes_by c a) (goes_in c acts) (reads_by c a) (reads_in c acts) (opens_by c a) (opens_in c acts) (owed c old) (owed c h.0) (owed c new)
    (once M w c a old h.1 h.0 h.3) (all-once M w acts h.0 h.2 new c h.4)
  where
    add : (g gs r rs o os x y z : ℕ) → g + y ≤ r + (x + o) → gs + z ≤ rs + (y + os) → g + gs + z ≤ r + rs + (x + (o + os))
    add g gs r rs o os x y z p q = omega arith

pub acts-continue : ActsContinue
acts-continue w acts old out new c h = all-once any_terms w acts old out new c h
