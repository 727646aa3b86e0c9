-- Which bytes stand at a connection, after what is done for it or for another.
use Rattle.std.proofs.Common.{◌≡◌, ◌≢◌, ◌⊎◌, inl, inr, ℕ, Bool, true, false, cond, not, List, [], ◌∷◌, ◌++◌, map, Option, Some, None, refl, sym, ap, ◌∙◌, subst, eqb-true, eq-eqb}
use Rattle.std.specs.Prelude.{◌==◌, if◌then◌else◌}
use Rattle.std.proofs.lemmas.Bool.{ne_eqb, both_ways}
use Rattle.history_laws.proofs.CallerLemmas.{none-some, some-is}
use Rattle.exchange_model.specs.declared.kept.Conn.{Conn}
use Rattle.exchange_model.specs.Resting.{HasConn}
use Rattle.gateway_model.specs.Acts.{Served}
use Rattle.gateway_model.specs.Resting.{number_of, IsNumbered}
use Rattle.gateway_model.specs.Unasked.{Unasked, unasked_at, no_bytes, without, changed_at}
use Rattle.gateway_model.specs.Waiting.{conn_id}

-- what stands at a connection

pub others-same : (c d : ℕ) (f : Unasked → Unasked) (xs : List Unasked) → d ≢ c
    → ((x : Unasked) → x.number ≡ c → (f x).number ≡ c) → unasked_at d (changed_at c f xs) ≡ unasked_at d xs
others-same c d f [] ne h = refl
others-same c d f (x ∷ xs) ne h = by (x.number == c) refl (others-same c d f xs ne h)
  where
    by : (b : Bool) → (x.number == c) ≡ b → unasked_at d (changed_at c f xs) ≡ unasked_at d xs
        → unasked_at d (cond b (f x) x ∷ changed_at c f xs) ≡ unasked_at d (x ∷ xs)
    by true e ih =
        let n : x.number ≡ c = eqb-true x.number c e in
        let p : (x.number == d) ≡ false = ne_eqb x.number d (λ q. ne (sym q ∙ n)) in
        let q : ((f x).number == d) ≡ false = ne_eqb (f x).number d (λ q. ne (sym q ∙ h x n)) in
        rw (p, q) ih
    by false e ih = ap (λ (o : Option Unasked). if x.number == d then Some x else o) ih

pub own-before : (c : ℕ) (f : Unasked → Unasked) (xs : List Unasked) (y : Unasked)
    → ((x : Unasked) → x.number ≡ c → (f x).number ≡ c) → unasked_at c (changed_at c f xs) ≡ Some y
    → (x : Unasked) × (unasked_at c xs ≡ Some x) × (y ≡ f x)
own-before c f [] y h e = absurd (none-some y e)
own-before c f (x ∷ xs) y h e = by (x.number == c) refl e (own-before c f xs y h)
  where
    by : (b : Bool) → (x.number == c) ≡ b → unasked_at c (cond b (f x) x ∷ changed_at c f xs) ≡ Some y
        → (unasked_at c (changed_at c f xs) ≡ Some y → (z : Unasked) × (unasked_at c xs ≡ Some z) × (y ≡ f z))
        → (z : Unasked) × (cond (x.number == c) (Some x) (unasked_at c xs) ≡ Some z) × (y ≡ f z)
    by true t e ih =
        let n : x.number ≡ c = eqb-true x.number c t in
        let m : ((f x).number == c) ≡ true = eq-eqb (f x).number c (h x n) in
        let is : Some (f x) ≡ Some y = rw m at e in
        (x, rw t refl, sym (some-is (f x) y is))
    by false t e ih =
        let later : unasked_at c (changed_at c f xs) ≡ Some y = rw t at e in
        let found = ih later in
        (found.0, rw t found.1, found.2)

pub left-one : (b : Bool) (d : ℕ) (x y : Unasked) (ys : List Unasked) (o : Option Unasked) → (unasked_at d ys ≡ Some y → o ≡ Some y)
    → ((b ≡ false) → (x.number == d) ≡ false) → unasked_at d (cond b (x ∷ ys) ys) ≡ Some y
    → cond (x.number == d) (Some x) o ≡ Some y
left-one true d x y ys o f g e = by (x.number == d) e
  where
    by : (b : Bool) → cond b (Some x) (unasked_at d ys) ≡ Some y → cond b (Some x) o ≡ Some y
    by true e = e
    by false e = f e
left-one false d x y ys o f g e = rw (g refl) (f e)

pub others-left : (c d : ℕ) (xs : List Unasked) (y : Unasked) → d ≢ c → unasked_at d (without c xs) ≡ Some y
    → unasked_at d xs ≡ Some y
others-left c d [] y ne e = e
others-left c d (x ∷ xs) y ne e =
    left-one (not (x.number == c)) d x y (without c xs) (unasked_at d xs) (others-left c d xs y ne) (by (x.number == c) refl) e
  where
    by : (b : Bool) → (x.number == c) ≡ b → not b ≡ false → (x.number == d) ≡ false
    by true t h = ne_eqb x.number d (λ q. ne (sym q ∙ eqb-true x.number c t))
    by false t h = absurd (both_ways true h refl)

pub gone-one : (b : Bool) (c : ℕ) (x y : Unasked) (ys : List Unasked) → (x.number == c) ≡ b → (unasked_at c ys ≡ Some y → ⊥)
    → unasked_at c (cond (not b) (x ∷ ys) ys) ≡ Some y → ⊥
gone-one true c x y ys t f e = f e
gone-one false c x y ys t f e = f (rw t at e)

pub own-gone : (c : ℕ) (xs : List Unasked) (y : Unasked) → unasked_at c (without c xs) ≡ Some y → ⊥
own-gone c [] y e = none-some y e
own-gone c (x ∷ xs) y e = gone-one (x.number == c) c x y (without c xs) refl (own-gone c xs y) e

pub added-at : (c d : ℕ) (xs : List Unasked) (y : Unasked) → unasked_at d (xs ++ no_bytes c ∷ []) ≡ Some y
    → (unasked_at d xs ≡ Some y) ⊎ (y ≡ no_bytes c)
added-at c d [] y e = by (c == d) e
  where
    by : (b : Bool) → cond b (Some (no_bytes c)) None ≡ Some y → (None ≡ Some y) ⊎ (y ≡ no_bytes c)
    by true e = inr (sym (some-is (no_bytes c) y e))
    by false e = inl e
added-at c d (x ∷ xs) y e = by (x.number == d) e (added-at c d xs y)
  where
    by : (b : Bool) → cond b (Some x) (unasked_at d (xs ++ no_bytes c ∷ [])) ≡ Some y
        → (unasked_at d (xs ++ no_bytes c ∷ []) ≡ Some y → (unasked_at d xs ≡ Some y) ⊎ (y ≡ no_bytes c))
        → (cond b (Some x) (unasked_at d xs) ≡ Some y) ⊎ (y ≡ no_bytes c)
    by true e ih = inl e
    by false e ih = ih e

-- a connection that is served is open

abbrev pub IsAmong : List ℕ → ℕ → Type 0
IsAmong [] c = ⊥
IsAmong (k ∷ ks) c = (k ≡ c) ⊎ IsAmong ks c

pub among-unasked : (c : ℕ) (xs : List Unasked) (x : Unasked) → unasked_at c xs ≡ Some x → IsAmong (map number_of xs) c
among-unasked c [] x e = absurd (none-some x e)
among-unasked c (y ∷ ys) x e = by (y.number == c) refl e (among-unasked c ys x)
  where
    by : (b : Bool) → (y.number == c) ≡ b → cond b (Some y) (unasked_at c ys) ≡ Some x
        → (unasked_at c ys ≡ Some x → IsAmong (map number_of ys) c) → IsAmong (y.number ∷ map number_of ys) c
    by true t e ih = inl (eqb-true y.number c t)
    by false t e ih = inr (ih e)

pub among-conns : (c : ℕ) (cs : List Conn) → IsAmong (map conn_id cs) c → (p : Option ℕ) × HasConn cs c p
among-conns c [] h = absurd h
among-conns c (x ∷ xs) (inl e) = (x.pending, inl (e, refl))
among-conns c (x ∷ xs) (inr h) = let more = among-conns c xs h in (more.0, inr more.1)

pub is-open : (c : ℕ) (s : Served) (x : Unasked) → IsNumbered s → unasked_at c s.unasked ≡ Some x
    → (p : Option ℕ) × HasConn s.core.state.conns c p
is-open c s x n e =
    among-conns c s.core.state.conns (subst (λ (ks : List ℕ). IsAmong ks c) n (among-unasked c s.unasked x e))
