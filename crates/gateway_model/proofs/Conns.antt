-- What a core keeps of its connections, after an entry.
use Rattle.std.proofs.Common.{◌≡◌, ◌≢◌, ◌⊎◌, inl, inr, ℕ, ◌<◌, Bool, true, false, cond, not, List, [], ◌∷◌, ◌++◌, map, Option, Some, None, refl, sym, ◌∙◌, arith, eqb-true}
use Rattle.std.specs.Prelude.{◌==◌, ⊤}
use Rattle.std.specs.List.{AllByRecursion, filter}
use Rattle.history_laws.proofs.CallerLemmas.{none-some}
use Rattle.exchange_model.specs.declared.kept.Conn.{Conn}
use Rattle.exchange_model.specs.State.{pend}
use Rattle.exchange_model.specs.Resting.{HasConn}
use Rattle.exchange_model.specs.Growing.{Rise}
use Rattle.gateway_model.specs.Waiting.{conn_id}

-- each number stands once
abbrev pub StandOnce : List ℕ → Type 0
StandOnce [] = ⊤
StandOnce (x ∷ xs) = AllByRecursion (λ (y : ℕ). x ≢ y) xs × StandOnce xs

-- connections with numbers of their own

pub once-rising : (cs : List Conn) → Rise cs → StandOnce (map conn_id cs)
once-rising [] h = tt
once-rising (x ∷ xs) h = (apart xs h.0, once-rising xs h.1)
  where
    apart : (ys : List Conn) → AllByRecursion (λ (y : Conn). x.id < y.id) ys
        → AllByRecursion (λ (k : ℕ). x.id ≢ k) (map conn_id ys)
    apart [] h = tt
    apart (y ∷ ys) h = (λ e. below x.id y.id h.0 e, apart ys h.1)
      where
        below : (a b : ℕ) → a < b → a ≡ b → ⊥
        below a b lt e = omega arith

pub not-among : (c : ℕ) (p : Option ℕ) (x : ℕ) (cs : List Conn) → AllByRecursion (λ (y : ℕ). x ≢ y) (map conn_id cs)
    → HasConn cs c p → x ≡ c → ⊥
not-among c p x [] a h e = absurd h
not-among c p x (y ∷ ys) a (inl h) e = a.0 (e ∙ sym h.0)
not-among c p x (y ∷ ys) a (inr h) e = not-among c p x ys a.1 h e

-- A connection waits for one thing.
pub same-conn : (c : ℕ) (p q : Option ℕ) (cs : List Conn) → StandOnce (map conn_id cs) → HasConn cs c p → HasConn cs c q → p ≡ q
same-conn c p q [] o h k = absurd h
same-conn c p q (x ∷ xs) o (inl h) (inl k) = sym h.1 ∙ k.1
same-conn c p q (x ∷ xs) o (inl h) (inr k) = absurd (not-among c q x.id xs o.0 k h.0)
same-conn c p q (x ∷ xs) o (inr h) (inl k) = absurd (not-among c p x.id xs o.0 h k.0)
same-conn c p q (x ∷ xs) o (inr h) (inr k) = same-conn c p q xs o.1 h k

-- what an entry does to a connection

pub pend-other : (b : Bool) (c d : ℕ) (p q : Option ℕ) (x : Conn) → (x.id == c) ≡ b → d ≢ c → x.id ≡ d → x.pending ≡ q
    → ((cond b (record x { pending = p }) x).id ≡ d) × ((cond b (record x { pending = p }) x).pending ≡ q)
pend-other true c d p q x t ne e f = absurd (ne (sym e ∙ eqb-true x.id c t))
pend-other false c d p q x t ne e f = (e, f)

pub others-wait : (c d : ℕ) (p q : Option ℕ) (cs : List Conn) → d ≢ c → HasConn cs d q → HasConn (map (pend c p) cs) d q
others-wait c d p q [] ne h = absurd h
others-wait c d p q (x ∷ xs) ne (inl h) = inl (pend-other (x.id == c) c d p q x refl ne h.0 h.1)
others-wait c d p q (x ∷ xs) ne (inr h) = inr (others-wait c d p q xs ne h)

pub pend-back : (b : Bool) (c d : ℕ) (p q : Option ℕ) (x : Conn) → (x.id == c) ≡ b
    → (cond b (record x { pending = p }) x).id ≡ d → (cond b (record x { pending = p }) x).pending ≡ q
    → ((d ≡ c) × (p ≡ q)) ⊎ ((x.id ≡ d) × (x.pending ≡ q))
pend-back true c d p q x t e f = inl (sym e ∙ eqb-true x.id c t, f)
pend-back false c d p q x t e f = inr (e, f)

pub waited-before : (c d : ℕ) (p q : Option ℕ) (cs : List Conn) → HasConn (map (pend c p) cs) d q
    → ((d ≡ c) × (p ≡ q)) ⊎ HasConn cs d q
waited-before c d p q [] h = absurd h
waited-before c d p q (x ∷ xs) (inl h) = put (pend-back (x.id == c) c d p q x refl h.0 h.1)
  where
    put : ((d ≡ c) × (p ≡ q)) ⊎ ((x.id ≡ d) × (x.pending ≡ q)) → ((d ≡ c) × (p ≡ q)) ⊎ HasConn (x ∷ xs) d q
    put (inl e) = inl e
    put (inr e) = inr (inl e)
waited-before c d p q (x ∷ xs) (inr h) = put (waited-before c d p q xs h)
  where
    put : ((d ≡ c) × (p ≡ q)) ⊎ HasConn xs d q → ((d ≡ c) × (p ≡ q)) ⊎ HasConn (x ∷ xs) d q
    put (inl e) = inl e
    put (inr e) = inr (inr e)

pub shut-one : (b : Bool) (c d : ℕ) (q : Option ℕ) (x : Conn) (ys : List Conn) → (x.id == c) ≡ b → d ≢ c
    → (x.id ≡ d) × (x.pending ≡ q) → HasConn (cond (not b) (x ∷ ys) ys) d q
shut-one true c d q x ys t ne h = absurd (ne (sym h.0 ∙ eqb-true x.id c t))
shut-one false c d q x ys t ne h = inl h

pub shut-rest : (b : Bool) (d : ℕ) (q : Option ℕ) (x : Conn) (ys : List Conn) → HasConn ys d q → HasConn (cond b (x ∷ ys) ys) d q
shut-rest true d q x ys h = inr h
shut-rest false d q x ys h = h

pub others-open : (c d : ℕ) (q : Option ℕ) (cs : List Conn) → d ≢ c → HasConn cs d q
    → HasConn (filter (λ (x : Conn). not (x.id == c)) cs) d q
others-open c d q [] ne h = absurd h
others-open c d q (x ∷ xs) ne (inl h) =
    shut-one (x.id == c) c d q x (filter (λ (x : Conn). not (x.id == c)) xs) refl ne h
others-open c d q (x ∷ xs) ne (inr h) =
    shut-rest (not (x.id == c)) d q x (filter (λ (x : Conn). not (x.id == c)) xs) (others-open c d q xs ne h)

pub kept-open : (b : Bool) (d : ℕ) (q : Option ℕ) (x : Conn) (ys xs : List Conn) → (HasConn ys d q → HasConn xs d q)
    → HasConn (cond b (x ∷ ys) ys) d q → HasConn (x ∷ xs) d q
kept-open true d q x ys xs f (inl h) = inl h
kept-open true d q x ys xs f (inr h) = inr (f h)
kept-open false d q x ys xs f h = inr (f h)

pub was-open : (c d : ℕ) (q : Option ℕ) (cs : List Conn) → HasConn (filter (λ (x : Conn). not (x.id == c)) cs) d q → HasConn cs d q
was-open c d q [] h = absurd h
was-open c d q (x ∷ xs) h =
    kept-open (not (x.id == c)) d q x (filter (λ (x : Conn). not (x.id == c)) xs) xs (was-open c d q xs) h

pub more-open : (d : ℕ) (q : Option ℕ) (xs ys : List Conn) → HasConn xs d q → HasConn (xs ++ ys) d q
more-open d q [] ys h = absurd h
more-open d q (x ∷ xs) ys (inl h) = inl h
more-open d q (x ∷ xs) ys (inr h) = inr (more-open d q xs ys h)

pub was-waiting : (d k c : ℕ) (cs : List Conn) → HasConn (cs ++ record { id = c; pending = None } ∷ []) d (Some k) → HasConn cs d (Some k)
was-waiting d k c [] (inl h) = absurd (none-some k h.1)
was-waiting d k c [] (inr h) = h
was-waiting d k c (x ∷ xs) (inl h) = inl h
was-waiting d k c (x ∷ xs) (inr h) = inr (was-waiting d k c xs h)
