-- How many connections wait for an answer, after each entry.
use Rattle.std.proofs.Common.{◌≡◌, ℕ, ◌+◌, ◌≤◌, not, cond, eqb, inl, inr, Bool, List, [], ◌∷◌, ◌++◌, length, map, Option, Some, None, refl, arith}
use Rattle.std.specs.Prelude.{count_by, filter}
use Rattle.std.proofs.lemmas.List.Sums.{sum_by-append}
use Rattle.std.proofs.lemmas.Bool.Decides.{eqb_tells}
use Rattle.history_laws.proofs.CallerLemmas.{eqb-itself}
use Rattle.exchange_model.specs.declared.kept.Conn.{Conn}
use Rattle.exchange_model.specs.State.{pend}
use Rattle.exchange_model.specs.Resting.{HasConn}
use Rattle.exchange_model.specs.Room.{has_asked}
use Rattle.exchange_model.proofs.Counting.{one, count-cons}

abbrev pub has_id : ℕ → Conn → Bool
has_id c x = eqb x.id c

-- an ask

one-asks : (c n : ℕ) (x : Conn)
    → one (has_asked (pend c (Some n) x)) ≤ one (has_asked x) + one (has_id c x)
one-asks c n x = elim (eqb_tells x.id c) [
  | inl w ↦ rw (w.0) (omega arith)
  | inr w ↦ rw (w.0) (omega arith)
]

pub asks-more : (c n : ℕ) (xs : List Conn)
    → count_by has_asked (map (pend c (Some n)) xs) ≤ count_by has_asked xs + count_by (has_id c) xs
asks-more c n [] = omega arith
asks-more c n (x ∷ xs) =
    let ih = asks-more c n xs in
    let new = count-cons has_asked (pend c (Some n) x) (map (pend c (Some n)) xs) in
    let old = count-cons has_asked x xs in
    let id = count-cons (has_id c) x xs in
    let here = one-asks c n x in
    omega (arith, ih, new, old, id, here)

-- an answer

one-answers : (c : ℕ) (x : Conn) → one (has_asked (pend c None x)) ≤ one (has_asked x)
one-answers c x = elim (eqb_tells x.id c) [
  | inl w ↦ rw (w.0) (omega arith)
  | inr w ↦ rw (w.0) (omega arith)
]

answers-no-more : (c : ℕ) (xs : List Conn)
    → count_by has_asked (map (pend c None) xs) ≤ count_by has_asked xs
answers-no-more c [] = omega arith
answers-no-more c (x ∷ xs) =
    let ih = answers-no-more c xs in
    let new = count-cons has_asked (pend c None x) (map (pend c None) xs) in
    let old = count-cons has_asked x xs in
    let here = one-answers c x in
    omega (arith, ih, new, old, here)

one-answered : (c k : ℕ) (x : Conn) → x.id ≡ c → x.pending ≡ Some k
    → one (has_asked (pend c None x)) + 1 ≡ one (has_asked x)
one-answered c k x same is = rw (same, eqb-itself c, is) refl

pub answers-fewer : (c k : ℕ) (xs : List Conn) → HasConn xs c (Some k)
    → count_by has_asked (map (pend c None) xs) + 1 ≤ count_by has_asked xs
answers-fewer c k [] h = absurd h
answers-fewer c k (x ∷ xs) (inl h) =
    let rest = answers-no-more c xs in
    let new = count-cons has_asked (pend c None x) (map (pend c None) xs) in
    let old = count-cons has_asked x xs in
    let here = one-answered c k x h.0 h.1 in
    omega (arith, rest, new, old, here)
answers-fewer c k (x ∷ xs) (inr h) =
    let ih = answers-fewer c k xs h in
    let new = count-cons has_asked (pend c None x) (map (pend c None) xs) in
    let old = count-cons has_asked x xs in
    let here = one-answers c x in
    omega (arith, ih, new, old, here)

-- a connection is opened, or shut

pub opens-none : (n : ℕ) (xs : List Conn)
    → count_by has_asked (xs ++ record { id = n; pending = None } ∷ []) ≡ count_by has_asked xs
opens-none n xs =
    let sum = sum_by-append (λ (x : Conn). cond (has_asked x) 1 0) xs
    (record { id = n; pending = None } ∷ []) in
    omega (arith, sum)

abbrev pub others : ℕ → List Conn → List Conn
others c xs = filter (λ (x : Conn). not (eqb x.id c)) xs

no-more : (c : ℕ) (xs : List Conn) → length (others c xs) ≤ length xs
no-more c [] = omega arith
no-more c (x ∷ xs) =
    let rest = no-more c xs in
    elim (eqb_tells x.id c) [ inl w ↦ rw (w.0) (omega arith) | inr w ↦ rw (w.0) (omega arith) ]

pub shuts-fewer : (c : ℕ) (p : Option ℕ) (xs : List Conn) → HasConn xs c p
    → length (others c xs) + 1 ≤ length xs
shuts-fewer c p [] h = absurd h
shuts-fewer c p (x ∷ xs) (inl h) = let rest = no-more c xs in rw (h.0, eqb-itself c)
    (omega (arith, rest))
shuts-fewer c p (x ∷ xs) (inr h) =
    let rest = shuts-fewer c p xs h in
    elim (eqb_tells x.id c) [ inl w ↦ rw (w.0) (omega arith) | inr w ↦ rw (w.0) (omega arith) ]
