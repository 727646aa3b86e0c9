-- What a call on one row does to the connections.
use Rattle.std.proofs.Common.{◌≡◌, ◌≢◌, ℕ, zero, suc, ◌<◌, List, [], ◌∷◌, length, get_or, inl, inr, false, Some, Result, Ok, Err, OnOk, OnErr, refl, sym, ap, subst, ◌∙◌, arith}
use Rattle.std.specs.List.{All}
use Rattle.std.proofs.Math.ListN.{set}
use Rattle.std.proofs.lemmas.Bool.{cases_Bool}
use Rattle.std.proofs.lemmas.Bool.Decides.{eqb_tells}
use Rattle.http_edge.specs.declared.memory.Memory.{Memory}
use Rattle.http_edge.specs.Edges.{item}
use Rattle.gateway_connections.specs.declared.inbox.Next.{Next}
use Rattle.gateway_connections.specs.declared.inbox.Next.TheVariants as N
use Rattle.gateway_connections.specs.declared.row.Row.{Row}
use Rattle.gateway_connections.specs.Inlets.{Inlet, IsSound, changed_at, extended, appended}
use Rattle.gateway_connections.specs.Reads.{Asks, Continues, Settles, Stays, ReadsInlet, ChangesAt, ReadsOf}
use Rattle.gateway_connections.specs.Rows.{AreInOrder, HasNumber, IsClosed, IsWhole, current_in, marked_in, number_in, current_of}
use Rattle.gateway_connections.proofs.Listing.{found-none, changed-none}
use Rattle.gateway_connections.proofs.Placing.{found-at, put-current}
use Rattle.gateway_connections.proofs.Keeping.{order-set, whole-set}

-- The row at the place has the number, and is open.
pub record IsAt (rows : List Row) (i n : ℕ) : Type 0 where
  pub order : AreInOrder rows
  pub number : HasNumber rows i n
  pub stays : IsClosed rows i false
  pub below : i < length rows

below : (rows : List Row) (i n : ℕ) → HasNumber rows i n → i < length rows
below [] i n e = absurd cc
below (z ∷ zs) zero n e = omega arith
below (z ∷ zs) (suc i) n e = let lt = below zs i n e in omega (arith, lt)

-- the same of a slice of the rows
pub at-place : (rows view : List Row) (i n : ℕ) → view ≡ rows → AreInOrder rows → HasNumber view i n → IsClosed view i false → IsAt rows i n
at-place rows view i n same order e opened =
    let number = subst (λ (rs : List Row). HasNumber rs i n) same e in
    record { order = order; number = number; stays = subst (λ (rs : List Row). IsClosed rs i false) same opened; below = below rows i n number }

pub number-here : (rows : List Row) (i n : ℕ) (x : Row) → HasNumber rows i n → x ≡ get_or rows i x → number_in x ≡ n
number-here [] i n x e at_it = absurd cc
number-here (z ∷ zs) zero n x e at_it = ap number_in at_it ∙ same-number (number_in z) n e
  where
    same-number : (m k : ℕ) → Some m ≡ Some k → m ≡ k
    same-number m k e = cc
number-here (z ∷ zs) (suc i) n x e at_it = number-here zs i n x e at_it

-- Reading leaves the number.
pub read-number : (r : Result Next Memory) (x y : Inlet) → ReadsInlet r x y → y.number ≡ x.number
read-number (Ok (N.Request incoming)) x y w = ap (λ (z : Inlet). z.number) w.left
read-number (Ok N.Continue) x y w = ap (λ (z : Inlet). z.number) w.left
read-number (Ok N.Nothing) x y w = ap (λ (z : Inlet). z.number) w.left
read-number (Err m) x y w = ap (λ (z : Inlet). z.number) w

extended-number : (bytes : List ℕ) (x : Inlet) → (extended bytes x).number ≡ x.number
extended-number bytes x = elim (cases_Bool x.closing) [ inl last ↦ rw last refl | inr more ↦ rw more refl ]

-- Appending leaves it.
pub append-number : (r : Result (Unit {0}) Memory) (bytes : List ℕ) (x y : Inlet) → OnOk r (y ≡ extended bytes x) → OnErr r (y ≡ x) → y.number ≡ x.number
append-number (Ok u) bytes x y more kept = ap (λ (z : Inlet). z.number) more ∙ extended-number bytes x
append-number (Err m) bytes x y more kept = ap (λ (z : Inlet). z.number) kept

changed-same : (n : ℕ) (xs : List Inlet) → changed_at n (λ (x : Inlet). x) xs ≡ xs
changed-same n [] = refl
changed-same n (x ∷ xs) =
    let rest = changed-same n xs in
    elim (eqb_tells x.number n) [ inl u ↦ rw (u.0) (ap (λ (ys : List Inlet). x ∷ ys) rest) | inr u ↦ rw (u.0) (ap (λ (ys : List Inlet). x ∷ ys) rest) ]

-- where another row is put in its place
module _ (rows : List Row) (i n : ℕ) (x y : Row) (a : IsAt rows i n) (at_it : x ≡ get_or rows i x) (kept : y.closed ≡ x.closed) where
  changes : (Goes : Inlet → Inlet → Type 0) → Goes (current_in x) (current_in y) → number_in y ≡ number_in x → ChangesAt Goes n (current_of rows) (current_of (set rows i y))
  changes Goes goes same =
      let here : number_in y ≡ n = same ∙ number-here rows i n x a.number at_it in
      record {
        before = current_in x;
        after = current_in y;
        stands = found-at rows i n x a.order a.number a.stays at_it;
        goes = goes;
        left = put-current rows i n x y (λ (z : Inlet). current_in y) a.order a.number a.stays at_it kept refl
            ∙ ap (λ (m : ℕ). changed_at m (λ (z : Inlet). current_in y) (current_of rows)) (sym here);
      }

  pub put-reads : (r : Result Next Memory) → ReadsInlet r (current_in x) (current_in y) → ReadsOf n r (current_of rows) (current_of (set rows i y))
  put-reads (Ok (N.Request incoming)) w = changes (Asks (item incoming)) w (read-number (Ok (N.Request incoming)) (current_in x) (current_in y) w)
  put-reads (Ok N.Continue) w = changes Continues w (read-number (Ok N.Continue) (current_in x) (current_in y) w)
  put-reads (Ok N.Nothing) w = inr (changes Settles w (read-number (Ok N.Nothing) (current_in x) (current_in y) w))
  put-reads (Err m) w = changes Stays w (read-number (Err m) (current_in x) (current_in y) w)

  pub put-more : (r : Result (Unit {0}) Memory) (bytes : List ℕ) → OnOk r (current_in y ≡ extended bytes (current_in x)) → OnOk r (current_of (set rows i y) ≡ appended n bytes (current_of rows))
  put-more (Ok u) bytes more = put-current rows i n x y (extended bytes) a.order a.number a.stays at_it kept more
  put-more (Err m) bytes more = tt

  pub put-same : (r : Result (Unit {0}) Memory) → OnErr r (current_in y ≡ current_in x) → OnErr r (current_of (set rows i y) ≡ current_of rows)
  put-same (Ok u) same = tt
  put-same (Err m) same = put-current rows i n x y (λ (z : Inlet). z) a.order a.number a.stays at_it kept same ∙ changed-same n (current_of rows)

  -- What is kept of the rows is kept.
  pub put-kept : All IsWhole rows → IsSound (current_in y) → marked_in y ≡ marked_in x → number_in y ≡ number_in x → y.fresh ≡ x.fresh
      → AreInOrder (set rows i y) × All IsWhole (set rows i y)
  put-kept whole sound marked same fresh = (
    order-set rows i n y a.order a.number (same ∙ number-here rows i n x a.number at_it),
    whole-set rows i x y a.below at_it whole (λ w. record {
      current = sound;
      marked = subst IsSound (sym marked) w.marked;
      number = ap (λ (z : Inlet). z.number) marked ∙ w.number ∙ sym same;
      stays = λ e. kept ∙ w.stays (sym fresh ∙ e);
    }),
  )

-- where no row has the number
pub none-read : (n : ℕ) (xs : List Inlet) → All (λ (x : Inlet). x.number ≢ n) xs → ReadsOf n (Ok N.Nothing) xs xs
none-read n xs all = inl (found-none n xs all, refl)

pub none-more : (n : ℕ) (bytes : List ℕ) (xs : List Inlet) → All (λ (x : Inlet). x.number ≢ n) xs → xs ≡ appended n bytes xs
none-more n bytes xs all = sym (changed-none n (extended bytes) xs all)
