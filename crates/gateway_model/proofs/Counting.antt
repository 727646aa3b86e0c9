-- Connections are numbered in the order in which they are opened: what entries tell of that.
use Rattle.std.proofs.Common.{◌≡◌, ◌⊎◌, inl, inr, ℕ, ◌+◌, ◌<◌, ◌≤◌, Bool, true, false, cond, not, List, [], ◌∷◌, ◌++◌, map, Option, Some, None, refl, sym, ap, ◌∙◌, subst, arith, eq-eqb}
use Rattle.std.specs.Prelude.{◌==◌, ⊤}
use Rattle.std.specs.List.{filter}
use Rattle.std.proofs.lemmas.Grind.{flat_map-append}
use Rattle.std.proofs.lemmas.Bool.{both_ways}
use Rattle.journal_book.specs.Entries.{Deed, Opens, Asks, Sends, Hears, Passes, Answers, Shuts, Seals, Carries, Written}
use Rattle.history_laws.specs.Readings.{Noted, Note, entries}
use Rattle.history_laws.specs.Connections.{opened_by, opened, has_opened}
use Rattle.history_laws.specs.Justified.{Follows, IsNextConn, Legal, Stands}
use Rattle.history_laws.proofs.CallerLemmas.{open-below}
use Rattle.exchange_model.specs.declared.kept.Conn.{Conn}
use Rattle.exchange_model.specs.State.{pend, conns_after}
use Rattle.exchange_model.specs.Resting.{HasConn}
use Rattle.exchange_model.specs.Growing.{conns_with}
use Rattle.exchange_core.specs.Values.{answered_by, answered_in}
use Rattle.gateway_model.proofs.Moves.{num_of, nums}
use Rattle.gateway_model.proofs.Conns.{waited-before, was-open}

abbrev pub count : ℕ → List Written → ℕ
count n [] = n
count n (w ∷ ws) = count (opened_by w.deed n) ws

pub count-both : (n : ℕ) (xs ys : List Written) → count n (xs ++ ys) ≡ count (count n xs) ys
count-both n [] ys = refl
count-both n (x ∷ xs) ys = count-both (opened_by x.deed n) xs ys

abbrev pub IsCounted : ℕ → Deed → Type 0
IsCounted n (Opens c) = n ≤ c
IsCounted n (Asks c a) = c < n
IsCounted n (Shuts c) = c < n
IsCounted n _ = ⊤

abbrev pub AreCounted : ℕ → List Written → Type 0
AreCounted n [] = ⊤
AreCounted n (w ∷ ws) = IsCounted n w.deed × AreCounted (opened_by w.deed n) ws

more-by : (c n : ℕ) (d : Deed) → IsCounted n d → c < n → c < opened_by d n
more-by c n (Opens x) is lt = omega (arith, is, lt)
more-by c n (Asks x a) is lt = lt
more-by c n (Sends p b w) is lt = lt
more-by c n (Hears p b) is lt = lt
more-by c n Passes is lt = lt
more-by c n (Answers x k g) is lt = lt
more-by c n (Shuts x) is lt = lt
more-by c n Seals is lt = lt
more-by c n (Carries number mark done) is lt = lt

pub count-more : (c n : ℕ) (ws : List Written) → AreCounted n ws → c < n → c < count n ws
count-more c n [] all lt = lt
count-more c n (w ∷ ws) all lt = count-more c (opened_by w.deed n) ws all.1 (more-by c n w.deed all.0 lt)

counted-both : (n : ℕ) (xs ys : List Written) → AreCounted n xs → AreCounted (count n xs) ys → AreCounted n (xs ++ ys)
counted-both n [] ys a b = b
counted-both n (x ∷ xs) ys a b = (a.0, counted-both (opened_by x.deed n) xs ys a.1 b)

pub counted-rest : (n : ℕ) (xs ys : List Written) → AreCounted n (xs ++ ys) → AreCounted (count n xs) ys
counted-rest n [] ys a = a
counted-rest n (x ∷ xs) ys a = counted-rest (opened_by x.deed n) xs ys a.1

pub counted-first : (n : ℕ) (xs ys : List Written) → AreCounted n (xs ++ ys) → AreCounted n xs
counted-first n [] ys a = tt
counted-first n (x ∷ xs) ys a = (a.0, counted-first (opened_by x.deed n) xs ys a.1)

count-is : (l : List Noted) → count 0 (entries l) ≡ opened l
count-is [] = refl
count-is (x ∷ older) =
    count-both 0 (entries older) (x.written ∷ []) ∙ ap (opened_by x.written.deed) (count-is older)

next-least : (b : Bool) (n c : ℕ) → IsNextConn b n c → n ≤ c
next-least true n c e = omega (arith, e)
next-least false n c le = le

counted-one : (older : List Noted) (t : ℕ) (d : Deed) (note : Note) → Legal older → Follows older t d note
    → IsCounted (opened older) d
counted-one older t (Opens c) note legal may = next-least (has_opened older) (opened older) c may.1
counted-one older t (Asks c a) note legal may = open-below older legal c may.1
counted-one older t (Shuts c) note legal may = open-below older legal c may.1
counted-one older t (Sends p b w) note legal may = tt
counted-one older t (Hears p b) note legal may = tt
counted-one older t Passes note legal may = tt
counted-one older t (Answers c k g) note legal may = tt
counted-one older t Seals note legal may = tt
counted-one older t (Carries number mark done) note legal may = tt

legal-counted : (l : List Noted) → Legal l → AreCounted 0 (entries l)
legal-counted [] legal = tt
legal-counted (x ∷ older) legal =
    counted-both 0 (entries older) (x.written ∷ []) (legal-counted older legal.0) (
      subst (λ (n : ℕ). IsCounted n x.written.deed) (sym (count-is older))
          (counted-one older x.written.moment x.written.deed x.note legal.0 legal.2),
      tt,
    )

pub stands-counted : (h : List Written) → Stands h → AreCounted 0 h
stands-counted h stands = subst (AreCounted 0) stands.entries_are (legal-counted stands.reading stands.legal)

-- no connection of this number is idle

abbrev pub NoneIdle : ℕ → List Conn → Type 0
NoneIdle c cs = HasConn cs c None → ⊥

empty-first : (xs ys : List ℕ) → xs ++ ys ≡ [] → xs ≡ []
empty-first [] ys e = refl
empty-first (x ∷ xs) ys e = absurd cc

empty-rest : (xs ys : List ℕ) → xs ++ ys ≡ [] → ys ≡ []
empty-rest [] ys e = e
empty-rest (x ∷ xs) ys e = absurd cc

pub first-empty : (xs ys : List ℕ) → xs ++ ys ≡ [] → xs ≡ []
first-empty xs ys e = empty-first xs ys e

abbrev idle : Option ℕ
idle = None

some-none : (k : ℕ) → Some k ≡ None → ⊥
some-none k e = cc

one-listed : (n : ℕ) → n ∷ [] ≡ [] → ⊥
one-listed n e = cc

none-after : (c n k : ℕ) (d : Deed) (cs : List Conn) → IsCounted n d → c < n → nums c (answered_by k d) ≡ []
    → NoneIdle c cs → NoneIdle c (conns_after cs k d)
none-after c n k (Opens x) cs is lt e none has = added cs none has
  where
    added : (cs : List Conn) → NoneIdle c cs → HasConn (cs ++ record { id = x; pending = None } ∷ []) c None → ⊥
    added [] none (inl h) = let same = h.0 in omega (arith, same, is, lt)
    added [] none (inr h) = h
    added (y ∷ ys) none (inl h) = none (inl h)
    added (y ∷ ys) none (inr h) = added ys (λ q. none (inr q)) h
none-after c n k (Asks x a) cs is lt e none has = by (waited-before x c (Some k) None cs has)
  where
    by : ((c ≡ x) × (Some k ≡ None)) ⊎ HasConn cs c None → ⊥
    by (inl q) = some-none k q.1
    by (inr q) = none q
none-after c n k (Sends p b w) cs is lt e none has = none has
none-after c n k (Hears p b) cs is lt e none has = none has
none-after c n k Passes cs is lt e none has = none has
none-after c n k (Answers x j g) cs is lt e none has = by (waited-before x c None None cs has)
  where
    by : ((c ≡ x) × (idle ≡ idle)) ⊎ HasConn cs c None → ⊥
    by (inl q) =
        let t : (x == c) ≡ true = eq-eqb x c (sym q.0) in
        one-listed k (sym (ap (λ (b : Bool). cond {A = List ℕ} b (k ∷ []) [] ++ []) t) ∙ e)
    by (inr q) = none q
none-after c n k (Shuts x) cs is lt e none has = none (was-open x c None cs has)
none-after c n k Seals cs is lt e none has = none has
none-after c n k (Carries number mark done) cs is lt e none has = none has

-- It stays so until the answer, as none of this number is opened again.
pub none-with : (c n k : ℕ) (ws : List Written) (cs : List Conn) → AreCounted n ws → c < n → nums c (answered_in k ws) ≡ []
    → NoneIdle c cs → NoneIdle c (conns_with cs k ws)
none-with c n k [] cs are lt e none = none
none-with c n k (w ∷ ws) cs are lt e none =
    let split = sym (flat_map-append (num_of c) (answered_by k w.deed) (answered_in (k + 1) ws)) ∙ e in
    none-with c (opened_by w.deed n) (k + 1) ws (conns_after cs k w.deed) are.1 (more-by c n w.deed are.0 lt)
    (empty-rest (nums c (answered_by k w.deed)) (nums c (answered_in (k + 1) ws)) split)
    (none-after c n k w.deed cs are.0 lt (empty-first (nums c (answered_by k w.deed)) (nums c (answered_in (k + 1) ws)) split) none)

-- an entry after which it isn't idle: it asks, or is shut
abbrev pub IsEnough : ℕ → Deed → Type 0
IsEnough c (Asks x a) = x ≡ c
IsEnough c (Shuts x) = x ≡ c
IsEnough c _ = ⊥

abbrev pub HasEnough : ℕ → List Written → Type 0
HasEnough c [] = ⊥
HasEnough c (w ∷ ws) = IsEnough c w.deed ⊎ HasEnough c ws

pub enough-after : (c : ℕ) (xs ys : List Written) → HasEnough c ys → HasEnough c (xs ++ ys)
enough-after c [] ys h = h
enough-after c (x ∷ xs) ys h = inr (enough-after c xs ys h)

asked-none : (c k : ℕ) (cs : List Conn) → HasConn (map (pend c (Some k)) cs) c None → ⊥
asked-none c k [] h = h
asked-none c k (x ∷ xs) (inl h) = by (x.id == c) refl h
  where
    by : (b : Bool) → (x.id == c) ≡ b
        → ((cond b (record x { pending = Some k }) x).id ≡ c) × ((cond b (record x { pending = Some k }) x).pending ≡ None) → ⊥
    by true t h = some-none k h.1
    by false t h = (both_ways (x.id == c) t (eq-eqb x.id c h.0))
asked-none c k (x ∷ xs) (inr h) = asked-none c k xs h

shut-none : (c : ℕ) (cs : List Conn) → HasConn (filter (λ (x : Conn). not (x.id == c)) cs) c None → ⊥
shut-none c [] h = h
shut-none c (x ∷ xs) h = by (x.id == c) refl (shut-none c xs) h
  where
    by : (b : Bool) → (x.id == c) ≡ b → (HasConn (filter (λ (x : Conn). not (x.id == c)) xs) c None → ⊥)
        → HasConn (cond (not b) (x ∷ filter (λ (x : Conn). not (x.id == c)) xs) (filter (λ (x : Conn). not (x.id == c)) xs)) c None → ⊥
    by true t ih h = ih h
    by false t ih (inl h) = (both_ways (x.id == c) t (eq-eqb x.id c h.0))
    by false t ih (inr h) = ih h

enough-below : (c n : ℕ) (d : Deed) → IsCounted n d → IsEnough c d → c < n
enough-below c n (Asks x a) is e = omega (arith, is, e)
enough-below c n (Shuts x) is e = omega (arith, is, e)
enough-below c n (Opens x) is e = absurd e
enough-below c n (Sends p b w) is e = absurd e
enough-below c n (Hears p b) is e = absurd e
enough-below c n Passes is e = absurd e
enough-below c n (Answers x k g) is e = absurd e
enough-below c n Seals is e = absurd e
enough-below c n (Carries number mark done) is e = absurd e

enough-none : (c k : ℕ) (d : Deed) (cs : List Conn) → IsEnough c d → NoneIdle c (conns_after cs k d)
enough-none c k (Asks x a) cs e has = asked-none c k cs (subst (λ (i : ℕ). HasConn (map (pend i (Some k)) cs) c None) e has)
enough-none c k (Shuts x) cs e has =
    shut-none c cs (subst (λ (i : ℕ). HasConn (filter (λ (x : Conn). not (x.id == i)) cs) c None) e has)
enough-none c k (Opens x) cs e has = e
enough-none c k (Sends p b w) cs e has = e
enough-none c k (Hears p b) cs e has = e
enough-none c k Passes cs e has = e
enough-none c k (Answers x j g) cs e has = e
enough-none c k Seals cs e has = e
enough-none c k (Carries number mark done) cs e has = e

pub enough-with : (c n k : ℕ) (ws : List Written) (cs : List Conn) → AreCounted n ws → nums c (answered_in k ws) ≡ []
    → HasEnough c ws → (c < count n ws) × NoneIdle c (conns_with cs k ws)
enough-with c n k [] cs are e h = absurd h
enough-with c n k (w ∷ ws) cs are e (inl h) =
    let split = sym (flat_map-append (num_of c) (answered_by k w.deed) (answered_in (k + 1) ws)) ∙ e in
    let lt = more-by c n w.deed are.0 (enough-below c n w.deed are.0 h) in (
      count-more c (opened_by w.deed n) ws are.1 lt,
      none-with c (opened_by w.deed n) (k + 1) ws (conns_after cs k w.deed) are.1 lt
          (empty-rest (nums c (answered_by k w.deed)) (nums c (answered_in (k + 1) ws)) split)
          (enough-none c k w.deed cs h),
    )
enough-with c n k (w ∷ ws) cs are e (inr h) =
    let split = sym (flat_map-append (num_of c) (answered_by k w.deed) (answered_in (k + 1) ws)) ∙ e in
    enough-with c (opened_by w.deed n) (k + 1) ws (conns_after cs k w.deed) are.1
    (empty-rest (nums c (answered_by k w.deed)) (nums c (answered_in (k + 1) ws)) split) h
