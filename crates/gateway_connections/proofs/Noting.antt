-- Which rows may differ from the mark.
use Rattle.std.proofs.Common.{◌≡◌, ℕ, zero, suc, ◌+◌, ◌<◌, ◌≤◌, ◌⊎◌, List, [], ◌∷◌, ◌++◌, length, map, take, drop, get_or, inl, inr, Bool, true, false, cond, not, refl, sym, ap, subst, ◌∙◌, arith}
use Rattle.std.specs.Prelude.{remove}
use Rattle.std.specs.List.{All, filter}
use Rattle.std.proofs.Math.ListN.{set}
use Rattle.std.proofs.Math.Nat.{min-le_left, min-le_right, le-max_left, le-max_right}
use Rattle.std.proofs.lemmas.Bool.{cases_Bool, cases_eq, cases_lt}
use Rattle.std.proofs.lemmas.List.{get_or-set_same, get_or-set_other, get_or_append_left, length-set, length_push}
use Rattle.std.proofs.lemmas.List.Edits.{length-remove, get_or-remove_below, get_or-remove_above}
use Rattle.std.proofs.lemmas.List.Elements.{All-head, All-tail, All-map, All-push, All-set, All-weaker, filter_passes}
use Rattle.gateway_connections.specs.declared.changed.Changed.{Changed}
use Rattle.gateway_connections.specs.declared.row.Row.{Row}
use Rattle.gateway_connections.specs.Rows.{IsNoted, noted, settled, put_back}
use Rattle.gateway_connections.proofs.Keeping.{all-remove}

abbrev pub Opened : Row → Type 0
Opened r = r.closed ≡ false

differs : true ≡ false → ⊥
differs e = absurd cc

-- where all are as they were marked

pub noted-settled : (c : Changed) (rows : List Row) → IsNoted c (map settled (filter (λ (r : Row). not r.closed) rows))
noted-settled c rows = record {
  others = λ i d lt away. All-map (λ (r : Row). settled r ≡ r) settled kept (λ k x below. refl) i d lt;
  opened = λ e. All-map Opened settled kept (All-weaker (λ (r : Row). not r.closed ≡ true) Opened (λ r p. opened r p) kept (filter_passes (λ (r : Row). not r.closed) rows));
}
  where
    kept : List Row
    kept = filter (λ (r : Row). not r.closed) rows

    opened : (r : Row) → not r.closed ≡ true → r.closed ≡ false
    opened r p = elim (cases_Bool r.closed) [ inl shut ↦ absurd (differs (sym p ∙ ap not shut)) | inr still ↦ still ]

pub noted-back : (c : Changed) (rows : List Row) → IsNoted c (map put_back rows)
noted-back c rows = record {
  others = λ i d lt away. All-map (λ (r : Row). settled r ≡ r) put_back rows (λ k x below. refl) i d lt;
  opened = λ e. All-map Opened put_back rows (λ k x below. refl);
}

-- A place that isn't noted now wasn't noted before, and is another than the last one that was.
elsewhere : (c : Changed) (i k : ℕ) → (k < (noted i c).first) ⊎ ((noted i c).end ≤ k) → (k < c.first) ⊎ (c.end ≤ k)
elsewhere c i k (inl before) = let le = min-le_left c.first i in inl (omega (arith, before, le))
elsewhere c i k (inr behind) = let le = le-max_left c.end (i + 1) in inr (omega (arith, behind, le))

here : (c : Changed) (i k : ℕ) → k ≡ i → (k < (noted i c).first) ⊎ ((noted i c).end ≤ k) → ⊥
here c i k e (inl before) = let le = min-le_right c.first i in absurd (omega (arith, before, le, e))
here c i k e (inr behind) = let le = le-max_right c.end (i + 1) in absurd (omega (arith, behind, le, e))

-- a row put last

pub noted-push : (c : Changed) (rows : List Row) (y : Row) → IsNoted c rows → y.closed ≡ false → IsNoted (noted (length rows) c) (rows ++ y ∷ [])
noted-push c rows y w open_y = record {
  others = λ i d lt away. elim (cases_lt i (length rows)) [
    | inl below ↦ subst (λ (r : Row). settled r ≡ r) (sym (get_or_append_left rows (y ∷ []) d i below)) (w.others i d below (elsewhere c (length rows) i away))
    | inr past ↦ absurd (here c (length rows) i (let len = length_push rows y in omega (arith, len, lt, past)) away)
  ];
  opened = λ e. All-push Opened rows y (w.opened e) open_y;
}

-- another in its place

pub noted-set : (c : Changed) (rows : List Row) (i : ℕ) (x y : Row) → IsNoted c rows → i < length rows → x ≡ get_or rows i x → y.closed ≡ x.closed → IsNoted (noted i c) (set rows i y)
noted-set c rows i x y w at_place at_it kept = record {
  others = λ k d lt away. elim (cases_eq k i) [
    | inl e ↦ absurd (here c i k e away)
    | inr other ↦ subst (λ (r : Row). settled r ≡ r) (sym (get_or-set_other rows i k y d other)) (w.others k d (let len = length-set rows i y in omega (arith, len, lt)) (elsewhere c i k away))
  ];
  opened = λ e. All-set Opened rows i y (kept ∙ subst Opened (sym at_it) (w.opened e i x at_place)) (w.opened e);
}

-- the same one, closed
pub noted-shut : (c : Changed) (rows : List Row) (i : ℕ) (x : Row) → IsNoted c rows → i < length rows → x ≡ get_or rows i x → IsNoted (record c { closed = true }) (set rows i (record x { closed = true }))
noted-shut c rows i x w at_place at_it = record {
  others = λ k d lt away. elim (cases_eq k i) [
    | inl e ↦ subst (λ (r : Row). settled r ≡ r) (sym (ap (λ (j : ℕ). get_or (set rows i shut) j d) e ∙ get_or-set_same rows i shut d at_place))
        (ap (λ (r : Row). record r { closed = true }) (subst (λ (r : Row). settled r ≡ r) (sym at_it) (w.others i x at_place (subst (λ (j : ℕ). (j < c.first) ⊎ (c.end ≤ j)) e away))))
    | inr other ↦ subst (λ (r : Row). settled r ≡ r) (sym (get_or-set_other rows i k shut d other)) (w.others k d (let len = length-set rows i shut in omega (arith, len, lt)) away)
  ];
  opened = λ e. absurd (differs e);
}
  where
    shut : Row
    shut = record x { closed = true }

-- A fresh one is noted, so the places before the noted ones stay when it is taken out.
pub noted-remove : (c : Changed) (rows : List Row) (i : ℕ) (x : Row) → IsNoted c rows → i < length rows → x ≡ get_or rows i x → x.fresh ≡ true → IsNoted c (remove rows i)
noted-remove c rows i x w at_place at_it new = record {
  others = λ k d lt away.
      let len = length-remove rows i at_place in
      elim (cases_lt k i) [
        | inl below ↦ subst (λ (r : Row). settled r ≡ r) (sym (get_or-remove_below rows i d k below at_place)) (w.others k d (omega (arith, below, at_place)) away)
        | inr above ↦ subst (λ (r : Row). settled r ≡ r) (sym (get_or-remove_above rows i d k above at_place)) (w.others (k + 1) d (omega (arith, lt, len)) (inr (behind k above away)))
      ];
  opened = λ e. all-remove Opened rows i (w.opened e);
}
  where
    within : c.first ≤ i
    within = elim (cases_lt i c.first) [
      | inl before ↦ absurd (differs (sym new ∙ sym (ap (λ (r : Row). r.fresh) (subst (λ (r : Row). settled r ≡ r) (sym at_it) (w.others i x at_place (inl before))))))
      | inr le ↦ le
    ]

    behind : (k : ℕ) → i ≤ k → (k < c.first) ⊎ (c.end ≤ k) → c.end ≤ k + 1
    behind k above (inl before) = let le = within in absurd (omega (arith, above, before, le))
    behind k above (inr le) = omega (arith, le)

-- a loop over the places that are noted

-- before it
pub marked-before : (rows : List Row) (n : ℕ) → ((i : ℕ) (d : Row) → i < length rows → i < n → settled (get_or rows i d) ≡ get_or rows i d) → map settled (take n rows) ++ drop n rows ≡ rows
marked-before rows zero same = refl
marked-before [] (suc n) same = refl
marked-before (z ∷ zs) (suc n) same =
    ap (λ (r : Row). r ∷ (map settled (take n zs) ++ drop n zs)) (same zero z (omega arith) (omega arith))
    ∙ ap (λ (rs : List Row). z ∷ rs) (marked-before zs n (λ i d lt less. same (suc i) d (omega (arith, lt)) (omega (arith, less))))

-- after it
pub marked-behind : (rows : List Row) (n : ℕ) → ((i : ℕ) (d : Row) → i < length rows → n ≤ i → settled (get_or rows i d) ≡ get_or rows i d) → map settled (take n rows) ++ drop n rows ≡ map settled rows
marked-behind [] zero same = refl
marked-behind [] (suc n) same = refl
marked-behind (z ∷ zs) zero same =
    ap (λ (rs : List Row). z ∷ rs) (marked-behind zs zero (λ i d lt le. same (suc i) d (omega (arith, lt)) (omega arith)))
    ∙ ap (λ (r : Row). r ∷ map settled zs) (sym (same zero z (omega arith) (omega arith)))
marked-behind (z ∷ zs) (suc n) same =
    ap (λ (rs : List Row). settled z ∷ rs) (marked-behind zs n (λ i d lt le. same (suc i) d (omega (arith, lt)) (omega (arith, le))))

-- Marking and letting go may be done in either order.
pub settled-filter : (rows : List Row) → filter (λ (r : Row). not r.closed) (map settled rows) ≡ map settled (filter (λ (r : Row). not r.closed) rows)
settled-filter [] = refl
settled-filter (z ∷ zs) = step (settled-filter zs) z.closed
  where
    after : List Row
    after = filter (λ (r : Row). not r.closed) (map settled zs)

    before : List Row
    before = filter (λ (r : Row). not r.closed) zs

    step : after ≡ map settled before → (b : Bool) → cond (not b) (settled z ∷ after) after ≡ map settled (cond (not b) (z ∷ before) before)
    step rest true = rest
    step rest false = ap (λ (rs : List Row). settled z ∷ rs) rest

-- where none is closed
pub filter-opened : (rows : List Row) → All Opened rows → rows ≡ filter (λ (r : Row). not r.closed) rows
filter-opened [] all = refl
filter-opened (z ∷ zs) all =
    ap (λ (rs : List Row). z ∷ rs) (filter-opened zs (All-tail Opened z zs all))
    ∙ sym (ap (λ (b : Bool). cond (not b) (z ∷ filter (λ (r : Row). not r.closed) zs) (filter (λ (r : Row). not r.closed) zs)) (All-head Opened z zs all))

pub opened-settled : (rows : List Row) → All Opened rows → All Opened (map settled rows)
opened-settled rows all = All-map Opened settled rows all
