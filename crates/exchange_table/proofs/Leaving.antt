-- Rows that leave together, by their tokens.
use Rattle.std.proofs.Common.{◌≡◌, ℕ, zero, suc, ◌+◌, ◌<◌, ◌≤◌, Bool, true, false, not, cond, ◌&&◌, ◌||◌, List, [], ◌∷◌, ◌++◌, length, take, get_or, Some, inl, inr, refl, sym, ap, ◌∙◌, arith}
use Rattle.std.specs.Prelude.{filter}
use Rattle.std.specs.List.{AllByRecursion, find, list_any}
use Rattle.std.proofs.lemmas.Bool.{false≢true}
use Rattle.std.proofs.lemmas.Bool.Decides.{eqb_tells}
use Rattle.std.proofs.lemmas.Slice.Eq.{bytes_eq-Decides}
use Rattle.history_laws.proofs.CallerLemmas.{all-filter, all-more}
use Rattle.exchange_model.specs.declared.kept.Exchange.{Exchange}
use Rattle.exchange_model.specs.Steps.{is_under}
use Rattle.exchange_model.specs.Matters.{is_other}
use Rattle.exchange_table.specs.declared.index.Named.{Named}
use Rattle.exchange_table.specs.Places.{RiseBy}
use Rattle.exchange_table.specs.Tables.{IsIndexed, has_number, is_opened_at, is_under_none, name_of, number_of, opening_of}
use Rattle.exchange_table.proofs.Indexed.{one-opening, under-number}
use Rattle.exchange_table.proofs.Searching.{any-if, any-with, below-other, both-hold, or-first, or-second, same-as}

-- one after another

not-or : (b c : Bool) → not (b || c) ≡ (not b && not c)
not-or true c = refl
not-or false c = refl

none-more : (ms : List Exchange) (m e : Exchange) → is_under_none (ms ++ m ∷ []) e ≡ (is_under_none ms e && is_other m.token e)
none-more ms m e = ap not (any-with (λ (f : Exchange). is_under f.token e) ms m) ∙ not-or (list_any (λ (f : Exchange). is_under f.token e) ms) (is_under m.token e)

filter-more : (ms : List Exchange) (m : Exchange) (es : List Exchange) → filter (is_other m.token) (filter (is_under_none ms) es) ≡ filter (is_under_none (ms ++ m ∷ [])) es
filter-more ms m [] = refl
filter-more ms m (e ∷ es) =
    by (is_under_none ms e) (filter-more ms m es)
    ∙ ap (λ (b : Bool). cond b (e ∷ filter (is_under_none (ms ++ m ∷ [])) es) (filter (is_under_none (ms ++ m ∷ [])) es)) (sym (none-more ms m e))
  where
    more : List Exchange
    more = filter (is_under_none (ms ++ m ∷ [])) es

    by : (b : Bool) → filter (is_other m.token) (filter (is_under_none ms) es) ≡ filter (is_under_none (ms ++ m ∷ [])) es
        → filter (is_other m.token) (cond b (e ∷ filter (is_under_none ms) es) (filter (is_under_none ms) es)) ≡ cond (b && is_other m.token e) (e ∷ more) more
    by true h = ap (λ (fs : List Exchange). cond (is_other m.token e) (e ∷ fs) fs) h
    by false h = h

take-more : (ms : List Exchange) (i : ℕ) (d : Exchange) → i < length ms → take (suc i) ms ≡ take i ms ++ get_or ms i d ∷ []
take-more [] i d lt = absurd (omega (arith, lt))
take-more (m ∷ ms) zero d lt = refl
take-more (m ∷ ms) (suc i) d lt = ap (λ (xs : List Exchange). m ∷ xs) (take-more ms i d (omega (arith, lt)))

pub left-none : (es : List Exchange) → es ≡ filter (is_under_none []) es
left-none [] = refl
left-none (e ∷ es) = ap (λ (xs : List Exchange). e ∷ xs) (left-none es)

pub left-next : (ms : List Exchange) (i : ℕ) (d m : Exchange) (old now new : List Exchange) → i < length ms → m ≡ get_or ms i d
    → now ≡ filter (is_under_none (take i ms)) old → new ≡ filter (is_other m.token) now → new ≡ filter (is_under_none (take (i + 1) ms)) old
left-next ms i d m old now new lt is here last =
    last ∙ ap (filter (is_other m.token)) here ∙ filter-more (take i ms) m old
    ∙ ap (λ (x : Exchange). filter (is_under_none (take i ms ++ x ∷ [])) old) is
    ∙ ap (λ (xs : List Exchange). filter (is_under_none xs) old) (sym (take-more ms i d lt) ∙ ap (λ (k : ℕ). take k ms) (sym more))
  where
    more : i + 1 ≡ suc i
    more = omega arith

take-whole : (ms : List Exchange) (i : ℕ) → length ms ≤ i → take i ms ≡ ms
take-whole [] zero le = refl
take-whole [] (suc i) le = refl
take-whole (m ∷ ms) zero le = absurd (omega (arith, le))
take-whole (m ∷ ms) (suc i) le = ap (λ (xs : List Exchange). m ∷ xs) (take-whole ms i (omega (arith, le)))

pub left-done : (ms : List Exchange) (i : ℕ) (old now : List Exchange) → length ms ≤ i → now ≡ filter (is_under_none (take i ms)) old → now ≡ filter (is_under_none ms) old
left-done ms i old now le here = here ∙ ap (λ (xs : List Exchange). filter (is_under_none xs) old) (take-whole ms i le)

-- some of them: an opening stands among those that pass, where what was opened so passes

any-of-kept : (keeps : Exchange → Bool) (es : List Exchange) (n : ℕ) → AllByRecursion (λ (e : Exchange). n < e.opening) es → list_any (is_opened_at n) (filter keeps es) ≡ false
any-of-kept keeps [] n a = refl
any-of-kept keeps (e ∷ es) n a = by (keeps e) (any-of-kept keeps es n a.1)
  where
    other : is_opened_at n e ≡ false
    other = elim (eqb_tells e.opening n) [ inl w ↦ absurd (let above = a.0 in let same = w.1 in omega (arith, above, same)) | inr w ↦ w.0 ]

    by : (b : Bool) → list_any (is_opened_at n) (filter keeps es) ≡ false → list_any (is_opened_at n) (cond b (e ∷ filter keeps es) (filter keeps es)) ≡ false
    by true h = rw (other) h
    by false h = h

kept-in : (keeps : Exchange → Bool) (es : List Exchange) → RiseBy opening_of es → AllByRecursion (λ (e : Exchange). list_any (is_opened_at e.opening) (filter keeps es) ≡ keeps e) es
kept-in keeps [] r = tt
kept-in keeps (e ∷ es) r = by (keeps e) refl (kept-in keeps es r.1)
  where
    rest : (b : Bool) (f : Exchange) → e.opening < f.opening → list_any (is_opened_at f.opening) (filter keeps es) ≡ keeps f
        → list_any (is_opened_at f.opening) (cond b (e ∷ filter keeps es) (filter keeps es)) ≡ keeps f
    rest true f lt h = rw (below-other e.opening f.opening lt) h
    rest false f lt h = h

    tails : (b : Bool) → AllByRecursion (λ (f : Exchange). list_any (is_opened_at f.opening) (filter keeps es) ≡ keeps f) es
        → AllByRecursion (λ (f : Exchange). list_any (is_opened_at f.opening) (cond b (e ∷ filter keeps es) (filter keeps es)) ≡ keeps f) es
    tails b left =
        all-more (λ (f : Exchange). (e.opening < f.opening) × (list_any (is_opened_at f.opening) (filter keeps es) ≡ keeps f))
        (λ (f : Exchange). list_any (is_opened_at f.opening) (cond b (e ∷ filter keeps es) (filter keeps es)) ≡ keeps f) (λ f h. rest b f h.0 h.1) es
        (both-hold (λ (f : Exchange). e.opening < f.opening) (λ (f : Exchange). list_any (is_opened_at f.opening) (filter keeps es) ≡ keeps f) es r.0 left)

    by : (b : Bool) → keeps e ≡ b → AllByRecursion (λ (f : Exchange). list_any (is_opened_at f.opening) (filter keeps es) ≡ keeps f) es
        → AllByRecursion (λ (f : Exchange). list_any (is_opened_at f.opening) (cond b (e ∷ filter keeps es) (filter keeps es)) ≡ keeps f) (e ∷ es)
    by true is left = (or-first (is_opened_at e.opening e) (list_any (is_opened_at e.opening) (filter keeps es)) (same-as e.opening e.opening refl) ∙ sym is, tails true left)
    by false is left = (any-of-kept keeps es e.opening r.0 ∙ sym is, tails false left)

-- Under the tokens of those that end, in a table, are just these.

same-filter : (p q : Exchange → Bool) (es : List Exchange) → AllByRecursion (λ (e : Exchange). p e ≡ q e) es → filter p es ≡ filter q es
same-filter p q [] a = refl
same-filter p q (e ∷ es) a =
    ap (λ (b : Bool). cond b (e ∷ filter p es) (filter p es)) a.0
    ∙ ap (λ (fs : List Exchange). cond (q e) (e ∷ fs) fs) (same-filter p q es a.1)

same-bool : (b c : Bool) → (b ≡ true → c ≡ true) → (c ≡ true → b ≡ true) → b ≡ c
same-bool true c f g = sym (f refl)
same-bool false true f g = g refl
same-bool false false f g = refl

module _ (ends : Exchange → Bool) where
  abbrev under : List Exchange → Exchange → Bool
  under over e = list_any (λ (f : Exchange). is_under f.token e) over

  itself : (es : List Exchange) → AllByRecursion (λ (e : Exchange). ends e ≡ true → under (filter ends es) e ≡ true) es
  itself [] = tt
  itself (e ∷ es) = (
    here (ends e),
    all-more (λ (x : Exchange). ends x ≡ true → under (filter ends es) x ≡ true)
        (λ (x : Exchange). ends x ≡ true → under (cond (ends e) (e ∷ filter ends es) (filter ends es)) x ≡ true)
        (λ x h is. more (ends e) x (h is)) es (itself es),
  )
    where
      here : (b : Bool) → b ≡ true → under (cond b (e ∷ filter ends es) (filter ends es)) e ≡ true
      here true h = or-first (is_under e.token e) (under (filter ends es) e) ((bytes_eq-Decides e.token e.token).1 refl)
      here false h = absurd (false≢true h)

      more : (b : Bool) (x : Exchange) → under (filter ends es) x ≡ true → under (cond b (e ∷ filter ends es) (filter ends es)) x ≡ true
      more true x h = or-second (is_under e.token x) (under (filter ends es) x) h
      more false x h = h

  pub those-left : (es : List Exchange) (names : List Named) → IsIndexed es names → filter (is_under_none (filter ends es)) es ≡ filter (λ (e : Exchange). not (ends e)) es
  those-left es names indexed =
      same-filter (is_under_none (filter ends es)) (λ (e : Exchange). not (ends e)) es
      (all-more Known (λ (e : Exchange). is_under_none (filter ends es) e ≡ not (ends e)) (λ e h. ap not (one e h)) es
      (both-hold Found (λ (e : Exchange). (list_any (is_opened_at e.opening) (filter ends es) ≡ ends e) × (ends e ≡ true → under (filter ends es) e ≡ true)) es indexed.each
      (both-hold (λ (e : Exchange). list_any (is_opened_at e.opening) (filter ends es) ≡ ends e) (λ (e : Exchange). ends e ≡ true → under (filter ends es) e ≡ true) es
      (kept-in ends es indexed.openings) (itself es))))
    where
      Found : Exchange → Type 0
      Found e = find (has_number (number_of e)) names ≡ Some (name_of e)

      Known : Exchange → Type 0
      Known e = Found e × ((list_any (is_opened_at e.opening) (filter ends es) ≡ ends e) × (ends e ≡ true → under (filter ends es) e ≡ true))

      opened : (e f : Exchange) → Found e → Found f → is_under f.token e ≡ true → is_opened_at e.opening f ≡ true
      opened e f found at is = same-as f.opening e.opening (sym (one-opening names (number_of f) f e at found (under-number f.token e is)))

      one : (e : Exchange) → Known e → under (filter ends es) e ≡ ends e
      one e h =
          same-bool (under (filter ends es) e) (ends e)
          (λ is. sym h.1.0 ∙ any-if (λ (f : Exchange). is_under f.token e) (is_opened_at e.opening) (filter ends es)
          (all-more Found (λ (f : Exchange). is_under f.token e ≡ true → is_opened_at e.opening f ≡ true) (λ f at. opened e f h.0 at) (filter ends es)
          (all-filter Found ends es indexed.each)) is)
          h.1.1
