-- What an index knows of its exchanges, and that it stays one.
use Rattle.std.proofs.Common.{◌≡◌, ◌≢◌, ℕ, zero, suc, ◌<◌, Bool, true, false, not, cond, eqb, List, [], ◌∷◌, ◌++◌, length, map, get_or, Option, Some, None, option_map, inl, inr, refl, sym, ap, subst, ◌∙◌, ◌&&◌, ◌||◌, arith}
use Rattle.std.specs.Prelude.{filter, is_some, IfSome}
use Rattle.std.specs.List.{AllByRecursion, find, list_any}
use Rattle.std.proofs.Math.ListN.{set}
use Rattle.std.proofs.lemmas.Bool.{cases_Bool, eqb-true, false≢true}
use Rattle.std.proofs.lemmas.Bool.Decides.{eqb_tells}
use Rattle.std.proofs.lemmas.Slice.Eq.{bytes_eq-Decides}
use Rattle.history_laws.specs.Numbering.{token_number}
use Rattle.history_laws.specs.Progress.{Progress}
use Rattle.history_laws.proofs.CallerLemmas.{all-filter, all-more, all-push}
use Rattle.exchange_model.proofs.CallerLemmas.{not-under}
use Rattle.exchange_model.specs.declared.kept.Exchange.{Exchange}
use Rattle.exchange_model.specs.declared.kept.Work.{Work}
use Rattle.exchange_model.specs.Steps.{is_under, went_out}
use Rattle.exchange_model.specs.Matters.{is_other, work_by}
use Rattle.exchange_model.specs.Hearing.{continued, goes_so, got_by, newest_by}
use Rattle.exchange_table.specs.declared.index.Named.{Named}
use Rattle.exchange_table.specs.Places.{RiseBy, IsNowhere, IsOnlyAt}
use Rattle.exchange_table.specs.Tables.{IsIndexed, IsLatest, IsNewest, has_number, is_named, is_opened_at, name_of, named_anew, opening_in, opening_under, number_in, number_of, opening_of, carried_on, went_on}
use Rattle.exchange_table.proofs.Standing.{all-at, map-none, map-only, any-none, any-only, only-is, rise-filter, rise-map}
use Rattle.exchange_table.proofs.Searching.{some-is, none-some, each-so, both-hold, filter-if, map-all, find-filter, any-filter, any-map, any-mapped, any-there, any-push, any-last, find-push, find-last, rise-push, same-as, unequal, eqb-not, all-of}

-- Under a token stands what bears its number.
pub under-number : (token : List ℕ) (e : Exchange) → is_under token e ≡ true → number_of e ≡ token_number token
under-number token e h = ap token_number ((bytes_eq-Decides e.token token).0 h)

named-number : (x : Named) (e : Exchange) → is_named x e ≡ true → number_of e ≡ x.number
named-number x e h = by (is_opened_at x.opening e) h
  where
    by : (b : Bool) → (b && eqb (number_of e) x.number) ≡ true → number_of e ≡ x.number
    by true k = eqb-true (number_of e) x.number k
    by false k = absurd (false≢true k)

named-opening : (x : Named) (e : Exchange) → is_named x e ≡ true → e.opening ≡ x.opening
named-opening x e h = by (is_opened_at x.opening e) refl h
  where
    by : (b : Bool) → is_opened_at x.opening e ≡ b → (b && eqb (number_of e) x.number) ≡ true → e.opening ≡ x.opening
    by true is k = eqb-true e.opening x.opening is
    by false is k = absurd (false≢true k)

names-it : (e : Exchange) → is_named (name_of e) e ≡ true
names-it e = rw (same-as e.opening e.opening refl) (same-as (number_of e) (number_of e) refl)

-- Whatever passes a test that tells an opening is the one that was opened there.

abbrev pub Tells-opening : (Exchange → Bool) → ℕ → List Exchange → Type 0
Tells-opening q o es = AllByRecursion (λ (e : Exchange). q e ≡ true → e.opening ≡ o) es

not-opened : (q : Exchange → Bool) (o : ℕ) (e : Exchange) → (q e ≡ true → e.opening ≡ o) → is_opened_at o e ≡ false → q e ≡ false
not-opened q o e tells other = elim (cases_Bool (q e)) [ inl h ↦ absurd (false≢true (sym other ∙ same-as e.opening o (tells h))) | inr h ↦ h ]

pub none-opened : (q : Exchange → Bool) (o : ℕ) (es : List Exchange) → Tells-opening q o es → IsNowhere (is_opened_at o) es → IsNowhere q es
none-opened q o [] tells none = tt
none-opened q o (e ∷ es) tells none = (not-opened q o e tells.0 none.0, none-opened q o es tells.1 none.1)

pub only-opened : (q : Exchange → Bool) (o : ℕ) (es : List Exchange) (i : ℕ) (d : Exchange) → Tells-opening q o es → IsOnlyAt (is_opened_at o) es i
    → q (get_or es i d) ≡ true → IsOnlyAt q es i
only-opened q o [] i d tells only so = absurd only
only-opened q o (e ∷ es) zero d tells only so = (so, none-opened q o es tells.1 only.1)
only-opened q o (e ∷ es) (suc i) d tells only so = (not-opened q o e tells.0 only.0, only-opened q o es i d tells.1 only.1 so)

pub other-opened : (q : Exchange → Bool) (o : ℕ) (es : List Exchange) (i : ℕ) (d : Exchange) → Tells-opening q o es → IsOnlyAt (is_opened_at o) es i
    → q (get_or es i d) ≡ false → IsNowhere q es
other-opened q o [] i d tells only so = absurd only
other-opened q o (e ∷ es) zero d tells only so = (so, none-opened q o es tells.1 only.1)
other-opened q o (e ∷ es) (suc i) d tells only so = (not-opened q o e tells.0 only.0, other-opened q o es i d tells.1 only.1 so)

pub opened-any : (o : ℕ) (es : List Exchange) (found : Option ℕ) → IfSome found (IsOnlyAt (is_opened_at o) es) → (found ≡ None → IsNowhere (is_opened_at o) es)
    → is_some found ≡ list_any (is_opened_at o) es
opened-any o es None some none = sym (any-none (is_opened_at o) (is_opened_at o) es (λ x h. h) (none refl))
opened-any o [] (Some i) some none = absurd some
opened-any o (e ∷ es) (Some i) some none = sym (any-only (is_opened_at o) (is_opened_at o) (e ∷ es) i e (λ x h. h) some ∙ only-is (is_opened_at o) (e ∷ es) i e some)

-- An index tells where what is under a token was opened.

abbrev Found : List Named → Exchange → Type 0
Found names e = find (has_number (number_of e)) names ≡ Some (name_of e)

named-at : (es : List Exchange) (names : List Named) (token : List ℕ) (e : Exchange) → find (has_number (number_of e)) names ≡ Some (name_of e) → is_under token e ≡ true
    → opening_under (token_number token) names ≡ Some e.opening
named-at es names token e found under = ap (λ n. opening_under n names) (sym (under-number token e under)) ∙ ap (option_map opening_in) found

pub under-tells : (es : List Exchange) (names : List Named) (token : List ℕ) (o : ℕ) → IsIndexed es names
    → Some o ≡ opening_under (token_number token) names → Tells-opening (is_under token) o es
under-tells es names token o indexed is =
    each-so (λ (e : Exchange). is_under token e ≡ true → e.opening ≡ o) es indexed.each
    (λ (e : Exchange) (found : Found names e) (under : is_under token e ≡ true). some-is e.opening o (sym (named-at es names token e found under) ∙ sym is))

pub under-none : (es : List Exchange) (names : List Named) (token : List ℕ) → IsIndexed es names
    → None ≡ opening_under (token_number token) names → IsNowhere (is_under token) es
under-none es names token indexed none =
    each-so (λ (e : Exchange). is_under token e ≡ false) es indexed.each (λ (e : Exchange) (found : Found names e). elim (cases_Bool (is_under token e)) [
      | inl under ↦ absurd (none-some e.opening (none ∙ named-at es names token e found under))
      | inr h ↦ h
    ])

-- one more

number-below : (n : ℕ) (x : Named) (fs : List Exchange) → AllByRecursion (λ (f : Exchange). number_of f < n) fs → list_any (is_named x) fs ≡ true → x.number < n
number-below n x [] a h = absurd (false≢true h)
number-below n x (f ∷ fs) a h = by (is_named x f) refl h (number-below n x fs a.1)
  where
    by : (b : Bool) → is_named x f ≡ b → (b || list_any (is_named x) fs) ≡ true → (list_any (is_named x) fs ≡ true → x.number < n) → x.number < n
    by true is k g = let same = named-number x f is in let lt = a.0 in omega (arith, same, lt)
    by false is k g = g k

names-below : (n : ℕ) (es : List Exchange) (names : List Named) → AllByRecursion (λ (f : Exchange). number_of f < n) es → AllByRecursion (λ (x : Named). list_any (is_named x) es ≡ true) names
    → AllByRecursion (λ (x : Named). number_in x < n) names
names-below n es names below named = all-more _ _ (λ (x : Named) h. number-below n x es below h) names named

below-nowhere : (n : ℕ) (names : List Named) → AllByRecursion (λ (x : Named). number_in x < n) names → IsNowhere (has_number n) names
below-nowhere n names below =
    all-more _ _ (λ (x : Named) lt. elim (eqb_tells x.number n) [ inl w ↦ absurd (let same = w.1 in omega (arith, same, lt)) | inr w ↦ w.0 ]) names below

pub index-push : (es : List Exchange) (names : List Named) (e : Exchange) → IsIndexed es names → IsLatest e es
    → IsIndexed (es ++ e ∷ []) (names ++ name_of e ∷ [])
index-push es names e indexed latest = record {
  openings = rise-push opening_of es e indexed.openings latest.opening;
  numbers = rise-push number_in names (name_of e) indexed.numbers lower;
  each = all-push _ es e
      (all-more _ _ (λ (f : Exchange) found. find-push (has_number (number_of f)) names (name_of f) (name_of e) found) es indexed.each)
      (find-last (has_number (number_of e)) names (name_of e) (below-nowhere (number_of e) names lower) (same-as (number_of e) (number_of e) refl));
  none_beside = all-push _ names (name_of e)
      (all-more _ _ (λ (x : Named) named. any-push (is_named x) es e named) names indexed.none_beside)
      (any-last (is_named (name_of e)) es e (names-it e));
}
  where
    lower : AllByRecursion (λ (x : Named). number_in x < number_in (name_of e)) names
    lower = names-below (number_of e) es names latest.token indexed.none_beside

-- the same ones, changed otherwise than by token and opening

pub index-map : (f : Exchange → Exchange) (es : List Exchange) (names : List Named) → ((e : Exchange) → name_of (f e) ≡ name_of e) → IsIndexed es names
    → IsIndexed (map f es) names
index-map f es names same indexed = record {
  openings = rise-map opening_of f es (λ e. ap (λ (x : Named). x.opening) (same e)) indexed.openings;
  numbers = indexed.numbers;
  each = map-all _ f es (all-more _ _ (λ (e : Exchange) found.
      ap (λ n. find (has_number n) names) (ap (λ (x : Named). x.number) (same e)) ∙ found ∙ ap Some (sym (same e))) es indexed.each);
  none_beside = all-more _ _ (λ (x : Named) named.
      any-map (is_named x) f es (λ e. ap (λ (y : Named). eqb y.opening x.opening && eqb y.number x.number) (sym (same e))) named) names indexed.none_beside;
}

pub out-nowhere : (token : List ℕ) (n : ℕ) (es : List Exchange) → IsNowhere (is_under token) es → map (went_out token n) es ≡ es
out-nowhere token n es h = map-none (is_under token) (went_out token n) es (not-under token n) h

pub out-only : (token : List ℕ) (n : ℕ) (es : List Exchange) (i : ℕ) (d : Exchange) → IsOnlyAt (is_under token) es i → map (went_out token n) es ≡ set es i (record (get_or es i d) { sending = Some n; awaits = true })
out-only token n es i d h = map-only (is_under token) (went_out token n) es i d (not-under token n) h
    ∙ ap (set es i) (ap (λ (b : Bool). cond b (record (get_or es i d) { sending = Some n; awaits = true }) (get_or es i d)) (only-is (is_under token) es i d h))

pub out-names : (token : List ℕ) (i : ℕ) (e : Exchange) → name_of (went_out token i e) ≡ name_of e
out-names token i e = by (is_under token e)
  where
    by : (b : Bool) → name_of (cond b (record e { sending = Some i; awaits = true }) e) ≡ name_of e
    by true = refl
    by false = refl

-- one less

pub others-apart : (q : Exchange → Bool) (es : List Exchange) (i : ℕ) (d : Exchange) → RiseBy opening_of es → IsOnlyAt q es i → i < length es
    → AllByRecursion (λ (e : Exchange). q e ≡ false → e.opening ≢ (get_or es i d).opening) es
others-apart q [] i d rise only lt = tt
others-apart q (e ∷ es) zero d rise only lt = (
  λ other is. absurd (false≢true (sym other ∙ only.0)),
  all-more (λ (f : Exchange). e.opening < f.opening) (λ (f : Exchange). q f ≡ false → f.opening ≢ e.opening) (λ (f : Exchange) less other is. absurd (omega (arith, less, is))) es rise.0,
)
others-apart q (e ∷ es) (suc i) d rise only lt =
    let inside : i < length es = omega (arith, lt) in
    let less : e.opening < (get_or es i d).opening = all-at (λ (f : Exchange). e.opening < f.opening) es i d rise.0 inside in
    (λ other is. absurd (omega (arith, less, is)), others-apart q es i d rise.1 only.1 inside)

-- what is found under the token's number, and by it alone
row-found : (es : List Exchange) (names : List Named) (token : List ℕ) (i : ℕ) (d : Exchange) → IsIndexed es names → IsOnlyAt (is_under token) es i → i < length es
    → find (has_number (token_number token)) names ≡ Some (name_of (get_or es i d))
row-found es names token i d indexed only lt =
    ap (λ m. find (has_number m) names) (sym (under-number token (get_or es i d) (only-is (is_under token) es i d only)))
    ∙ all-at (λ (e : Exchange). find (has_number (number_of e)) names ≡ Some (name_of e)) es i d indexed.each lt

pub one-opening : (names : List Named) (n : ℕ) (r e : Exchange) → find (has_number n) names ≡ Some (name_of r) → Found names e → number_of e ≡ n → e.opening ≡ r.opening
one-opening names n r e found at same =
    ap (λ (x : Named). x.opening) (some-is (name_of e) (name_of r) (sym at ∙ ap (λ m. find (has_number m) names) same ∙ found))

pub index-remove : (es : List Exchange) (names : List Named) (token : List ℕ) (i : ℕ) (d : Exchange) → IsIndexed es names → IsOnlyAt (is_under token) es i → i < length es
    → IsIndexed (filter (is_other token) es) (filter (λ x. not (has_number (token_number token) x)) names)
index-remove es names token i d indexed only lt = record {
  openings = rise-filter opening_of (is_other token) es indexed.openings;
  numbers = rise-filter number_in (λ (x : Named). not (has_number n x)) names indexed.numbers;
  each = filter-if (Found left) (is_other token) es (each-so (λ (e : Exchange). is_other token e ≡ true → Found left e) es
      (both-hold (Found names) (λ (e : Exchange). is_under token e ≡ false → e.opening ≢ r.opening) es indexed.each (others-apart (is_under token) es i d indexed.openings only lt))
      (λ (e : Exchange) (both : Found names e × (is_under token e ≡ false → e.opening ≢ r.opening)) (other : is_other token e ≡ true).
      find-filter (has_number (number_of e)) (λ (x : Named). not (has_number n x)) names (name_of e) both.0 (unequal (number_of e) n (apart e both.0 (both.1 (is-not e other))))));
  none_beside = filter-if (λ (x : Named). list_any (is_named x) some ≡ true) (λ (x : Named). not (has_number n x)) names
      (each-so (λ (x : Named). not (has_number n x) ≡ true → list_any (is_named x) some ≡ true) names indexed.none_beside
      (λ (x : Named) (named : list_any (is_named x) es ≡ true) (other : not (has_number n x) ≡ true).
      any-filter (is_named x) (is_other token) es (all-of {P = λ (e : Exchange). is_named x e ≡ true → is_other token e ≡ true} es
      (λ (e : Exchange) (is : is_named x e ≡ true). not-under e (λ same. eqb-not x.number n other (sym (named-number x e is) ∙ same)))) named));
}
  where
    left : List Named
    left = filter (λ (x : Named). not (has_number (token_number token) x)) names

    some : List Exchange
    some = filter (is_other token) es

    n : ℕ
    n = token_number token

    r : Exchange
    r = get_or es i d

    found : find (has_number n) names ≡ Some (name_of r)
    found = row-found es names token i d indexed only lt

    is-not : (e : Exchange) → is_other token e ≡ true → is_under token e ≡ false
    is-not e h = by (is_under token e) h
      where
        by : (b : Bool) → not b ≡ true → b ≡ false
        by true k = absurd (false≢true k)
        by false k = refl

    not-under : (e : Exchange) → number_of e ≢ n → is_other token e ≡ true
    not-under e differs = by (is_under token e) refl
      where
        by : (b : Bool) → is_under token e ≡ b → not b ≡ true
        by true is = absurd (differs (under-number token e is))
        by false is = refl

    apart : (e : Exchange) → Found names e → e.opening ≢ r.opening → number_of e ≢ n
    apart e at other same = other (one-opening names n r e found at same)

-- one goes on

module _ (token next : List ℕ) (work : Work) (first : Bool) where
  abbrev goes : Exchange → Exchange
  goes = went_on token next work first

  abbrev more : Exchange → Exchange
  more e = carried_on next work first e

  not-on : (e : Exchange) → is_under token e ≡ false → goes e ≡ e
  not-on e h = ap (λ (b : Bool). cond b (more e) e) h

  is-on : (e : Exchange) → is_under token e ≡ true → goes e ≡ more e
  is-on e h = ap (λ (b : Bool). cond b (more e) e) h

  pub on-nowhere : (es : List Exchange) → IsNowhere (is_under token) es → map goes es ≡ es
  on-nowhere es h = map-none (is_under token) goes es not-on h

  pub on-only : (es : List Exchange) (i : ℕ) (d : Exchange) → IsOnlyAt (is_under token) es i → map goes es ≡ set es i (more (get_or es i d))
  on-only es i d h =
      map-only (is_under token) goes es i d not-on h
      ∙ ap (set es i) (is-on (get_or es i d) (only-is (is_under token) es i d h))

  opening-stays : (e : Exchange) → opening_of (goes e) ≡ opening_of e
  opening-stays e = by (is_under token e)
    where
      by : (b : Bool) → opening_of (cond b (more e) e) ≡ opening_of e
      by true = refl
      by false = refl

  index-anew : (es : List Exchange) (names : List Named) (i : ℕ) (d : Exchange) → IsIndexed es names → IsOnlyAt (is_under token) es i → i < length es → IsNewest next es
      → IsIndexed (map goes es) (named_anew (token_number token) (token_number next) (Some (opening_of (get_or es i d))) names)
  index-anew es names i d indexed only lt newest = record {
    openings = rise-map opening_of goes es opening-stays indexed.openings;
    numbers = rise-push number_in left new (rise-filter number_in (λ (x : Named). not (has_number n x)) names indexed.numbers) lower;
    each = map-all (Found all) goes es (each-so (λ (e : Exchange). Found all (goes e)) es
        (both-hold (Found names) (λ (e : Exchange). is_under token e ≡ false → e.opening ≢ r.opening) es indexed.each (others-apart (is_under token) es i d indexed.openings only lt))
        (λ (e : Exchange) (both : Found names e × (is_under token e ≡ false → e.opening ≢ r.opening)).
        elim (cases_Bool (is_under token e)) [
          | inl is ↦ found-new e both.0 is
          | inr is ↦ found-old e both.0 (both.1 is) is
        ]));
    none_beside = all-push (λ (x : Named). list_any (is_named x) (map goes es) ≡ true) left new
        (filter-if (λ (x : Named). list_any (is_named x) (map goes es) ≡ true) (λ (x : Named). not (has_number n x)) names
        (each-so (λ (x : Named). not (has_number n x) ≡ true → list_any (is_named x) (map goes es) ≡ true) names indexed.none_beside
        (λ (x : Named) (named : list_any (is_named x) es ≡ true) (other : not (has_number n x) ≡ true). any-mapped (is_named x) goes es (keeps x other) named)))
        (any-there (is_named new) goes es i d lt (ap (is_named new) (is-on r (only-is (is_under token) es i d only)) ∙ names-it (more r)));
  }
    where
      n : ℕ
      n = token_number token

      m : ℕ
      m = token_number next

      r : Exchange
      r = get_or es i d

      new : Named
      new = record { number = token_number next; opening = opening_of (get_or es i d) }

      left : List Named
      left = filter (λ (x : Named). not (has_number (token_number token) x)) names

      all : List Named
      all = left ++ new ∷ []

      lower : AllByRecursion (λ (x : Named). number_in x < number_in new) left
      lower = all-filter (λ (x : Named). number_in x < number_in new) (λ (x : Named). not (has_number n x)) names (names-below m es names newest indexed.none_beside)

      found : find (has_number n) names ≡ Some (name_of r)
      found = row-found es names token i d indexed only lt

      found-new : (e : Exchange) → Found names e → is_under token e ≡ true → Found all (goes e)
      found-new e at is =
          subst (Found all) (sym (is-on e is))
          (find-last (has_number m) left new (below-nowhere m left lower) (same-as m m refl)
          ∙ ap (λ (o : ℕ). Some (record { number = m; opening = o })) (sym (one-opening names n r e found at (under-number token e is))))

      found-old : (e : Exchange) → Found names e → e.opening ≢ r.opening → is_under token e ≡ false → Found all (goes e)
      found-old e at other is =
          subst (Found all) (sym (not-on e is))
          (find-push (has_number (number_of e)) left (name_of e) new
          (find-filter (has_number (number_of e)) (λ (x : Named). not (has_number n x)) names (name_of e) at
          (unequal (number_of e) n (λ same. other (one-opening names n r e found at same)))))

      keeps : (x : Named) → not (has_number n x) ≡ true → (e : Exchange) → is_named x e ≡ true → is_named x (goes e) ≡ true
      keeps x other e is = elim (cases_Bool (is_under token e)) [
        | inl under ↦ absurd (eqb-not x.number n other (sym (named-number x e is) ∙ under-number token e under))
        | inr apart ↦ ap (is_named x) (not-on e apart) ∙ is
      ]

  pub index-go : (es : List Exchange) (names : List Named) (i : ℕ) (d : Exchange) → IsIndexed es names → IsOnlyAt (is_under token) es i → i < length es → IsNewest next es
      → IsIndexed (map goes es) (named_anew (token_number token) (token_number next) (opening_under (token_number token) names) names)
  index-go es names i d indexed only lt newest =
      subst (λ (o : Option ℕ). IsIndexed (map goes es) (named_anew (token_number token) (token_number next) o names))
      (sym (ap (option_map opening_in) (row-found es names token i d indexed only lt)))
      (index-anew es names i d indexed only lt newest)

-- One that goes on does so as a step of the core's state says.
pub went-so : (e : Exchange) (next : List ℕ) (work : Work) (first : Bool) (how : Progress) → ((old : Work) → work_by how old ≡ work)
    → ((old : Bool) → newest_by (got_by how) old ≡ first || old) → (es : List Exchange)
    → map (went_on e.token next work first) es ≡ map (goes_so e next how) es
went-so e next work first how same new [] = refl
went-so e next work first how same new (x ∷ es) = by (is_under e.token x) (went-so e next work first how same new es)
  where
    here : carried_on next work first x ≡ continued next how x
    here =
        ap (λ (w : Work). record x { token = next; awaits = false; observes = false; newest = first || x.newest; work = w }) (sym (same x.work))
        ∙ ap (λ (b : Bool). record x { token = next; awaits = false; observes = false; newest = b; work = work_by how x.work }) (sym (new x.newest))

    by : (b : Bool) → map (went_on e.token next work first) es ≡ map (goes_so e next how) es
        → (cond b (carried_on next work first x) x ∷ map (went_on e.token next work first) es) ≡ (cond b (continued next how x) x ∷ map (goes_so e next how) es)
    by true ih = rw (ih) (ap (λ (y : Exchange). y ∷ map (goes_so e next how) es) here)
    by false ih = ap (λ (ys : List Exchange). x ∷ ys) ih

pub index-none : IsIndexed [] []
index-none = record { openings = tt; numbers = tt; each = tt; none_beside = tt }
