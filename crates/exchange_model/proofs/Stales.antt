-- What the open exchanges ask about.
use Rattle.std.proofs.Common.{◌≡◌, ℕ, suc, ◌<◌, ◌≤◌, Bool, true, false, cond, eqb, not, List, [], ◌∷◌, ◌++◌, length, Option, Some, None, refl, sym, ap, ◌∙◌, arith}
use Rattle.std.specs.Prelude.{filter, map}
use Rattle.std.specs.List.{AllByRecursion, list_any}
use Rattle.std.proofs.lemmas.Bool.{false≢true}
use Rattle.resp_cache.specs.Stored.{Stored}
use Rattle.history_laws.specs.Readings.{Noted}
use Rattle.history_laws.specs.Progress.{Reply}
use Rattle.history_laws.specs.Exchanges.{Begun, begun, kept, replies, begins_with, heard_for}
use Rattle.history_laws.proofs.CallerLemmas.{all-join, all-more, begun-below, eqb-itself, eqb-same}
use Rattle.history_links.proofs.CallerLemmas.{kept-keeps}
use Rattle.exchange_model.specs.declared.kept.Exchange.{Exchange}
use Rattle.exchange_model.specs.declared.kept.Stale.{Stale}
use Rattle.exchange_model.specs.Reads.{StalesIn, kept_in, kept_yet}
use Rattle.exchange_model.specs.Steps.{stale_for, is_under, went_out}
use Rattle.exchange_model.specs.Matters.{stale_in}
use Rattle.exchange_model.specs.Hearing.{is_stale_of_none, is_stale_of_other}

pub kept-same : (l n : List Noted) (o : ℕ) → kept n o ≡ kept l o → replies n o ≡ replies l o → kept_in n o ≡ kept_in l o
kept-same l n o keeps same = ap (λ (v : Option Stored). kept_yet v (replies n o)) keeps ∙ ap (kept_yet (kept l o)) same

-- Where nothing was heard for it, no reply came.
pub no-replies : (l : List Noted) (o : ℕ) → heard_for l o ≡ [] → replies l o ≡ []
no-replies l o e = after (begins_with l o) (replies l o) e
  where
    after : (bs rs : List Reply) → bs ++ rs ≡ [] → rs ≡ []
    after [] rs e = e
    after (b ∷ bs) rs e = absurd cc

pub kept-stays : (x : Noted) (l : List Noted) (o : ℕ) (b : Begun) → begun l o ≡ Some b → replies (x ∷ l) o ≡ replies l o → kept_in (x ∷ l) o ≡ kept_in l o
kept-stays x l o b opened same = kept-same l (x ∷ l) o (kept-keeps x l o (begun-below l o b opened)) same

-- A reply ends that.
pub kept-replied : (old : Option Stored) (rs : List Reply) (r : Reply) → kept_yet old (rs ++ r ∷ []) ≡ None
kept-replied old [] r = refl
kept-replied old (y ∷ rs) r = refl

pub stales-below : (l n : List Noted) (xs : List Stale) → length l ≤ length n → AllByRecursion (λ (x : Stale). x.opening < length l) xs
    → AllByRecursion (λ (x : Stale). x.opening < length n) xs
stales-below l n xs le = all-more (λ (x : Stale). x.opening < length l) (λ (x : Stale). x.opening < length n) (λ x h. omega (arith, h, le)) xs

pub stales-stay : (l n : List Noted) (es : List Exchange) (xs : List Stale) → length l ≤ length n
    → AllByRecursion (λ (e : Exchange). kept_in n e.opening ≡ kept_in l e.opening) es → StalesIn l es xs → StalesIn n es xs
stales-stay l n es xs le same h = record { kept = each es same h.kept; below = stales-below l n xs le h.below }
  where
    each : (es : List Exchange) → AllByRecursion (λ (e : Exchange). kept_in n e.opening ≡ kept_in l e.opening) es
        → AllByRecursion (λ (e : Exchange). kept_in l e.opening ≡ stale_in e.opening xs) es → AllByRecursion (λ (e : Exchange). kept_in n e.opening ≡ stale_in e.opening xs) es
    each [] s h = tt
    each (e ∷ es) s h = (s.0 ∙ h.0, each es s.1 h.1)

pub stales-quiet : (x : Noted) (l : List Noted) (es : List Exchange) (xs : List Stale) (Q : Exchange → Type 0)
    → ((e : Exchange) → Q e → (b : Begun) × (begun l e.opening ≡ Some b)) → ((e : Exchange) → Q e → replies (x ∷ l) e.opening ≡ replies l e.opening)
    → AllByRecursion Q es → StalesIn l es xs → StalesIn (x ∷ l) es xs
stales-quiet x l es xs Q opened quiet all h =
    stales-stay l (x ∷ l) es xs (omega arith)
    (all-more Q (λ (e : Exchange). kept_in (x ∷ l) e.opening ≡ kept_in l e.opening)
    (λ e q. let b = opened e q in kept-stays x l e.opening b.0 b.1 (quiet e q)) es all) h

-- What is sent leaves the openings.
pub stales-sent : (l : List Noted) (token : List ℕ) (i : ℕ) (es : List Exchange) (xs : List Stale) → StalesIn l es xs → StalesIn l (map (went_out token i) es) xs
stales-sent l token i es xs h = record { kept = each es h.kept; below = h.below }
  where
    each : (es : List Exchange) → AllByRecursion (λ (e : Exchange). kept_in l e.opening ≡ stale_in e.opening xs) es
        → AllByRecursion (λ (e : Exchange). kept_in l e.opening ≡ stale_in e.opening xs) (map (went_out token i) es)
    each [] h = tt
    each (e ∷ es) h = (by (is_under token e), each es h.1)
      where
        by : (b : Bool) → kept_in l (cond b (record e { sending = Some i; awaits = true }) e).opening ≡ stale_in (cond b (record e { sending = Some i; awaits = true }) e).opening xs
        by true = h.0
        by false = h.0

apart : (a b : ℕ) → a < b → eqb a b ≡ false
apart a b lt = by (eqb a b) refl
  where
    by : (c : Bool) → eqb a b ≡ c → c ≡ false
    by false e = refl
    by true e = let same = eqb-same a b e in absurd (omega (arith, lt, same))

-- What is opened now has none yet, and then what is kept for it.
pub none-stale : (o : ℕ) (xs : List Stale) → AllByRecursion (λ (x : Stale). x.opening < o) xs → stale_in o xs ≡ None
none-stale o [] h = refl
none-stale o (x ∷ xs) h = rw (apart x.opening o h.0) (none-stale o xs h.1)

pub stale-new : (o : ℕ) (k : Option Stored) (xs : List Stale) → AllByRecursion (λ (x : Stale). x.opening < o) xs → stale_in o (xs ++ stale_for o k) ≡ k
stale-new o None [] h = refl
stale-new o (Some s) [] h = rw (eqb-itself o) refl
stale-new o k (x ∷ xs) h = rw (apart x.opening o h.0) (stale-new o k xs h.1)

pub stale-old : (o n : ℕ) (k : Option Stored) (xs : List Stale) → o < n → stale_in o (xs ++ stale_for n k) ≡ stale_in o xs
stale-old o n None [] lt = refl
stale-old o n (Some s) [] lt = rw (other (eqb n o) refl) refl
  where
    other : (c : Bool) → eqb n o ≡ c → c ≡ false
    other false e = refl
    other true e = let same = eqb-same n o e in absurd (omega (arith, lt, same))
stale-old o n k (x ∷ xs) lt = by (eqb x.opening o) refl (stale-old o n k xs lt)
  where
    by : (b : Bool) → eqb x.opening o ≡ b → stale_in o (xs ++ stale_for n k) ≡ stale_in o xs → stale_in o (x ∷ (xs ++ stale_for n k)) ≡ stale_in o (x ∷ xs)
    by true e ih = rw (e) refl
    by false e ih = rw (e) ih

pub stales-more : (n : ℕ) (k : Option Stored) (xs : List Stale) → AllByRecursion (λ (x : Stale). x.opening < n) xs → AllByRecursion (λ (x : Stale). x.opening < suc n) (xs ++ stale_for n k)
stales-more n k xs h = all-join (λ (x : Stale). x.opening < suc n) xs (stale_for n k) (all-more (λ (x : Stale). x.opening < n) (λ (x : Stale). x.opening < suc n) (λ x lt. omega (arith, lt)) xs h) (last k)
  where
    last : (k : Option Stored) → AllByRecursion (λ (x : Stale). x.opening < suc n) (stale_for n k)
    last None = tt
    last (Some s) = (omega arith, tt)

-- Those of one exchange go, and those of others stay.
pub stale-gone : (e : Exchange) (xs : List Stale) → stale_in e.opening (filter (is_stale_of_other e) xs) ≡ None
stale-gone e [] = refl
stale-gone e (x ∷ xs) = by (eqb x.opening e.opening) refl (stale-gone e xs)
  where
    by : (b : Bool) → eqb x.opening e.opening ≡ b → stale_in e.opening (filter (is_stale_of_other e) xs) ≡ None
        → stale_in e.opening (cond (not b) (x ∷ filter (is_stale_of_other e) xs) (filter (is_stale_of_other e) xs)) ≡ None
    by true is ih = ih
    by false is ih = rw (is) ih

pub stale-others : (e : Exchange) (o : ℕ) → eqb o e.opening ≡ false → (xs : List Stale) → stale_in o (filter (is_stale_of_other e) xs) ≡ stale_in o xs
stale-others e o other [] = refl
stale-others e o other (x ∷ xs) = by (eqb x.opening e.opening) refl (eqb x.opening o) refl (stale-others e o other xs)
  where
    by : (b : Bool) → eqb x.opening e.opening ≡ b → (c : Bool) → eqb x.opening o ≡ c
        → stale_in o (filter (is_stale_of_other e) xs) ≡ stale_in o xs
        → stale_in o (cond (not b) (x ∷ filter (is_stale_of_other e) xs) (filter (is_stale_of_other e) xs)) ≡ stale_in o (x ∷ xs)
    by true is true at_o ih = absurd (false≢true (sym other ∙ (ap (λ (k : ℕ). eqb k e.opening) (sym (eqb-same x.opening o at_o)) ∙ is)))
    by true is false at_o ih = rw (at_o) ih
    by false is true at_o ih = rw (at_o) refl
    by false is false at_o ih = rw (at_o) ih

pub stale-spared : (o : ℕ) (over : List Exchange) (xs : List Stale) → list_any (λ (f : Exchange). eqb o f.opening) over ≡ false
    → stale_in o (filter (is_stale_of_none over) xs) ≡ stale_in o xs
stale-spared o over [] none = refl
stale-spared o over (x ∷ xs) none = by (eqb x.opening o) refl (is_stale_of_none over x) refl (stale-spared o over xs none)
  where
    spared : x.opening ≡ o → is_stale_of_none over x ≡ true
    spared same = ap not (ap (λ (k : ℕ). list_any (λ (f : Exchange). eqb k f.opening) over) same ∙ none)

    by : (b : Bool) → eqb x.opening o ≡ b → (c : Bool) → is_stale_of_none over x ≡ c
        → stale_in o (filter (is_stale_of_none over) xs) ≡ stale_in o xs
        → stale_in o (cond c (x ∷ filter (is_stale_of_none over) xs) (filter (is_stale_of_none over) xs)) ≡ stale_in o (x ∷ xs)
    by true is true left ih = rw (is) refl
    by true is false left ih = absurd (false≢true (sym left ∙ spared (eqb-same x.opening o is)))
    by false is true left ih = rw (is) ih
    by false is false left ih = rw (is) ih
