-- Marks stay those of the exchanges, whatever is done to these.
use Rattle.std.proofs.Common.{◌≡◌, ◌≢◌, ℕ, ◌<◌, Bool, true, false, not, cond, List, [], ◌∷◌, ◌++◌, length, map, get_or, Some, inl, inr, refl, sym, ap, subst, ◌∙◌}
use Rattle.std.specs.Prelude.{filter}
use Rattle.std.specs.List.{AllByRecursion, list_any}
use Rattle.std.specs.Option.{option_map_or}
use Rattle.std.proofs.lemmas.Bool.{cases_Bool, eqb-true}
use Rattle.std.proofs.lemmas.Bool.Decides.{eqb_tells}
use Rattle.std.proofs.lemmas.List.{map_push}
use Rattle.history_laws.proofs.CallerLemmas.{all-more}
use Rattle.cache_key.specs.declared.digest.Digests.{Digests}
use Rattle.cache_key.specs.Keys.{CacheKey}
use Rattle.journal_book.specs.Entries.{Written}
use Rattle.exchange_model.specs.declared.kept.Exchange.{Exchange}
use Rattle.exchange_model.specs.declared.kept.Work.{Work}
use Rattle.exchange_model.specs.Steps.{is_under, went_out}
use Rattle.exchange_model.specs.Matters.{asked_in, outrun_by, outruns, reads_key}
use Rattle.exchange_model.specs.Hearing.{outdated_by}
use Rattle.exchange_table.specs.declared.index.Named.{Named}
use Rattle.exchange_table.specs.declared.marks.Mark.{Mark}
use Rattle.exchange_table.specs.Groups.{AreGrouped}
use Rattle.exchange_table.specs.Marks.{AreMarked, IsTable, digest_in, has_digest, is_mark_of, key_in, mark_by, opening_marked, place_in}
use Rattle.exchange_table.specs.Places.{RiseBy, IsOnlyAt}
use Rattle.exchange_table.specs.Tables.{IsIndexed, carried_on, is_opened_at, opening_of, went_on}
use Rattle.exchange_table.proofs.Grouping.{grouped-filter, only-there, through-groups}
use Rattle.exchange_table.proofs.Indexed.{others-apart}
use Rattle.exchange_table.proofs.Searching.{both-hold, map-all, same-as}
use Rattle.exchange_table.proofs.Standing.{Tells, rise-filter}

pub mark-tells : (o : ℕ) → Tells opening_marked o (is_mark_of o)
mark-tells o m e = eqb-true m.opening o e

-- what is tested of marks is tested of exchanges

pub filter-mapped : {X Y : Type 0} (p : Y → Bool) (q : X → Bool) (f : X → Y) (xs : List X) → AllByRecursion (λ x. p (f x) ≡ q x) xs
    → filter p (map f xs) ≡ map f (filter q xs)
filter-mapped p q f [] a = refl
filter-mapped {X = X} {Y = Y} p q f (x ∷ xs) a = rw (a.0) (by (q x) (filter-mapped p q f xs a.1))
  where
    by : (b : Bool) → filter p (map f xs) ≡ map f (filter q xs)
        → cond b (f x ∷ filter p (map f xs)) (filter p (map f xs)) ≡ map f (cond b (x ∷ filter q xs) (filter q xs))
    by true h = ap (λ (ys : List Y). f x ∷ ys) h
    by false h = h

-- It stays in each what the marks are made of.
abbrev pub KeepsMarks : (Exchange → Exchange) → Type 0
KeepsMarks f = (n : Digests → ℕ) (e : Exchange) → mark_by n (f e) ≡ mark_by n e

pub map-same : (n : Digests → ℕ) (f : Exchange → Exchange) (es : List Exchange) → KeepsMarks f → map (mark_by n) (map f es) ≡ map (mark_by n) es
map-same n f [] same = refl
map-same n f (e ∷ es) same = rw (same n e, map-same n f es same) refl

pub rise-marks : (n : Digests → ℕ) (es : List Exchange) → RiseBy opening_of es → RiseBy opening_marked (map (mark_by n) es)
rise-marks n [] r = tt
rise-marks n (e ∷ es) r = (map-all (λ (m : Mark). e.opening < m.opening) (mark_by n) es r.0, rise-marks n es r.1)

-- the same ones, changed otherwise than by digests and opening
marked-map : (n : Digests → ℕ) (f : Exchange → Exchange) (es : List Exchange) (marks : List Mark) → KeepsMarks f → AreMarked n es marks → AreMarked n (map f es) marks
marked-map n f es marks same are = subst (λ (ms : List Mark). AreGrouped digest_in ms marks) (sym (map-same n f es same)) are

pub table-map : (f : Exchange → Exchange) (es : List Exchange) (names named : List Named) (keys places : List Mark) → KeepsMarks f
    → IsIndexed (map f es) named → IsTable es names keys places → IsTable (map f es) named keys places
table-map f es names named keys places same indexed table = record {
  indexed = indexed;
  keyed = marked-map key_in f es keys same table.keyed;
  placed = marked-map place_in f es places same table.placed;
}

pub out-marks : (token : List ℕ) (i : ℕ) → KeepsMarks (went_out token i)
out-marks token i n e = by (is_under token e)
  where
    by : (b : Bool) → mark_by n (cond b (record e { sending = Some i; awaits = true }) e) ≡ mark_by n e
    by true = refl
    by false = refl

pub on-marks : (token next : List ℕ) (work : Work) (first : Bool) → KeepsMarks (went_on token next work first)
on-marks token next work first n e = by (is_under token e)
  where
    by : (b : Bool) → mark_by n (cond b (carried_on next work first e) e) ≡ mark_by n e
    by true = refl
    by false = refl

pub outdated-marks : (ws : List Written) (key : CacheKey) → KeepsMarks (outdated_by ws key)
outdated-marks ws key n e = by (option_map_or (reads_key key) (asked_in ws e.ask) false)
  where
    by : (b : Bool) → mark_by n (cond b (record e { newest = false }) e) ≡ mark_by n e
    by true = refl
    by false = refl

pub left-marks : (ws : List Written) (over : List Exchange) → KeepsMarks (outrun_by ws over)
left-marks ws over n e = by (list_any (outruns ws (asked_in ws e.ask)) over)
  where
    by : (b : Bool) → mark_by n (cond b (record e { current = false }) e) ≡ mark_by n e
    by true = refl
    by false = refl

-- one more
marked-push : (n : Digests → ℕ) (es : List Exchange) (e : Exchange) (marks new : List Mark) → AreMarked n es marks
    → ((ms : List Mark) → AreGrouped digest_in ms marks → AreGrouped digest_in (ms ++ mark_by n e ∷ []) new) → AreMarked n (es ++ e ∷ []) new
marked-push n es e marks new are put = subst (λ (ms : List Mark). AreGrouped digest_in ms new) (sym (map_push (mark_by n) es e)) (put (map (mark_by n) es) are)

pub table-push : (es : List Exchange) (e : Exchange) (names named : List Named) (keys places new news : List Mark) → IsIndexed (es ++ e ∷ []) named
    → IsTable es names keys places
    → ((ms : List Mark) → AreGrouped digest_in ms keys → AreGrouped digest_in (ms ++ mark_by key_in e ∷ []) new)
    → ((ms : List Mark) → AreGrouped digest_in ms places → AreGrouped digest_in (ms ++ mark_by place_in e ∷ []) news)
    → IsTable (es ++ e ∷ []) named new news
table-push es e names named keys places new news indexed table put puts = record {
  indexed = indexed;
  keyed = marked-push key_in es e keys new table.keyed put;
  placed = marked-push place_in es e places news table.placed puts;
}

-- one less
module _ (q : Exchange → Bool) (es : List Exchange) (i : ℕ) (d : Exchange) (rise : RiseBy opening_of es) (only : IsOnlyAt q es i) (lt : i < length es) where
  abbrev gone : Exchange
  gone = get_or es i d

  -- it alone has its opening
  alike : AllByRecursion (λ (e : Exchange). is_opened_at gone.opening e ≡ q e) es
  alike =
      all-more (λ (e : Exchange). (q e ≡ false → e.opening ≢ gone.opening) × (q e ≡ true → e.opening ≡ gone.opening))
      (λ (e : Exchange). is_opened_at gone.opening e ≡ q e) one es
      (both-hold (λ (e : Exchange). q e ≡ false → e.opening ≢ gone.opening) (λ (e : Exchange). q e ≡ true → e.opening ≡ gone.opening) es
      (others-apart q es i d rise only lt) (only-there opening_of q es i d only))
    where
      one : (e : Exchange) → (q e ≡ false → e.opening ≢ gone.opening) × (q e ≡ true → e.opening ≡ gone.opening) → is_opened_at gone.opening e ≡ q e
      one e h = elim (cases_Bool (q e)) [
        | inl is ↦ same-as e.opening gone.opening (h.1 is) ∙ sym is
        | inr is ↦ elim (eqb_tells e.opening gone.opening) [ inl w ↦ absurd (h.0 is w.1) | inr w ↦ w.0 ∙ sym is ]
      ]

  marks-left : (n : Digests → ℕ)
      → filter (λ (m : Mark). not (is_mark_of gone.opening m)) (map (mark_by n) es) ≡ map (mark_by n) (filter (λ (e : Exchange). not (q e)) es)
  marks-left n =
      filter-mapped (λ (m : Mark). not (is_mark_of gone.opening m)) (λ (e : Exchange). not (q e)) (mark_by n) es
      (all-more (λ (e : Exchange). is_opened_at gone.opening e ≡ q e) (λ (e : Exchange). not (is_mark_of gone.opening (mark_by n e)) ≡ not (q e)) (λ e h. ap not h) es alike)

  pub mark-there : (n : Digests → ℕ) (marks : List Mark) → AreMarked n es marks
      → AllByRecursion (λ (m : Mark). is_mark_of gone.opening m ≡ true → m.digest ≡ n gone.digests) marks
  mark-there n marks are =
      through-groups digest_in (λ (m : Mark). is_mark_of gone.opening m ≡ true → m.digest ≡ n gone.digests) (map (mark_by n) es) marks are
      (map-all (λ (m : Mark). is_mark_of gone.opening m ≡ true → m.digest ≡ n gone.digests) (mark_by n) es
      (all-more (λ (e : Exchange). (is_opened_at gone.opening e ≡ q e) × (q e ≡ true → n e.digests ≡ n gone.digests))
      (λ (e : Exchange). is_opened_at gone.opening e ≡ true → n e.digests ≡ n gone.digests) (λ e h at. h.1 (sym h.0 ∙ at)) es
      (both-hold (λ (e : Exchange). is_opened_at gone.opening e ≡ q e) (λ (e : Exchange). q e ≡ true → n e.digests ≡ n gone.digests) es
      alike (only-there (λ (e : Exchange). n e.digests) q es i d only))))

  marked-left : (n : Digests → ℕ) (marks : List Mark) → AreMarked n es marks
      → AreMarked n (filter (λ (e : Exchange). not (q e)) es) (filter (λ (m : Mark). not (is_mark_of gone.opening m)) marks)
  marked-left n marks are =
      subst (λ (ms : List Mark). AreGrouped digest_in ms (filter (λ (m : Mark). not (is_mark_of gone.opening m)) marks)) (marks-left n)
      (grouped-filter digest_in (λ (m : Mark). not (is_mark_of gone.opening m)) (map (mark_by n) es) marks are)

  pub table-left : (names left : List Named) (keys places : List Mark) → IsIndexed (filter (λ (e : Exchange). not (q e)) es) left → IsTable es names keys places
      → IsTable (filter (λ (e : Exchange). not (q e)) es) left (filter (λ (m : Mark). not (is_mark_of gone.opening m)) keys)
      (filter (λ (m : Mark). not (is_mark_of gone.opening m)) places)
  table-left names left keys places indexed table = record {
    indexed = indexed;
    keyed = marked-left key_in keys table.keyed;
    placed = marked-left place_in places table.placed;
  }

-- those of one digest stand in the order of their openings
pub rise-in-group : (n : Digests → ℕ) (d : ℕ) (es : List Exchange) (marks : List Mark) → RiseBy opening_of es → AreMarked n es marks
    → RiseBy opening_marked (filter (has_digest d) marks)
rise-in-group n d es marks rise are =
    subst (λ (ms : List Mark). RiseBy opening_marked ms) (sym (are.same d)) (rise-filter opening_marked (has_digest d) (map (mark_by n) es) (rise-marks n es rise))

pub table-none : IsIndexed [] [] → IsTable [] [] [] []
table-none indexed = record {
  indexed = indexed;
  keyed = record { order = tt; same = λ k. refl };
  placed = record { order = tt; same = λ k. refl };
}
