-- Whether an exchange reads what is under a key is told by those with its digest.
use Rattle.std.proofs.Common.{◌≡◌, ℕ, Bool, true, false, cond, eqb, List, [], ◌∷◌, map, Option, Some, inl, inr, refl, sym, ap, ◌∙◌, ◌||◌}
use Rattle.std.specs.Prelude.{filter}
use Rattle.std.specs.List.{AllByRecursion, find, list_any}
use Rattle.std.specs.Option.{option_map_or}
use Rattle.std.proofs.lemmas.Bool.{cases_Bool, false≢true}
use Rattle.history_laws.proofs.CallerLemmas.{all-filter, all-more}
use Rattle.cache_key.specs.Digests.{digests_of}
use Rattle.cache_key.specs.Keys.{CacheKey}
use Rattle.journal_book.specs.Entries.{Written}
use Rattle.exchange_model.specs.declared.kept.Exchange.{Exchange}
use Rattle.exchange_model.specs.Matters.{IsDigested, is_reading}
use Rattle.exchange_table.specs.declared.marks.Mark.{Mark}
use Rattle.exchange_table.specs.Joining.{is_reading_marked}
use Rattle.exchange_table.specs.Marks.{AreMarked, has_digest, key_in, mark_by}
use Rattle.exchange_table.specs.Places.{RiseBy}
use Rattle.exchange_table.specs.Tables.{is_opened_at, opening_of}
use Rattle.exchange_table.proofs.Among.{not-reading}
use Rattle.exchange_table.proofs.Joined.{opened-found}
use Rattle.exchange_table.proofs.Marking.{filter-mapped}
use Rattle.exchange_table.proofs.Searching.{all-of}

-- whether any is among those that pass another test too
any-among : (p g : Exchange → Bool) (es : List Exchange) → AllByRecursion (λ (e : Exchange). p e ≡ true → g e ≡ true) es
    → list_any p es ≡ list_any p (filter g es)
any-among p g [] a = refl
any-among p g (e ∷ es) a = by (p e) (g e) refl refl (any-among p g es a.1)
  where
    by : (b c : Bool) → p e ≡ b → g e ≡ c → list_any p es ≡ list_any p (filter g es)
        → (b || list_any p es) ≡ list_any p (cond c (e ∷ filter g es) (filter g es))
    by true true is so h = rw (is) refl
    by true false is so h = absurd (false≢true (sym so ∙ a.0 is))
    by false true is so h = rw (is) h
    by false false is so h = h

module _ (ws : List Written) (key : CacheKey) (es : List Exchange) where
  abbrev p : Exchange → Bool
  p = is_reading ws key

  abbrev Stands : Exchange → Type 0
  Stands e = find (is_opened_at e.opening) es ≡ Some e

  -- by their marks
  by-marks : (fs : List Exchange) → AllByRecursion Stands fs
      → list_any p fs ≡ list_any (is_reading_marked ws key es) (map (mark_by key_in) fs)
  by-marks [] a = refl
  by-marks (f ∷ fs) a =
      ap (λ (b : Bool). p f || b) (by-marks fs a.1)
      ∙ ap (λ (b : Bool). b || list_any (is_reading_marked ws key es) (map (mark_by key_in) fs))
      (sym (ap (λ (v : Option Exchange). option_map_or p v false) a.0))

  abbrev IsOf : Exchange → Type 0
  IsOf e = p e ≡ true → eqb (key_in e.digests) (key_in (digests_of key)) ≡ true

  one : (e : Exchange) → IsDigested ws e → IsOf e
  one e digested reads = elim (cases_Bool (eqb (key_in e.digests) (key_in (digests_of key)))) [
    | inl h ↦ h
    | inr h ↦ absurd (false≢true (sym (not-reading ws key e digested h) ∙ reads))
  ]

  -- those that read it have its digest
  pub any-read : (d : ℕ) (marks alike : List Mark) → RiseBy opening_of es → AreMarked key_in es marks
      → AllByRecursion (IsDigested ws) es → d ≡ key_in (digests_of key)
      → alike ≡ filter (has_digest d) marks → list_any p es ≡ list_any (is_reading_marked ws key es) alike
  any-read d marks alike rise grouped digested same are =
      any-among p (λ (e : Exchange). eqb (key_in e.digests) (key_in (digests_of key))) es (all-more (IsDigested ws) IsOf one es digested)
      ∙ ap (λ (k : ℕ). list_any p (filter (λ (e : Exchange). eqb (key_in e.digests) k) es)) (sym same)
      ∙ by-marks (filter (λ (e : Exchange). eqb (key_in e.digests) d) es) (all-filter Stands (λ (e : Exchange). eqb (key_in e.digests) d) es (opened-found es rise))
      ∙ ap (list_any (is_reading_marked ws key es))
      (sym (filter-mapped (has_digest d) (λ (e : Exchange). eqb (key_in e.digests) d) (mark_by key_in) es (all-of {P = λ (e : Exchange). has_digest d (mark_by key_in e) ≡ eqb (key_in e.digests) d} es (λ e. refl))) ∙ sym (grouped.same d) ∙ sym are)
