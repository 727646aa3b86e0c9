use Rattle.std.proofs.Common.{◌≡◌, ℕ, ◌≤◌, Bool, List, [], ◌∷◌, Option, length, map, sym, ap, subst, ◌∙◌, arith}
use Rattle.std.specs.Prelude.{filter, slice_index_or}
use Rattle.std.specs.List.{AllByRecursion}
use Rattle.journal_book.specs.Entries.{Written}
use Rattle.reply_reading.specs.Findings.{Found}
use Rattle.history_laws.specs.Progress.{Ending}
use Rattle.exchange_model.specs.declared.kept.Exchange.{Exchange}
use Rattle.exchange_model.specs.declared.kept.Reader.{Reader}
use Rattle.exchange_model.specs.Calls.{is_reader_of}
use Rattle.exchange_progress.specs.Coming.{found_for, renews}
use Rattle.exchange_core.specs.declared.ending.Telling.{Telling}
use Rattle.exchange_core.specs.Ending.{IsTold}
use Rattle.exchange_core.specs.Matters.{readers_told, telling_for}
use Rattle.history_laws.proofs.CallerLemmas.{all-filter}
use Rattle.exchange_core.specs.Reading.{IsReaderHere, IsTellingHere}
use Rattle.exchange_core.proofs.Read.{telling-here}
use Rattle.exchange_core.proofs.ending.tell_readers.Goals as goal

-- The first who waits is told so.
first-told : (h drafted : List Written) (t : ℕ) (how : Ending) (n : ℕ) (e : Exchange) (rs waiting : List Reader) (d : Reader) → waiting ≡ filter (is_reader_of e) rs
    → 1 ≤ length waiting → AllByRecursion (IsTold h drafted t) (readers_told how n e rs) → IsTold h drafted t (telling_for how n e.sending (slice_index_or waiting 0 d))
first-told h drafted t how n e rs waiting d is some told =
    by waiting some (subst (λ (ws : List Reader). AllByRecursion (IsTold h drafted t) (map (telling_for how n e.sending) ws)) (sym is) told)
  where
    by : (ws : List Reader) → 1 ≤ length ws → AllByRecursion (IsTold h drafted t) (map (telling_for how n e.sending) ws)
        → IsTold h drafted t (telling_for how n e.sending (slice_index_or ws 0 d))
    by [] less all = absurd (omega (arith, less))
    by (x ∷ ws) less all = all.0

telling-is : (how : Ending) (n : ℕ) (sending : Option ℕ) (r : Reader) (f : Found) (b : Bool) → f ≡ found_for how n sending r → b ≡ renews how
    → (record { reader = r; finding = f; renewed = b }) ≡ telling_for how n sending r
telling-is how n sending r f b e d =
    ap (λ (g : Found). record { reader = r; finding = g; renewed = b }) e
    ∙ ap (λ (c : Bool). record { reader = r; finding = found_for how n sending r; renewed = c }) d

pub draft_telling-requires-clause-told : goal.draft_telling-requires-clause-told
draft_telling-requires-clause-told g c =
    let k = c.requires.told in
    let e = c.args.exchange.now in
    let h = c.args.journal.now.entries in
    let drafted = c.args.draft.now.entries in
    let none : Reader = record { ask = 0; conn = 0; opening = 0 } in
    let reader = slice_index_or c.of.result.now 0 none in
    subst (λ (x : Telling). IsTold h drafted c.args.moment x)
    (sym (telling-is k.how k.number e.sending reader _ _ (c.found_for.ensures k.number k.how e.sending k.is) (c.is_renewed.ensures k.number k.how k.is)))
    (first-told h drafted c.args.moment k.how k.number e c.args.readers.now.items c.of.result.now none c.of.ensures c.in-len1.len_at_least k.told)

-- The first who waits has an ask that can be read.
first-here : (given : ℕ) (kept : List ℕ) (e : Exchange) (rs waiting : List Reader) (d : Reader) → waiting ≡ filter (is_reader_of e) rs
    → 1 ≤ length waiting → AllByRecursion (IsReaderHere given kept) rs → IsReaderHere given kept (slice_index_or waiting 0 d)
first-here given kept e rs waiting d is some all =
    by waiting some (subst (AllByRecursion (IsReaderHere given kept)) (sym is) (all-filter (IsReaderHere given kept) (is_reader_of e) rs all))
  where
    by : (ws : List Reader) → 1 ≤ length ws → AllByRecursion (IsReaderHere given kept) ws → IsReaderHere given kept (slice_index_or ws 0 d)
    by [] less a = absurd (omega (arith, less))
    by (x ∷ ws) less a = a.0

pub draft_telling-requires-clause-here : goal.draft_telling-requires-clause-here
draft_telling-requires-clause-here g c =
    let k = c.requires.told in
    let j = c.args.journal.now in
    let e = c.args.exchange.now in
    let none : Reader = record { ask = 0; conn = 0; opening = 0 } in
    let reader = slice_index_or c.of.result.now 0 none in
    subst (λ (x : Telling). IsTellingHere j.given j.kept x)
    (sym (telling-is k.how k.number e.sending reader _ _ (c.found_for.ensures k.number k.how e.sending k.is) (c.is_renewed.ensures k.number k.how k.is)))
    (telling-here j.given j.kept k.number c.args.ended k.how e.sending reader k.is c.requires.ended
    (first-here j.given j.kept e c.args.readers.now.items c.of.result.now none c.of.ensures c.in-len1.len_at_least c.requires.waiting))
