-- A tick has something to do from the moment of the next one on, and not before.
use Rattle.std.proofs.Common.{◌≡◌, ℕ, ◌+◌, ◌<◌, ◌≤◌, cond, inl, inr, Bool, true, false, List, [], ◌∷◌, length, map, Option, Some, None, refl, sym, ap, ◌∙◌, arith, length-append}
use Rattle.std.specs.Prelude.{filter, is_some, option_map, ◌||◌}
use Rattle.std.specs.List.{AllByRecursion, cons_option, list_any}
use Rattle.std.proofs.lemmas.Bool.{false≢true, ne_eqb}
use Rattle.std.proofs.lemmas.Bool.Decides.{eqb_tells}
use Rattle.std.proofs.lemmas.List.{length-map}
use Rattle.journal_book.specs.Entries.{Seals}
use Rattle.exchange_model.specs.declared.kept.Exchange.{Exchange}
use Rattle.exchange_model.specs.declared.kept.Reader.{Reader}
use Rattle.exchange_model.specs.State.{State}
use Rattle.exchange_model.specs.Steps.{seals}
use Rattle.exchange_model.specs.Hearing.{is_past}
use Rattle.exchange_model.specs.Calls.{is_reader_of, read_by, timeout_for, told_late, something_due, ticked}
use Rattle.exchange_model.specs.Due.{has_come, next_due}
use Rattle.exchange_model.specs.Entering.{answer_of, entered_all, tick_deeds, IsDrained}
use Rattle.exchange_model.specs.Keeping.{MayStep}
use Rattle.exchange_model.specs.Room.{fits, KeptInRoom}
use Rattle.exchange_model.specs.Sealing.{late, ticks_in_room}
use Rattle.exchange_model.proofs.CallerLemmas.{any-came, entries-more, next-due, ticks-enter}
use Rattle.exchange_table.specs.Places.{RiseBy}
use Rattle.exchange_table.specs.Tables.{opening_of}
use Rattle.exchange_core.specs.Due.{next_late, next_tick, read_deadline, IsNextTick}
use Rattle.exchange_core.specs.Ending.{late_deeds}
use Rattle.exchange_core.specs.Values.{written}
use Rattle.exchange_core.proofs.Ordered.{exchanges-ordered}
use Rattle.exchange_core.proofs.TickSound.{late-is}
use Rattle.exchange_core.proofs.TickSteps.{when-sealed, when-fits, when-full, when-none}

-- Who reads an exchange reads no other.
none-after : (t : ℕ) (r : Reader) (o : ℕ) (es : List Exchange) → r.opening ≡ o
    → AllByRecursion (λ (f : Exchange). o < f.opening) es → read_by (filter (is_past t) es) r ≡ None
none-after t r o [] same above = refl
none-after t r o (e ∷ es) same above = by (is_past t e) (none-after t r o es same above.1)
  where
    other : is_reader_of e r ≡ false
    other = let lt = above.0 in ne_eqb r.opening e.opening (λ k. absurd (omega (arith, lt, same, k)))

    by : (b : Bool) → read_by (filter (is_past t) es) r ≡ None
        → read_by (cond b (e ∷ filter (is_past t) es) (filter (is_past t) es)) r ≡ None
    by true ih = rw (other) ih
    by false ih = ih

-- So it is told of one that is past where that is past which it reads.
reads-past : (t : ℕ) (r : Reader) (es : List Exchange) → RiseBy opening_of es
    → has_come t (read_deadline es r) ≡ is_some (read_by (filter (is_past t) es) r)
reads-past t r [] rise = refl
reads-past t r (e ∷ es) rise = elim (eqb_tells r.opening e.opening) [
  | inl w ↦ rw (w.0) (here (is_past t e) w.0 (none-after t r e.opening es w.1 rise.0))
  | inr w ↦ rw (w.0) (reads-past t r es rise.1 ∙ ap is_some (later (is_past t e) w.0))
]
  where
    here : (b : Bool) → is_reader_of e r ≡ true → read_by (filter (is_past t) es) r ≡ None
        → b ≡ is_some (read_by (cond b (e ∷ filter (is_past t) es) (filter (is_past t) es)) r)
    here true reads none = rw (reads) refl
    here false reads none = rw (none) refl

    later : (b : Bool) → is_reader_of e r ≡ false
        → read_by (filter (is_past t) es) r
        ≡ read_by (cond b (e ∷ filter (is_past t) es) (filter (is_past t) es)) r
    later true other = rw (other) refl
    later false other = refl

-- whether any is told
abbrev any_late : List Exchange → List Reader → Bool
any_late es rs = list_any (λ (r : Reader). is_some (read_by es r)) rs

late-came : (t : ℕ) (es : List Exchange) (rs : List Reader) → RiseBy opening_of es
    → has_come t (next_late rs es) ≡ any_late (filter (is_past t) es) rs
late-came t es rs rise =
    any-came t (read_deadline es) rs
    ∙ ap (λ (q : Reader → Bool). list_any q rs) (λ i r. reads-past t r es rise i)

none-told : (es : List Exchange) (rs : List Reader) → any_late es rs ≡ false → told_late es rs ≡ []
none-told es [] none = refl
none-told es (r ∷ rs) none = by (read_by es r) none (none-told es rs)
  where
    by : (o : Option Exchange) → (is_some o || any_late es rs) ≡ false
        → (any_late es rs ≡ false → told_late es rs ≡ [])
        → cons_option (option_map (timeout_for r) o) (told_late es rs) ≡ []
    by None h ih = ih h
    by (Some e) h ih = absurd (false≢true (sym h))

some-told : (es : List Exchange) (rs : List Reader) → any_late es rs ≡ true
    → 0 < length (told_late es rs)
some-told es [] some = absurd (false≢true some)
some-told es (r ∷ rs) some = by (read_by es r) some (some-told es rs)
  where
    by : (o : Option Exchange) → (is_some o || any_late es rs) ≡ true
        → (any_late es rs ≡ true → 0 < length (told_late es rs))
        → 0 < length (cons_option (option_map (timeout_for r) o) (told_late es rs))
    by None h ih = ih h
    by (Some e) h ih = omega arith

none-late : (t : ℕ) (S : State) → any_late (filter (is_past t) S.exchanges) S.readers ≡ false
    → late t S ≡ S
none-late t S none =
    late-is t S
    ∙ ap (λ xs. entered_all t (map answer_of xs) S)
    (none-told (filter (is_past t) S.exchanges) S.readers none)

late-longer : (t : ℕ) (S : State)
    → length (late t S).entries
    ≡ length S.entries + length (told_late (filter (is_past t) S.exchanges) S.readers)
late-longer t S =
    ap (λ (V : State). length V.entries) (late-is t S) ∙ entries-more t (late_deeds t S) S
    ∙ ap (λ (n : ℕ). length S.entries + n)
    (length-map (told_late (filter (is_past t) S.exchanges) S.readers) answer_of)

-- A tick that has something to do adds its entry, or the seal.
due-adds : (t : ℕ) (S : State) → KeptInRoom S → IsDrained S → S.sealed ≡ false → S.moment ≤ t
    → something_due t S ≡ true → length S.entries < length (ticks_in_room t S).entries
due-adds t S k drained unsealed later due = by (fits (ticked t S)) refl
  where
    by : (b : Bool) → fits (ticked t S) ≡ b
        → length S.entries < length (ticks_in_room t S).entries
    by true fit =
        let may : MayStep t S = record { kept = k.kept; unsealed = unsealed; later = later } in
        let is : length (ticks_in_room t S).entries ≡ length S.entries + length (tick_deeds t S) =
        ap (λ (V : State). length V.entries)
        (when-fits t S unsealed fit ∙ ticks-enter t S may drained due)
        ∙ entries-more t (tick_deeds t S) S in
        omega (arith, is)
    by false full =
        let first : length (seals t S).entries ≡ length S.entries + 1 =
        length-append S.entries (written t Seals ∷ []) in
        let is : length (ticks_in_room t S).entries ≡ length (late t (seals t S)).entries =
        ap (λ (V : State). length V.entries) (when-full t S unsealed full) in
        let rest = late-longer t (seals t S) in
        omega (arith, first, rest, is)

pub next-tick : (S : State) → KeptInRoom S → IsDrained S → IsNextTick (next_tick S) S
next-tick S k drained = by S.sealed refl
  where
    rise : RiseBy opening_of S.exchanges
    rise = exchanges-ordered S k.kept

    by : (b : Bool) → S.sealed ≡ b
        → IsNextTick (cond b (next_late S.readers S.exchanges) (next_due S)) S
    by true e = record {
      stays = λ t h. when-sealed t S e
          ∙ none-late t S (sym (late-came t S.exchanges S.readers rise) ∙ h);
      adds = λ t later h.
          let is : length (ticks_in_room t S).entries ≡ length (late t S).entries =
          ap (λ (V : State). length V.entries) (when-sealed t S e) in
          let more = late-longer t S in
          let some = some-told (filter (is_past t) S.exchanges) S.readers
          (sym (late-came t S.exchanges S.readers rise) ∙ h) in
          omega (arith, is, more, some);
    }
    by false e = record {
      stays = λ t h. when-none t S k e (next-due t S ∙ h);
      adds = λ t later h. due-adds t S k drained e later (next-due t S ∙ h);
    }
