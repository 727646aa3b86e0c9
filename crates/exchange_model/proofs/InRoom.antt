-- Each call keeps that the journal stands and is within its limits.
use Rattle.std.proofs.Common.{◌≡◌, ◌⊎◌, ℕ, ◌+◌, ◌*◌, ◌<◌, ◌≤◌, not, cond, eqb, Bool, true, false, inl, inr, List, [], ◌∷◌, length, refl, sym, ap, ◌∙◌, arith, length-append}
use Rattle.std.specs.Prelude.{nat_le, count_by, sum_by, map, filter}
use Rattle.std.specs.List.{AllByRecursion}
use Rattle.std.proofs.Math.Nat.{le-max_left, le-max_right}
use Rattle.std.proofs.lemmas.Bool.{false≢true, and_parts}
use Rattle.std.proofs.lemmas.Bool.Decides.{leb_tells}
use Rattle.limits.specs.declared.TheConstants.{MAX_TRANSMIT_WAIT}
use Rattle.ask_model.specs.Sizes.{came_size}
use Rattle.journal_book.specs.Entries.{Seals, Written, entry_size}
use Rattle.history_laws.specs.Readings.{Noted}
use Rattle.history_laws.specs.Sealing as H
use Rattle.history_laws.proofs.CallerLemmas.{all-more}
use Rattle.exchange_model.specs.declared.kept.Conn.{Conn}
use Rattle.exchange_model.specs.declared.kept.Reader.{Reader}
use Rattle.exchange_model.specs.declared.kept.Exchange.{Exchange}
use Rattle.exchange_model.specs.State.{State}
use Rattle.exchange_model.specs.Reads.{Reads}
use Rattle.exchange_model.specs.Steps.{opens, shuts, seals}
use Rattle.exchange_model.specs.Hearing.{is_past}
use Rattle.exchange_model.specs.Calls.{peer_of, asked, heard, ticked}
use Rattle.exchange_model.specs.Keeping.{Kept, MayStep}
use Rattle.exchange_model.specs.Memory.{Here}
use Rattle.exchange_model.specs.Room.{has_asked, seals_left, entries_taken, bytes_taken, fits, KeptInRoom, WithinLimits}
use Rattle.exchange_model.specs.Sealing.{in_room, if_unsealed, late, StartInRoom, OpensInRoom, ShutsInRoom, AsksInRoom, HearsInRoom, TicksInRoom, IsPrompt, ArePrompt, TicksPromptly}
use Rattle.exchange_model.proofs.Adding.{Adds, counted}
use Rattle.exchange_model.proofs.Behind.{push-behind, some-behind}
use Rattle.exchange_model.proofs.ToldAdds.{late-adds, kept-served}
use Rattle.exchange_model.proofs.Calling.{opens-adds, asked-adds, heard-adds}
use Rattle.exchange_model.proofs.Counting.{count-filter}
use Rattle.exchange_model.proofs.Heeding.{hears-keeps, heard-brief}
use Rattle.exchange_model.proofs.Here.{asked-here, heard-here, late-here, opened-here, sealed-here, shuts-here, starts-here, ticked-here}
use Rattle.exchange_model.proofs.Late.{late-kept, late-prompt}
use Rattle.exchange_model.proofs.Started.{start-keeps}
use Rattle.exchange_model.proofs.Stepping.{opens-keeps, shuts-keeps, seals-keeps, asks-keeps}
use Rattle.exchange_model.proofs.Tallies.{is_busy, conns-count, asks-count, busy-count}
use Rattle.exchange_model.proofs.TickAdds.{ticked-adds}
use Rattle.exchange_model.proofs.Ticking.{ticks-keeps, ticks-do}
use Rattle.exchange_model.proofs.Tidy.{Tidy}
use Rattle.exchange_model.proofs.Waiting.{shuts-fewer}

-- limits

pub le-true : (a b : ℕ) → nat_le a b ≡ true → a ≤ b
le-true a b e = elim (leb_tells a b) [ inl w ↦ w.1 | inr w ↦ absurd (false≢true (sym w.0 ∙ e)) ]

le-from : (a b : ℕ) → a ≤ b → nat_le a b ≡ true
le-from a b h = elim (leb_tells a b) [
  | inl w ↦ w.0
  | inr w ↦ absurd (let lt = w.1 in omega (arith, h, lt))
]

pub fits-parts : (S : State) → fits S ≡ true → (entries_taken S ≤ 65536) × (bytes_taken S ≤ 268435456)
fits-parts S h =
    let both = and_parts (nat_le (entries_taken S) 65536) (nat_le (bytes_taken S) 268435456) h in
    (le-true (entries_taken S) 65536 both.0, le-true (bytes_taken S) 268435456 both.1)

pub fits-from : (S : State) → entries_taken S ≤ 65536 → bytes_taken S ≤ 268435456 → fits S ≡ true
fits-from S h g = rw (le-from (entries_taken S) 65536 h, le-from (bytes_taken S) 268435456 g) refl

pub fits-not : (S : State) → fits S ≡ false → (65536 < entries_taken S) ⊎ (268435456 < bytes_taken S)
fits-not S h = elim (leb_tells (entries_taken S) 65536) [
  | inl v ↦ elim (leb_tells (bytes_taken S) 268435456) [
    | inl w ↦ absurd (false≢true (sym h ∙ fits-from S v.1 w.1))
    | inr w ↦ inr (w.1)
  ]
  | inr v ↦ inl (v.1)
]

pub adds-fit : (S S1 : State) → Adds 0 0 S S1 → fits S ≡ true → fits S1 ≡ true
adds-fit S S1 a h =
    let parts = fits-parts S h in
    let e = parts.0 in
    let f = parts.1 in
    let g = a.entries in
    let k = a.bytes in
    fits-from S1 (omega (arith, e, g)) (omega (arith, f, k))

tidy-of : (S : State) → KeptInRoom S → Tidy S.links
tidy-of S k = record { short = k.short; apart = k.apart }

-- What doesn't fit may be sealed.
full : (l : List Noted) (S S1 : State) (n b : ℕ) → Reads l S → S.sealed ≡ false → Adds n b S S1
    → fits S1 ≡ false → n ≤ H.step_entries l → b ≤ H.step_bytes l → H.MaySeal l
full l S S1 n b r unsealed a e few small =
    let g = a.entries in
    let k = a.bytes in
    let long = ap length r.entries_are in
    let large = ap (sum_by entry_size) r.entries_are in
    let held = some-behind entry_size S.given S.entries in
    let conns = conns-count l S r in
    let asked = asks-count l S r in
    let seal = ap seals_left unsealed in
    elim (fits-not S1 e) [
      | inl w ↦ inl (let h = w in omega (arith, h, g, long, conns, asked, seal, few))
      | inr w ↦ inr (let h = w in omega (arith, h, k, large, held, conns, asked, seal, small))
    ]

abbrev may-step : (t : ℕ) (S : State) (k : KeptInRoom S) → S.sealed ≡ false → S.moment ≤ t
    → MayStep t S
may-step t S k unsealed later = record { kept = k.kept; unsealed = unsealed; later = later }

sealed-fits : (t : ℕ) (S : State) → S.sealed ≡ false → fits S ≡ true → fits (seals t S) ≡ true
sealed-fits t S unsealed h =
    let parts = fits-parts S h in
    let e = parts.0 in
    let f = parts.1 in
    let seal = ap seals_left unsealed in
    let w : Written = record { moment = t; deed = Seals } in
    let longer = length-append S.entries (w ∷ []) in
    let larger = push-behind entry_size S.given S.entries w in
    fits-from (seals t S) (omega (arith, e, seal, longer)) (omega (arith, f, seal, larger))

seals-in-room : (t : ℕ) (S : State) (k : KeptInRoom S) → S.sealed ≡ false → S.moment ≤ t
    → H.MaySeal k.kept.reading → KeptInRoom (seals t S)
seals-in-room t S k unsealed later may = record {
  kept = seals-keeps t S (may-step t S k unsealed later) may;
  here = sealed-here t S k.here;
  fit = sealed-fits t S unsealed k.fit;
  short = k.short;
  apart = k.apart;
}

-- A step that is kept, and adds no more than one may.
stepped : (t : ℕ) (S S1 : State) (n b : ℕ) (k : KeptInRoom S) → S.sealed ≡ false → S.moment ≤ t
    → Kept S1 → Here S1 → Adds n b S S1
    → n ≤ H.step_entries k.kept.reading → b ≤ H.step_bytes k.kept.reading
    → KeptInRoom (in_room t S1 S)
stepped t S S1 n b k unsealed later kept here a few small = by (fits S1) refl
  where
    by : (v : Bool) → fits S1 ≡ v → KeptInRoom (cond v S1 (seals t S))
    by true e = record { kept = kept; here = here; fit = e; short = a.tidy.short; apart = a.tidy.apart }
    by false e = seals-in-room t S k unsealed later
        (full k.kept.reading S S1 n b k.kept.rests.reads unsealed a e few small)

guarded : (t : ℕ) (S S1 : State) → KeptInRoom S → (S.sealed ≡ false → KeptInRoom (in_room t S1 S))
    → KeptInRoom (if_unsealed t S1 S)
guarded t S S1 k step = by S.sealed refl
  where
    by : (v : Bool) → S.sealed ≡ v → KeptInRoom (cond v S (in_room t S1 S))
    by true e = k
    by false e = step e

-- what one step may add

three : (l : List Noted) → 3 ≤ H.step_entries l
three l = le-max_left 3 (1 + H.outstanding_count l)

an-ask : (l : List Noted) → 2189304 ≤ H.step_bytes l
an-ask l = le-max_left 2189304 (64 + H.sending_size * H.outstanding_count l)

-- the calls

pub start-in-room : StartInRoom
start-in-room = record { kept = start-keeps; here = starts-here; fit = refl; short = tt; apart = tt }

pub within-limits : WithinLimits
within-limits S k =
    let parts = fits-parts S k.fit in
    let e = parts.0 in
    let f = parts.1 in
    (omega (arith, e), omega (arith, f))

pub opens-in-room : OpensInRoom
opens-in-room t S k later = guarded t S (opens t S) k
    (λ unsealed.
    let l = k.kept.reading in
    let few = three l in
    let small = an-ask l in
    stepped t S (opens t S) 2 128 k unsealed later (opens-keeps t S (may-step t S k unsealed later))
    (opened-here t S k.here)
    (opens-adds t S (tidy-of S k)) (omega (arith, few)) (omega (arith, small)))

pub shuts-in-room : ShutsInRoom
shuts-in-room t c p S k later has =
    let fewer = shuts-fewer c p S.conns has in
    let none = count-filter has_asked (λ (x : Conn). not (eqb x.id c)) S.conns in
    let adds = counted 0 0 S (shuts t c S) _ refl refl refl (tidy-of S k) (omega (arith, fewer, none))
    (omega (arith, fewer, none)) in
    record {
      kept = shuts-keeps t c p S k.kept later has;
      here = (shuts-here t c S k.here).here;
      fit = adds-fit S (shuts t c S) adds k.fit;
      short = k.short;
      apart = k.apart;
    }

pub asks-in-room : AsksInRoom
asks-in-room t c a n S k later has proper numbered sized = guarded t S (asked t c a n S) k
    (λ unsealed.
    let l = k.kept.reading in
    let few = three l in
    let small = an-ask l in
    let size = sized.request in
    stepped t S (asked t c a n S) 3 (92152 + came_size a.came) k unsealed later
    (asks-keeps t c a n S (may-step t S k unsealed later) has proper numbered)
    (asked-here t c a n S k.here)
    (asked-adds l t c a n S k.kept.rests.reads (tidy-of S k) has sized.message) few
    (omega (arith, small, size)))

pub hears-in-room : HearsInRoom
hears-in-room t p d n S k later bytes onward short = guarded t S (heard t p d n S) k
    (λ unsealed.
    let l = k.kept.reading in
    let small = an-ask l in
    let may = may-step t S k unsealed later in
    stepped t S (heard t p d n S) 3 4268 k unsealed later (hears-keeps t p d n S may bytes onward)
    (heard-here t p d n S k.here)
    (heard-adds t p d n S (tidy-of S k) (kept-served l S k.kept.rests.reads) short (heard-brief t p d S may))
    (three l) (omega (arith, small)))

-- a tick

late-in-room : (t : ℕ) (S : State) → KeptInRoom S → S.sealed ≡ true → S.moment ≤ t
    → KeptInRoom (late t S)
late-in-room t S k sealed later =
    let served = kept-served k.kept.reading S k.kept.rests.reads in
    let adds = late-adds t (filter (is_past t) S.exchanges) S.readers S (tidy-of S k) served.waits served.apart in
    record {
      kept = late-kept t S k.kept sealed later;
      here = late-here t S k.here;
      fit = adds-fit S (late t S) adds k.fit;
      short = adds.tidy.short;
      apart = adds.tidy.apart;
    }

-- A tick adds its entry, and one message at each endpoint where one is outstanding.
tick-full : (t : ℕ) (S : State) (k : KeptInRoom S) → S.sealed ≡ false → fits (ticked t S) ≡ false
    → H.MaySeal k.kept.reading
tick-full t S k unsealed e =
    let l = k.kept.reading in
    let r = k.kept.rests in
    let n = count_by (is_busy S.links) (map peer_of S.links) in
    let busy = busy-count l S r.reads k.apart in
    let few = le-max_right 3 (1 + H.outstanding_count l) in
    let small = le-max_right 2189304 (64 + H.sending_size * H.outstanding_count l) in
    full l S (ticked t S) (1 + n) (64 + 2088 * n) r.reads unsealed
    (ticked-adds t _ S (tidy-of S k) (kept-served l S r.reads) r.links) e (omega (arith, busy, few))
    (omega (arith, busy, small))

sealed-now : (t : ℕ) (S : State) (k : KeptInRoom S) → S.sealed ≡ false → S.moment ≤ t
    → fits (ticked t S) ≡ false → KeptInRoom (seals t S)
sealed-now t S k unsealed later e = seals-in-room t S k unsealed later (tick-full t S k unsealed e)

pub ticks-in-room : TicksInRoom
ticks-in-room t S k later = by S.sealed refl
  where
    new : S.sealed ≡ false → (v : Bool) → fits (ticked t S) ≡ v
        → KeptInRoom (cond v (ticked t S) (late t (seals t S)))
    new unsealed true e =
        let adds = ticked-adds t _ S (tidy-of S k) (kept-served k.kept.reading S k.kept.rests.reads) k.kept.rests.links in
        record {
          kept = ticks-keeps t S (may-step t S k unsealed later);
          here = ticked-here t S k.here;
          fit = e;
          short = adds.tidy.short;
          apart = adds.tidy.apart;
        }
    new unsealed false e = late-in-room t (seals t S) (sealed-now t S k unsealed later e) refl
        (omega arith)

    by : (v : Bool) → S.sealed ≡ v
        → KeptInRoom (cond v (late t S)
        (cond (fits (ticked t S)) (ticked t S) (late t (seals t S))))
    by true e = late-in-room t S k e later
    by false e = new e (fits (ticked t S)) refl

pub ticks-promptly : TicksPromptly
ticks-promptly t S k later = by S.sealed refl
  where
    all-prompt : (S1 : State)
        → AllByRecursion (λ (e : Exchange). t < e.since + MAX_TRANSMIT_WAIT) S1.exchanges
        → (rs : List Reader) → AllByRecursion (IsPrompt t S1.exchanges) rs
    all-prompt S1 a [] = tt
    all-prompt S1 a (x ∷ xs) = (all-more _ _ (λ e h w. h) S1.exchanges a, all-prompt S1 a xs)

    new : S.sealed ≡ false → (v : Bool) → fits (ticked t S) ≡ v
        → ArePrompt t (cond v (ticked t S) (late t (seals t S)))
    new unsealed true e = all-prompt (ticked t S)
        (ticks-do t S (may-step t S k unsealed later)).in_time (ticked t S).readers
    new unsealed false e = late-prompt t (seals t S) (sealed-now t S k unsealed later e).kept refl
        (omega arith)

    by : (v : Bool) → S.sealed ≡ v
        → ArePrompt t
        (cond v (late t S) (cond (fits (ticked t S)) (ticked t S) (late t (seals t S))))
    by true e = late-prompt t S k.kept e later
    by false e = new e (fits (ticked t S)) refl
