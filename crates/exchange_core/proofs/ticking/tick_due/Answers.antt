use Rattle.std.proofs.Common.{◌≡◌, ℕ, ◌+◌, ◌<◌, ◌≤◌, Result, true, false, drop, List, length, refl, sym, ap, subst, ◌∙◌, arith}
use Rattle.std.specs.Prelude.{filter, sum_by, OnOk, OnErr}
use Rattle.std.specs.List.{AllByRecursion}
use Rattle.limits.specs.declared.TheConstants.{MAX_ENTRIES, MAX_NUMBERED}
use Rattle.std.proofs.lemmas.List.{length-map}
use Rattle.journal_book.specs.Entries.{Deed, entry_size, Written}
use Rattle.message_layer.specs.Calls.{is_among}
use Rattle.exchange_model.specs.State.{State}
use Rattle.exchange_model.specs.declared.kept.Exchange.{Exchange}
use Rattle.exchange_model.specs.Steps.{seals}
use Rattle.exchange_model.specs.Matters.{IsDigested, left_by}
use Rattle.exchange_model.specs.Hearing.{expires, goes_on, is_gone, timed_out}
use Rattle.exchange_model.specs.Calls.{something_due, ticked}
use Rattle.exchange_model.specs.Keeping.{MayStep}
use Rattle.exchange_model.specs.Entering.{Going, all_deeds, all_going, sent_as, tick_deeds, IsDrained}
use Rattle.exchange_model.specs.Room.{fits, KeptInRoom}
use Rattle.exchange_model.specs.Sealing.{late, ticks_in_room}
use Rattle.exchange_model.proofs.CallerLemmas.{all-digested}
use Rattle.endpoint_table.specs.Turns.{turns_deeds, turns_going}
use Rattle.endpoint_table.specs.declared.turns.Turn.{Turn}
use Rattle.exchange_table.specs.Places.{RiseBy}
use Rattle.exchange_table.specs.Tables.{opening_of}
use Rattle.exchange_table.proofs.CallerLemmas.{rise-filter}
use Rattle.exchange_core.specs.Values.{CoreValue, stepped, written}
use Rattle.exchange_core.specs.Drafts.{DraftValue, IsDrafted}
use Rattle.exchange_core.specs.Passing.{moved_on}
use Rattle.exchange_core.specs.Places.{IsOrdered}
use Rattle.exchange_core.specs.Sound.{SoundState}
use Rattle.exchange_core.specs.States.{state_of, seen, given_in, outgoing, with_draft, core_of}
use Rattle.exchange_core.proofs.Stepping.{committed, same-core}
use Rattle.exchange_core.proofs.TickFull.{full-turns}
use Rattle.exchange_core.proofs.TickRoom.{few-turns}
use Rattle.exchange_core.proofs.TickSound.{sees-sound}
use Rattle.exchange_core.proofs.TickSteps.{when-fits, when-full, fits-in-room, tick-drained, tick-fits, tick-moved}
use Rattle.exchange_core.proofs.Ordered.{exchanges-ordered, ordered}
use Rattle.exchange_core.proofs.Sounding.{few-for, sound-drafted}
use Rattle.exchange_table.specs.Asks.{IsAskedHere}
use Rattle.exchange_core.proofs.Read.{asks-here}
use Rattle.exchange_core.proofs.ticking.tick_due.Goals as goal

-- what is left of the exchanges, with the messages that go out
abbrev exchanges-left : ℕ → List Exchange → List Turn → State → List Exchange
exchanges-left t over turns V =
    sent_as (turns_going (length V.entries + 1) turns) (left_by V.entries over (filter (goes_on t V) V.exchanges))

left-so : (t : ℕ) (S : State) (over : List Exchange) (turns : List Turn) → over ≡ timed_out t S
    → turns_going (length S.entries + 1) turns ≡ all_going t (is_gone t S) (length S.entries + 1) S.links
    → exchanges-left t over turns S ≡ sent_as (all_going t (is_gone t S) (length S.entries + 1) S.links)
    (left_by S.entries (timed_out t S) (filter (goes_on t S) S.exchanges))
left-so t S over turns o goes =
    ap (λ (gs : List Going). sent_as gs (left_by S.entries over (filter (goes_on t S) S.exchanges))) goes
    ∙ ap (λ (xs : List Exchange). sent_as (all_going t (is_gone t S) (length S.entries + 1) S.links) (left_by S.entries xs (filter (goes_on t S) S.exchanges))) o

-- what is drafted after the sorting, which leaves the state as it is
drafted-so : (t : ℕ) (S V : State) (d : DraftValue) → V ≡ S → IsDrafted t V (tick_deeds t V) d → IsDrafted t S (tick_deeds t S) d
drafted-so t S V d is h = subst (λ (W : State). IsDrafted t W (tick_deeds t W) d) is h

-- Datagrams that alone are too many don't fit.
full-so : (t : ℕ) (S V : State) (turns : List Turn) (count : ℕ) → KeptInRoom S → S.sealed ≡ false → S.moment ≤ t → IsDrained S
    → something_due t S ≡ true → V ≡ S → turns_deeds turns ≡ all_deeds t (is_gone t S) S.links
    → count ≡ length (turns_deeds turns) → V.given + MAX_ENTRIES < length V.entries + count → fits (ticked t S) ≡ false
full-so t S V turns count kept unsealed later drained due same deeds sends much =
    let given = ap (λ (W : State). W.given) same in
    let entries = ap (λ (W : State). length W.entries) same in
    let all = ap (λ (ds : List Deed). length ds) deeds in
    full-turns t S kept (record { kept = kept.kept; unsealed = unsealed; later = later }) drained due
    (omega (arith, much, given, entries, all, sends))

-- Then a tick does what one that is full does.
ticks-full : {A E : Type 0} (r : Result A E) (t : ℕ) (S V : State) (x y z : CoreValue) → V ≡ S → x ≡ y → S.sealed ≡ false
    → fits (ticked t S) ≡ false → OnOk r (z ≡ stepped (late t (seals t V)) x) → OnOk r (z ≡ stepped (ticks_in_room t S) y)
ticks-full r t S V x y z same sees unsealed full h =
    subst (λ (v : CoreValue). OnOk r (z ≡ v))
    (ap (λ (W : State). stepped (late t (seals t W)) x) same
    ∙ ap (λ (W : State). stepped W x) (sym (when-full t S unsealed full))
    ∙ ap (λ (v : CoreValue). stepped (ticks_in_room t S) v) sees) h

pub has_entries-requires : goal.has_entries-requires
has_entries-requires g c =
    subst (λ (V : State). V.given ≤ length V.entries) (sym c.in_ok-passing.ensures.same.state) c.requires.sound.kept.here.counted.within

pub draft_tick-requires-clause-sound : goal.draft_tick-requires-clause-sound
draft_tick-requires-clause-sound g c =
    let same = c.in_ok-passing.ensures.same in
    sees-sound _ _ _ _ _ _ _ _ c.requires.sound same.state same.answers same.bytes same.room

pub draft_tick-requires-clause-unsealed : goal.draft_tick-requires-clause-unsealed
draft_tick-requires-clause-unsealed g c =
    ap (λ (V : State). V.sealed) c.in_ok-passing.ensures.same.state ∙ c.requires.unsealed

pub draft_tick-requires-clause-later : goal.draft_tick-requires-clause-later
draft_tick-requires-clause-later g c =
    subst (λ (k : ℕ). k ≤ c.args.moment)
    (sym (ap (λ (V : State). V.moment) c.in_ok-passing.ensures.same.state)) c.requires.later

pub draft_tick-requires-clause-due : goal.draft_tick-requires-clause-due
draft_tick-requires-clause-due g c =
    ap (something_due c.args.moment) c.in_ok-passing.ensures.same.state ∙ c.requires.due

pub draft_tick-requires-clause-few : goal.draft_tick-requires-clause-few
draft_tick-requires-clause-few g c =
    let fits = c.has_entries.ensures.fits c.if-not-has_entries.false in
    let count = c.sends_count.ensures in
    let numbered = subst (λ (V : State). V.given ≤ 4294837248) (sym c.in_ok-passing.ensures.same.state) c.requires.sound.kept.here.numbered in
    omega (arith, fits, count, numbered)

pub draft_tick-requires-clause-over : goal.draft_tick-requires-clause-over
draft_tick-requires-clause-over g c =
    c.deref.ensures.value ∙ c.in_ok-passing.ensures.over ∙ ap (timed_out c.args.moment) (sym c.in_ok-passing.ensures.same.state)

pub draft_tick-requires-clause-deeds : goal.draft_tick-requires-clause-deeds
draft_tick-requires-clause-deeds g c =
    c.in_ok-passing.ensures.deeds
    ∙ ap (λ (V : State). all_deeds c.args.moment (is_gone c.args.moment V) V.links) (sym c.in_ok-passing.ensures.same.state)

pub takes-requires-clause-unsealed : goal.takes-requires-clause-unsealed
takes-requires-clause-unsealed g c =
    ap (λ (V : State). V.sealed) c.in_ok-passing.ensures.same.state ∙ c.requires.unsealed

pub takes-requires-clause-count : goal.takes-requires-clause-count
takes-requires-clause-count g c =
    let same = c.in_ok-passing.ensures.same in
    same.bytes ∙ c.requires.sound.count
    ∙ ap (λ (V : State). sum_by entry_size (drop V.given V.entries)) (sym same.state)

pub takes-requires-clause-within : goal.takes-requires-clause-within
takes-requires-clause-within g c =
    subst (λ (V : State). V.given ≤ length V.entries) (sym c.in_ok-passing.ensures.same.state) c.requires.sound.kept.here.counted.within

pub takes-requires-clause-numbered : goal.takes-requires-clause-numbered
takes-requires-clause-numbered g c =
    subst (λ (V : State). V.given ≤ MAX_NUMBERED + 1024) (sym c.in_ok-passing.ensures.same.state) c.requires.sound.kept.here.numbered

pub tick_full-requires-clause-sound : goal.tick_full-requires-clause-sound
tick_full-requires-clause-sound g c =
    let same = c.in_ok-passing.ensures.same in
    sees-sound _ _ _ _ _ _ _ _ c.requires.sound same.state same.answers same.bytes same.room

pub tick_full-requires-clause-unsealed : goal.tick_full-requires-clause-unsealed
tick_full-requires-clause-unsealed g c =
    ap (λ (V : State). V.sealed) c.in_ok-passing.ensures.same.state ∙ c.requires.unsealed

pub tick_full-requires-clause-later : goal.tick_full-requires-clause-later
tick_full-requires-clause-later g c =
    subst (λ (k : ℕ). k ≤ c.args.moment)
    (sym (ap (λ (V : State). V.moment) c.in_ok-passing.ensures.same.state)) c.requires.later

-- the datagrams alone are too many
pub tick_full-requires-clause-full : goal.tick_full-requires-clause-full
tick_full-requires-clause-full g c =
    let t = c.args.moment in
    let S : State = state_of c.args.s.now in
    let q = c.requires in
    let same = c.in_ok-passing.ensures.same in
    subst (λ (V : State). fits (ticked t V) ≡ false) (sym same.state)
    (full-so t S (state_of c.prepare.new.s) c.in_ok-passing.passing.turns.items c.sends_count.result q.sound.kept q.unsealed q.later
    q.sound.drained q.due same.state c.in_ok-passing.ensures.deeds c.sends_count.ensures
    (c.has_entries.ensures.full c.if-not-has_entries.true))

pub returns-then-not-has_entries-clause-ticks : goal.returns-then-not-has_entries-clause-ticks
returns-then-not-has_entries-clause-ticks g c =
    let t = c.args.moment in
    let S : State = state_of c.args.s.now in
    let q = c.requires in
    let same = c.in_ok-passing.ensures.same in
    ticks-full c.tick_full.result t S (state_of c.prepare.new.s) (seen c.prepare.new.s) (seen c.args.s.now) (seen c.tick_full.new.s)
    same.state (same-core _ _ _ _ _ _ same.state same.answers same.sends) q.unsealed
    (full-so t S (state_of c.prepare.new.s) c.in_ok-passing.passing.turns.items c.sends_count.result q.sound.kept q.unsealed q.later
    q.sound.drained q.due same.state c.in_ok-passing.ensures.deeds c.sends_count.ensures
    (c.has_entries.ensures.full c.if-not-has_entries.true))
    c.tick_full.ensures.ticks

-- or all entries are
pub tick_full-requires-then-not-taken-clause-full : goal.tick_full-requires-then-not-taken-clause-full
tick_full-requires-then-not-taken-clause-full g c =
    let t = c.args.moment in
    let S : State = state_of c.args.s.now in
    let q = c.requires in
    let same = c.in_ok-passing.ensures.same in
    let d = c.in_ok-draft.draft in
    let may : MayStep t S = record
    { kept = q.sound.kept.kept; unsealed = q.unsealed; later = q.later } in
    subst (λ (V : State). fits (ticked t V) ≡ false) (sym same.state)
    (sym (tick-fits t S may q.sound.drained q.due d (drafted-so c.args.moment (state_of c.args.s.now) (state_of c.prepare.new.s) c.in_ok-draft.draft c.in_ok-passing.ensures.same.state c.in_ok-draft.ensures).drafts)
    ∙ ap (λ (V : State). fits (with_draft t d V)) (sym same.state)
    ∙ sym (c.in_ok-taken.ensures t) ∙ c.if-not-taken.true)

pub returns-then-not-taken-clause-ticks : goal.returns-then-not-taken-clause-ticks
returns-then-not-taken-clause-ticks g c =
    let t = c.args.moment in
    let S : State = state_of c.args.s.now in
    let q = c.requires in
    let same = c.in_ok-passing.ensures.same in
    let d = c.in_ok-draft.draft in
    let may : MayStep t S = record
    { kept = q.sound.kept.kept; unsealed = q.unsealed; later = q.later } in
    let full : fits (ticked t S) ≡ false =
    sym (tick-fits t S may q.sound.drained q.due d (drafted-so c.args.moment (state_of c.args.s.now) (state_of c.prepare.new.s) c.in_ok-draft.draft c.in_ok-passing.ensures.same.state c.in_ok-draft.ensures).drafts)
    ∙ ap (λ (V : State). fits (with_draft t d V)) (sym same.state)
    ∙ sym (c.in_ok-taken.ensures t) ∙ c.if-not-taken.true in
    ticks-full c.tick_full-then-not-taken.result t S (state_of c.prepare.new.s) (seen c.prepare.new.s) (seen c.args.s.now)
    (seen c.tick_full-then-not-taken.new.s) same.state (same-core _ _ _ _ _ _ same.state same.answers same.sends) q.unsealed full
    c.tick_full-then-not-taken.ensures.ticks

pub returns-then-not-taken-clause-memory : goal.returns-then-not-taken-clause-memory
returns-then-not-taken-clause-memory g c =
    let same = c.in_ok-passing.ensures.same in
    let sees : seen c.prepare.new.s ≡ seen c.args.s.now =
    same-core _ _ _ _ _ _ same.state same.answers same.sends in
    subst (λ (v : CoreValue). OnErr c.tick_full-then-not-taken.result (seen c.tick_full-then-not-taken.new.s ≡ v)) sees
    c.tick_full-then-not-taken.ensures.memory

pub pass-requires-clause-ready : goal.pass-requires-clause-ready
pass-requires-clause-ready g c =
    rw (c.in_ok-make_places.ensures.endpoints) c.in_ok-passing.ensures.ready

pub pass-requires-clause-rising : goal.pass-requires-clause-rising
pass-requires-clause-rising g c =
    let S : State = state_of c.args.s.now in
    subst (RiseBy opening_of) (sym c.in_ok-passing.ensures.over)
    (rise-filter opening_of (expires c.args.moment S.links) S.exchanges
    (exchanges-ordered S c.requires.sound.kept.kept))

pub pass-requires-clause-few : goal.pass-requires-clause-few
pass-requires-clause-few g c =
    let t = c.args.moment in
    let same = c.in_ok-passing.ensures.same in
    let d = c.in_ok-draft.draft in
    let fit = ap (λ (V : State). fits (with_draft t d V)) (sym same.state)
    ∙ sym (c.in_ok-taken.ensures t) ∙ c.if-not-taken.false in
    let left = few-for t (state_of c.args.s.now) d c.requires.sound.kept fit in
    let there = ap (λ (V : State). length V.entries) c.in_ok-make_places.ensures.same.state in
    let before = ap (λ (V : State). length V.entries) same.state in
    omega (arith, left, there, before)

pub pass-requires-clause-ordered : goal.pass-requires-clause-ordered
pass-requires-clause-ordered g c =
    subst IsOrdered (sym (c.in_ok-make_places.ensures.same.state ∙ c.in_ok-passing.ensures.same.state))
    (ordered (state_of c.args.s.now) c.requires.sound.kept)

pub takes-requires-clause-ordered : goal.takes-requires-clause-ordered
takes-requires-clause-ordered g c =
    (subst IsOrdered (sym c.in_ok-passing.ensures.same.state)
    (ordered (state_of c.args.s.now) c.requires.sound.kept)).conns

pub returns-clause-sound : goal.returns-clause-sound
returns-clause-sound g c =
    let t = c.args.moment in
    let S : State = state_of c.args.s.now in
    let q = c.requires in
    let p = c.in_ok-passing.passing in
    let made = c.in_ok-passing.ensures in
    let same = made.same in
    let there = c.in_ok-make_places.ensures.same in
    let d = c.in_ok-draft.draft in
    let drafted = drafted-so t S (state_of c.prepare.new.s) d same.state c.in_ok-draft.ensures in
    let h = drafted.drafts in
    let may : MayStep t S = record
    { kept = q.sound.kept.kept; unsealed = q.unsealed; later = q.later } in
    let fit : fits (ticked t S) ≡ true =
    sym (tick-fits t S may q.sound.drained q.due d h)
    ∙ ap (λ (W : State). fits (with_draft t d W)) (sym same.state)
    ∙ sym (c.in_ok-taken.ensures t) ∙ c.if-not-taken.false in
    let U : State = moved_on t (is_among p.gone.items) p.over.items (exchanges-left t p.over.items p.turns.items S) d S in
    let new : state_of c.pass.new.s ≡ U =
    c.pass.ensures.state
    ∙ ap (λ (V : State). moved_on t (is_among p.gone.items) p.over.items (exchanges-left t p.over.items p.turns.items V) d V) (there.state ∙ same.state) in
    let is : U ≡ ticked t S =
    tick-moved t S may q.sound.drained q.due d h p.gone.items p.over.items (exchanges-left t p.over.items p.turns.items S) made.gone made.over
    (left-so t S p.over.items p.turns.items made.over (made.going (length S.entries + 1))) in
    subst (λ (W : State). SoundState W c.pass.new.s.bytes c.pass.new.s.journal.room
    (given_in c.pass.new.s)) (sym new)
    (sound-drafted t S U _ _ _ _ _ _ _ d q.sound drafted refl refl q.early refl
    (subst KeptInRoom (sym is) (fits-in-room t S q.sound.kept q.later q.unsealed fit))
    (subst IsDrained (sym is) (tick-drained t S may q.sound.drained q.due))
    (c.pass.ensures.bytes ∙ rw (there.bytes, same.bytes) refl)
    (let held = c.pass.ensures.held in let conns = ap (λ (V : State). length V.conns) (there.state ∙ same.state) in omega (arith, held, conns))
    (c.pass.ensures.answers ∙ rw (there.answers, same.answers) refl))

pub returns-clause-ticks : goal.returns-clause-ticks
returns-clause-ticks g c =
    let t = c.args.moment in
    let S : State = state_of c.args.s.now in
    let q = c.requires in
    let p = c.in_ok-passing.passing in
    let made = c.in_ok-passing.ensures in
    let same = made.same in
    let there = c.in_ok-make_places.ensures.same in
    let d = c.in_ok-draft.draft in
    let drafted = drafted-so t S (state_of c.prepare.new.s) d same.state c.in_ok-draft.ensures in
    let h = drafted.drafts in
    let may : MayStep t S = record
    { kept = q.sound.kept.kept; unsealed = q.unsealed; later = q.later } in
    let fit : fits (ticked t S) ≡ true =
    sym (tick-fits t S may q.sound.drained q.due d h)
    ∙ ap (λ (W : State). fits (with_draft t d W)) (sym same.state)
    ∙ sym (c.in_ok-taken.ensures t) ∙ c.if-not-taken.false in
    let U : State = moved_on t (is_among p.gone.items) p.over.items (exchanges-left t p.over.items p.turns.items S) d S in
    let new : state_of c.pass.new.s ≡ U =
    c.pass.ensures.state
    ∙ ap (λ (V : State). moved_on t (is_among p.gone.items) p.over.items (exchanges-left t p.over.items p.turns.items V) d V) (there.state ∙ same.state) in
    let is : U ≡ ticked t S =
    tick-moved t S may q.sound.drained q.due d h p.gone.items p.over.items (exchanges-left t p.over.items p.turns.items S) made.gone made.over
    (left-so t S p.over.items p.turns.items made.over (made.going (length S.entries + 1))) in
    ap (λ (W : State). core_of W (given_in c.pass.new.s) (outgoing c.pass.new.s)) new
    ∙ committed t S U (tick_deeds t S) d (given_in c.args.s.now) (given_in c.pass.new.s)
    (outgoing c.args.s.now) (outgoing c.pass.new.s) h refl
    (c.pass.ensures.answers ∙ rw (there.answers, same.answers) refl)
    (c.pass.ensures.sends ∙ rw (there.sends, same.sends) refl)
    ∙ ap (λ (W : State). stepped W (seen c.args.s.now)) (is ∙ sym (when-fits t S q.unsealed fit))

pub pass-requires-clause-digested : goal.pass-requires-clause-digested
pass-requires-clause-digested g c =
    let S : State = state_of c.args.s.now in
    subst (λ (V : State). AllByRecursion (IsDigested V.entries) V.exchanges)
    (sym (c.in_ok-make_places.ensures.same.state ∙ c.in_ok-passing.ensures.same.state)) (all-digested S c.requires.sound.kept.kept)

pub pass-requires-clause-over : goal.pass-requires-clause-over
pass-requires-clause-over g c =
    c.in_ok-passing.ensures.over
    ∙ ap (timed_out c.args.moment) (sym (c.in_ok-make_places.ensures.same.state ∙ c.in_ok-passing.ensures.same.state))

pub pass-requires-clause-numbers : goal.pass-requires-clause-numbers
pass-requires-clause-numbers g c =
    let t = c.args.moment in
    let S : State = state_of c.args.s.now in
    let d = c.in_ok-draft.draft in
    let fit : fits (with_draft t d S) ≡ true =
    ap (λ (V : State). fits (with_draft t d V)) (sym c.in_ok-passing.ensures.same.state) ∙ sym (c.in_ok-taken.ensures t) ∙ c.if-not-taken.false in
    let few = few-for t S d c.requires.sound.kept fit in
    let most = few-turns t S in
    let drafted : length d.entries ≡ length (tick_deeds t S) =
    ap (λ (ws : List Written). length ws) (drafted-so c.args.moment (state_of c.args.s.now) (state_of c.prepare.new.s) c.in_ok-draft.draft c.in_ok-passing.ensures.same.state c.in_ok-draft.ensures).drafts.entries ∙ length-map (tick_deeds t S) (written t) in
    let count : length (turns_deeds c.in_ok-passing.passing.turns.items)
    ≡ length (all_deeds t (is_gone t S) S.links) = ap length c.in_ok-passing.ensures.deeds in
    let before = ap (λ (V : State). length V.entries) (c.in_ok-make_places.ensures.same.state ∙ c.in_ok-passing.ensures.same.state) in
    omega (arith, few, most, drafted, count, before)

pub pass-requires-clause-here : goal.pass-requires-clause-here
pass-requires-clause-here g c =
    let S : State = state_of c.args.s.now in
    subst (λ (V : State). AllByRecursion (IsAskedHere V.given V.kept) V.exchanges)
    (sym (c.in_ok-make_places.ensures.same.state ∙ c.in_ok-passing.ensures.same.state)) (asks-here S c.requires.sound.kept.here)
