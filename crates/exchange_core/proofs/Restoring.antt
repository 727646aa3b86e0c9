-- What is gone back to is sound, and has the places that it has to have.
use Rattle.std.proofs.Common.{◌≡◌, ℕ, ◌+◌, ◌≤◌, min, List, ◌++◌, length, take, sym, ap, ◌∙◌, arith, length-append}
use Rattle.std.proofs.lemmas.List.{take_at}
use Rattle.journal_book.specs.Entries.{Written}
use Rattle.exchange_model.specs.State.{State}
use Rattle.exchange_model.proofs.CallerLemmas.{held-before}
use Rattle.exchange_core.specs.Answering.{Given}
use Rattle.exchange_core.specs.Snapshots.{SnapshotValue, IsOf, MayRestore, restored}
use Rattle.exchange_core.specs.Sound.{SoundState}
use Rattle.exchange_core.specs.States.{core_of}
use Rattle.exchange_core.specs.Values.{CoreValue, Outgoing}
use Rattle.exchange_core.proofs.Sounding.{seals-few}

pub restored-sound : (s : SnapshotValue) (S S1 : State) (bytes room bytes1 room1 : ℕ) (gs gs1 : List Given) (os : List Outgoing)
    → SoundState S bytes room gs → MayRestore s (core_of S gs os) → S1 ≡ restored (take s.count S.entries) S.given S.kept s → bytes1 ≡ s.bytes
    → gs1 ≡ s.answers
    → (s.count ≤ length S.entries → min (room + length S.entries) (s.count + 1024) ≤ room1 + s.count)
    → SoundState S1 bytes1 room1 gs1
restored-sound s S S1 bytes room bytes1 room1 gs gs1 os sound may is bs gave left =
    let old : CoreValue = may.before in
    let taken : IsOf s old = may.taken in
    let was = taken.sound in
    let more : List Written = may.grows.0 in
    let grown : S.entries ≡ old.state.entries ++ more = may.grows.1 in
    let count = taken.count in
    let len : length S.entries ≡ length old.state.entries + length more =
    ap (λ (ws : List Written). length ws) grown ∙ length-append old.state.entries more in
    let front : take s.count S.entries ≡ old.state.entries =
    ap (λ (ws : List Written). take s.count ws) grown ∙ take_at old.state.entries more s.count (sym count) in
    let same : S1 ≡ old.state =
    is ∙ (ap (λ (ws : List Written). restored ws S.given S.kept s) front
    ∙ (ap (λ (n : ℕ). restored old.state.entries n S.kept s) may.given
    ∙ (ap (λ (ks : List ℕ). restored old.state.entries old.state.given ks s) may.kept
    ∙ ap (λ (v : CoreValue). v.state) taken.shows))) in
    let held = held-before old.state S more was.kept sound.kept grown in
    let places = sound.places in
    let few = was.few in
    let one = seals-few old.state.sealed in
    let room_left = left (omega (arith, count, len)) in
    rw (same, bs, gave) (record {
      kept = was.kept;
      drained = was.drained;
      early = was.early;
      few = was.few;
      count = was.count;
      places = omega (arith, held, places, few, one, room_left, len, count);
      given = was.given;
    })
