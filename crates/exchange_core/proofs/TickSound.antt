-- What a tick of a sealed core leaves.
use Rattle.std.proofs.Common.{◌≡◌, ℕ, ◌≤◌, ◌<◌, cond, Bool, true, false, List, [], ◌∷◌, length, refl, sym, ap, subst, ◌∙◌, arith}
use Rattle.std.specs.Prelude.{filter}
use Rattle.journal_book.specs.Entries.{Deed, Seals, Written}
use Rattle.exchange_model.specs.State.{State}
use Rattle.exchange_model.specs.Steps.{entered, seals}
use Rattle.exchange_model.specs.Hearing.{is_past}
use Rattle.exchange_model.specs.Calls.{told_late, ticked}
use Rattle.exchange_model.specs.Entering.{entered_all, IsDrained}
use Rattle.exchange_model.specs.Room.{fits, KeptInRoom}
use Rattle.exchange_model.specs.Sealing.{late}
use Rattle.exchange_model.proofs.CallerLemmas.{stays-drained, tells-enter, ticks-in-room}
use Rattle.exchange_core.specs.Answering.{Given}
use Rattle.exchange_core.specs.Drafts.{DraftValue, Drafts}
use Rattle.exchange_core.specs.Ending.{late_deeds}
use Rattle.exchange_core.specs.Sound.{SoundState}
use Rattle.exchange_core.specs.States.{with_draft}
use Rattle.exchange_core.proofs.Sounding.{roomier}
use Rattle.exchange_core.proofs.Stepping.{with-draft}

-- what was drafted, be it nothing

pub with-some : (t : ℕ) (S : State) (ds : List Deed) (d : DraftValue) → Drafts t S ds d
    → 0 < length d.entries → with_draft t d S ≡ entered_all t ds S
with-some t S [] d h some =
    let none : length d.entries ≡ 0 = ap length h.entries in absurd (omega (arith, some, none))
with-some t S (x ∷ xs) d h some = with-draft t S x xs d h

pub with-none : (t : ℕ) (S : State) (ds : List Deed) (d : DraftValue) → Drafts t S ds d
    → length d.entries ≡ 0 → entered_all t ds S ≡ S
with-none t S [] d h none = refl
with-none t S (x ∷ xs) d h none =
    let some = ap (λ (ws : List Written). length ws) h.entries in absurd (omega (arith, some, none))

-- What a tick of a sealed core does are entries alone, and so is the seal before it.

pub late-is : (t : ℕ) (S : State) → late t S ≡ entered_all t (late_deeds t S) S
late-is t S = tells-enter t (told_late (filter (is_past t) S.exchanges) S.readers) S

entered-sealed : (t : ℕ) (ds : List Deed) (S : State)
    → entered_all t ds (record S { sealed = true })
    ≡ (let U = entered_all t ds S in record U { sealed = true })
entered-sealed t [] S = refl
entered-sealed t (d ∷ ds) S = entered-sealed t ds (entered t d S)

pub sealed-late : (t : ℕ) (S : State) (d : DraftValue) → Drafts t S (Seals ∷ late_deeds t S) d
    → (let U = with_draft t d S in record U { sealed = true }) ≡ late t (seals t S)
sealed-late t S d h =
    ap (λ (U : State). record U { sealed = true }) (with-draft t S Seals (late_deeds t S) d h)
    ∙ sym (late-is t (seals t S) ∙ entered-sealed t (late_deeds t S) (entered t Seals S))

pub late-drained : (t : ℕ) (S : State) → IsDrained S → IsDrained (late t S)
late-drained t S h = subst IsDrained (sym (late-is t S)) ((stays-drained t S h).3 (late_deeds t S))

pub seals-drained : (t : ℕ) (S : State) → IsDrained S → IsDrained (late t (seals t S))
seals-drained t S h = late-drained t (seals t S) (record { once = h.once; out = h.out })

pub late-in-room : (t : ℕ) (S : State) → KeptInRoom S → S.moment ≤ t → S.sealed ≡ true
    → KeptInRoom (late t S)
late-in-room t S k later sealed =
    subst (λ (b : Bool). KeptInRoom
    (cond b (late t S) (cond (fits (ticked t S)) (ticked t S) (late t (seals t S))))) sealed
    (ticks-in-room t S k later)

pub seals-late-in-room : (t : ℕ) (S : State) → KeptInRoom S → S.moment ≤ t → S.sealed ≡ false
    → fits (ticked t S) ≡ false → KeptInRoom (late t (seals t S))
seals-late-in-room t S k later unsealed full =
    subst (λ (b : Bool). KeptInRoom (cond b (ticked t S) (late t (seals t S)))) full
    (subst (λ (b : Bool). KeptInRoom
    (cond b (late t S) (cond (fits (ticked t S)) (ticked t S) (late t (seals t S))))) unsealed
    (ticks-in-room t S k later))

-- where nothing but places changes
pub sees-sound : (S S1 : State) (bytes bytes1 room room1 : ℕ) (gs gs1 : List Given)
    → SoundState S bytes room gs
    → S1 ≡ S → gs1 ≡ gs → bytes1 ≡ bytes → room ≤ room1 → SoundState S1 bytes1 room1 gs1
sees-sound S S1 bytes bytes1 room room1 gs gs1 s a b c d = rw (a, b, c) (roomier S bytes room room1 gs s d)
