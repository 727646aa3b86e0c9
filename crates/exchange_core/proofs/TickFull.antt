-- A tick doesn't fit whose datagrams alone are too many.
use Rattle.std.proofs.Common.{◌≡◌, ℕ, ◌+◌, ◌<◌, ◌≤◌, Bool, true, false, length, refl, sym, ap, ◌∙◌, arith}
use Rattle.exchange_model.specs.State.{State}
use Rattle.exchange_model.specs.Hearing.{is_gone}
use Rattle.exchange_model.specs.Calls.{something_due, ticked}
use Rattle.exchange_model.specs.Entering.{all_deeds, tick_deeds, IsDrained}
use Rattle.exchange_model.specs.Keeping.{MayStep}
use Rattle.exchange_model.specs.Room.{KeptInRoom, entries_taken, fits}
use Rattle.exchange_model.proofs.CallerLemmas.{entries-more, fits-parts, ticks-enter, ticks-here}
use Rattle.exchange_core.proofs.TickRoom.{few-turns}
use Rattle.exchange_core.proofs.TickSteps.{when-fits}

pub full-turns : (t : ℕ) (S : State) → KeptInRoom S → MayStep t S → IsDrained S → something_due t S ≡ true
    → S.given + 65536 < length S.entries + length (all_deeds t (is_gone t S) S.links) → fits (ticked t S) ≡ false
full-turns t S k may drained due much = by (fits (ticked t S)) refl
  where
    by : (b : Bool) → fits (ticked t S) ≡ b → fits (ticked t S) ≡ false
    by false e = e
    by true e =
        let limit : entries_taken (ticked t S) ≤ 65536 = (fits-parts (ticked t S) e).0 in
        let given : (ticked t S).given ≡ S.given =
        ap (λ (U : State). U.given) (sym (when-fits t S may.unsealed e)) ∙ (ticks-here t S k.here).given in
        let adds : length (ticked t S).entries ≡ length S.entries + length (tick_deeds t S) =
        ap (λ (U : State). length U.entries) (ticks-enter t S may drained due) ∙ entries-more t (tick_deeds t S) S in
        let most = few-turns t S in absurd (omega (arith, limit, given, adds, most, much))
