-- Connections that pass by are entries, of which a journal has 65,536 at most.
use Rattle.std.proofs.Common.{◌≡◌, ◌≤◌, ◌⊎◌, inl, inr, ℕ, zero, suc, ◌+◌, [], ◌∷◌, length, length-append, Ok, Err, refl, sym, ap, ◌∙◌, arith}
use Rattle.journal_book.specs.Entries.{Opens, Shuts}
use Rattle.exchange_model.specs.State.{State}
use Rattle.exchange_model.specs.Steps.{opens}
use Rattle.exchange_model.specs.Growing.{at_moment}
use Rattle.exchange_model.specs.Room.{fits, KeptInRoom}
use Rattle.exchange_model.specs.Sealing.{opens_in_room}
use Rattle.exchange_model.proofs.CallerLemmas.{within-limits}
use Rattle.exchange_core.specs.Calls.{IsOpened, IsClosed, IsUnknown}
use Rattle.exchange_core.specs.Values.{CoreValue}
use Rattle.gateway_desk.specs.Turning.{PassesBy, PassBy}
use Rattle.gateway_desk.proofs.Growing.{fits-in}

opened-longer : (c t : ℕ) (old new : CoreValue) → IsOpened (Ok c) t old new
    → length new.state.entries ≡ length old.state.entries + 1
opened-longer c t old new h =
    let S : State = opens t old.state in
    let is : opens_in_room t old.state ≡ S =
    fits-in old.state.sealed (fits S) t old.state S refl (sym (ap (λ (v : CoreValue). v.state.sealed) h.1) ∙ h.2) in
    ap (λ (v : CoreValue). length v.state.entries) h.1 ∙ ap (λ (s : State). length s.entries) is
    ∙ length-append old.state.entries (at_moment t (Opens old.state.opened) ∷ [])

closed-longer : (c t : ℕ) (old new : CoreValue) → IsClosed t c old new ⊎ ((new ≡ old) × IsUnknown c old)
    → length old.state.entries ≤ length new.state.entries
closed-longer c t old new (inl h) =
    let longer = ap (λ (v : CoreValue). length v.state.entries) h.1
    ∙ length-append old.state.entries (at_moment t (Shuts c) ∷ []) in
    omega (arith, longer)
closed-longer c t old new (inr h) =
    let same = ap (λ (v : CoreValue). length v.state.entries) h.0 in
    omega (arith, same)

passes-longer : (t : ℕ) (old new : CoreValue) → PassesBy t old new
    → length old.state.entries + 1 ≤ length new.state.entries
passes-longer t old new h =
    let opened = opened-longer h.0 _ old h.1 h.2 in
    let closed = closed-longer h.0 _ h.1 new h.3 in
    omega (arith, opened, closed)

pass-longer : (n t : ℕ) (old new : CoreValue) → PassBy n t old new
    → length old.state.entries + n ≤ length new.state.entries
pass-longer zero t old new h =
    let same = ap (λ (v : CoreValue). length v.state.entries) h in
    omega (arith, same)
pass-longer (suc n) t old new h =
    let before = pass-longer n t old h.0 h.1 in
    let last = passes-longer t h.0 new h.2 in
    omega (arith, before, last)

-- No journal takes more of them than it has entries.
pub pass-few : (n t : ℕ) (old new : CoreValue) → PassBy n t old new → KeptInRoom new.state
    → new.state.given ≡ 0 → n ≤ 65536
pass-few n t old new h kept whole =
    let longer = pass-longer n t old new h in
    let few = (within-limits new.state kept).0 in
    omega (arith, longer, few, whole)
