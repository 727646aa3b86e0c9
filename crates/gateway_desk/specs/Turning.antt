-- What a journal that is turned over leaves, and why it isn't turned over.
use Rattle.std.specs.Prelude.{◌≡◌, ◌≢◌, ◌⊎◌, ⊤, ℕ, zero, suc, List, sum_by, None, Ok, Err}
use Rattle.journal_book.specs.Entries.{Written}
use Rattle.exchange_model.specs.Rotating.{fault_of}
use Rattle.exchange_core.specs.declared.fault.OpenFault.{OpenFault}
use Rattle.exchange_core.specs.declared.fault.OpenFault.TheVariants as Open
use Rattle.exchange_core.specs.Calls.{now, IsOpened, IsClosed, IsUnknown}
use Rattle.exchange_core.specs.Rotating.{IsRefused}
use Rattle.exchange_core.specs.Values.{CoreValue}
use Rattle.gateway_desk.specs.Held.{Held}
use Rattle.gateway_desk.specs.Ledgers.{asks_of}
use Rattle.gateway_desk.specs.Settled.{IsStranger, IsRepeated, answered}
use Rattle.gateway_desk.specs.declared.report.SettleFault.{SettleFault}
use Rattle.gateway_desk.specs.declared.report.SettleFault.TheVariants.{Stranger, Repeated, Count, Memory}
use Rattle.gateway_desk.specs.declared.turning.TurnReason.{TurnReason}
use Rattle.gateway_desk.specs.declared.turning.TurnReason.TheVariants.{Rotate, Settle}

-- Settling refuses the passes for this.
abbrev pub IsUnsettled : List Written → List Held → SettleFault → Type 0
IsUnsettled h ps (Stranger n) = IsStranger h ps n
IsUnsettled h ps (Repeated n) = IsRepeated (answered ps) n
IsUnsettled h ps Count = asks_of h ≢ sum_by (λ (p : Held). p.amount) ps
IsUnsettled h ps Memory = ⊤

-- A turn is refused for this: what the core refuses comes first, then what settling does.
abbrev pub IsUnturned : ℕ → CoreValue → List Held → TurnReason → Type 0
IsUnturned t v ps (Rotate fault) = IsRefused t v.state fault
IsUnturned t v ps (Settle fault) =
    (fault_of t v.state ≡ None) × IsUnsettled v.state.entries ps fault

-- A connection is opened and closed at once, and nothing is asked on it.
abbrev pub PassesBy : ℕ → CoreValue → CoreValue → Type 0
PassesBy moment old new =
    (c : ℕ) × (mid : CoreValue) × IsOpened (Ok c) (now old.state.moment moment) old mid
    × (IsClosed (now mid.state.moment moment) c mid new ⊎ ((new ≡ mid) × IsUnknown c mid))

-- So many were, one after the other.
abbrev pub PassBy : ℕ → ℕ → CoreValue → CoreValue → Type 0
PassBy zero moment old new = new ≡ old
PassBy (suc n) moment old new =
    (mid : CoreValue) × PassBy n moment old mid × PassesBy moment mid new

-- As many as may be were, and the next one is refused for this.
abbrev pub PassUntil : OpenFault → ℕ → CoreValue → CoreValue → Type 0
PassUntil fault moment old new =
    (n : ℕ) × (mid : CoreValue) × PassBy n moment old mid
    × IsOpened (Err fault) (now mid.state.moment moment) mid new

-- The next one finds the journal sealed.
abbrev pub FillsUp : ℕ → CoreValue → CoreValue → Type 0
FillsUp moment old new = PassUntil Open.Sealed moment old new
