-- A core's entries only grow, and an engine can go back.
use Rattle.std.proofs.Common.{◌≡◌, ◌⊎◌, ℕ, true, List, [], ◌++◌, Result, Ok, Err, inl, inr, refl, sym, ap, subst, ◌∙◌}
use Rattle.std.proofs.lemmas.List.{append_assoc, append-nil}
use Rattle.ask_model.specs.Views.{Ask}
use Rattle.journal_book.specs.Entries.{Written}
use Rattle.uri_map.specs.declared.peer.Peer.{Peer}
use Rattle.exchange_model.specs.State.{State}
use Rattle.exchange_model.specs.Growing.{Adds}
use Rattle.exchange_model.specs.Sealing.{ticks_in_room}
use Rattle.exchange_model.proofs.CallerLemmas.{asks-add, hears-add, ticks-add}
use Rattle.exchange_core.specs.declared.fault.AskFault.{AskFault}
use Rattle.exchange_core.specs.declared.fault.AskFault.TheVariants as Fault
use Rattle.exchange_core.specs.Calls.{IsAsked, AsksSo, HearsSo}
use Rattle.exchange_core.specs.Values.{CoreValue, stepped}
use Rattle.gateway_world.specs.declared.engine.Engine.{Engine}
use Rattle.gateway_world.specs.Engines.{GrowsOn, MayGoBack}

pub grows-none : (S : State) → GrowsOn S S
grows-none S = record { entries = ([], sym (append-nil S.entries)); given = refl; kept = refl }

pub grows-same : (a b : CoreValue) → b ≡ a → GrowsOn a.state b.state
grows-same a b e = subst (λ (v : CoreValue). GrowsOn a.state v.state) (sym e) (grows-none a.state)

pub grows-then : (a b c : State) → GrowsOn a b → GrowsOn b c → GrowsOn a c
grows-then a b c h k = record {
  entries = (
    h.entries.0 ++ k.entries.0,
    k.entries.1
        ∙ (ap (λ (q : List Written). q ++ k.entries.0) h.entries.1 ∙ append_assoc a.entries h.entries.0 k.entries.0),
  );
  given = k.given ∙ h.given;
  kept = k.kept ∙ h.kept;
}

grows-to : (t : ℕ) (old new : CoreValue) (S : State) → new ≡ stepped S old → Adds t old.state S
    → GrowsOn old.state new.state
grows-to t old new S e a = record {
  entries = (a.more, ap (λ (v : CoreValue). v.state.entries) e ∙ a.entries);
  given = ap (λ (v : CoreValue). v.state.given) e ∙ a.given;
  kept = ap (λ (v : CoreValue). v.state.kept) e ∙ a.kept;
}

asked-grows : (t word c : ℕ) (a : Ask) (old new : CoreValue) → AsksSo t word c a old new
    → GrowsOn old.state new.state
asked-grows t word c a old new h = grows-to t old new _ h.is (asks-add t c a h.numbers old.state)

pub asks-grows : (r : Result ℕ AskFault) (t word c : ℕ) (a : Ask) (old new : CoreValue) → IsAsked r t word c a old new
    → GrowsOn old.state new.state
asks-grows (Ok k) t word c a old new h = asked-grows t word c a old new h.2
asks-grows (Err Fault.Sealed) t word c a old new h = denied h.2
  where
    denied : ((old.state.sealed ≡ true) × (new ≡ old)) ⊎ AsksSo t word c a old new
        → GrowsOn old.state new.state
    denied (inl same) = grows-same old new same.1
    denied (inr so) = asked-grows t word c a old new so
asks-grows (Err Fault.Unknown) t word c a old new h = grows-same old new h.0
asks-grows (Err Fault.Pending) t word c a old new h = grows-same old new h.0
asks-grows (Err Fault.Memory) t word c a old new h = grows-same old new h.0

pub heard-grows : (t word : ℕ) (p : Peer) (d : List ℕ) (old new : CoreValue) → HearsSo t word p d old new
    → GrowsOn old.state new.state
heard-grows t word p d old new h = grows-to t old new _ h.is (hears-add t p d h.numbers old.state)

pub ticked-grows : (t : ℕ) (old new : CoreValue) → new ≡ stepped (ticks_in_room t old.state) old
    → GrowsOn old.state new.state
ticked-grows t old new h = grows-to t old new _ h (ticks-add t old.state)

-- an engine can go back

pub back-by : {R : Type 0} (a b : Engine R) → GrowsOn a.core.state b.core.state
    → b.table.marked ≡ a.table.marked → MayGoBack a b
back-by a b h e = record { grows = h; marked = e }

pub back-none : {R : Type 0} (a : Engine R) → MayGoBack a a
back-none a = record { grows = grows-none a.core.state; marked = refl }

pub back-then : {R : Type 0} (a b c : Engine R) → MayGoBack a b → MayGoBack b c → MayGoBack a c
back-then a b c h k = record {
  grows = grows-then a.core.state b.core.state c.core.state h.grows k.grows;
  marked = k.marked ∙ h.marked;
}

pub back-state : {R : Type 0} (a b : Engine R) → b.core.state ≡ a.core.state → b.table.marked ≡ a.table.marked → MayGoBack a b
back-state a b e m = record {
  grows = subst (GrowsOn a.core.state) (sym e) (grows-none a.core.state);
  marked = m;
}
