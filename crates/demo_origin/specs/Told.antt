-- Each observer is told of each change, or of a newer state; and of nothing else (RFC 7641,
-- section 1.3).
use Rattle.std.specs.Prelude.{◌≡◌, ◌⊎◌, ℕ, ◌++◌, List, slice_get, IfSome, None, Some, true}
use Rattle.std.specs.List.{AllByRecursion}
use Rattle.demo_origin.specs.Values.{Device}
use Rattle.demo_origin.specs.Notifying.{newer, is_busy, Notifies, Settles}
use Rattle.demo_origin.specs.Origins.{Ticks}
use Rattle.demo_origin.specs.declared.state.Datagram.{Datagram}
use Rattle.demo_origin.specs.declared.state.Held.{Held}
use Rattle.demo_origin.specs.declared.state.Observer.{Observer}

-- It was told of the state as it stands, or its peer is yet to acknowledge what it was sent last.
abbrev pub IsTold : List Held → List Observer → Observer → Type 0
IsTold rs os o = (newer rs o ≡ None) ⊎ (is_busy o.peer os ≡ true)

abbrev pub AllTold : List Held → List Observer → Type 0
AllTold rs os = (i : ℕ) → IfSome (slice_get os i) (IsTold rs os)

-- After a change, an ACK or an RST, and after a look at the timers, nobody waits in vain.
pub record ObserversTold : Type 0 where
  pub settled : (t : ℕ) (old new : Device) → Settles t old new → AllTold new.resources new.observers
  pub ticked : (t : ℕ) (old new : Device) → Ticks t old new → AllTold new.resources new.observers

-- the datagram is a notification under a registration that stands, of the state as it stands
pub record IsNotice (rs : List Held) (os : List Observer) (szx : ℕ) (d : Datagram) : Type 0 where
  pub number : ℕ
  pub observer : Observer
  pub stands : slice_get os number ≡ Some observer
  pub to : d.peer ≡ observer.peer
  pub held : Held
  pub place : slice_get rs observer.place ≡ Some held
  pub mid : ℕ
  pub notifies : Notifies observer.token mid held szx d.bytes

-- What goes out to observers after a change, an ACK or an RST.
pub record SendsNotices (old new : Device) : Type 0 where
  pub more : List Datagram
  pub out : new.out ≡ old.out ++ more
  pub each : AllByRecursion (IsNotice new.resources new.observers new.block) more

abbrev pub OnlyObserversTold : Type 0
OnlyObserversTold = (t : ℕ) (old new : Device) → Settles t old new → SendsNotices old new
