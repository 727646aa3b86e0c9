-- Runs with their devices.
use Rattle.std.specs.Prelude.{◌≡◌, List, [], ◌∷◌}
use Rattle.demo_origin.specs.Values.{Device, Relation}
use Rattle.demo_origin.specs.Once.{Event, Steps}

-- a call, with the device before it and after it
pub record Call : Type 0 where
  pub event : Event
  pub before : Device
  pub after : Device

-- calls one after another, from that device on
abbrev pub Follow : Relation → Device → List Call → Type 0
Follow R s [] = Unit {0}
Follow R s (c ∷ cs) = (c.before ≡ s) × Steps R c.event c.before c.after × Follow R c.after cs

-- the device after them
abbrev pub left_by : Device → List Call → Device
left_by s [] = s
left_by s (c ∷ cs) = left_by c.after cs
