-- What is printed of a fault.
use Rattle.std.specs.Prelude.{ℕ, List, codes}
use Rattle.gateway_world.specs.declared.fault.WorldFault.{WorldFault}
use Rattle.gateway_world.specs.declared.fault.WorldFault.TheVariants as Fault

abbrev pub fault_text : WorldFault → List ℕ
fault_text Fault.Memory = codes "out of memory"
fault_text Fault.Backlog = codes "too many bytes wait unread"
