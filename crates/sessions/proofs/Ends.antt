-- Which end of a session isn't which.
use Rattle.std.proofs.Common.{◌≡◌, Some, None}
use Rattle.sessions.specs.declared.session.End.{End}
use Rattle.sessions.specs.declared.session.End.TheVariants as Of

pub some_no_none : (end : End) → Some end ≡ None → ⊥
some_no_none end e = cc

pub none_no_some : (end : End) → None ≡ Some end → ⊥
none_no_some end e = cc

-- It is neither the end of what came in nor a failed read.
pub record IsNoRead (end : End) : Type 0 where
  pub finished : Some end ≡ Some Of.Finished → ⊥
  pub read_fault : Some end ≡ Some Of.ReadFault → ⊥

-- Nor is it a failed write or a no of the gate.
pub record IsOther (end : End) : Type 0 where
  pub read : IsNoRead end
  pub write_fault : Some end ≡ Some Of.WriteFault → ⊥
  pub held : Some end ≡ Some Of.Held → ⊥

pub write_no_read : IsNoRead Of.WriteFault
write_no_read = record { finished = λ e. cc; read_fault = λ e. cc }

pub held_no_read : IsNoRead Of.Held
held_no_read = record { finished = λ e. cc; read_fault = λ e. cc }

pub write_no_held : Some Of.WriteFault ≡ Some Of.Held → ⊥
write_no_held e = cc

pub held_no_write : Some Of.Held ≡ Some Of.WriteFault → ⊥
held_no_write e = cc

pub memory_other : IsOther Of.Memory
memory_other = record { read = record { finished = λ e. cc; read_fault = λ e. cc }; write_fault = λ e. cc; held = λ e. cc }

pub sealed_other : IsOther Of.Sealed
sealed_other = record { read = record { finished = λ e. cc; read_fault = λ e. cc }; write_fault = λ e. cc; held = λ e. cc }

pub closed_other : IsOther Of.Closed
closed_other = record { read = record { finished = λ e. cc; read_fault = λ e. cc }; write_fault = λ e. cc; held = λ e. cc }

pub finished_no_read_fault : Some Of.Finished ≡ Some Of.ReadFault → ⊥
finished_no_read_fault e = cc

pub finished_no_write_fault : Some Of.Finished ≡ Some Of.WriteFault → ⊥
finished_no_write_fault e = cc

pub finished_no_held : Some Of.Finished ≡ Some Of.Held → ⊥
finished_no_held e = cc
