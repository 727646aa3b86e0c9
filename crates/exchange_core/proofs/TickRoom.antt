-- How many entries a tick adds.
use Rattle.std.proofs.Common.{ℕ, ◌+◌, ◌≤◌, length, map, arith, length-append}
use Rattle.exchange_model.specs.State.{State}
use Rattle.exchange_model.specs.Hearing.{is_gone, timed_out}
use Rattle.exchange_model.specs.Calls.{told_late}
use Rattle.exchange_model.specs.Entering.{all_deeds, answer_of, tick_deeds}

-- the deeds of the links among them
pub few-turns : (t : ℕ) (S : State)
    → length (all_deeds t (is_gone t S) S.links) + 1 ≤ length (tick_deeds t S)
few-turns t S =
    let len = length-append (all_deeds t (is_gone t S) S.links)
    (map answer_of (told_late (timed_out t S) S.readers)) in
    omega (arith, len)
