use Rattle.std.proofs.Common.{◌<◌, length, rules, arith}
use Rattle.demo_origin.proofs.Entries.{two_bytes}
use Rattle.demo_origin.proofs.judge.number_in.Goals as goal

pub overflow_cast-result : goal.overflow_cast-result
overflow_cast-result c =
    let h : c.uint_of.result < 65536 =
    two_bytes (length c.in_ok-value.value.now) c.uint_of.result
    (omega (arith, c.if-value-gt2.false)) c.uint_of.ensures.small in
    search rules
