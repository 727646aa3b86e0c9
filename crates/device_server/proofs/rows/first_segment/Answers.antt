use Rattle.std.proofs.Common.{◌≡◌, ◌+◌, ◌-◌, ◌==◌, false, length, take, drop, arith}
use Rattle.std.proofs.lemmas.List.Splits.{slice_split_first, slice_split_none}
use Rattle.std.proofs.lemmas.List.Sums.{fails_before_first}
use Rattle.std.proofs.lemmas.List.Elements.{All-from_get_or}
use Rattle.std.proofs.lemmas.List.{length-drop, take_all}
use Rattle.device_server.proofs.rows.first_segment.Goals as goal

pub returns-then-len-path-clause-none : goal.returns-then-len-path-clause-none
returns-then-len-path-clause-none c =
    let path = c.args.path.now in
    let e = c.segment_len-len.ensures.value in
    let whole = c.if-len-path.true in
    slice_split_none (λ b. b == 47) path (All-from_get_or (λ b. (b == 47) ≡ false) path 0 (λ k h.
    fails_before_first (λ b. b == 47) path k 0 (omega (arith, e, whole))))

pub returns-clause-some : goal.returns-clause-some
returns-clause-some c =
    let path = c.args.path.now in
    let n = c.segment_len-len.result in
    let e = c.segment_len-len.ensures.value in
    let front = slice_split_first (λ b. b == 47) path 0 (omega (arith, e, c.if-len-path.false, c.segment_len-len.ensures.within)) in
    let all : take (length path - (n + 1)) (drop (n + 1) path) ≡ drop (n + 1) path = take_all _ _ (omega (arith, length-drop (n + 1) path)) in
    rw (all, e) front
