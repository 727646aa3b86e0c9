use Rattle.std.proofs.Common.{◌≡◌, length, take}
use Rattle.observe_share.specs.Hints.{AreHinted}
use Rattle.observe_share.proofs.hints.put_hints.Given as goal

abbrev pub invariant-each : goal.invariant-each
invariant-each l = (length l.hints ≡ 1024) × AreHinted l.hints (take l.r-index l.standing)
