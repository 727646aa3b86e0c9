use Rattle.std.proofs.Common.{◌≡◌, ◌++◌, take, codes, flat_map}
use Rattle.std.specs.Net.Text.{hex}
use Rattle.uri_map.proofs.hosting.push_other_groups.Given as goal

abbrev pub invariant-each : goal.invariant-each
invariant-each l = l.out.items ≡ l.initial.out.items ++ flat_map (λ n. codes ":" ++ hex n) (take l.segment-index l.segments)
