-- What was added stands for the bytes so far.
use Rattle.std.proofs.Common.{◌≡◌, ◌++◌, take, flat_map}
use Rattle.status_page.specs.Samples.{label_escape}
use Rattle.status_page.proofs.samples.add_label.Given as goal

abbrev pub invariant-each : goal.invariant-each
invariant-each l = l.out.items ≡ l.initial.out.items ++ flat_map label_escape (take l.byte-index l.text)
