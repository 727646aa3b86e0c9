use Rattle.std.proofs.Common.{◌≡◌, ◌++◌, take}
use Rattle.uri_map.specs.Hosting.{texts_behind}
use Rattle.uri_map.proofs.hosting.push_texts.Given as goal

abbrev pub invariant-each : goal.invariant-each
invariant-each l = l.out.items ≡ l.initial.out.items ++ texts_behind l.set l.mark (take l.text-index l.texts)
