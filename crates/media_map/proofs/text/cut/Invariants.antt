-- What stands before the first separator is what was passed and what stands before the first of the rest.
use Rattle.std.proofs.Common.{◌≡◌, ◌+◌, drop}
use Rattle.media_map.specs.Texts.{cut_from}
use Rattle.media_map.specs.declared.text.Scan.TheVariants.{Plain}
use Rattle.media_map.proofs.text.cut.Given as goal

abbrev pub invariant-each : goal.invariant-each
invariant-each l = cut_from l.quotes l.separator Plain l.text ≡ l.i + cut_from l.quotes l.separator l.scan (drop l.i l.text)
