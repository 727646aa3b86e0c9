-- The rest closes the string where the whole text does.
use Rattle.std.proofs.Common.{◌≡◌, drop}
use Rattle.media_map.specs.Texts.{closes}
use Rattle.media_map.specs.declared.text.Scan.TheVariants.{Quoted}
use Rattle.media_map.proofs.text.closes_quotes.Given as goal

abbrev pub invariant-each : goal.invariant-each
invariant-each l = closes Quoted l.text ≡ closes l.scan (drop l.byte-index l.text)
