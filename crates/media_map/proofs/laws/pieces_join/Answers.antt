use Rattle.media_map.specs.declared.text.Scan.TheVariants.{Plain}
use Rattle.media_map.proofs.Joining.{joins}
use Rattle.media_map.proofs.laws.pieces_join.Goals as goal

pub returns : goal.returns
returns c = λ quotes separator text. joins quotes separator Plain text
