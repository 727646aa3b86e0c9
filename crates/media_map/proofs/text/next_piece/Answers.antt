use Rattle.media_map.specs.declared.text.Scan.TheVariants.{Plain}
use Rattle.media_map.proofs.Scanning.{split_at_cut}
use Rattle.media_map.proofs.text.next_piece.Goals as goal

pub returns-clause-pieces : goal.returns-clause-pieces
returns-clause-pieces c = rw (c.split_at.ensures.front, c.split_at.ensures.back, c.cut.ensures.at) (split_at_cut c.args.quotes c.args.separator Plain c.args.text.now)
