-- Each piece of the exchange can be read.
use Rattle.exchange_model.specs.declared.kept.Piece.{Piece}
use Rattle.exchange_model.specs.Matters.{is_piece_of}
use Rattle.exchange_progress.specs.Pieces.{IsPieceHere}
use Rattle.exchange_progress.proofs.Pieces.{passed-at}
use Rattle.exchange_progress.proofs.fetching.fetched_in.Goals as goal

pub add_piece-requires : goal.add_piece-requires
add_piece-requires g c = λ so.
    let j = c.args.journal.now in
    let none : Piece = record { opening = 0; number = 0 } in
    passed-at (IsPieceHere j.given j.kept) (is_piece_of c.args.opening) c.args.pieces.now c.each.piece-index none
    c.requires c.each-test.true so
