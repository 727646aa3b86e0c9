use Rattle.std.proofs.Common.{◌≡◌, Some}
use Rattle.uri_map.proofs.Pieces.{first_piece, last_piece}
use Rattle.uri_map.proofs.escapes.next_piece.Goals as goal

pub returns-then-end-text-clause-pieces : goal.returns-then-end-text-clause-pieces
returns-then-end-text-clause-pieces c =
    let left : c.args.left ≡ Some c.in_ok-text.text = c.in_ok-text.was in
    rw left (first_piece _ _ _ (rw c.separator.ensures at c.index_of-end.ensures.value) c.if-end-text.true)

pub returns-else-end-text-clause-pieces : goal.returns-else-end-text-clause-pieces
returns-else-end-text-clause-pieces c =
    let left : c.args.left ≡ Some c.in_ok-text.text = c.in_ok-text.was in
    rw left (last_piece _ _ _ (rw c.separator.ensures at c.index_of-end.ensures.value) c.if-end-text.false)
