use Rattle.std.proofs.Common.{refl, sym}
use Rattle.exchange_model.specs.Matters.{is_piece_of}
use Rattle.exchange_table.proofs.Owning.{none-left, none-owned}
use Rattle.exchange_table.proofs.fetched.pieces_for.Goals as goal

pub returns-in-None : goal.returns-in-None
returns-in-None c =
    let o = c.args.opening in
    sym (none-left (is_piece_of o) c.args.pieces.now (none-owned o c.args.pieces.now c.args.owners.now c.requires (c.in-None.ensures.none refl)))
