-- The piece is the first of what isn't an input yet.
use Rattle.std.proofs.Common.{rules, ◌+◌, drop}
use Rattle.gateway_loop.proofs.Moving.{split_rest}
use Rattle.gateway_loop.proofs.client.Client.piece.Goals as goal

pub returns-clause-first : goal.returns-clause-first
returns-clause-first g c =
    let parts = split_rest c.self.inside.fed c.piece_len.result c.deref.result.now c.self.inside.came.items c.deref.ensures.value in
    record {
      rest = drop (c.self.inside.fed + c.piece_len.result) c.self.inside.came.items;
      parts = search (rules, parts);
    }
