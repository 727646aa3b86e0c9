use Rattle.std.proofs.Common.{◌≤◌, ℕ, List, length, sym, ap, subst, arith}
use Rattle.std.specs.Prelude.{filter}
use Rattle.exchange_model.specs.declared.kept.Piece.{Piece}
use Rattle.exchange_model.specs.Hearing.{is_of_none}
use Rattle.exchange_table.specs.Fetched.{AreOwned, is_of_another}
use Rattle.exchange_table.proofs.Owning.{none-over, owned-all}
use Rattle.exchange_table.proofs.fetched.drop_all_owned.Goals as goal

pub returns-then-len-count-clause-owned : goal.returns-then-len-count-clause-owned
returns-then-len-count-clause-owned c =
    let es = c.args.over.now in
    let xs = c.args.pieces.now.items in
    subst (λ (ys : List Piece). AreOwned ys c.drop_owners.new.owners.items) (sym c.drop_pieces_of_all.ensures.pieces)
    (subst (AreOwned (filter (is_of_none es) xs)) (sym c.drop_owners.ensures.owners) (owned-all es xs c.args.owners.now.items c.requires.owned))

pub returns-else-len-count-clause-pieces : goal.returns-else-len-count-clause-pieces
returns-else-len-count-clause-pieces c =
    let es = c.args.over.now in
    let os = c.args.owners.now.items in
    let left = ap (λ (ns : List ℕ). length ns) c.drop_owners.ensures.owners in
    let was = c.args.owners.now.ok.0 in
    let is = c.drop_owners.new.owners.ok.0 in
    let count = c.len-count.ensures in
    let now = c.len.ensures in
    let most = c.if-len-count.false in
    let as_many : length os ≤ length (filter (is_of_another es) os) = omega (arith, left, was, is, count, now, most) in
    sym (none-over es c.args.pieces.now.items os c.requires.owned as_many).0

pub returns-else-len-count-clause-owned : goal.returns-else-len-count-clause-owned
returns-else-len-count-clause-owned c =
    let es = c.args.over.now in
    let os = c.args.owners.now.items in
    let left = ap (λ (ns : List ℕ). length ns) c.drop_owners.ensures.owners in
    let was = c.args.owners.now.ok.0 in
    let is = c.drop_owners.new.owners.ok.0 in
    let count = c.len-count.ensures in
    let now = c.len.ensures in
    let most = c.if-len-count.false in
    let as_many : length os ≤ length (filter (is_of_another es) os) = omega (arith, left, was, is, count, now, most) in
    subst (AreOwned c.args.pieces.now.items) (sym c.drop_owners.ensures.owners) (none-over es c.args.pieces.now.items os c.requires.owned as_many).1
