use Rattle.std.proofs.Common.{◌≡◌, ℕ, List, not, refl, sym, subst, ◌∙◌, arith}
use Rattle.std.specs.Prelude.{filter}
use Rattle.exchange_model.specs.declared.kept.Piece.{Piece}
use Rattle.exchange_table.specs.Fetched.{AreOwned, is_not_of, is_number}
use Rattle.exchange_table.specs.Places.{IsOnlyAt, IsNowhere}
use Rattle.exchange_table.proofs.Owning.{all-stay, none-owned, owned-drop}
use Rattle.exchange_table.proofs.Standing.{filter-only}
use Rattle.exchange_table.proofs.fetched.drop_owned.Goals as goal

pub remove-requires : goal.remove-requires
remove-requires c =
    let below = c.in-Some.ensures.below in
    let len = c.as_slice.ensures.len in
    omega (arith, below, len)

pub returns-in-Some-clause-owned : goal.returns-in-Some-clause-owned
returns-in-Some-clause-owned c =
    let o = c.args.opening in
    let os = c.args.owners.now.items in
    let only : IsOnlyAt (is_number o) os c.in-Some.place = rw (c.as_slice.ensures.value) at c.in-Some.ensures.some in
    let left : c.remove.new.self.items ≡ filter (λ (n : ℕ). not (is_number o n)) os = c.remove.ensures.items ∙ sym (filter-only (is_number o) os c.in-Some.place only) in
    subst (λ (xs : List Piece). AreOwned xs c.remove.new.self.items) (sym c.drop_pieces_of.ensures.pieces)
    (subst (AreOwned (filter (is_not_of o) c.args.pieces.now.items)) (sym left) (owned-drop o c.args.pieces.now.items os c.requires))

pub returns-in_default-clause-pieces : goal.returns-in_default-clause-pieces
returns-in_default-clause-pieces c =
    let o = c.args.opening in
    let none : IsNowhere (is_number o) c.args.owners.now.items = rw (c.as_slice.ensures.value) at (c.in_default.ensures.none refl) in
    sym (all-stay o c.args.pieces.now.items (none-owned o c.args.pieces.now.items c.args.owners.now.items c.requires none))
