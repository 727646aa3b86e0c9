use Rattle.std.proofs.Common.{refl, sym, ◌∙◌, arith}
use Rattle.exchange_core.specs.Places.{has_id}
use Rattle.exchange_table.specs.Places.{IsOnlyAt, IsNowhere}
use Rattle.exchange_table.proofs.CallerLemmas.{filter-none, filter-only}
use Rattle.exchange_core.proofs.noting.drop_conn.Goals as goal

pub remove-requires : goal.remove-requires
remove-requires c =
    let below = c.in-Some.ensures.below in
    let len = c.as_slice.ensures.len in
    omega (arith, below, len)

pub returns-in-Some : goal.returns-in-Some
returns-in-Some c =
    let at : IsOnlyAt (has_id c.args.id) c.args.conns.now.items c.in-Some.place = rw (c.as_slice.ensures.value) at c.in-Some.ensures.some in
    c.remove.ensures.items ∙ sym (filter-only (has_id c.args.id) c.args.conns.now.items c.in-Some.place at)

pub returns-in_default : goal.returns-in_default
returns-in_default c =
    let none : IsNowhere (has_id c.args.id) c.args.conns.now.items = rw (c.as_slice.ensures.value) at (c.in_default.ensures.none refl) in
    sym (filter-none (has_id c.args.id) c.args.conns.now.items none)
