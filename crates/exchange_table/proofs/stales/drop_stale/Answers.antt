use Rattle.std.proofs.Common.{◌≡◌, refl, sym, subst, ◌∙◌, arith}
use Rattle.std.specs.Prelude.{filter}
use Rattle.exchange_model.specs.Matters.{is_stale_of}
use Rattle.exchange_table.specs.Places.{RiseBy, IsOnlyAt, IsNowhere}
use Rattle.exchange_table.specs.Stales.{asked_in, is_about_another}
use Rattle.exchange_table.proofs.Standing.{filter-none, filter-only, rise-filter}
use Rattle.exchange_table.proofs.stales.drop_stale.Goals as goal

pub remove-requires : goal.remove-requires
remove-requires c =
    let below = c.in-Some.ensures.below in
    let len = c.as_slice.ensures.len in
    omega (arith, below, len)

pub returns-in-Some-clause-stales : goal.returns-in-Some-clause-stales
returns-in-Some-clause-stales c =
    let o = c.args.opening in
    let xs = c.args.stales.now.items in
    let only : IsOnlyAt (is_stale_of o) xs c.in-Some.place = rw (c.as_slice.ensures.value) at c.in-Some.ensures.some in
    c.remove.ensures.items ∙ sym (filter-only (is_stale_of o) xs c.in-Some.place only)

pub returns-in-Some-clause-order : goal.returns-in-Some-clause-order
returns-in-Some-clause-order c =
    let o = c.args.opening in
    let xs = c.args.stales.now.items in
    let only : IsOnlyAt (is_stale_of o) xs c.in-Some.place = rw (c.as_slice.ensures.value) at c.in-Some.ensures.some in
    let left : c.remove.new.self.items ≡ filter (is_about_another o) xs =
    c.remove.ensures.items ∙ sym (filter-only (is_stale_of o) xs c.in-Some.place only) in
    subst (RiseBy asked_in) (sym left) (rise-filter asked_in (is_about_another o) xs c.requires)

pub returns-in_default-clause-stales : goal.returns-in_default-clause-stales
returns-in_default-clause-stales c =
    let o = c.args.opening in
    let none : IsNowhere (is_stale_of o) c.args.stales.now.items = rw (c.as_slice.ensures.value) at (c.in_default.ensures.none refl) in
    sym (filter-none (is_stale_of o) c.args.stales.now.items none)
