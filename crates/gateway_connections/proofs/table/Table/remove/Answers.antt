-- The one row is taken out or closed, or none has the number.
use Rattle.std.proofs.Common.{◌≡◌, ◌≢◌, ◌∙◌, List, refl, sym, ap, subst, true, false, arith}
use Rattle.std.specs.List.{All}
use Rattle.std.proofs.lemmas.List.{get_or_default}
use Rattle.gateway_connections.specs.declared.row.Row.{Row}
use Rattle.gateway_connections.specs.Inlets.{Inlet}
use Rattle.gateway_connections.specs.Rows.{AreInOrder, IsNoted, IsWhole, current_of, marked_of}
use Rattle.gateway_connections.proofs.Listing.{without-none}
use Rattle.gateway_connections.proofs.Placing.{flag-at, put-marked, shut-current, out-current, out-marked}
use Rattle.gateway_connections.proofs.Keeping.{order-set, order-remove, whole-set, whole-remove}
use Rattle.gateway_connections.proofs.Reading.{at-place, number-here}
use Rattle.gateway_connections.proofs.Noting.{noted-remove, noted-shut}
use Rattle.gateway_connections.proofs.table.Table.remove.Goals as goal

true-false : true ≡ false → ⊥
true-false e = absurd cc

pub invariant_of-self : goal.invariant_of-self
invariant_of-self c =
    let rows = c.self.inside.rows.items in
    let a = at-place rows c.deref.result.now c.in-Some.place c.args.number c.deref.ensures.value c.self.invariant.0 c.in-Some.ensures.number c.in-Some.ensures.stays in
    subst (λ (rs : List Row). AreInOrder rs × All IsWhole rs × IsNoted c.self.inside.changed rs) (sym c.remove-row.ensures.items) (
      order-remove rows c.in-Some.place a.below a.order,
      whole-remove rows c.in-Some.place c.self.invariant.1,
      noted-remove c.self.inside.changed rows c.in-Some.place c.index.result.now c.self.invariant.2 a.below c.index.ensures c.if-index.true,
    )

pub index_mut-requires : goal.index_mut-requires
index_mut-requires c =
    let rows = c.self.inside.rows in
    let a = at-place rows.items c.deref.result.now c.in-Some.place c.args.number c.deref.ensures.value c.self.invariant.0 c.in-Some.ensures.number c.in-Some.ensures.stays in
    let ok = rows.ok.0 in
    let below = a.below in
    omega (arith, ok, below)

pub invariant_of-self-else-index : goal.invariant_of-self-else-index
invariant_of-self-else-index c =
    let rows = c.self.inside.rows.items in
    let x = c.index_mut.result.now in
    let a = at-place rows c.deref.result.now c.in-Some.place c.args.number c.deref.ensures.value c.self.invariant.0 c.in-Some.ensures.number c.in-Some.ensures.stays in
    let y : Row = record x { closed = true } in
    let old : x.fresh ≡ false =
    ap (λ (r : Row). r.fresh) (c.index_mut.ensures.value ∙ get_or_default rows c.in-Some.place x c.index.result.now a.below ∙ sym c.index.ensures) ∙ c.if-index.false in (
      order-set rows c.in-Some.place c.args.number y a.order a.number (number-here rows c.in-Some.place c.args.number x a.number c.index_mut.ensures.value),
      whole-set rows c.in-Some.place x y a.below c.index_mut.ensures.value c.self.invariant.1
          (λ w. record { current = w.current; marked = w.marked; number = w.number; stays = λ new. absurd (true-false (sym new ∙ old)) }),
      noted-shut c.self.inside.changed rows c.in-Some.place x c.self.invariant.2 a.below c.index_mut.ensures.value,
    )

pub returns-then-index-clause-current : goal.returns-then-index-clause-current
returns-then-index-clause-current c =
    let rows = c.self.inside.rows.items in
    let a = at-place rows c.deref.result.now c.in-Some.place c.args.number c.deref.ensures.value c.self.invariant.0 c.in-Some.ensures.number c.in-Some.ensures.stays in
    rw (← c.self.view_is) (ap current_of c.remove-row.ensures.items ∙ out-current rows c.in-Some.place c.args.number a.order a.number a.stays)

pub returns-then-index-clause-marked : goal.returns-then-index-clause-marked
returns-then-index-clause-marked c =
    let rows = c.self.inside.rows.items in
    let a = at-place rows c.deref.result.now c.in-Some.place c.args.number c.deref.ensures.value c.self.invariant.0 c.in-Some.ensures.number c.in-Some.ensures.stays in
    rw (← c.self.view_is)
    (ap marked_of c.remove-row.ensures.items ∙ out-marked rows c.in-Some.place (flag-at (λ (r : Row). r.fresh) rows c.in-Some.place c.index.result.now true a.below c.index.ensures c.if-index.true))

pub returns-else-index-clause-current : goal.returns-else-index-clause-current
returns-else-index-clause-current c =
    let rows = c.self.inside.rows.items in
    let x = c.index_mut.result.now in
    let a = at-place rows c.deref.result.now c.in-Some.place c.args.number c.deref.ensures.value c.self.invariant.0 c.in-Some.ensures.number c.in-Some.ensures.stays in
    rw (← c.self.view_is) (shut-current rows c.in-Some.place c.args.number (record x { closed = true }) a.order a.number a.stays refl)

pub returns-else-index-clause-marked : goal.returns-else-index-clause-marked
returns-else-index-clause-marked c =
    let x = c.index_mut.result.now in
    rw (← c.self.view_is) (put-marked c.self.inside.rows.items c.in-Some.place x (record x { closed = true }) c.index_mut.ensures.value refl refl)

pub returns-in_default-clause-current : goal.returns-in_default-clause-current
returns-in_default-clause-current c =
    let none = subst (λ (rs : List Row). All (λ (x : Inlet). x.number ≢ c.args.number) (current_of rs)) c.deref.ensures.value (c.in_default.ensures.none refl) in
    rw (← c.self.view_is) (sym (without-none c.args.number (current_of c.self.inside.rows.items) none))
