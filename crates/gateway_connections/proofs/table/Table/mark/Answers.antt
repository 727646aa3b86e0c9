-- Those that changed are marked as they are, and those that closed are let go.
use Rattle.std.proofs.Common.{◌∙◌, List, sym, ap, subst, not}
use Rattle.std.specs.List.{All, filter}
use Rattle.gateway_connections.specs.declared.row.Row.{Row}
use Rattle.gateway_connections.specs.Rows.{AreInOrder, IsNoted, IsWhole, current_of, marked_of}
use Rattle.gateway_connections.proofs.Keeping.{settled-current, settled-marked, settled-whole}
use Rattle.gateway_connections.proofs.Noting.{Opened, noted-settled, opened-settled, settled-filter}
use Rattle.gateway_connections.proofs.table.Table.mark.Goals as goal

pub mark_changed-requires : goal.mark_changed-requires
mark_changed-requires c = c.self.invariant.2

pub drop_closed-requires : goal.drop_closed-requires
drop_closed-requires c none = subst (λ (rs : List Row). All Opened rs) (sym c.mark_changed.ensures) (opened-settled c.self.inside.rows.items (c.self.invariant.2.opened none))

pub invariant_of-self : goal.invariant_of-self
invariant_of-self c =
    let rows = c.self.inside.rows.items in
    let left = c.drop_closed.ensures ∙ ap (filter (λ (r : Row). not r.closed)) c.mark_changed.ensures ∙ settled-filter rows in
    let whole = settled-whole rows (λ (r : Row). not r.closed) c.self.invariant.0 c.self.invariant.1 in
    subst (λ (rs : List Row). AreInOrder rs × All IsWhole rs × IsNoted c.none-self-inside.result rs) (sym left) (whole.0, whole.1, noted-settled c.none-self-inside.result rows)

pub returns-clause-current : goal.returns-clause-current
returns-clause-current c =
    let rows = c.self.inside.rows.items in
    let left = c.drop_closed.ensures ∙ ap (filter (λ (r : Row). not r.closed)) c.mark_changed.ensures ∙ settled-filter rows in
    rw (← c.self.view_is) (ap current_of left ∙ settled-current rows)

pub returns-clause-marked : goal.returns-clause-marked
returns-clause-marked c =
    let rows = c.self.inside.rows.items in
    let left = c.drop_closed.ensures ∙ ap (filter (λ (r : Row). not r.closed)) c.mark_changed.ensures ∙ settled-filter rows in
    rw (← c.self.view_is) (ap marked_of left ∙ settled-marked rows)
