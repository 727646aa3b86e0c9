-- The place is that of the connection, or it has none.
use Rattle.std.proofs.Common.{◌≢◌, List, refl, sym, ap, subst, ◌∙◌}
use Rattle.std.specs.List.{All}
use Rattle.gateway_connections.specs.declared.row.Row.{Row}
use Rattle.gateway_connections.specs.Inlets.{Inlet, is_full_in}
use Rattle.gateway_connections.specs.Rows.{current_of}
use Rattle.gateway_connections.proofs.Listing.{found-none}
use Rattle.gateway_connections.proofs.Placing.{found-at}
use Rattle.gateway_connections.proofs.Reading.{at-place}
use Rattle.gateway_connections.proofs.table.Table.passes_limit.Goals as goal

pub returns-in-Some : goal.returns-in-Some
returns-in-Some c =
    let rows = c.self.inside.rows.items in
    let a = at-place rows c.deref.result.now c.in-Some.place c.args.number c.deref.ensures.value c.self.invariant.0 c.in-Some.ensures.number c.in-Some.ensures.stays in
    rw (← c.self.view_is)
    (c.passes_limit.ensures ∙ sym (ap (λ o. is_full_in c.args.reads c.args.more o) (found-at rows c.in-Some.place c.args.number c.index.result.now a.order a.number a.stays c.index.ensures)))

pub returns-in-None : goal.returns-in-None
returns-in-None c =
    let rows = c.self.inside.rows.items in
    let none = subst (λ (rs : List Row). All (λ (x : Inlet). x.number ≢ c.args.number) (current_of rs)) c.deref.ensures.value (c.in-None.ensures.none refl) in
    rw (← c.self.view_is) (sym (ap (λ o. is_full_in c.args.reads c.args.more o) (found-none c.args.number (current_of rows) none)))
