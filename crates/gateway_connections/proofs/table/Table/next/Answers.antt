-- The one row changes, or none has the number.
use Rattle.std.proofs.Common.{◌≢◌, List, refl, sym, subst}
use Rattle.std.specs.List.{All}
use Rattle.std.proofs.Math.ListN.{set}
use Rattle.gateway_connections.specs.declared.row.Row.{Row}
use Rattle.gateway_connections.specs.Inlets.{Inlet}
use Rattle.gateway_connections.specs.Rows.{IsNoted, current_of}
use Rattle.gateway_connections.proofs.Noting.{noted-set}
use Rattle.gateway_connections.proofs.Placing.{put-marked}
use Rattle.gateway_connections.proofs.Reading.{at-place, read-number, put-reads, put-kept, none-read}
use Rattle.gateway_connections.proofs.table.Table.next.Goals as goal

pub invariant_of-self : goal.invariant_of-self
invariant_of-self c =
    let rows = c.self.inside.rows.items in
    let x = c.index_mut.result.now in
    let a = at-place rows c.deref.result.now c.in-Some.place c.args.number c.deref.ensures.value c.self.invariant.0 c.in-Some.ensures.number c.in-Some.ensures.stays in
    let kept =
    put-kept rows c.in-Some.place c.args.number x (record x { inbox = c.next.new.self }) a c.index_mut.ensures.value refl c.self.invariant.1 c.next.ensures.sound c.next.ensures.marked
    (read-number c.next.result x.inbox.current c.next.new.self.current c.next.ensures.reads) refl in (
      kept.0,
      kept.1,
      subst (λ m. IsNoted m (set rows c.in-Some.place (record x { inbox = c.next.new.self }))) (sym c.note.ensures)
          (noted-set c.self.inside.changed rows c.in-Some.place x (record x { inbox = c.next.new.self }) c.self.invariant.2 a.below c.index_mut.ensures.value refl),
    )

pub returns-in-Some-clause-reads : goal.returns-in-Some-clause-reads
returns-in-Some-clause-reads c =
    let rows = c.self.inside.rows.items in
    let x = c.index_mut.result.now in
    let a = at-place rows c.deref.result.now c.in-Some.place c.args.number c.deref.ensures.value c.self.invariant.0 c.in-Some.ensures.number c.in-Some.ensures.stays in
    rw (← c.self.view_is) (put-reads rows c.in-Some.place c.args.number x (record x { inbox = c.next.new.self }) a c.index_mut.ensures.value refl c.next.result c.next.ensures.reads)

pub returns-in-Some-clause-marked : goal.returns-in-Some-clause-marked
returns-in-Some-clause-marked c =
    let x = c.index_mut.result.now in
    rw (← c.self.view_is) (put-marked c.self.inside.rows.items c.in-Some.place x (record x { inbox = c.next.new.self }) c.index_mut.ensures.value refl c.next.ensures.marked)

pub returns-in-None-clause-reads : goal.returns-in-None-clause-reads
returns-in-None-clause-reads c =
    let none = subst (λ (rs : List Row). All (λ (x : Inlet). x.number ≢ c.args.number) (current_of rs)) c.deref.ensures.value (c.in-None.ensures.none refl) in
    rw (← c.self.view_is) (none-read c.args.number (current_of c.self.inside.rows.items) none)
