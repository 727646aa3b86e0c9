-- The one row changes, or none has the number.
use Rattle.std.proofs.Common.{◌≢◌, List, refl, sym, subst}
use Rattle.std.specs.List.{All}
use Rattle.std.proofs.Math.ListN.{set}
use Rattle.gateway_connections.specs.declared.row.Row.{Row}
use Rattle.gateway_connections.specs.Inlets.{Inlet}
use Rattle.gateway_connections.specs.Rows.{IsNoted, current_of}
use Rattle.gateway_connections.proofs.Noting.{noted-set}
use Rattle.gateway_connections.proofs.Placing.{put-marked}
use Rattle.gateway_connections.proofs.Reading.{at-place, append-number, put-more, put-same, put-kept, none-more}
use Rattle.gateway_connections.proofs.table.Table.append.Goals as goal

pub invariant_of-self : goal.invariant_of-self
invariant_of-self c =
    let rows = c.self.inside.rows.items in
    let x = c.index_mut.result.now in
    let a = at-place rows c.deref.result.now c.in-Some.place c.args.number c.deref.ensures.value c.self.invariant.0 c.in-Some.ensures.number c.in-Some.ensures.stays in
    let kept =
    put-kept rows c.in-Some.place c.args.number x (record x { inbox = c.append.new.self }) a c.index_mut.ensures.value refl c.self.invariant.1 c.append.ensures.sound c.append.ensures.marked
    (append-number c.append.result c.args.bytes.now x.inbox.current c.append.new.self.current c.append.ensures.more c.append.ensures.kept) refl in (
      kept.0,
      kept.1,
      subst (λ m. IsNoted m (set rows c.in-Some.place (record x { inbox = c.append.new.self }))) (sym c.note.ensures)
          (noted-set c.self.inside.changed rows c.in-Some.place x (record x { inbox = c.append.new.self }) c.self.invariant.2 a.below c.index_mut.ensures.value refl),
    )

pub returns-in-Some-clause-more : goal.returns-in-Some-clause-more
returns-in-Some-clause-more c =
    let rows = c.self.inside.rows.items in
    let x = c.index_mut.result.now in
    let a = at-place rows c.deref.result.now c.in-Some.place c.args.number c.deref.ensures.value c.self.invariant.0 c.in-Some.ensures.number c.in-Some.ensures.stays in
    rw (← c.self.view_is) (put-more rows c.in-Some.place c.args.number x (record x { inbox = c.append.new.self }) a c.index_mut.ensures.value refl c.append.result c.args.bytes.now c.append.ensures.more)

pub returns-in-Some-clause-unchanged : goal.returns-in-Some-clause-unchanged
returns-in-Some-clause-unchanged c =
    let rows = c.self.inside.rows.items in
    let x = c.index_mut.result.now in
    let a = at-place rows c.deref.result.now c.in-Some.place c.args.number c.deref.ensures.value c.self.invariant.0 c.in-Some.ensures.number c.in-Some.ensures.stays in
    rw (← c.self.view_is) (put-same rows c.in-Some.place c.args.number x (record x { inbox = c.append.new.self }) a c.index_mut.ensures.value refl c.append.result c.append.ensures.kept)

pub returns-in-Some-clause-marked : goal.returns-in-Some-clause-marked
returns-in-Some-clause-marked c =
    let x = c.index_mut.result.now in
    rw (← c.self.view_is) (put-marked c.self.inside.rows.items c.in-Some.place x (record x { inbox = c.append.new.self }) c.index_mut.ensures.value refl c.append.ensures.marked)

pub returns-in-None-clause-more : goal.returns-in-None-clause-more
returns-in-None-clause-more c =
    let none = subst (λ (rs : List Row). All (λ (x : Inlet). x.number ≢ c.args.number) (current_of rs)) c.deref.ensures.value (c.in-None.ensures.none refl) in
    rw (← c.self.view_is) (none-more c.args.number c.args.bytes.now (current_of c.self.inside.rows.items) none)
