use Rattle.std.proofs.Common.{sym, subst, arith}
use Rattle.exchange_core.specs.Snapshots.{MayRestore}
use Rattle.exchange_core.specs.States.{given_in, outgoing, state_of}
use Rattle.exchange_core.specs.Values.{CoreValue}
use Rattle.exchange_core.proofs.Restoring.{restored-sound}
use Rattle.exchange_core.proofs.core_state.Core.restore.Goals as goal

pub invariant_of-self : goal.invariant_of-self
invariant_of-self g c =
    let old = c.self.inside.state in
    let new = c.put_back.new.s in
    let e = c.put_back.ensures in
    restored-sound c.args.snapshot (state_of old) (state_of new) old.bytes old.journal.room new.bytes new.journal.room
    (given_in old) (given_in new) (outgoing old) c.self.invariant
    (subst (λ (v : CoreValue). MayRestore c.args.snapshot v) (sym c.self.view_is) c.requires) e.state e.bytes e.answers e.room

pub put_back-requires : goal.put_back-requires
put_back-requires g c =
    let may = subst (λ (v : CoreValue). MayRestore c.args.snapshot v) (sym c.self.view_is) c.requires in
    let given = may.given in
    let within = may.taken.sound.kept.here.counted.within in
    let count = may.taken.count in omega (arith, given, within, count)
