use Rattle.std.proofs.Common.{◌≡◌, ap, None, rules, sym, true, false}
use Rattle.resp_cache.specs.Stores.{stale_under, stored_in}
use Rattle.resp_cache.specs.Tables.{pairs_of}
use Rattle.resp_cache.proofs.Looking.{stale_none, stale_one}
use Rattle.resp_cache.proofs.store.Store.stale.Goals as goal

pub returns-in_err-old : goal.returns-in_err-old
returns-in_err-old c =
    let key = c.args.sought.now in
    let none : stale_under key c.args.moment (pairs_of c.self.inside.table) ≡ None =
    ap stored_in (stale_none key c.args.moment (pairs_of c.self.inside.table) c.self.invariant.apart (sym c.in_err-old.ensures)) in
    rw (← c.self.view_is, none) (search rules)

pub returns-then-is_fresh : goal.returns-then-is_fresh
returns-then-is_fresh c =
    let key = c.args.sought.now in
    rw (← c.self.view_is) (sym (ap stored_in (stale_one key c.args.moment (pairs_of c.self.inside.table) c.in_ok-old.old.now true c.self.invariant.apart (sym c.in_ok-old.ensures) (sym c.if-is_fresh.ensures))))

pub returns-else-is_fresh : goal.returns-else-is_fresh
returns-else-is_fresh c =
    let key = c.args.sought.now in
    rw (← c.self.view_is) (sym (ap stored_in (stale_one key c.args.moment (pairs_of c.self.inside.table) c.in_ok-old.old.now false c.self.invariant.apart (sym c.in_ok-old.ensures) (sym c.if-is_fresh.ensures))))
