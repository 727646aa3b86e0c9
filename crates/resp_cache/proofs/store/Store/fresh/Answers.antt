use Rattle.std.proofs.Common.{◌≡◌, ap, None, rules, sym}
use Rattle.resp_cache.specs.Stores.{served, stored_in}
use Rattle.resp_cache.specs.Tables.{pairs_of}
use Rattle.resp_cache.proofs.Looking.{served_none, served_not, served_one}
use Rattle.resp_cache.proofs.store.Store.fresh.Goals as goal

pub returns-in_err-pair : goal.returns-in_err-pair
returns-in_err-pair c =
    let key = c.args.sought.now in
    let none : served key c.args.moment (pairs_of c.self.inside.table) ≡ None =
    ap stored_in (served_none key c.args.moment (pairs_of c.self.inside.table) c.self.invariant.apart (sym c.in_err-pair.ensures)) in
    rw (← c.self.view_is, none) (search rules)

pub returns-then-is_fresh : goal.returns-then-is_fresh
returns-then-is_fresh c =
    let key = c.args.sought.now in
    rw (← c.self.view_is) (sym (ap stored_in (served_one key c.args.moment (pairs_of c.self.inside.table) c.in_ok-pair.pair.now c.self.invariant.apart (sym c.in_ok-pair.ensures) (sym c.if-is_fresh.ensures))))

pub returns-else-is_fresh : goal.returns-else-is_fresh
returns-else-is_fresh c =
    let key = c.args.sought.now in
    rw (← c.self.view_is) (sym (ap stored_in (served_not key c.args.moment (pairs_of c.self.inside.table) c.in_ok-pair.pair.now c.self.invariant.apart (sym c.in_ok-pair.ensures) (sym c.if-is_fresh.ensures))))
