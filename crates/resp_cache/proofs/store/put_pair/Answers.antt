use Rattle.std.proofs.Common.{◌≡◌, ◌∙◌, ap, true, sym}
use Rattle.std.specs.List.{list_any}
use Rattle.resp_cache.specs.Stored.{is_never_fresh}
use Rattle.resp_cache.specs.Stores.{is_of}
use Rattle.resp_cache.specs.Tables.{pairs_of}
use Rattle.resp_cache.proofs.Keeping.{put_never, store_is}
use Rattle.resp_cache.proofs.Lists.{none_left}
use Rattle.resp_cache.proofs.store.put_pair.Goals as goal

pub returns-then-is_never_fresh-clause-kept : goal.returns-then-is_never_fresh-clause-kept
returns-then-is_never_fresh-clause-kept c =
    let t = c.args.table.now in
    let never : is_never_fresh c.args.stored ≡ true = sym c.if-is_never_fresh.ensures in
    (put_never c.args.key c.args.stored (pairs_of t) (pairs_of c.drop_key.new.table) (store_is t.slots.items t.ring.items t.names.items c.requires.table) never c.drop_key.ensures.pairs).0

pub returns-then-is_never_fresh-clause-gone : goal.returns-then-is_never_fresh-clause-gone
returns-then-is_never_fresh-clause-gone c =
    let t = c.args.table.now in
    let never : is_never_fresh c.args.stored ≡ true = sym c.if-is_never_fresh.ensures in
    (put_never c.args.key c.args.stored (pairs_of t) (pairs_of c.drop_key.new.table) (store_is t.slots.items t.ring.items t.names.items c.requires.table) never c.drop_key.ensures.pairs).1

pub put_first-requires-clause-other : goal.put_first-requires-clause-other
put_first-requires-clause-other c = ap (list_any (is_of c.args.key)) c.drop_key.ensures.pairs ∙ none_left (is_of c.args.key) (pairs_of c.args.table.now)
