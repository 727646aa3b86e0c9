use Rattle.std.proofs.Common.{refl, sym}
use Rattle.cache_key.specs.Keys.{key_of, place_of}
use Rattle.observe_share.specs.Watches.{is_at, is_of}
use Rattle.observe_share.proofs.Hinted.{filter-none, of-none}
use Rattle.observe_share.proofs.watch.Watch.among.Goals as goal

pub returns-in-None-clause-at : goal.returns-in-None-clause-at
returns-in-None-clause-at c =
    sym (filter-none (is_at (place_of c.args.reading.now.peer c.args.reading.now.target.now)) c.args.self.now.standing (c.in-None.ensures.none refl))

pub returns-in-None-clause-of : goal.returns-in-None-clause-of
returns-in-None-clause-of c =
    let key = key_of c.args.reading.now.peer c.args.reading.now.target.now c.args.reading.now.accept in
    sym (filter-none (is_of key) c.args.self.now.standing (of-none key c.args.self.now.standing (c.in-None.ensures.none refl)))
