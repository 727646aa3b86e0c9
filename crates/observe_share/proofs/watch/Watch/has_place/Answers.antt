use Rattle.std.proofs.Common.{List, length, not, refl, sym, ap, ◌∙◌, arith}
use Rattle.std.specs.Prelude.{nat_lt}
use Rattle.std.proofs.lemmas.Bool.{le-ltb, lt-ltb}
use Rattle.cache_key.specs.Keys.{key_of}
use Rattle.observe_share.specs.declared.registration.Registration.{Registration}
use Rattle.observe_share.specs.Watches.{is_of, without}
use Rattle.observe_share.proofs.First.{length-filtered}
use Rattle.observe_share.proofs.Hinted.{of-none, without-none}
use Rattle.observe_share.proofs.watch.Watch.has_place.Goals as goal

pub returns-then-len-lt-LIMIT : goal.returns-then-len-lt-LIMIT
returns-then-len-lt-LIMIT c =
    let key = key_of c.args.reading.now.peer c.args.reading.now.target.now c.args.reading.now.accept in
    let few = length-filtered (λ (r : Registration). not (is_of key r)) c.self.inside.standing.items in
    let len = c.len.ensures in
    let ok = c.self.inside.standing.ok.0 in
    let test = c.if-len-lt-LIMIT.true in
    rw (← c.self.view_is) (sym (lt-ltb (length (without (is_of key) c.self.inside.standing.items)) 64 (omega (arith, few, len, ok, test))))

pub returns-in-None : goal.returns-in-None
returns-in-None c =
    let key = key_of c.args.reading.now.peer c.args.reading.now.target.now c.args.reading.now.accept in
    let rs = c.self.inside.standing.items in
    let none = rw (← c.self.view_is) at (c.in-None.ensures.none refl) in
    let len = c.len.ensures in
    let ok = c.self.inside.standing.ok.0 in
    let test = c.if-len-lt-LIMIT.false in
    rw (← c.self.view_is) (sym (ap (λ (xs : List Registration). nat_lt (length xs) 64) (without-none (is_of key) rs (of-none key rs none))
    ∙ le-ltb (length rs) 64 (omega (arith, len, ok, test))))
