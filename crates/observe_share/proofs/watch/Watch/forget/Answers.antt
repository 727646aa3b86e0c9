use Rattle.std.proofs.Common.{List, refl, sym, subst}
use Rattle.cache_key.specs.Keys.{key_of}
use Rattle.observe_share.specs.declared.registration.Registration.{Registration}
use Rattle.observe_share.specs.Hints.{IsFirstAsked}
use Rattle.observe_share.specs.Watches.{is_of}
use Rattle.observe_share.proofs.Hinted.{kept-without, of-none, without-none}
use Rattle.observe_share.proofs.watch.Watch.forget.Goals as goal

pub invariant_of-self : goal.invariant_of-self
invariant_of-self c =
    kept-without c.self.inside.standing.items c.drop_key.new.standing.items c.self.inside.hints.items c.self.inside.first c.first_asked-self-inside.result (is_of c.in-Some.lookup)
    c.self.invariant c.drop_key.ensures.items
    (subst (λ (rs : List Registration). IsFirstAsked rs c.first_asked-self-inside.result) c.deref.ensures.value c.first_asked-self-inside.ensures)

pub returns-in_default-clause-watches : goal.returns-in_default-clause-watches
returns-in_default-clause-watches c =
    let key = key_of c.args.reading.now.peer c.args.reading.now.target.now c.args.reading.now.accept in
    sym (without-none (is_of key) c.args.self.now.standing (of-none key c.args.self.now.standing (c.in_default.ensures.none refl)))
