use Rattle.std.proofs.Common.{◌≡◌, ◌++◌, List, length, map, take, drop, refl, sym, ap, subst, ◌∙◌, arith}
use Rattle.std.proofs.lemmas.List.{length-map}
use Rattle.cache_key.specs.Keys.{key_of}
use Rattle.observe_share.specs.declared.registration.Registration.{Registration}
use Rattle.observe_share.specs.Hints.{IsFirstAsked}
use Rattle.observe_share.specs.Watches.{asked_at}
use Rattle.observe_share.proofs.Hinted.{asked-none, kept-asked, of-none, put-back}
use Rattle.observe_share.proofs.watch.Watch.touched.Goals as goal

pub invariant_of-self : goal.invariant_of-self
invariant_of-self c =
    let old = c.self.inside.standing.items in
    let new = c.touch.new.standing in
    let f = asked_at c.in-Some.lookup c.args.moment in
    let is : new ≡ map f old = c.touch.ensures ∙ ap (map f) c.deref_mut.ensures.value in
    let len : c.self.inside.standing.len ≡ length old = omega (arith, c.self.inside.standing.ok.0) in
    let whole = put-back new old c.self.inside.standing.len (ap length is ∙ length-map old f) len ∙ is in
    kept-asked old (take c.self.inside.standing.len (new ++ drop (length new) old)) c.self.inside.hints.items c.self.inside.first c.first_asked-self-inside.result c.in-Some.lookup c.args.moment
    c.self.invariant whole
    (subst (λ (rs : List Registration). IsFirstAsked rs c.first_asked-self-inside.result) c.deref.ensures.value c.first_asked-self-inside.ensures)

pub returns-in_default-clause-watches : goal.returns-in_default-clause-watches
returns-in_default-clause-watches c =
    let key = key_of c.args.reading.now.peer c.args.reading.now.target.now c.args.reading.now.accept in
    sym (asked-none key c.args.moment c.args.self.now.standing (of-none key c.args.self.now.standing (c.in_default.ensures.none refl)))
