use Rattle.std.proofs.Common.{◌≡◌, ◌++◌, ◌∷◌, [], ℕ, List, true, length, rules, sym, subst, arith}
use Rattle.std.proofs.lemmas.Bool.{eqb-true}
use Rattle.std.specs.Prelude.{Bool, nat_eq, nat_lt, vec_capacity}
use Rattle.observe_share.specs.declared.registration.Registration.{Registration}
use Rattle.observe_share.specs.Hints.{IsFirstAsked, IsKept, is_hinted}
use Rattle.observe_share.proofs.Hinted.{and-second, kept-push, put-back}
use Rattle.observe_share.proofs.watch.Watch.register_in_room.Goals as goal

pub invariant_of-self : goal.invariant_of-self
invariant_of-self c =
    let old = c.self.inside.hints.items in
    let new = c.put_hint.new.hints in
    let room = rw (← c.self.view_is) at c.requires.room in
    let few = rw (← c.self.view_is) at c.requires.few in
    let wide : nat_eq c.self.inside.hints.len 1024 ≡ true = and-second (nat_lt c.self.inside.standing.len (vec_capacity c.self.inside.standing)) (nat_eq c.self.inside.hints.len 1024) room in
    let full : c.self.inside.hints.len ≡ 1024 = eqb-true c.self.inside.hints.len 1024 wide in
    let len : c.self.inside.hints.len ≡ length old = omega (arith, c.self.inside.hints.ok.0) in
    let put = c.put_hint.ensures.len in
    let items : c.push.new.self.items ≡ c.self.inside.standing.items ++ c.args.registration ∷ [] = search rules in
    subst (λ (hs : List Bool). IsKept c.push.new.self.items hs c.first_asked-self-inside.result)
    (sym (put-back new old c.self.inside.hints.len (omega (arith, put, full, len)) len))
    (kept-push c.self.inside.standing.items c.push.new.self.items c.args.registration old new c.self.inside.first c.first_asked-self-inside.result c.self.invariant few items
    (subst (λ (hs : List Bool). (k : ℕ) → is_hinted hs k ≡ true → is_hinted new k ≡ true) c.deref_mut.ensures.value c.put_hint.ensures.kept)
    (subst (λ (k : ℕ). is_hinted new k ≡ true) c.rank.ensures c.put_hint.ensures.put)
    (subst (λ (rs : List Registration). IsFirstAsked rs c.first_asked-self-inside.result) c.deref.ensures.value c.first_asked-self-inside.ensures))
