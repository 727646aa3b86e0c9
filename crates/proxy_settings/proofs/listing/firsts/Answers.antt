use Rattle.std.proofs.Common.{◌≡◌, ◌∷◌, [], refl, sym, ap, ◌∙◌, append_assoc, length, arith, rules}
use Rattle.std.proofs.lemmas.Bool.{false≢true}
use Rattle.std.specs.Vec.Iter.{into_iter_items}
use Rattle.proxy_settings.proofs.FirstOnes.{one_more_name}
use Rattle.proxy_settings.proofs.listing.firsts.Goals as goal

pub each-preserved-in-Continue-branch-3 : goal.each-preserved-in-Continue-branch-3
each-preserved-in-Continue-branch-3 g c =
    let at = c.each in
    let x = c.in-Some.item in
    let steps : into_iter_items at.item-iterator ≡ x ∷ into_iter_items c.next.new.self = c.in-Some.ensures.steps.0 in (
      append_assoc at.yielded (x ∷ []) _ ∙ rw (← steps) at.invariant.0,
      one_more_name g.T.Named.name at.yielded x c.in_ok-name.name at.seen c.insert.new.self c.in_ok-insert.field-0 at.kept.items c.push.new.self.items
          (search rules) c.in_ok-insert.ensures.added c.in_ok-insert.ensures.updates
          (λ _. c.in_ok-push.ensures.items) (λ h. absurd (false≢true (sym h ∙ c.if-branch.true))) at.invariant.1,
      let was = at.invariant.2 in
          let gone = c.in-Some.ensures.steps.1 in
          let short = ap length steps in
          omega arith,
    )

pub each-preserved : goal.each-preserved
each-preserved g c =
    let at = c.each in
    let x = c.in-Some.item in
    let steps : into_iter_items at.item-iterator ≡ x ∷ into_iter_items c.next.new.self = c.in-Some.ensures.steps.0 in (
      append_assoc at.yielded (x ∷ []) _ ∙ rw (← steps) at.invariant.0,
      one_more_name g.T.Named.name at.yielded x c.in_ok-name.name at.seen c.insert.new.self c.in_ok-insert.field-0 at.kept.items at.kept.items
          (search rules) c.in_ok-insert.ensures.added c.in_ok-insert.ensures.updates
          (λ h. absurd (false≢true (sym c.if-branch.false ∙ h))) (λ _. refl) at.invariant.1,
      let was = at.invariant.2 in
          let gone = c.in-Some.ensures.steps.1 in
          let short = ap length steps in
          omega arith,
    )
