use Rattle.std.proofs.Common.{◌≡◌, [], ◌∷◌, length, ap, sym, ◌∙◌, append_assoc, arith}
use Rattle.std.proofs.lemmas.List.{map_push}
use Rattle.std.specs.Vec.Iter.{into_iter_items}
use Rattle.demo_origin.specs.Origins.{fresh, held_of, with_one}
use Rattle.demo_origin.proofs.Each.{next_among}
use Rattle.demo_origin.proofs.origin.Origin.new.Goals as goal

pub add-requires-clause-keeps : goal.add-requires-clause-keeps
add-requires-clause-keeps g c =
    let x = c.in-Some.resource in
    c.requires.keep.each x
    (next_among c.each.yielded _ c.args.resources.items _ x c.each.invariant.0
    c.in-Some.ensures.steps.0)

pub each-preserved : goal.each-preserved
each-preserved g c =
    let at = c.each in
    let x = c.in-Some.resource in
    let steps : into_iter_items at.resource-iterator ≡ x ∷ into_iter_items c.next.new.self =
    c.in-Some.ensures.steps.0 in (
      append_assoc at.yielded (x ∷ []) _ ∙ rw (← steps) at.invariant.0,
      c.in_ok-add.ensures.sound,
      c.in_ok-add.ensures.added
          ∙ ap (with_one (held_of x)) at.invariant.2
          ∙ ap (fresh c.args.block) (sym (map_push held_of at.yielded x)),
      let was = at.invariant.3 in
          let gone = c.in-Some.ensures.steps.1 in
          let short = ap length steps in
          omega arith,
    )
