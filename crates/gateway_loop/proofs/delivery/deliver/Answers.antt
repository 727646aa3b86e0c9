-- One more is given on.
use Rattle.std.proofs.Common.{◌≡◌, ◌≤◌, ◌-◌, ℕ, List, [], ◌∷◌, length, drop, take, rules, ap, ◌∙◌, append_assoc, arith}
use Rattle.std.specs.List.{slice_range}
use Rattle.std.specs.Prelude.{vec_len}
use Rattle.std.specs.Vec.Iter.{drain_items}
use Rattle.std.proofs.lemmas.List.{take_all}
use Rattle.gateway_loop.proofs.Giving.{given-more, given-start, sent-more, turns-more, turns-start}
use Rattle.gateway_loop.proofs.Growing.{grown-none, grown-then}
use Rattle.gateway_loop.proofs.Tellings.{tells-more, tells-start}
use Rattle.gateway_loop.proofs.delivery.deliver.Goals as goal

-- all that there are
whole : {A : Type 0} (xs : List A) (n : ℕ) → length xs ≤ n → slice_range xs 0 n ≡ xs
whole {A} xs n h = let same : n - 0 ≡ n = omega arith in ap (λ (k : ℕ). take k (drop 0 xs)) same ∙ take_all n xs h

pub each-init : goal.each-init
each-init g c = (
  search rules,
  search rules,
  ap drain_items c.into_iter-output-iterator.ensures.into_iter_gives
      ∙ (c.drain-output-items.ensures.rest ∙ whole c.args.outputs.now.items (vec_len c.args.outputs.now) (search rules)),
  given-start c.args.clients.now.places,
  turns-start c.args.clients.now,
  grown-none _,
  grown-none _,
  tells-start c.args.clients.now.told,
)

pub each-preserved : goal.each-preserved
each-preserved g c =
    let at = c.each in
    let o = c.in-Some.output in
    let steps : drain_items at.output-iterator ≡ o ∷ drain_items c.next.new.self =
    c.in-Some.ensures.steps.0 in (
      search rules,
      search rules,
      append_assoc at.yielded (o ∷ []) _ ∙ rw (← steps) at.invariant.2,
      given-more at.yielded o _ _ _ at.invariant.3 c.deliver_one.ensures.given,
      turns-more at.yielded o _ _ _ _ _ _ at.invariant.4 c.deliver_one.ensures.turns,
      sent-more at.yielded o g.W.Wire.sent _ _ _ at.invariant.5 c.deliver_one.ensures.wire,
      grown-then _ _ _ [] [] at.invariant.6 c.deliver_one.ensures.quiet,
      tells-more at.yielded o _ _ _ at.invariant.7 c.deliver_one.ensures.told,
    )
