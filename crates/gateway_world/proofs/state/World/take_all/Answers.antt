-- Each input is taken after those before it.
use Rattle.std.proofs.Common.{List, Err, refl, sym, ap, ◌∙◌}
use Rattle.gateway_model.specs.declared.input.Input.{Input}
use Rattle.gateway_model.specs.declared.input.Happening.TheVariants as H
use Rattle.gateway_model.specs.Emissions.{emissions, given_up_in}
use Rattle.gateway_world.specs.Worlds.{memory_of}
use Rattle.gateway_world.proofs.Running.{emitted-both, joined, takes-next, takes-rules, refused-at}
use Rattle.gateway_world.proofs.Parted.{whole-then}
use Rattle.gateway_world.proofs.state.World.take_all.Goals as goal

pub each-init : goal.each-init
each-init g c = record { taken = (memory_of c.args.self.now, refl, ap emissions c.requires.untold); rules = refl; rests = c.requires.rests; whole = ap (λ (os : List _). given_up_in (emissions os)) c.requires.untold; given = refl }

pub each-preserved : goal.each-preserved
each-preserved g c =
    let holds = g.R.Relation.holds in
    let takes = g.R.Relation.takes in
    let none : Input = record { moment = 0; word = 0; happening = H.Open } in
    let before = c.each.invariant in
    let next = c.in_ok-more.ensures in
    record {
      taken = joined holds takes _ c.args.self.now c.input.new.self
          c.each.outputs.items c.in_ok-more.more.items c.append.new.self.items c.in_ok-append.ensures.items
          (takes-next holds takes c.args.inputs.now c.each.input-index none c.args.self.now c.each.self c.input.new.self
          (emissions c.each.outputs.items) (emissions c.in_ok-more.more.items) c.each-test.true before.taken next.takes);
      rules = takes-rules holds takes _ c.each.self c.input.new.self _ next.takes ∙ before.rules;
      rests = next.rests;
      given = next.given ∙ before.given;
      whole = ap (λ (os : List _). given_up_in (emissions os)) c.in_ok-append.ensures.items
          ∙ (ap given_up_in (emitted-both c.each.outputs.items c.in_ok-more.more.items)
          ∙ whole-then (emissions c.each.outputs.items) (emissions c.in_ok-more.more.items) before.whole next.whole);
    }

pub returns-in_err-more-clause-full : goal.returns-in_err-more-clause-full
returns-in_err-more-clause-full g c = λ e.
    refused-at g.R.Relation.holds g.R.Relation.takes c.args.inputs.now c.each.input-index
    (record { moment = 0; word = 0; happening = H.Open }) c.args.self.now c.each.self (emissions c.each.outputs.items) c.each-test.true
    c.each.invariant.taken (c.in_err-more.ensures.full.1 (ap Err (sym (rw e at c.from_residual.ensures).1)))
