-- The first answer is told after those before it.
use Rattle.std.proofs.Common.{refl, ap, ◌∙◌, arith}
use Rattle.exchange_core.specs.Answering.{given_of}
use Rattle.exchange_core.specs.Values.{CoreValue}
use Rattle.gateway_world.proofs.Answering.{answered-none, answered-on, answered-fewer, first-open, first-told}
use Rattle.gateway_world.proofs.engine.Engine.answer_all.Goals as goal

pub each-init : goal.each-init
each-init g c = record {
  answered = answered-none _ _ c.args.self.now c.args.outputs.now.items c.requires.served;
  places = omega arith;
}

pub each-smaller : goal.each-smaller
each-smaller g c =
    answered-fewer (given_of c.in-Some.answer) c.each.self.core c.take_first.new.self c.tell.new.self.core c.serve.new.self.core
    c.in-Some.ensures c.in_ok-tell.ensures.waits c.in_ok-serve.ensures.waits

pub each-preserved : goal.each-preserved
each-preserved g c = record {
  answered = answered-on _ _ (given_of c.in-Some.answer) c.args.self.now c.each.self (record c.each.self { core = c.take_first.new.self })
      c.tell.new.self c.serve.new.self c.args.outputs.now.items c.each.outputs.items c.tell.new.outputs.items c.serve.new.outputs.items
      c.each.invariant.answered c.in-Some.ensures refl (c.in_ok-tell.ensures.leads c.each.self.core c.in-Some.ensures.0)
      c.in_ok-tell.ensures.back c.in_ok-tell.ensures.waits c.in_ok-serve.ensures.leads c.in_ok-serve.ensures.back c.in_ok-serve.ensures.waits;
  places =
      (let a = c.each.invariant.places in let b = c.in_ok-tell.ensures.places in let d = c.in_ok-serve.ensures.places in
      omega (arith, a, b, d));
}

pub tell-requires-clause-conn : goal.tell-requires-clause-conn
tell-requires-clause-conn g c =
    first-open (given_of c.in-Some.answer) c.each.self.core c.take_first.new.self c.each.invariant.answered.served c.in-Some.ensures

pub serve-requires-clause-told : goal.serve-requires-clause-told
serve-requires-clause-told g c =
    first-told (given_of c.in-Some.answer) c.each.self.core c.take_first.new.self c.tell.new.self.core c.each.invariant.answered.served
    c.in-Some.ensures c.in_ok-tell.ensures.waits

pub tell-requires-clause-sent : goal.tell-requires-clause-sent
tell-requires-clause-sent g c =
    ap (λ (v : CoreValue). v.unsent) c.in-Some.ensures.0.3 ∙ c.each.invariant.answered.unsent c.requires.sent
