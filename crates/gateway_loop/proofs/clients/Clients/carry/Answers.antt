-- What stood at the one place stands at the other.
use Rattle.std.proofs.Common.{◌∷◌, ◌++◌, [], Some, ap, ◌∙◌}
use Rattle.gateway_loop.specs.Clients.{ClientValue}
use Rattle.gateway_loop.specs.Places.{ClientsValue}
use Rattle.gateway_loop.proofs.clients.Clients.carry.Goals as goal

pub returns-in-Ok-clause-carried : goal.returns-in-Ok-clause-carried
returns-in-Ok-clause-carried g c = λ e. record {
  here = c.in-Some.client;
  was = c.in-Some.ensures.was;
  rest = c.take.new.self.places;
  emptied = c.take.ensures.ends;
  next = ap (λ (v : ClientsValue _). v.places) c.in-Ok.ensures.ok
      ∙ ap (λ (x : ClientValue _). c.take.new.self.places ++ Some x ∷ []) c.resume.ensures;
}
