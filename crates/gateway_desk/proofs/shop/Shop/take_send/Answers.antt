-- What is taken was the first of what waited.
use Rattle.gateway_desk.proofs.Growing.{sent-on, sent-same, sent-whole}
use Rattle.gateway_desk.proofs.shop.Shop.take_send.Goals as goal

pub invariant_of-self : goal.invariant_of-self
invariant_of-self g c = (
  sent-same _ _ _ _ c.take_send.ensures c.self.invariant.0,
  sent-on _ _ _ c.take_send.ensures c.self.invariant.1,
  c.self.invariant.2,
  c.self.invariant.3,
  sent-whole _ _ _ c.take_send.ensures c.self.invariant.4,
)
