use Rattle.std.proofs.Common.{map, refl}
use Rattle.message_layer.specs.Calls.{is_among}
use Rattle.exchange_model.specs.Entering.{link_after}
use Rattle.endpoint_table.specs.Tables.{peer_link}
use Rattle.endpoint_table.proofs.Drained.{drained-turned}
use Rattle.endpoint_table.proofs.Links.{once-turned}
use Rattle.endpoint_table.proofs.endpoints.Endpoints.tick.Goals as goal

pub invariant_of-self : goal.invariant_of-self
invariant_of-self c = (
  once-turned (link_after c.args.moment (is_among c.args.gone.now)) (λ x. refl)
      c.self.inside.rows.items c.tick_links.new.rows.items c.self.invariant.0
      c.tick_links.ensures.links,
  c.self.invariant.1,
  c.tick_links.ensures.dues,
  drained-turned (link_after c.args.moment (is_among c.args.gone.now)) (λ x. refl)
      (map peer_link c.self.inside.rows.items) c.tick_links.new.rows.items
      c.tick_links.ensures.links,
)
