use Rattle.std.proofs.Common.{map, refl}
use Rattle.exchange_model.specs.Rotating.{keep_peer}
use Rattle.endpoint_table.specs.Keeping.{marked}
use Rattle.endpoint_table.specs.Tables.{peer_link}
use Rattle.endpoint_table.proofs.Drained.{drained-turned}
use Rattle.endpoint_table.proofs.KeptRows.{once-kept}
use Rattle.endpoint_table.proofs.endpoints.Endpoints.keep.Goals as goal

pub invariant_of-self : goal.invariant_of-self
invariant_of-self c = (
  once-kept c.args.moment c.args.keeping c.self.inside.rows.items c.keep_rows.new.rows.items
      c.self.invariant.0 c.keep_rows.ensures.links,
  c.self.invariant.1,
  c.keep_rows.ensures.dues,
  drained-turned (keep_peer c.args.moment) (λ x. refl)
      (marked c.args.keeping (map peer_link c.self.inside.rows.items)) c.keep_rows.new.rows.items
      c.keep_rows.ensures.links,
)
