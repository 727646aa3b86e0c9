use Rattle.std.proofs.Common.{refl, sym, subst, map}
use Rattle.message_layer.specs.Sending.{IsSubmitted}
use Rattle.message_layer.specs.Values.{LinkState}
use Rattle.endpoint_table.specs.Tables.{peer_link}
use Rattle.endpoint_table.proofs.Links.{none-of}
use Rattle.endpoint_table.proofs.endpoints.Endpoints.prepare_submit.Goals as goal

pub returns-in-None-clause-fault : goal.returns-in-None-clause-fault
returns-in-None-clause-fault c =
    rw (← c.self.view_is) (subst (λ (u : LinkState).
    IsSubmitted c.args.moment u c.prepare_spare.result)
    (sym (none-of c.args.peer.now (map peer_link c.self.inside.rows.items)
    (rw (c.deref.ensures.value) at (c.in-None.ensures.none refl)))) c.prepare_spare.ensures.fault)
