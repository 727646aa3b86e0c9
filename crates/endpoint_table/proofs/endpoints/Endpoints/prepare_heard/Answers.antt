use Rattle.std.proofs.Common.{◌≡◌, refl, sym, subst, map}
use Rattle.message_layer.specs.Hearing.{hears}
use Rattle.message_layer.specs.Values.{LinkState, was_dropped}
use Rattle.endpoint_table.specs.Tables.{peer_link}
use Rattle.endpoint_table.proofs.Links.{none-of}
use Rattle.endpoint_table.proofs.endpoints.Endpoints.prepare_heard.Goals as goal

pub returns-in-Some-clause-ok : goal.returns-in-Some-clause-ok
returns-in-Some-clause-ok c =
    c.prepare_heard_at.ensures.ok c.args.peer.now _
    (rw (c.deref.ensures.value) at c.in-Some.ensures.some)

pub returns-in-None-clause-ok : goal.returns-in-None-clause-ok
returns-in-None-clause-ok c =
    subst (λ (s : LinkState). hears c.args.moment c.args.datagram.now s ≡ (s, was_dropped))
    (sym (none-of c.args.peer.now (map peer_link c.self.inside.rows.items)
    (rw (c.deref.ensures.value) at (c.in-None.ensures.none refl)))) refl
