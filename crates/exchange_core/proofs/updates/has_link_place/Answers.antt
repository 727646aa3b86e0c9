use Rattle.std.proofs.Common.{subst}
use Rattle.message_layer.specs.Sending.{IsRefused}
use Rattle.exchange_model.specs.State.{link_of}
use Rattle.exchange_core.proofs.Started.{both-places, no-number, no-place}
use Rattle.exchange_core.proofs.updates.has_link_place.Goals as goal

pub returns-in-Ok : goal.returns-in-Ok
returns-in-Ok g c =
    both-places c.args.moment (link_of c.args.s.now.endpoints.links c.args.peer.now) c.in-Ok.ensures

pub returns-in-Err-Memory : goal.returns-in-Err-Memory
returns-in-Err-Memory g c =
    both-places c.args.moment (link_of c.args.s.now.endpoints.links c.args.peer.now)
    (subst (IsRefused c.args.moment (link_of c.args.s.now.endpoints.links c.args.peer.now)) c.in-Err-Memory.field-0-is c.in-Err-Memory.ensures)

pub returns-in-Err-Queue : goal.returns-in-Err-Queue
returns-in-Err-Queue g c =
    no-place c.args.moment (link_of c.args.s.now.endpoints.links c.args.peer.now)
    (subst (IsRefused c.args.moment (link_of c.args.s.now.endpoints.links c.args.peer.now)) c.in-Err-Queue.field-0-is c.in-Err-Queue.ensures)

pub returns-in-Err-Numbers : goal.returns-in-Err-Numbers
returns-in-Err-Numbers g c =
    no-number c.args.moment (link_of c.args.s.now.endpoints.links c.args.peer.now)
    (subst (IsRefused c.args.moment (link_of c.args.s.now.endpoints.links c.args.peer.now)) c.in-Err-Numbers.field-0-is c.in-Err-Numbers.ensures).1
