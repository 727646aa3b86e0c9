use Rattle.std.proofs.Common.{Option, sym, ap, subst, ◌∙◌}
use Rattle.std.specs.Prelude.{IfOk}
use Rattle.message_layer.specs.Prepared.{IsPreparedFor}
use Rattle.message_layer.specs.Values.{LinkValue}
use Rattle.message_layer.specs.declared.prepared.Hearing.{Hearing}
use Rattle.exchange_model.specs.State.{PeerLink}
use Rattle.endpoint_table.specs.Tables.{peer_link}
use Rattle.endpoint_table.proofs.Links.{link-set, links-same}
use Rattle.endpoint_table.proofs.rows.prepare_heard_at.Goals as goal

pub returns-clause-same : goal.returns-clause-same
returns-clause-same c =
    links-same c.args.rows.now.items c.args.place c.prepare_heard.new.endpoint
    c.index_mut.result.now (c.prepare_heard.ensures.same ∙ ap peer_link c.index_mut.ensures.value)

pub returns-clause-ok : goal.returns-clause-ok
returns-clause-ok c = λ p spare f.
    subst (λ (l : LinkValue). IfOk c.prepare_heard.result (λ (o : Option Hearing).
    IsPreparedFor c.args.moment c.args.datagram.now l o))
    (sym (link-set p c.args.rows.now.items c.args.place spare c.prepare_heard.new.endpoint
    c.index_mut.result.now f (ap (λ (x : PeerLink). x.peer)
    (c.prepare_heard.ensures.same ∙ ap peer_link c.index_mut.ensures.value))))
    c.prepare_heard.ensures.ok
