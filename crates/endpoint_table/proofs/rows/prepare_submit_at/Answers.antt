use Rattle.std.proofs.Common.{sym, ap, subst, ◌∙◌}
use Rattle.std.specs.Prelude.{IfOk}
use Rattle.std.proofs.lemmas.Option.{slice_get-get_or}
use Rattle.message_layer.specs.Prepared.{IsSubmission}
use Rattle.message_layer.specs.Sending.{IsSubmitted}
use Rattle.message_layer.specs.Values.{LinkState, LinkValue}
use Rattle.message_layer.specs.declared.prepared.Submission.{Submission}
use Rattle.exchange_model.specs.State.{PeerLink}
use Rattle.endpoint_table.specs.declared.endpoint.Endpoint.{Endpoint}
use Rattle.endpoint_table.specs.Tables.{peer_link}
use Rattle.endpoint_table.proofs.Links.{link-set, links-same, state-there}
use Rattle.endpoint_table.proofs.rows.prepare_submit_at.Goals as goal

pub returns-clause-same : goal.returns-clause-same
returns-clause-same c =
    links-same c.args.rows.now.items c.args.place c.prepare_submit.new.endpoint
    c.index_mut.result.now (c.prepare_submit.ensures.same ∙ ap peer_link c.index_mut.ensures.value)

pub returns-clause-ok : goal.returns-clause-ok
returns-clause-ok c = λ p spare f.
    subst (λ (l : LinkValue). IfOk c.prepare_submit.result (λ (x : Submission).
    IsSubmission c.args.moment c.args.token c.args.text.now c.args.word l x))
    (sym (link-set p c.args.rows.now.items c.args.place spare c.prepare_submit.new.endpoint
    c.index_mut.result.now f (ap (λ (x : PeerLink). x.peer)
    (c.prepare_submit.ensures.same ∙ ap peer_link c.index_mut.ensures.value))))
    c.prepare_submit.ensures.ok

pub returns-clause-fault : goal.returns-clause-fault
returns-clause-fault c = λ p f.
    subst (λ (u : LinkState). IsSubmitted c.args.moment u c.prepare_submit.result)
    (ap (λ (e : Endpoint). e.link.state) c.index_mut.ensures.value
    ∙ sym (state-there p c.args.rows.now.items c.args.place _ f
    (slice_get-get_or c.args.rows.now.items c.args.place c.index_mut.result.now c.requires.place)))
    c.prepare_submit.ensures.fault
