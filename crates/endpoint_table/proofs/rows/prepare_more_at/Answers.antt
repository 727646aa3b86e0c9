use Rattle.std.proofs.Common.{get_or, sym, subst}
use Rattle.std.specs.Prelude.{IfOk}
use Rattle.std.proofs.lemmas.Option.{slice_get-get_or}
use Rattle.message_layer.specs.Prepared.{heeded, link_after, IsSubmission}
use Rattle.message_layer.specs.Sending.{IsSubmitted}
use Rattle.message_layer.specs.Values.{LinkState, LinkValue}
use Rattle.message_layer.specs.declared.prepared.Submission.{Submission}
use Rattle.endpoint_table.proofs.Links.{link-there, state-there}
use Rattle.endpoint_table.proofs.rows.prepare_more_at.Goals as goal

pub prepare_more-requires-clause-ready : goal.prepare_more-requires-clause-ready
prepare_more-requires-clause-ready c =
    c.requires.ready _ (slice_get-get_or c.args.rows.now c.args.place c.index-rows-place.result c.requires.place)

pub returns-clause-ok : goal.returns-clause-ok
returns-clause-ok c = λ p spare f.
    let rows = c.args.rows.now in
    let place = c.args.place in
    let x = c.index-rows-place.result in
    subst (λ (l : LinkValue). IfOk c.prepare_more.result (λ (more : Submission).
    IsSubmission c.args.moment c.args.token c.args.text.now c.args.word (link_after c.args.moment c.args.heeding.now l) more))
    (sym (link-there p rows place spare (get_or rows place x) f (slice_get-get_or rows place x c.requires.place)))
    c.prepare_more.ensures.ok

pub returns-clause-fault : goal.returns-clause-fault
returns-clause-fault c = λ p f.
    let rows = c.args.rows.now in
    let place = c.args.place in
    let x = c.index-rows-place.result in
    subst (λ (s : LinkState). IsSubmitted c.args.moment (heeded c.args.moment c.args.heeding.now s) c.prepare_more.result)
    (sym (state-there p rows place (get_or rows place x) f (slice_get-get_or rows place x c.requires.place)))
    c.prepare_more.ensures.fault
