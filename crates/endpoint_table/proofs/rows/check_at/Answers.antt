use Rattle.std.proofs.Common.{get_or, sym, subst}
use Rattle.std.proofs.lemmas.Option.{slice_get-get_or}
use Rattle.message_layer.specs.Sending.{IsSubmitted}
use Rattle.message_layer.specs.Values.{LinkState}
use Rattle.endpoint_table.proofs.Links.{state-there}
use Rattle.endpoint_table.proofs.rows.check_at.Goals as goal

pub returns : goal.returns
returns c = λ p f.
    let rows = c.args.rows.now in
    let place = c.args.place in
    let x = c.index-rows-place.result in
    subst (λ (s : LinkState). IsSubmitted c.args.moment s c.check.result)
    (sym (state-there p rows place (get_or rows place x) f (slice_get-get_or rows place x c.requires.place)))
    c.check.ensures
