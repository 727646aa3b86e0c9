use Rattle.std.proofs.lemmas.Result.{err_from_is_err_and}
use Rattle.coap_codec.proofs.OptionSteps.{next_shortens, rest_goes_on, rest_done, rest_fails}
use Rattle.coap_codec.proofs.reading.after_options.Goals as goal

pub returns-in_err-found : goal.returns-in_err-found
returns-in_err-found c =
    let p = err_from_is_err_and c.from_residual.result c.from_residual.ensures.1 in
    rw (p.1, p.2) (rest_fails c.each.number c.each.rest.now _ _ c.in_err-found.ensures c.each.invariant)

pub each-smaller : goal.each-smaller
each-smaller c = next_shortens c.each.number c.each.rest.now _ (rw c.in-Some.is at c.in_ok-found.ensures)

pub each-preserved : goal.each-preserved
each-preserved c = rest_goes_on c.each.number c.each.rest.now _ _ (rw c.in-Some.is at c.in_ok-found.ensures) c.each.invariant

pub returns : goal.returns
returns c = rest_done c.each.number c.each.rest.now _ (rw c.in_default.is at c.in_ok-found.ensures) c.each.invariant
