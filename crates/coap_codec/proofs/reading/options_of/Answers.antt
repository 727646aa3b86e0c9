use Rattle.std.proofs.Common.{◌≡◌, ◌++◌, ◌∷◌, [], inr}
use Rattle.std.proofs.lemmas.Result.{err_from_is_err_and}
use Rattle.std.proofs.lemmas.List.{map_push}
use Rattle.coap_codec.specs.Spelling.{entries}
use Rattle.coap_codec.proofs.OptionSteps.{next_shortens, options_go_on, options_done, options_fail}
use Rattle.coap_codec.proofs.reading.options_of.Goals as goal

pub returns-in_err-found : goal.returns-in_err-found
returns-in_err-found c =
    let p = err_from_is_err_and c.from_residual.result c.from_residual.ensures.1 in
    rw (p.1, p.2) (inr (options_fail (entries c.each.options.items) c.each.number c.each.rest.now _ _ c.in_err-found.ensures c.each.invariant))

pub each-smaller : goal.each-smaller
each-smaller c = next_shortens c.each.number c.each.rest.now _ (rw c.in-Some.is at c.in_ok-found.ensures)

pub each-preserved : goal.each-preserved
each-preserved c =
    let e : entries c.push.new.self.items ≡ entries c.each.options.items ++ record { number = c.in-Some.found.number; value = c.in-Some.found.value.now } ∷ [] = rw (c.in_ok-push.ensures.items, ← c.in_ok-value.ensures.items) (map_push _ _ _) in
    rw e (options_go_on (entries c.each.options.items) c.each.number c.each.rest.now _ _ (rw c.in-Some.is at c.in_ok-found.ensures) c.each.invariant)

pub returns : goal.returns
returns c = options_done (entries c.each.options.items) c.each.number c.each.rest.now _ (rw c.in_default.is at c.in_ok-found.ensures) c.each.invariant
