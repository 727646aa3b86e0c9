-- The datagrams of all outputs were sent.
use Rattle.std.proofs.Common.{◌++◌, map, arith, ap, ◌∙◌}
use Rattle.gateway_model.specs.Emissions.{emission_of}
use Rattle.gateway_model.specs.Going.{goes_by}
use Rattle.three_parties.specs.Flights.{by_proxy, going}
use Rattle.three_parties.proofs.Sending.{goings-all, goings-more, goings-none}
use Rattle.three_parties.proofs.stage.send_given.Goals as goal

pub each-init : goal.each-init
each-init g c = goings-none c.args.moment c.args.given.now (map going c.args.flights.now.items)

pub each-preserved : goal.each-preserved
each-preserved g c =
    goings-more c.args.moment c.args.given.now c.each.output-index c.output-item.result (map going c.args.flights.now.items)
    (map going c.each.flights.items) (map going c.send_one.new.flights.items) c.each-test.true c.each.invariant
    (c.in_ok-send_one.ensures
    ∙ ap (λ o. map going c.each.flights.items ++ map (by_proxy c.args.moment) (goes_by (emission_of o))) c.output-item.is)

pub returns : goal.returns
returns g c =
    goings-all c.args.moment c.args.given.now c.each.output-index (map going c.args.flights.now.items) (map going c.each.flights.items)
    (omega (arith, c.each-test.false)) c.each.invariant
