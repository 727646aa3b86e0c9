-- Each of those that were looked at is recognised.
use Rattle.std.specs.Prelude.{◌≡◌, drop}
use Rattle.std.specs.List.{list_all}
use Rattle.coap_codec.specs.Spelling.{entry}
use Rattle.demo_origin.specs.Requests.{is_recognised}
use Rattle.demo_origin.proofs.judge.all_recognised.Given as goal

abbrev pub invariant-each : goal.invariant-each
invariant-each l =
    list_all (λ o. is_recognised (entry o)) l.options
    ≡ list_all (λ o. is_recognised (entry o)) (drop l.o-index l.options)
