use Rattle.std.proofs.Common.{◌≡◌, drop}
use Rattle.exchange_model.specs.Entering.{awaits_no_more}
use Rattle.endpoint_table.proofs.rows.let_go_all.Given as goal

abbrev pub invariant-each : goal.invariant-each
invariant-each l = awaits_no_more (drop l.token-index l.gone) l.link.state
    ≡ awaits_no_more l.gone l.initial.link.state
