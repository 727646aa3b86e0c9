use Rattle.std.proofs.Common.{ap, sym, ◌∙◌}
use Rattle.message_layer.specs.Values.{LinkState}
use Rattle.message_layer.specs.Sending.{ticked}
use Rattle.message_layer.proofs.Preparing.{without-none}
use Rattle.message_layer.proofs.link.Link.tick.Goals as goal

pub returns-clause-ok : goal.returns-clause-ok
returns-clause-ok c =
    ap (λ (s : LinkState). ticked c.args.moment s) (sym c.in_ok-x.ensures.same ∙ without-none _)
    ∙ c.tick_prepared.ensures
