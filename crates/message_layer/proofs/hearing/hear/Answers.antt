use Rattle.std.proofs.Common.{ap, sym, ◌∙◌}
use Rattle.message_layer.specs.Values.{LinkState, Told, shown, told}
use Rattle.message_layer.specs.Hearing.{hears}
use Rattle.message_layer.proofs.Preparing.{hears-as-prepared}
use Rattle.message_layer.proofs.hearing.hear.Goals as goal

pub returns-in-Some-clause-ok : goal.returns-in-Some-clause-ok
returns-in-Some-clause-ok c =
    let made = c.in_ok-prepare_heard.ensures in
    let with_up : LinkState → LinkState × Told = λ s. (s, told c.in-Some.hearing.up) in
    ap (λ (s : LinkState). hears c.args.moment c.args.datagram.now s) (sym made.same)
    ∙ (hears-as-prepared c.args.moment c.args.datagram.now (shown c.prepare_heard.new.s)
    c.in-Some.hearing (rw c.in-Some.is at made.ok)
    ∙ ap with_up (sym c.heed.ensures.state))
