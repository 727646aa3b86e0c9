use Rattle.std.proofs.Common.{◌∙◌}
use Rattle.ask_model.specs.Views.{sense_of}
use Rattle.ask_model.proofs.Sharing.{both-read}
use Rattle.ask_model.proofs.comparing.asks_same.Goals as goal

pub returns-in-Some-Some : goal.returns-in-Some-Some
returns-in-Some-Some c =
    let one = rw (c.in-Some-Some.is-0) at c.reading_of.ensures in
    let other = rw (c.in-Some-Some.is-1) at c.reading_of-2.ensures in
    c.has_key_of.ensures
    ∙ both-read (sense_of c.args.a.now c.args.a_body.now) (sense_of c.args.b.now c.args.b_body.now) _ _ one other
