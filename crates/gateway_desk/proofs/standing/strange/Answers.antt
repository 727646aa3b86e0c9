-- Where the end is reached, all stands.
use Rattle.std.proofs.Common.{arith, subst}
use Rattle.std.specs.List.{All}
use Rattle.std.proofs.lemmas.List.{take_all}
use Rattle.gateway_desk.specs.Lines.{line_of}
use Rattle.gateway_desk.specs.Settled.{HasLine}
use Rattle.gateway_desk.proofs.Looks.{all_mapped}
use Rattle.gateway_desk.proofs.standing.strange.Goals as goal

pub returns-clause-none : goal.returns-clause-none
returns-clause-none g c e =
    let whole = take_all c.each.note-index c.args.notes.now (omega (arith, c.each-test.false)) in
    all_mapped (HasLine c.args.journal.now.entries c.args.conn) line_of c.args.notes.now
    (subst (All (λ n. HasLine c.args.journal.now.entries c.args.conn (line_of n))) whole c.each.invariant)
