use Rattle.std.proofs.Common.{length, ltb-true, sym}
use Rattle.std.proofs.lemmas.Bool.{eq-eqb}
use Rattle.exchange_table.specs.Readers.{ask_in, has_ask, opening_read}
use Rattle.exchange_table.proofs.Grouping.{ask-tells}
use Rattle.exchange_table.proofs.Seeking.{only-there}
use Rattle.exchange_table.proofs.groups.group_place_from.Goals as goal

pub returns-then-reader-ask-clause-some : goal.returns-then-reader-ask-clause-some
returns-then-reader-ask-clause-some c =
    let xs = c.args.groups.now in
    let k = c.args.ask in
    let at = c.in-Some.ensures.lookup in
    only-there opening_read ask_in c.args.opening k (has_ask k) (ask-tells k) xs c.args.first c.requires.order c.requires.asks c.requires.there c.in-Some.reader.now
    (ltb-true c.args.first (length xs) (sym at.0)) at.1 (eq-eqb _ _ c.if-reader-ask.true)
