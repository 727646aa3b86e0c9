use Rattle.std.specs.Arc.{arc_value}
use Rattle.journal_book.specs.Views.{ask_of}
use Rattle.exchange_core.specs.States.{seen}
use Rattle.exchange_core.proofs.Asks.{turned-away, ticket-number}
use Rattle.exchange_core.proofs.asking.read_stored.Goals as goal

pub returns-clause-asks : goal.returns-clause-asks
returns-clause-asks g c =
    let e = c.recall.ensures in
    let k = c.token_of-token.ensures in
    turned-away c.recall.result c.args.moment c.args.word c.args.conn (ask_of (arc_value c.args.mapped)) c.token_of-token.result
    (seen c.args.s.now) (seen c.recall.new.s) k.size k.number k.word c.requires.nothing c.requires.idle c.requires.unsealed
    (ticket-number c.recall.result _ _ _ e.ticket) e.ok e.sealed e.is e.memory e.others
