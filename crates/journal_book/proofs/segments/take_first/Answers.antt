use Rattle.std.proofs.Common.{arith}
use Rattle.journal_book.proofs.Filled.{first-out, places-in}
use Rattle.journal_book.proofs.segments.take_first.Goals as goal

pub remove-requires : goal.remove-requires
remove-requires g c =
    let segments = c.args.segments.now in
    omega (arith, places-in segments.items c.args.held c.requires.filled, c.requires.full, segments.ok.0)

pub returns-clause-filled : goal.returns-clause-filled
returns-clause-filled g c =
    (first-out c.args.segments.now.items c.args.held c.remove.result c.remove.new.self.items
    c.requires.filled c.requires.full c.remove.ensures.value c.remove.ensures.items).0

pub returns-clause-entries : goal.returns-clause-entries
returns-clause-entries g c =
    (first-out c.args.segments.now.items c.args.held c.remove.result c.remove.new.self.items
    c.requires.filled c.requires.full c.remove.ensures.value c.remove.ensures.items).1

pub returns-clause-len : goal.returns-clause-len
returns-clause-len g c =
    (first-out c.args.segments.now.items c.args.held c.remove.result c.remove.new.self.items
    c.requires.filled c.requires.full c.remove.ensures.value c.remove.ensures.items).2
