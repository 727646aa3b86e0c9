use Rattle.std.proofs.Common.{◌∙◌}
use Rattle.std.proofs.lemmas.List.Sorted.{searched}
use Rattle.journal_book.proofs.Named.{named-by, non-decreasing-numbers}
use Rattle.journal_book.proofs.kept.is_named.Goals as goal

pub returns : goal.returns
returns c =
    let xs = c.args.named.now in
    c.is_ok.ensures.value
    ∙ named-by xs c.args.number c.binary_search.result
    (searched xs c.args.number c.binary_search.result c.binary_search.ensures.position
    (non-decreasing-numbers xs c.requires))
