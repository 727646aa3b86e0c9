use Rattle.std.proofs.Common.{arith}
use Rattle.std.proofs.lemmas.List.{drop_all}
use Rattle.random_words.proofs.words.Words.fill.Goals as goal

pub returns-then-is_err-clause-none : goal.returns-then-is_err-clause-none
returns-then-is_err-clause-none g c _ =
    let filled = c.fill_bytes.auto in drop_all 256 c.fill_bytes.new.buf (omega arith)
