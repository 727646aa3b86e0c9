use Rattle.std.proofs.Common.{ap, ◌∙◌, ◌∷◌, ◌++◌, [], ℕ, List}
use Rattle.coap_codec.specs.Spelling.{content}
use Rattle.exchange_model.specs.Matters.{fetched_in}
use Rattle.exchange_progress.proofs.Comes.{answered-found}
use Rattle.exchange_progress.proofs.coming.answer.Goals as goal

pub returns-clause-coming : goal.returns-clause-coming
returns-clause-coming g c =
    let a = c.args in
    answered-found (fetched_in a.journal.now.entries a.opening a.pieces.now) a.number (content a.m)
    c.in_ok-numbers-2.numbers c.in_ok-finding.finding
    c.in_ok-finding.ensures (c.in_ok-numbers-2.ensures
    ∙ ap (λ (ns : List ℕ). ns ++ a.number ∷ []) c.in_ok-numbers.ensures.numbers)
