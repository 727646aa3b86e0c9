use Rattle.std.proofs.Common.{map, ap, ◌∙◌, ◌∷◌, ◌++◌, [], ℕ, List}
use Rattle.coap_codec.specs.Spelling.{content}
use Rattle.exchange_model.specs.Matters.{fetched_in}
use Rattle.exchange_progress.proofs.Comes.{joined-found}
use Rattle.exchange_progress.proofs.coming.join.Goals as goal

-- src/coming.rt:75:1
pub returns-clause-coming : goal.returns-clause-coming
returns-clause-coming g c =
    let a = c.args in
    joined-found (fetched_in a.journal.now.entries a.opening a.pieces.now) a.number (content a.m)
    (map content c.in_ok-numbers.field-0.messages.items) c.in_ok-numbers-2.numbers c.in_ok-finding.finding
    c.in_ok-finding.ensures c.in_ok-numbers.ensures.messages (c.in_ok-numbers-2.ensures
    ∙ ap (λ (ns : List ℕ). ns ++ a.number ∷ []) c.in_ok-numbers.ensures.numbers)
