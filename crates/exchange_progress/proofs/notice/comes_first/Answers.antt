use Rattle.std.proofs.Common.{◌≡◌, ◌∷◌, [], map, ap, subst, ◌∙◌}
use Rattle.coap_codec.specs.Spelling.{content}
use Rattle.blockwise.specs.Downloads.{PiecesValue}
use Rattle.history_laws.specs.Progress.{Ends, fetched, fetched_whole}
use Rattle.exchange_model.specs.Steps.{reply_at}
use Rattle.exchange_progress.specs.Coming.{IsComing}
use Rattle.exchange_progress.proofs.Comes.{joined-found}
use Rattle.exchange_progress.proofs.notice.comes_first.Goals as goal

pub returns-in-Some-clause-coming : goal.returns-in-Some-clause-coming
returns-in-Some-clause-coming c =
    let n = c.args.number in
    subst (λ (p : PiecesValue). IsComing n c.in-Some.coming (fetched 0 p [] (reply_at n (content c.args.m))))
    c.none.ensures (c.in-Some.ensures.coming [])

pub returns-clause-coming : goal.returns-clause-coming
returns-clause-coming c =
    let n = c.args.number in
    let m = content c.args.m in
    let is = subst (λ (p : PiecesValue). fetched 0 p [] (reply_at n m) ≡ Ends (fetched_whole (reply_at n m ∷ [])))
    c.none.ensures (c.in_default.ensures.last []) in
    let found = joined-found [] n m (map content c.new.result.items) c.in_ok-numbers.numbers c.in_ok-finding.finding
    c.in_ok-finding.ensures (ap (map content) c.new.ensures.items) c.in_ok-numbers.ensures in
    (found.0, is ∙ found.1, found.2)
