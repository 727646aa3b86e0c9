use Rattle.std.proofs.Common.{inl}
use Rattle.coap_codec.specs.Spelling.{content}
use Rattle.history_laws.specs.Progress.{Progress, Ends, Renewed}
use Rattle.exchange_model.specs.Steps.{reply_at}
use Rattle.exchange_progress.specs.Coming.{IsComing}
use Rattle.exchange_core.specs.Reading.{IsComingHere}
use Rattle.exchange_core.proofs.ComesHere.{coming-here}
use Rattle.exchange_core.proofs.Read.{ok-more}
use Rattle.exchange_core.proofs.matter.replied_to.Goals as goal

pub returns-then-is_confirmed-clause-here : goal.returns-then-is_confirmed-clause-here
returns-then-is_confirmed-clause-here g c =
    let journal = c.args.s.now.journal in
    let n = c.args.number in
    let renewed : Progress = Ends (Renewed c.in-Some.stored.now (reply_at n (content c.args.message))) in
    ok-more (λ x. IsComing n x renewed) (IsComingHere journal.given journal.kept)
    (λ x i. coming-here journal.given journal.kept n x renewed i (inl c.requires.number)) _ c.renewed_by.ensures.coming
