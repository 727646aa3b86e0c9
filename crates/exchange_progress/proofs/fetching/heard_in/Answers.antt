use Rattle.std.proofs.Common.{sym, ap}
use Rattle.std.specs.Prelude.{option_and_then}
use Rattle.std.proofs.lemmas.Option.{slice_get_past}
use Rattle.journal_book.specs.Entries.{Written}
use Rattle.exchange_model.specs.Steps.{heard_by}
use Rattle.exchange_progress.proofs.fetching.heard_in.Goals as goal

pub returns-in_default : goal.returns-in_default
returns-in_default g c =
    let past = c.in_default.ensures.entry c.requires in
    sym (ap (option_and_then (λ (w : Written). heard_by c.args.number w.deed))
    (slice_get_past c.args.journal.now.entries c.args.number past))
