-- None of the bytes so far begins a query.
use Rattle.std.proofs.Common.{◌≡◌, ℕ, ◌<◌, get_or, false}
use Rattle.status_page.specs.Views.{is_mark}
use Rattle.status_page.proofs.asked.query_start.Given as goal

abbrev pub invariant-each : goal.invariant-each
invariant-each l = (k : ℕ) → k < l.i → is_mark (get_or l.text k 0) ≡ false
