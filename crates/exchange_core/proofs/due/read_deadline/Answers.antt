use Rattle.std.proofs.Common.{◌≡◌, Some, sym, arith}
use Rattle.history_laws.proofs.CallerLemmas.{all-of, find-some}
use Rattle.exchange_model.specs.declared.kept.Exchange.{Exchange}
use Rattle.exchange_model.specs.Calls.{is_reader_of, read_by}
use Rattle.exchange_core.specs.Due.{IsSince}
use Rattle.exchange_core.proofs.due.read_deadline.Goals as goal

pub overflow_add-result : goal.overflow_add-result
overflow_add-result c =
    let es = c.args.exchanges.now in
    let r = c.args.reader.now in
    let e = c.in_ok-exchange.exchange.now in
    let found : read_by es r ≡ Some e = sym c.in_ok-exchange.ensures in
    let since = all-of IsSince es e c.requires.early (find-some (λ (x : Exchange). is_reader_of x r) es e found).0 in
    omega (arith, since)
