use Rattle.std.proofs.Common.{ap}
use Rattle.exchange_core.specs.Values.{CoreValue}
use Rattle.trials_history.proofs.calls.close_and_go_back.Goals as goal

pub restore-requires : goal.restore-requires
restore-requires c = record {
  before = c.args.core.now;
  taken = c.in-Ok.ensures;
  grows = (_, ap (λ (v : CoreValue). v.state.entries) (c.close-closed.ensures.closed c.if-closed.true).1);
  given = ap (λ (v : CoreValue). v.state.given) (c.close-closed.ensures.closed c.if-closed.true).1;
  kept = ap (λ (v : CoreValue). v.state.kept) (c.close-closed.ensures.closed c.if-closed.true).1;
}
