-- Each exchange was opened at a moment of the core's.
use Rattle.std.specs.List.{AllByRecursion}
use Rattle.history_laws.specs.Readings.{newest}
use Rattle.history_laws.proofs.CallerLemmas.{all-more, at-newest, begun-opening}
use Rattle.exchange_model.specs.State.{State}
use Rattle.exchange_model.specs.Reads.{ExchangeIn}
use Rattle.exchange_model.specs.Keeping.{Kept}
use Rattle.exchange_core.specs.Due.{IsSince}
use Rattle.std.proofs.Common.{◌≤◌, ◌^◌, arith}

pub all-since : (S : State) → Kept S → S.moment ≤ 2 ^ 62 → AllByRecursion IsSince S.exchanges
all-since S k early =
    let r = k.rests.reads in
    all-more (ExchangeIn r.start k.reading) IsSince
    (λ e x. let before : e.since ≤ newest k.reading = at-newest k.reading e.opening _ r.legal
    (begun-opening k.reading e.opening _ x.opening).2 in
    let now = r.moment_is in
    omega (arith, before, now, early))
    S.exchanges r.exchanges_are
