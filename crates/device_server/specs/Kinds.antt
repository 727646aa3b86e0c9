-- What the resources of a device with cells and counters do.
use Rattle.std.specs.Prelude.{◌⊎◌, ℕ, List}
use Rattle.demo_origin.specs.Values.{Relation, Replied}
use Rattle.demo_origin.specs.Kinds.{IsCell, IsTakenByCell, IsCounter, IsTakenByCounter, cells, counters}
use Rattle.demo_origin.specs.declared.request.CoapRequest.{CoapRequest}
use Rattle.proxy_settings.specs.declared.kind.Kind.{Kind}
use Rattle.proxy_settings.specs.declared.kind.Kind.TheVariants.{Cell, Counter}

-- what a resource of that kind keeps
abbrev pub relation_of : Kind → Relation
relation_of Cell = cells
relation_of Counter = counters

-- One of either kind does what a cell or a counter does, and takes what both take.
abbrev pub IsEither : List ℕ → CoapRequest → List ℕ → Replied → Type 0
IsEither before request after reply =
    IsCell before request after reply ⊎ IsCounter before request after reply

abbrev pub IsTakenByBoth : List ℕ → CoapRequest → Type 0
IsTakenByBoth before request = IsTakenByCell before request × IsTakenByCounter before request

abbrev pub kinds : Relation
kinds = record { holds = IsEither; takes = IsTakenByBoth }
