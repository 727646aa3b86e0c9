use Rattle.std.proofs.Common.{◌≡◌, ℕ, List, Option, sym, ap, subst}
use Rattle.std.specs.Prelude.{Bool, filter, ◌&&◌, ◌||◌, IfOk}
use Rattle.uri_map.specs.declared.peer.Peer.{Peer}
use Rattle.exchange_model.specs.State.{PeerLink, link_of}
use Rattle.exchange_model.specs.Hearing.{is_past}
use Rattle.exchange_model.specs.declared.kept.Exchange.{Exchange}
use Rattle.endpoint_table.specs.GivenUps.{given_at, given_up}
use Rattle.endpoint_table.specs.declared.given_up.GivenUp.{GivenUp}
use Rattle.exchange_core.specs.Expiring.{is_over, is_over_by, is_that}
use Rattle.exchange_core.proofs.expiring.over_at.Goals as goal

-- what is listed for each endpoint is what its link gives up
over-by : (t : ℕ) (gs : List GivenUp) (links : List PeerLink) → ((p : Peer) → given_at gs p ≡ given_up t (link_of links p)) → is_over_by t gs ≡ is_over t links
over-by t gs links h = λ i e. ap (λ (o : Option (List ℕ)).
    is_past t e || (e.awaits && is_that o e.token)) (h e.peer) i

pub over_by-requires : goal.over_by-requires
over_by-requires c = rw (c.as_slice.ensures.all) c.requires.ordered

pub returns-clause-over : goal.returns-clause-over
returns-clause-over c =
    subst (λ (q : Exchange → Bool). IfOk c.over_by.result (λ v. v.items ≡ filter q c.args.exchanges.now.exchanges))
    (over-by c.args.moment c.deref.result.now c.args.endpoints.now.links
    (subst (λ (gs : List GivenUp). (p : Peer) → given_at gs p
    ≡ given_up c.args.moment (link_of c.args.endpoints.now.links p)) (sym c.deref.ensures.value)
    c.in_ok-given.ensures.given))
    (rw (← c.as_slice.ensures.all) c.over_by.ensures)
