use Rattle.std.proofs.Common.{◌≡◌, List, ap, map, ◌∙◌}
use Rattle.uri_map.specs.declared.peer.Peer.{Peer}
use Rattle.exchange_model.specs.State.{link_of}
use Rattle.endpoint_table.specs.declared.given_up.GivenUp.{GivenUp}
use Rattle.endpoint_table.specs.GivenUps.{given_at, given_up, given_ups}
use Rattle.endpoint_table.specs.Tables.{peer_link}
use Rattle.endpoint_table.proofs.Given.{given-is}
use Rattle.endpoint_table.proofs.Links.{ok-too}
use Rattle.endpoint_table.proofs.given_up.given_up_in.Goals as goal

pub returns-clause-given : goal.returns-clause-given
returns-clause-given c =
    let t = c.args.moment in
    let xs = c.args.rows.now.items in
    ok-too (λ v. v.items ≡ given_ups t (map peer_link xs))
    (λ v. (p : Peer) → given_at v.items p ≡ given_up t (link_of (map peer_link xs) p))
    c.given_up_all.result
    (λ v e p. ap (λ (gs : List GivenUp). given_at gs p) e
    ∙ given-is t p (map peer_link xs) c.requires.once) c.given_up_all.ensures.given
