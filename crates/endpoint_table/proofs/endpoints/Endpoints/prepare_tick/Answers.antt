use Rattle.std.proofs.Common.{◌≡◌, ℕ, ap, map, ◌∙◌}
use Rattle.message_layer.specs.Calls.{is_among}
use Rattle.exchange_model.specs.Entering.{all_deeds, all_going}
use Rattle.endpoint_table.specs.Tables.{has_room, peer_link}
use Rattle.endpoint_table.specs.Turns.{AreTurns, turns_deeds, turns_going}
use Rattle.endpoint_table.proofs.Deeds.{deeds-same, going-same}
use Rattle.endpoint_table.proofs.Links.{ok-too}
use Rattle.endpoint_table.proofs.endpoints.Endpoints.prepare_tick.Goals as goal

pub returns-clause-deeds : goal.returns-clause-deeds
returns-clause-deeds c =
    let t = c.args.moment in
    let gone = c.args.gone.now in
    let xs = c.prepare_turns_in.new.rows.items in
    rw (← c.self.view_is) (ok-too (λ v. AreTurns t gone (map peer_link xs) (map has_room xs) v.items)
    (λ v. turns_deeds v.items ≡ all_deeds t (is_among gone)
    (map peer_link c.self.inside.rows.items)) c.prepare_turns_in.result
    (λ v a. deeds-same t gone (map peer_link xs) (map has_room xs) v.items a
    ∙ ap (all_deeds t (is_among gone)) c.prepare_turns_in.ensures.same)
    c.prepare_turns_in.ensures.turns)

pub returns-clause-going : goal.returns-clause-going
returns-clause-going c =
    let t = c.args.moment in
    let gone = c.args.gone.now in
    let xs = c.prepare_turns_in.new.rows.items in
    rw (← c.self.view_is) (ok-too (λ v. AreTurns t gone (map peer_link xs) (map has_room xs) v.items)
    (λ v. (n : ℕ) → turns_going n v.items ≡ all_going t (is_among gone) n
    (map peer_link c.self.inside.rows.items)) c.prepare_turns_in.result
    (λ v a n. going-same t gone (map peer_link xs) (map has_room xs) v.items n a
    ∙ ap (all_going t (is_among gone) n) c.prepare_turns_in.ensures.same)
    c.prepare_turns_in.ensures.turns)
