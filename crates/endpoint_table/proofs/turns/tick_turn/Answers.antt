use Rattle.std.proofs.Common.{◌≡◌, ℕ, List, map, refl, ap, subst, ◌∙◌}
use Rattle.std.specs.Prelude.{slice_get, slice_set}
use Rattle.message_layer.specs.Calls.{is_among}
use Rattle.exchange_model.specs.Entering.{link_after}
use Rattle.endpoint_table.specs.declared.endpoint.Endpoint.{Endpoint}
use Rattle.endpoint_table.specs.Places.{HasNone, IsFirstAt}
use Rattle.endpoint_table.specs.Tables.{peer_link}
use Rattle.endpoint_table.proofs.TickedDue.{first-place, none-first}
use Rattle.endpoint_table.proofs.turns.tick_turn.Goals as goal

pub returns-in-Some-clause-row : goal.returns-in-Some-clause-row
returns-in-Some-clause-row c = λ i e f g.
    let xs = c.args.rows.now.items in
    let p = c.args.turn.peer in
    let first : IsFirstAt p (map peer_link xs) c.in-Some.place =
    subst (λ (ys : List Endpoint). IsFirstAt p (map peer_link ys) c.in-Some.place)
    c.as_slice.ensures.value c.in-Some.ensures.some in
    let at : c.in-Some.place ≡ i = first-place p (map peer_link xs) c.in-Some.place i first f in
    subst (λ (k : ℕ). (y : Endpoint) × (c.tick_at.new.rows.items ≡ slice_set xs k y)
    × (peer_link y ≡ link_after c.args.moment (is_among c.args.gone.now) (peer_link e))) at
    (c.tick_at.ensures.row e (ap (slice_get xs) at ∙ g))

pub returns-in_default-clause-row : goal.returns-in_default-clause-row
returns-in_default-clause-row c = λ i e f g.
    let xs = c.args.rows.now.items in
    let p = c.args.turn.peer in
    absurd (none-first p (map peer_link xs) i
    (subst (λ (ys : List Endpoint). HasNone p (map peer_link ys)) c.as_slice.ensures.value
    (c.in_default.ensures.none refl)) f)
