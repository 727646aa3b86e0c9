-- The lines are those of the fields that show the response, in their order.
use Rattle.std.proofs.Common.{◌≡◌, ◌==◌, Bool, not, [], length, codes, if◌then◌else◌, ap, ◌∙◌}
use Rattle.code_map.specs.Codes.{status_of}
use Rattle.ask_model.specs.Views.{came_of}
use Rattle.http_mapping.specs.Located.{located}
use Rattle.http_mapping.specs.Means.{status_for, caching, value_if, retry_after, connection, content_length, is_head}
use Rattle.http_mapping.proofs.Written.{six_added, all_added, shown_so}
use Rattle.http_mapping.proofs.rendering.show.Goals as goal

pub returns : goal.returns
returns g c =
    let m = c.args.mapped.now in
    let w = c.args.response.now in
    let body = c.args.body.now in
    let came = came_of c.came-came.result.now in
    let status = c.status_of-status.result in
    let empty : c.is_empty.result ≡ (length w.body == 0) = rw (← c.as_slice.ensures) c.is_empty.ensures in
    let is_status : status ≡ status_for w = c.status_of-status.ensures.table ∙ ap (λ (b : Bool). status_of w.code (not b)) empty in
    let head = six_added _ (caching came w c.args.age) (value_if (codes "Location") (located m.rules m.sense w)) (retry_after w) (connection came)
    (content_length status (length body)) _ _ _ _ _ _ _ c.in_ok-add_typing.ensures c.in_ok-add_caching.ensures c.in_ok-add_location.ensures
    c.in_ok-add_retry_after.ensures c.in_ok-add_connection.ensures c.in_ok-add_content_length.ensures in
    let all = all_added status _ _ _ _ (if is_head came then [] else body) c.in_ok-out.ensures head c.in_ok-add_body.ensures in
    shown_so m w _ body c.args.age c.add_body.new.out status came is_status c.came-came.ensures.came all
