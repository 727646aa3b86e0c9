use Rattle.std.proofs.Common.{◌∙◌}
use Rattle.std.proofs.lemmas.Result.{err_from_is_err_and}
use Rattle.uri_map.specs.Scanning.{host_view}
use Rattle.uri_map.proofs.RoomLeft.{room_after}
use Rattle.uri_map.proofs.TargetSteps.{Found, target_found, target_long}
use Rattle.uri_map.proofs.reading.written_of.Goals as goal

pub returns-in_err-_left : goal.returns-in_err-_left
returns-in_err-_left c =
    let found : Found c.args.base.now c.args.text.now = record {
      below = c.in_ok-below.below.now;
      rest = c.in_ok-rest.rest.now;
      host = host_view c.in_ok-host.host;
      port = c.in_ok-host.port;
      path = c.in_ok-after_path.ensures.0;
      query = c.in_ok-after_query.ensures.0;
      below_is = c.in_ok-below.ensures;
      rest_is = c.in_ok-rest.ensures;
      place_is = rw c.cut_at.ensures.front at c.in_ok-host.ensures;
      path_is = rw (c.path_and_query_of.ensures.path, c.cut_at.ensures.rest) at c.in_ok-after_path.ensures.1;
      query_is = rw (c.path_and_query_of.ensures.query, c.cut_at.ensures.rest) at c.in_ok-after_query.ensures.1;
    } in
    let room = rw (c.path_and_query_of.ensures.path, c.path_and_query_of.ensures.query, c.cut_at.ensures.rest) at (room_after _ _ _ _ _ _ c.behind_host-room.ensures c.in_ok-after_path.ensures.2 c.in_ok-after_query.ensures.2) in
    let fault = err_from_is_err_and c.from_residual-in_err-_left.result c.from_residual-in_err-_left.ensures.1 in
    rw (fault.1, fault.2) (target_long _ _ found _ (room ∙ c.in_err-_left.was))

pub returns : goal.returns
returns c =
    let found : Found c.args.base.now c.args.text.now = record {
      below = c.in_ok-below.below.now;
      rest = c.in_ok-rest.rest.now;
      host = host_view c.in_ok-host.host;
      port = c.in_ok-host.port;
      path = c.in_ok-after_path.ensures.0;
      query = c.in_ok-after_query.ensures.0;
      below_is = c.in_ok-below.ensures;
      rest_is = c.in_ok-rest.ensures;
      place_is = rw c.cut_at.ensures.front at c.in_ok-host.ensures;
      path_is = rw (c.path_and_query_of.ensures.path, c.cut_at.ensures.rest) at c.in_ok-after_path.ensures.1;
      query_is = rw (c.path_and_query_of.ensures.query, c.cut_at.ensures.rest) at c.in_ok-after_query.ensures.1;
    } in
    let room = rw (c.path_and_query_of.ensures.path, c.path_and_query_of.ensures.query, c.cut_at.ensures.rest) at (room_after _ _ _ _ _ _ c.behind_host-room.ensures c.in_ok-after_path.ensures.2 c.in_ok-after_query.ensures.2) in
    (found.path, found.query, c.in_ok-after_path.ensures.1, c.in_ok-after_query.ensures.1, target_found _ _ found _ (room ∙ c.in_ok-_left.was))
