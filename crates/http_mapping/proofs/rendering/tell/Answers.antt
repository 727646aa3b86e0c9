-- The lines are those of the fields that tell the cause, in their order.
use Rattle.std.proofs.Common.{◌++◌, codes, decimal, if◌then◌else◌, [], subst}
use Rattle.ask_model.specs.Causes.{cause_text}
use Rattle.ask_model.specs.Requests.{Sense}
use Rattle.ask_model.specs.Views.{came_of, body_of}
use Rattle.http_mapping.specs.Means.{IsOwn, told_status, only, connection, content_length, is_head}
use Rattle.http_mapping.proofs.Written.{three_added, all_added, told_so}
use Rattle.http_mapping.proofs.rendering.tell.Goals as goal

pub returns : goal.returns
returns g c =
    let m = c.args.mapped.now in
    let came = came_of c.came-came.result.now in
    let status = c.status_told-status.result in
    let front = only (codes "HC-Cause") (cause_text c.args.cause ++ codes " " ++ decimal c.args.number) in
    let head = three_added front (connection came) (content_length status 0) _ _ _ _ c.in_ok-add_cause.ensures c.in_ok-add_connection.ensures c.in_ok-add_content_length.ensures in
    let own = subst (λ (s : Sense). IsOwn (told_status s c.args.cause) status) c.meaning.ensures.sense (c.status_told-status.ensures (body_of m.came)) in
    let all = all_added status (front ++ connection came ++ content_length status 0) _ _ _ (if is_head came then [] else []) c.in_ok-out.ensures head c.in_ok-add_body.ensures in
    told_so m c.args.cause c.args.number c.add_body.new.out status came own c.came-came.ensures.came all
