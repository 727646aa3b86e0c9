use Rattle.std.proofs.Common.{sym, ◌∙◌}
use Rattle.std.proofs.lemmas.List.Folds.{list_all-map}
use Rattle.exchange_model.specs.State.{PeerLink}
use Rattle.message_layer.specs.Sending.{is_over_by}
use Rattle.endpoint_table.specs.Tables.{peer_link}
use Rattle.endpoint_table.proofs.rows.are_over.Goals as goal

pub returns : goal.returns
returns c =
    c.all_over.ensures
    ∙ sym (list_all-map (λ (x : PeerLink). is_over_by c.args.moment x.link.outstanding) peer_link c.args.rows.now)
