-- The link of an endpoint that takes a message.
use Rattle.std.proofs.Common.{◌≡◌, ℕ, List, refl}
use Rattle.uri_map.specs.declared.peer.Peer.{Peer}
use Rattle.message_layer.specs.Values.{LinkValue}
use Rattle.message_layer.specs.Prepared.{MaySubmit}
use Rattle.message_layer.specs.declared.prepared.Submission.{Submission}
use Rattle.exchange_model.specs.State.{PeerLink, link_of}
use Rattle.endpoint_table.specs.Tables.{TableValue, link_at}

pub record LinkTakes (t : ℕ) (p : Peer) (xs : List PeerLink) (x : Submission) : Type 0 where
  pub link : LinkValue
  pub is : link.state ≡ link_of xs p
  pub may : MaySubmit t link x

pub link-takes : (t : ℕ) (p : Peer) (v : TableValue) (x : Submission) → MaySubmit t (link_at v p) x
    → LinkTakes t p v.links x
link-takes t p v x m = record { link = link_at v p; is = refl; may = m }
