use Rattle.message_layer.proofs.Numbering.{numbered-of}
use Rattle.message_layer.proofs.bytes.Unnumbered.numbered.Goals as goal

pub returns : goal.returns
returns c = numbered-of _ _ _ _ _ c.in_ok-datagram.ensures c.as_slice.ensures c.self.view_is
