use Rattle.std.proofs.Common.{◌∙◌, sym}
use Rattle.ask_model.proofs.Sharing.{read_digests}
use Rattle.ask_model.proofs.mapped.Mapped.lookup.Goals as goal

pub with-requires : goal.with-requires
with-requires g c =
    c.digests.ensures ∙ read_digests c.args.self.now.sense _ c.in_ok-reading.ensures
