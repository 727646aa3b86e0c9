use Rattle.std.proofs.Common.{Ok, sym, ap, ◌∙◌}
use Rattle.coap_codec.specs.Spelling.{content}
use Rattle.blockwise.specs.Downloads.{PiecesValue, with_piece}
use Rattle.exchange_progress.proofs.Comes.{goes-next}
use Rattle.exchange_progress.proofs.coming.fetch.Goals as goal

pub returns-in-Ok-Next-clause-coming : goal.returns-in-Ok-Next-clause-coming
returns-in-Ok-Next-clause-coming c = λ got.
    let a = c.args in
    goes-next a.restarts a.pieces.now c.advance.new.self got a.number (content a.m.now)
    c.in-Ok-Next.block (sym c.is_tellable.ensures ∙ c.if-not-is_tellable.false)
    (sym c.judge.ensures.judged ∙ (c.in-Ok-Next.is ∙ ap Ok c.in-Ok-Next.field-0-is))
    (c.advance.ensures ∙ ap (λ (p : PiecesValue). with_piece p (content a.m.now)) c.copy-known.ensures)
