use Rattle.std.proofs.Common.{List, sym, ap, ◌∙◌}
use Rattle.coap_codec.specs.Spelling.{content, entries}
use Rattle.coap_codec.specs.declared.opt.Opt.{Opt}
use Rattle.coap_codec.specs.Recognition.{is_forwardable}
use Rattle.blockwise.specs.Uploads.{UploadValue, next_of}
use Rattle.exchange_progress.proofs.Comes.{gives-next}
use Rattle.exchange_progress.proofs.coming.give.Goals as goal

pub returns-in-Next-clause-coming : goal.returns-in-Next-clause-coming
returns-in-Next-clause-coming c = λ got.
    let a = c.args in
    gives-next a.upload.now c.advance.new.self got a.number (content a.m.now) c.next_block-block.result
    (ap (λ (os : List Opt). is_forwardable (entries os)) (sym c.deref.ensures.value) ∙ (sym c.is_forwardable.ensures ∙ c.if-not-is_forwardable.false))
    (sym c.judge.ensures.answer ∙ c.in-Next.is)
    (c.advance.ensures ∙ ap (λ (u : UploadValue). next_of u (content a.m.now)) c.copy-known.ensures)
    c.next_block-block.ensures.block
