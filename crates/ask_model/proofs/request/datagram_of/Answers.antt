use Rattle.std.proofs.Common.{◌∙◌, refl, sym}
use Rattle.code_map.specs.Methods.{request_code}
use Rattle.ask_model.specs.Requests.{CoapRequest}
use Rattle.ask_model.specs.Views.{payload_of}
use Rattle.ask_model.proofs.Blocks.{spelled_named}
use Rattle.ask_model.proofs.Codes.{code_is_not_zero}
use Rattle.ask_model.proofs.request.datagram_of.Goals as goal

pub block_or_first-named-requires-clause-short : goal.block_or_first-named-requires-clause-short
block_or_first-named-requires-clause-short c =
    let sendable = rw c.in-Ask.is at c.requires.sendable in
    rw c.bytes_of-body.ensures sendable.body

pub asking_bytes-requires-clause-code : goal.asking_bytes-requires-clause-code
asking_bytes-requires-clause-code c = λ zero. code_is_not_zero c.in-Ask.method (sym c.code-code.ensures ∙ zero)

pub asking_bytes-requires-clause-fits : goal.asking_bytes-requires-clause-fits
asking_bytes-requires-clause-fits c =
    let sendable = rw c.in-Ask.is at c.requires.sendable in
    sendable.target

pub returns-in_ok-bytes-in-Ask : goal.returns-in_ok-bytes-in-Ask
returns-in_ok-bytes-in-Ask c =
    let asks = c.in-Ask in
    let q : CoapRequest = record { method = request_code asks.method; peer = asks.peer; target = asks.target; accept = asks.accept; format = asks.format; body = payload_of asks.payload c.args.body.now } in
    rw (asks.is, c.of.ensures)
    (spelled_named q c.args.block c.block_or_first-named.result c.args.mid c.args.token.now c.code-code.result _ c.bytes_of-body.result.now _ _
    c.code-code.ensures c.bytes_of-body.ensures (c.block_or_first-named.ensures.block q (sym c.code-code.ensures) (sym c.bytes_of-body.ensures)) refl c.carried-payload.ensures c.in_ok-bytes-in-Ask.ensures)
