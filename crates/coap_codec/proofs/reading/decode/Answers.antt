use Rattle.std.proofs.Common.{arith}
use Rattle.coap_codec.proofs.ByteRanges.{bytes_from}
use Rattle.coap_codec.proofs.Decoding.{is_found, is_only, is_fault, is_only_fault, is_last}
use Rattle.coap_codec.proofs.reading.decode.Goals as goal

pub returns-clause-found : goal.returns-clause-found
returns-clause-found c = is_found c.args.bytes.now c.message_of.result (bytes_from c.args.bytes.now (λ i. omega (arith, c.type_inv.bytes i))) c.message_of.ensures

pub returns-clause-only : goal.returns-clause-only
returns-clause-only c = λ m s. is_only c.args.bytes.now c.message_of.result m c.message_of.ensures s

pub returns-clause-memory : goal.returns-clause-memory
returns-clause-memory c = λ e. is_last c.args.bytes.now c.message_of.result (bytes_from c.args.bytes.now (λ i. omega (arith, c.type_inv.bytes i))) c.message_of.ensures e

pub returns-clause-fault : goal.returns-clause-fault
returns-clause-fault c = is_fault c.args.bytes.now c.message_of.result (bytes_from c.args.bytes.now (λ i. omega (arith, c.type_inv.bytes i))) c.message_of.ensures

pub returns-clause-fault_only : goal.returns-clause-fault_only
returns-clause-fault_only c = λ f s. is_only_fault c.args.bytes.now c.message_of.result f c.message_of.ensures s
