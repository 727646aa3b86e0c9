use Rattle.transformers.proofs.Outputs.{one_json, one_cbor, cbor_taken, json_taken}
use Rattle.transformers.proofs.laws.one_output.Goals as goal

pub returns : goal.returns
returns c = record { from_cbor = one_json; from_json = one_cbor; cbor_taken = cbor_taken; json_taken = json_taken }
