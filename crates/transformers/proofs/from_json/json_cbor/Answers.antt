use Rattle.transformers.proofs.Made.{cbor_fits}
use Rattle.transformers.proofs.from_json.json_cbor.Goals as goal

pub returns-in-Ok : goal.returns-in-Ok
returns-in-Ok c =
    record { fits = cbor_fits c.args.input.now c.in-Ok.text.now c.cbor_of.result c.in-Ok.ensures.cases.0 c.in-Ok.ensures.cases.1 c.cbor_of.ensures.ok c.cbor_of.ensures.content }

pub returns-in-Err : goal.returns-in-Err
returns-in-Err c = record { fits = λ is taken. c.in-Err.ensures.cases.0 taken.utf8 }
