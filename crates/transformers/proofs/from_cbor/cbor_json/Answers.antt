use Rattle.transformers.proofs.Told.{text_fits, text_refused}
use Rattle.transformers.proofs.from_cbor.cbor_json.Goals as goal

pub returns-clause-fits : goal.returns-clause-fits
returns-clause-fits c = text_fits c.args.input.now c.text_of.result c.text_of.ensures.ok c.text_of.ensures.content

pub returns-clause-refused : goal.returns-clause-refused
returns-clause-refused c = text_refused c.args.input.now c.text_of.result c.text_of.ensures.ok c.text_of.ensures.content c.text_of.ensures.memory
