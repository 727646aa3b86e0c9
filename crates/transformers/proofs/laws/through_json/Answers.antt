use Rattle.transformers.proofs.Outputs.{made_taken, made_shortest}
use Rattle.transformers.proofs.laws.through_json.Goals as goal

pub returns : goal.returns
returns c = record { taken = made_taken; shortest = made_shortest }
