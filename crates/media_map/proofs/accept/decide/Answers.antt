use Rattle.std.proofs.Common.{◌∙◌, ap}
use Rattle.media_map.specs.Tallying.{told}
use Rattle.media_map.proofs.Tallies.{told_is}
use Rattle.media_map.proofs.accept.decide.Goals as goal

pub returns-clause-wanted : goal.returns-clause-wanted
returns-clause-wanted c = c.answer.ensures.told ∙ (ap told c.tally_of.ensures ∙ told_is c.args.policy c.args.routes.now c.args.accept.now)
