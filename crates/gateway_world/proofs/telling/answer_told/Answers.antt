-- The bytes are those of a response that tells the answer.
use Rattle.gateway_world.proofs.Rendering.{means-as}
use Rattle.gateway_world.proofs.telling.answer_told.Goals as goal

pub returns : goal.returns
returns g c = record {
  response = c.in_ok-bytes.ensures.answer;
  tells = means-as g.R.Relation.holds g.R.Relation.takes _ _ _ _ c.args.answer.now.finding _ _ c.in_ok-bytes.ensures.answer c.requires.routes_are c.deref.ensures c.saturating_sub-age.ensures
      c.in_ok-bytes.ensures.means;
  text = c.in_ok-bytes.ensures.text;
}
