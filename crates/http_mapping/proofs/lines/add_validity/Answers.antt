-- The lines of the tag go on from those of freshness.
use Rattle.http_mapping.proofs.Written.{then_more}
use Rattle.http_mapping.proofs.lines.add_validity.Goals as goal

pub returns : goal.returns
returns c = then_more c.add_entity_tag.result _ _ _ _ _ c.in_ok-add_freshness.ensures c.add_entity_tag.ensures
