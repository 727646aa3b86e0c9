-- What becomes of the body says which response the bytes are of.
use Rattle.http_mapping.proofs.Meanings.{same_writes, other_writes, failed_writes}
use Rattle.http_mapping.proofs.rendering.show_whole.Goals as goal

pub returns-in-Same : goal.returns-in-Same
returns-in-Same g c =
    same_writes _ g.R.Relation.holds g.R.Relation.takes c.args.mapped.now c.args.response.now c.as_slice.result.now c.args.last c.args.age
    c.show.result c.as_slice.ensures (rw c.in-Same.is at c.in_ok-showing_of.ensures) c.show.ensures

pub returns-in-Other : goal.returns-in-Other
returns-in-Other g c =
    other_writes _ g.R.Relation.holds g.R.Relation.takes c.args.mapped.now c.args.response.now c.in-Other.media.now c.as_slice-in-Other.result.now
    c.in-Other.body.items c.args.last c.args.age c.show-in-Other.result c.as_slice-in-Other.ensures.value
    (rw c.in-Other.is at c.in_ok-showing_of.ensures) c.show-in-Other.ensures

pub returns-in-Failed : goal.returns-in-Failed
returns-in-Failed g c =
    failed_writes _ g.R.Relation.holds g.R.Relation.takes c.args.mapped.now c.args.response.now c.args.last c.args.age
    c.tell.result (rw c.in-Failed.is at c.in_ok-showing_of.ensures) c.tell.ensures
