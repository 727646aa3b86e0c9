-- What the bank makes of the body tells what becomes of it.
use Rattle.http_mapping.proofs.Applies.{made_bytes, made_nothing, made_failed}
use Rattle.http_mapping.proofs.Shown.{shows_same, shows_other, shows_failed}
use Rattle.http_mapping.proofs.showing.showing_along.Goals as goal

pub returns-in-Nothing : goal.returns-in-Nothing
returns-in-Nothing g c =
    let made = made_nothing _ g.R.Relation.holds g.R.Relation.takes _ _ _ _ c.in-Nothing.is c.in_ok-applied.ensures in
    shows_same _ c.args.mapped.now c.args.response.now c.args.format c.args.wanted.now c.requires.has_format c.requires.wanted
    c.in_ok-copy.field-0 c.in_ok-copy.ensures made

pub returns-in-Bytes : goal.returns-in-Bytes
returns-in-Bytes g c =
    let made = made_bytes _ g.R.Relation.holds g.R.Relation.takes _ _ _ _ c.in-Bytes.body c.in-Bytes.is c.in_ok-applied.ensures in
    shows_other _ c.args.mapped.now c.args.response.now c.args.format c.args.wanted.now c.requires.has_format c.requires.wanted
    g.R.Relation.holds g.R.Relation.takes c.in_ok-copy.field-0 c.as_slice.result.now c.in_ok-copy.ensures c.as_slice.ensures c.requires.filled
    c.in-Bytes.body.items (made.0, made.1)

pub returns : goal.returns
returns g c =
    let made = made_failed _ g.R.Relation.holds g.R.Relation.takes _ _ _ _ c.in-Failed.is c.in_ok-applied.ensures in
    shows_failed _ c.args.mapped.now c.args.response.now c.args.format c.args.wanted.now c.requires.has_format c.requires.wanted
    g.R.Relation.holds g.R.Relation.takes c.in_ok-copy.field-0 c.as_slice.result.now c.in_ok-copy.ensures c.as_slice.ensures c.requires.filled made
