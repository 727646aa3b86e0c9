use Rattle.std.proofs.Common.{refl, sym, arith}
use Rattle.std.proofs.lemmas.Option.{slice_get_read}
use Rattle.demo_origin.proofs.origin.Origin.outcome.Goals as goal

pub outcome-requires : goal.outcome-requires
outcome-requires g c =
    c.requires.sound.keep.each c.index-handler.result.now (
      c.args.place,
      omega (arith, c.requires.sound.one_each, c.requires.place),
      sym c.index-handler.ensures,
    )

pub returns-clause-comes : goal.returns-clause-comes
returns-clause-comes g c =
    rw (slice_get_read _ _ c.args.place c.index-held.result.now refl c.requires.place
    c.index-held.ensures)
    c.outcome.ensures.comes
