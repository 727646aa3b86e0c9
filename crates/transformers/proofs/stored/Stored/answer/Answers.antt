use Rattle.std.proofs.Common.{refl}
use Rattle.transformers.proofs.stored.Stored.answer.Goals as goal

pub call-requires : goal.call-requires
call-requires g c =
    let f = c.args.self.now.closure.call in
    record { each = λ x r s. c.requires.each x r ((f.vtable, f.value), record { shown = s.shown; shows = s.shows; called = record { met = (s.says.met, refl) } }) }

pub returns-clause-gives : goal.returns-clause-gives
returns-clause-gives g c =
    let f = c.args.self.now.closure.call in
    let s = c.call.ensures.gives in
    ((f.vtable, f.value), record { shown = s.shown; shows = s.shows; called = record { met = (s.says.met, refl) } })
