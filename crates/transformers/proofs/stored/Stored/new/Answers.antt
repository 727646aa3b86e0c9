use Rattle.transformers.proofs.stored.Stored.new.Goals as goal

pub returns-clause-keeps : goal.returns-clause-keeps
returns-clause-keeps g c =
    record { each = λ x r s. c.requires.keeps.each x r (record { shown = s.1.shown; shows = s.1.shows; says = record { met = s.1.called.met.0 } }) }
