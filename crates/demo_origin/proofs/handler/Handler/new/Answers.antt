use Rattle.demo_origin.proofs.handler.Handler.new.Goals as goal

pub returns-clause-keeps : goal.returns-clause-keeps
returns-clause-keeps g c = record {
  each = λ p q r s. c.requires.keeps.each p q r s.1.met.0;
  takes = λ p q r s. c.requires.keeps.takes p q r s.1.met.0;
}

pub returns-clause-same : goal.returns-clause-same
returns-clause-same g c = λ p q r s. s.1.met.0
