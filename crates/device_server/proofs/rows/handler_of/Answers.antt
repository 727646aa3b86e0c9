use Rattle.device_server.proofs.rows.handler_of.Goals as goal

pub returns-clause-kind : goal.returns-clause-kind
returns-clause-kind g c = record {
  each = λ p q r s. c.requires.keeps.each p q r (c.new.ensures.same p q r s);
  takes = λ p q r s. c.requires.keeps.takes p q r (c.new.ensures.same p q r s);
}
