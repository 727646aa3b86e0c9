use Rattle.std.proofs.Common.{refl}
use Rattle.demo_origin.proofs.handler.Handler.answer.Goals as goal

pub call-requires : goal.call-requires
call-requires g c =
    let f = c.args.self.now.closure.call in
    record {
      each = λ p q r s.
          c.requires.each p q r ((f.vtable, f.value), record { met = (s, refl) });
      takes = λ p q r s.
          c.requires.takes p q r ((f.vtable, f.value), record { met = (s, refl) });
    }
