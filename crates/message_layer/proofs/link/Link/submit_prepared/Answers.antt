use Rattle.std.proofs.Common.{subst, sym}
use Rattle.message_layer.specs.Values.{LinkValue, seen, shown}
use Rattle.message_layer.specs.Prepared.{MaySubmit}
use Rattle.message_layer.proofs.Sound.{submitted-sound}
use Rattle.message_layer.proofs.link.Link.submit_prepared.Goals as goal

pub invariant_of-self : goal.invariant_of-self
invariant_of-self c =
    let P : LinkValue → Type 0 = λ l. MaySubmit c.args.moment l c.args.x in
    let ready : P (shown c.self.inside.state) = subst P (sym c.self.view_is) c.requires.ready in
    rw c.submit_prepared.ensures
    (submitted-sound c.args.moment c.args.x.waiting (seen c.self.inside.state) c.requires.moment c.self.invariant ready.sound ready.free)
