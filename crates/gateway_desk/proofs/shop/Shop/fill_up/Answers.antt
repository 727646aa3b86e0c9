-- One more connection passed by.
use Rattle.std.proofs.Common.{suc, sym, ◌∙◌, arith}
use Rattle.gateway_desk.proofs.Filling.{pass-few}
use Rattle.gateway_desk.proofs.shop.Shop.fill_up.Goals as goal

pub each-preserved : goal.each-preserved
each-preserved g c =
    let before = c.each.invariant in (
      (suc before.0.0, omega (arith, before.0.1), (c.each.self.core, before.0.2, c.in-Ok.ensures.passes)),
      c.pass_by.ensures.left ∙ before.1,
    )

pub unreachable-requires : goal.unreachable-requires
unreachable-requires g c =
    let all = c.each.invariant.0 in
    let journal = c.journal-journal.ensures in
    let few = pass-few all.0 _ _ _ all.2 journal.kept (sym journal.given ∙ journal.whole) in
    absurd (omega (arith, few, all.1))
