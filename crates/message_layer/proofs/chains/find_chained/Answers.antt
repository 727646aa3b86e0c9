use Rattle.std.proofs.Common.{◌-◌, arith}
use Rattle.message_layer.proofs.Following.{steps-back, followed-back, goes-back, followed-all}
use Rattle.message_layer.proofs.chains.find_chained.Goals as goal

pub at-requires-clause-within : goal.at-requires-clause-within
at-requires-clause-within c =
    let s = steps-back c.args.chains.now c.args.messages.now.items c.args.moment c.args.mid c.back.number (c.back.number - c.args.chains.now.forgotten - 1) c.back.found c.requires.chained c.back.invariant (omega (arith, c.back-test.true)) in
    omega (arith, s.within)

pub at-number-requires : goal.at-number-requires
at-number-requires c =
    let s = steps-back c.args.chains.now c.args.messages.now.items c.args.moment c.args.mid c.back.number (c.back.number - c.args.chains.now.forgotten - 1) c.back.found c.requires.chained c.back.invariant (omega (arith, c.back-test.true)) in
    omega (arith, s.within, c.requires.chained.as_many)

pub back-smaller : goal.back-smaller
back-smaller c = goes-back _ _ c.args.moment c.args.mid _ _ c.back.found _ c.requires.chained c.back.invariant (omega (arith, c.back-test.true)) c.at-number.ensures

pub back-preserved : goal.back-preserved
back-preserved c = followed-back _ _ c.args.moment c.args.mid _ _ c.back.found _ _ _ c.requires.chained c.back.invariant (omega (arith, c.back-test.true)) c.at.ensures c.at-number.ensures c.choose-found.ensures

pub returns : goal.returns
returns c = followed-all c.args.chains.now c.args.messages.now.items c.args.moment c.args.mid c.back.number c.back.found c.back.invariant (omega (arith, c.back-test.false))
