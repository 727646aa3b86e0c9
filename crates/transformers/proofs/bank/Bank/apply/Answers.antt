use Rattle.std.proofs.Common.{arith, refl, sym}
use Rattle.transformers.proofs.First.{among}
use Rattle.transformers.proofs.Passed.{passed_large, passed_small}
use Rattle.transformers.proofs.bank.Bank.apply.Goals as goal

pub answer-requires : goal.answer-requires
answer-requires g c =
    let first = c.in-Some.ensures.some in
    c.requires.each c.in-Some.first.now (among _ first.before first.after _ first.parts)

pub returns-in-Ok-clause-first : goal.returns-in-Ok-clause-first
returns-in-Ok-clause-first g c =
    λ _. record { first = c.in-Some.first.now; is_first = c.in-Some.ensures.some; gave = c.answer.result; gives = c.answer.ensures.gives; is = rw c.in-Ok.is (sym (passed_large c.in-Ok.v (omega (arith, c.if-len-gt-MAX_BODY_LEN.true, c.len.ensures, c.in-Ok.v.ok.0)))) }

pub returns-in-Ok-2-clause-first : goal.returns-in-Ok-2-clause-first
returns-in-Ok-2-clause-first g c =
    λ _. record { first = c.in-Some.first.now; is_first = c.in-Some.ensures.some; gave = c.answer.result; gives = c.answer.ensures.gives; is = rw (c.in-Ok-2.is, ← c.in-Ok-2.v-is) (sym (passed_small c.in-Ok.v (omega (arith, c.if-len-gt-MAX_BODY_LEN.false, c.len.ensures, c.in-Ok.v.ok.0)))) }

pub returns-in-Err-Content-clause-first : goal.returns-in-Err-Content-clause-first
returns-in-Err-Content-clause-first g c =
    λ _. record { first = c.in-Some.first.now; is_first = c.in-Some.ensures.some; gave = c.answer.result; gives = c.answer.ensures.gives; is = rw (c.in-Err-Content.is, c.in-Err-Content.field-0-is) refl }

pub returns-in-Err-Memory-clause-first : goal.returns-in-Err-Memory-clause-first
returns-in-Err-Memory-clause-first g c =
    λ _. record { first = c.in-Some.first.now; is_first = c.in-Some.ensures.some; gave = c.answer.result; gives = c.answer.ensures.gives; is = rw (c.in-Err-Memory.is, c.in-Err-Memory.field-0-is) refl }
