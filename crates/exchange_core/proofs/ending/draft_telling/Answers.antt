use Rattle.std.proofs.Common.{ℕ, List, sym, subst}
use Rattle.journal_book.specs.Entries.{Written}
use Rattle.exchange_core.specs.Answering.{answer_entry, given_of}
use Rattle.exchange_core.specs.Ending.{IsAnswerTo, IsTold}
use Rattle.exchange_core.proofs.Endings.{told-drafted}
use Rattle.exchange_core.proofs.ending.draft_telling.Goals as goal

pub answer_to-requires-clause-asks : goal.answer_to-requires-clause-asks
answer_to-requires-clause-asks g c =
    let a = c.requires.told.asked in
    record { moment = a.moment; conn = c.args.telling.reader.conn; ask = a.ask; stands = a.stands }

pub returns-clause-drafted : goal.returns-clause-drafted
returns-clause-drafted g c = λ S ds e h.
    let answer = given_of c.in_ok-answer.answer in
    let t = c.args.moment in
    told-drafted t S ds c.args.telling answer c.args.draft.now c.answer.new.self h
    (subst (λ (es : List Written). IsTold es c.args.draft.now.entries t c.args.telling)
    (sym e) c.requires.told)
    (subst (λ (es : List Written). IsAnswerTo es t c.args.draft.now.next c.args.telling answer) (sym e)
    (subst (λ (k : ℕ). IsAnswerTo c.args.journal.now.entries t k c.args.telling answer)
    c.next.ensures c.in_ok-answer.ensures))
    (λ n k. c.in_ok-answer-2.ensures.drafts S ds n k)
    c.in_ok-answer-2.ensures.answers

pub returns-clause-grows : goal.returns-clause-grows
returns-clause-grows g c = (answer_entry (given_of c.in_ok-answer.answer), c.in_ok-answer-2.ensures.entries)
