-- What is settled of the journal and the passes that are lent is settled of the shop and of all passes.
use Rattle.gateway_desk.proofs.settling.settle.Goals as goal

pub returns-clause-justified : goal.returns-clause-justified
returns-clause-justified g c = rw (c.deref.ensures.value, c.journal.ensures.entries) at c.settled.ensures.justified

pub returns-clause-apart : goal.returns-clause-apart
returns-clause-apart g c = rw c.deref.ensures.value at c.settled.ensures.apart

pub returns-clause-whole : goal.returns-clause-whole
returns-clause-whole g c = rw (c.deref.ensures.value, c.journal.ensures.entries) at c.settled.ensures.whole

pub returns-clause-asks : goal.returns-clause-asks
returns-clause-asks g c = rw c.journal.ensures.entries at c.settled.ensures.asks

pub returns-clause-answers : goal.returns-clause-answers
returns-clause-answers g c = rw c.deref.ensures.value at c.settled.ensures.answers

pub returns-clause-stranger : goal.returns-clause-stranger
returns-clause-stranger g c = rw (c.deref.ensures.value, c.journal.ensures.entries) at c.settled.ensures.stranger

pub returns-clause-repeated : goal.returns-clause-repeated
returns-clause-repeated g c = rw c.deref.ensures.value at c.settled.ensures.repeated

pub returns-clause-count : goal.returns-clause-count
returns-clause-count g c = rw (c.deref.ensures.value, c.journal.ensures.entries) at c.settled.ensures.count
