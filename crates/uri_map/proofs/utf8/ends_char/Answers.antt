use Rattle.uri_map.proofs.Characters.{ascii_char, missing_one, missing_two, missing_three}
use Rattle.percent_encoding.specs.Iter.{decoded_bytes}
use Rattle.uri_map.proofs.utf8.ends_char.Goals as goal

pub returns-then-first-lt128-clause-good : goal.returns-then-first-lt128-clause-good
returns-then-first-lt128-clause-good c = λ _. ascii_char c.args.first _ c.if-first-lt128.true

pub returns-in_default-clause-bad : goal.returns-in_default-clause-bad
returns-in_default-clause-bad c = λ _. missing_one c.args.first (decoded_bytes c.args.bytes.now) c.if-first-lt128.false c.in_default.ensures.steps.0

pub returns-in_default-next-clause-bad : goal.returns-in_default-next-clause-bad
returns-in_default-next-clause-bad c = λ _. missing_two c.args.first (decoded_bytes c.args.bytes.now) _ _ c.if-first-lt224.false c.in-Some.ensures.steps c.in_default-next.ensures.steps.0

pub returns-in_default-next-2-clause-bad : goal.returns-in_default-next-2-clause-bad
returns-in_default-next-2-clause-bad c = λ _. missing_three c.args.first (decoded_bytes c.args.bytes.now) _ _ _ _ c.if-first-lt240.false c.in-Some.ensures.steps c.in-Some-next.ensures.steps c.in_default-next-2.ensures.steps.0
