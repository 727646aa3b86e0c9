use Rattle.uri_map.proofs.Characters.{loop_goes_on, loop_stops, loop_ends}
use Rattle.uri_map.proofs.utf8.is_utf8.Goals as goal

pub returns-then-not-ends_char : goal.returns-then-not-ends_char
returns-then-not-ends_char c = loop_stops c.in-Some.first _ _ _ c.in-Some.ensures.steps (c.ends_char.ensures.bad c.if-not-ends_char.true) c.each.invariant

pub each-preserved : goal.each-preserved
each-preserved c =
    let read = c.ends_char.ensures.good c.if-not-ends_char.false in
    loop_goes_on c.in-Some.first _ _ _ _ c.in-Some.ensures.steps read.0 read.1 c.each.invariant

pub returns : goal.returns
returns c = loop_ends _ _ c.in_default.ensures.steps.0 c.each.invariant
