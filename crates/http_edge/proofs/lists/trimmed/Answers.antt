use Rattle.std.proofs.Common.{rules, ◌≡◌, ◌∷◌, [], ◌++◌, false, length}
use Rattle.httparse.specs.Grammar.{is_ows}
use Rattle.http_edge.proofs.Listing as law
use Rattle.http_edge.proofs.lists.trimmed.Goals as goal

pub returns-then-last-ne9 : goal.returns-then-last-ne9
returns-then-last-ne9 c =
    let parts : c.each.rest.now ≡ c.in-Some.before.now ++ c.in-Some.last ∷ [] = search rules in
    let no : is_ows c.in-Some.last ≡ false = search rules in
    law.ends_kept c.each.rest.now c.in-Some.before.now c.in-Some.last c.args.bytes.now parts no c.each.invariant

pub returns : goal.returns
returns c =
    let none : length c.each.rest.now ≡ 0 = search rules in
    law.none_kept c.each.rest.now c.args.bytes.now none c.each.invariant
