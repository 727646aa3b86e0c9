-- All that was read is given to the edge.
use borrow.Author.Tests.{ltb-true, ltb-false}
use Rattle.std.proofs.Common.{◌+◌, ◌≤◌, ℕ, List, ◌++◌, length, take, sym, subst, arith}
use Rattle.http_edge.specs.Edges.{Stands, unread_len}
use Rattle.sessions.proofs.Gave.{all_taken, taken_filled, taken_none}
use Rattle.sessions.proofs.reading.read_into.Goals as goal

pub returns-clause-takes : goal.returns-clause-takes
returns-clause-takes g c =
    let b = c.read.new.buffer in
    let n = c.in_ok-count.count in
    let fits : n ≤ length b = c.in_ok-count.ensures.fits in
    let room : n + unread_len c.args.edge.now ≤ 8192 = omega (arith, c.in_ok-count.ensures.length, c.requires.fits) in
    let e = all_taken b n c.feed.result (unread_len c.args.edge.now) fits room c.feed.ensures.count in
    record {
      bytes = take n b;
      gave = c.in_ok-count.ensures.came;
      stands = λ text stands. subst (λ (more : List ℕ). Stands c.feed.new.self (text ++ more)) (sym e) (c.feed.ensures.more text stands);
      told = c.feed.ensures.told;
      filled = λ goes. taken_filled b n fits (ltb-true 0 n goes);
      ended = λ ends. taken_none b n (omega (arith, ltb-false 0 n ends));
    }
