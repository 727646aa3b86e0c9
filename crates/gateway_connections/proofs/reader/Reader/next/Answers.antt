-- What is read stands first in the text, and the edge holds what is left of what it was given.
use Rattle.std.proofs.Common.{◌≡◌, ◌-◌, ◌≤◌, ◌∙◌, ◌++◌, true, false, length, drop, sym, arith}
use Rattle.std.proofs.lemmas.List.{length-drop}
use Rattle.http_edge.specs.Edges.{item}
use Rattle.http_edge.specs.Reading.{closes}
use Rattle.gateway_connections.specs.Readers.{given_of}
use Rattle.gateway_connections.proofs.Holding.{left-behind, first-whole, left-start, left-is, left-stands, left-shorter, left-last, left-more, none-left}
use Rattle.gateway_connections.proofs.reader.Reader.next.Goals as goal

true-false : true ≡ false → ⊥
true-false e = absurd cc

pub returns-then-closes-clause-reads : goal.returns-then-closes-clause-reads
returns-then-closes-clause-reads c =
    let s = c.args.self.now in
    let ok = s.bytes.ok.0 in
    let within = s.within in
    let fits : s.taken ≤ length s.bytes.items = omega (arith, ok, within) in
    let steps = rw (c.in-Some.is) at (c.in_ok-found.ensures.steps (given_of s) c.requires) in
    let last : closes (item c.in-Some.incoming) ≡ true = sym c.closes.ensures ∙ c.if-closes.true in
    let none = none-left s.bytes.items c.len-self.result (omega (arith, ok, c.len-self.ensures)) in
    let empty = c.restart.ensures.empty in
    rw c.in-Some.is (record {
      rest = steps.0 ++ drop s.taken s.bytes.items;
      first = first-whole s.bytes.items s.start s.taken s.order fits (item c.in-Some.incoming) steps.0 steps.1;
      left = left-last (item c.in-Some.incoming) (steps.0 ++ drop s.taken s.bytes.items) (drop c.len-self.result s.bytes.items) last none;
      counted = rw none (omega (arith, empty, c.len-self.ensures));
      shorter = λ goes_on. absurd (true-false (sym last ∙ goes_on));
      untold = c.restart.ensures.told;
    })

pub overflow_sub-self : goal.overflow_sub-self
overflow_sub-self c =
    let s = c.args.self.now in
    let ok = s.bytes.ok.0 in
    let within = s.within in
    let fits : s.taken ≤ length s.bytes.items = omega (arith, ok, within) in
    let goes_on : closes (item c.in-Some.incoming) ≡ false = sym c.closes.ensures ∙ c.if-closes.false in
    let l = left-behind (item c.in-Some.incoming) c.next.new.self (given_of s) c.unread.result goes_on (rw (c.in-Some.is) at (c.in_ok-found.ensures.steps (given_of s) c.requires))
    ((rw (c.in-Some.is) at c.in_ok-found.ensures.behind) goes_on) c.unread.ensures.len in
    left-start s.bytes.items s.start s.taken s.order fits _ _ _ l

pub returns-clause-in_step : goal.returns-clause-in_step
returns-clause-in_step c =
    let s = c.args.self.now in
    let ok = s.bytes.ok.0 in
    let within = s.within in
    let fits : s.taken ≤ length s.bytes.items = omega (arith, ok, within) in
    let goes_on : closes (item c.in-Some.incoming) ≡ false = sym c.closes.ensures ∙ c.if-closes.false in
    let l = left-behind (item c.in-Some.incoming) c.next.new.self (given_of s) c.unread.result goes_on (rw (c.in-Some.is) at (c.in_ok-found.ensures.steps (given_of s) c.requires))
    ((rw (c.in-Some.is) at c.in_ok-found.ensures.behind) goes_on) c.unread.ensures.len in
    left-stands s.bytes.items s.start s.taken s.order fits _ _ _ l

pub returns-clause-reads : goal.returns-clause-reads
returns-clause-reads c =
    let s = c.args.self.now in
    let ok = s.bytes.ok.0 in
    let within = s.within in
    let order = s.order in
    let fits : s.taken ≤ length s.bytes.items = omega (arith, ok, within) in
    let goes_on : closes (item c.in-Some.incoming) ≡ false = sym c.closes.ensures ∙ c.if-closes.false in
    let l = left-behind (item c.in-Some.incoming) c.next.new.self (given_of s) c.unread.result goes_on (rw (c.in-Some.is) at (c.in_ok-found.ensures.steps (given_of s) c.requires))
    ((rw (c.in-Some.is) at c.in_ok-found.ensures.behind) goes_on) c.unread.ensures.len in
    let few = left-start s.bytes.items s.start s.taken s.order fits _ _ _ l in
    let len = c.unread.ensures.len in
    let long = length-drop (s.taken - c.unread.result) s.bytes.items in
    rw c.in-Some.is (record {
      rest = l.rest ++ drop s.taken s.bytes.items;
      first = first-whole s.bytes.items s.start s.taken s.order fits (item c.in-Some.incoming) l.rest l.first;
      left = left-more (item c.in-Some.incoming) (l.rest ++ drop s.taken s.bytes.items) (drop (s.taken - c.unread.result) s.bytes.items) goes_on (left-is s.bytes.items s.start s.taken s.order fits _ _ _ l);
      counted = omega (arith, ok, within, order, few, len, long);
      shorter = λ more. left-shorter s.bytes.items s.start s.taken s.order fits _ _ _ l;
      untold = (rw (c.in-Some.is) at c.in_ok-found.ensures.fresh) goes_on;
    })
