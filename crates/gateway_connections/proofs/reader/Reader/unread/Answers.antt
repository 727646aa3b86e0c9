-- What the edge has no room for counts too.
use Rattle.std.proofs.Common.{ℕ, List, ◌≡◌, ◌+◌, ◌-◌, length, drop, sym, ap, subst, arith}
use Rattle.std.proofs.lemmas.List.{length-drop}
use Rattle.http_edge.specs.Edges.{IsUnread, Leaves}
use Rattle.gateway_connections.specs.Readers.{given_of}
use Rattle.gateway_connections.proofs.Holding.{text-parts, all-given, unread-behind}
use Rattle.gateway_connections.proofs.reader.Reader.unread.Goals as goal

pub returns-clause-counts : goal.returns-clause-counts
returns-clause-counts c = λ w.
    let s = c.args.self.now in
    let long = length-drop s.taken s.bytes.items in
    let ok = s.bytes.ok.0 in
    let left : c.len.result - s.taken ≡ length (drop s.taken s.bytes.items) = omega (arith, long, ok, c.len.ensures) in
    subst (λ (u : List ℕ). IsUnread u (c.unread.result + (c.len.result - s.taken))) (sym (text-parts s.bytes.items s.start s.taken s.order))
    (unread-behind (given_of s) (drop s.taken s.bytes.items) c.unread.result (c.len.result - s.taken) left (c.unread.ensures.counts (given_of s) w))

pub returns-clause-exact : goal.returns-clause-exact
returns-clause-exact c = λ w rests.
    let s = c.args.self.now in
    let x = c.unread.ensures.exact rests.1 (given_of s) w in
    let long = length-drop s.taken s.bytes.items in
    let none : length (drop s.taken s.bytes.items) ≡ 0 = ap length rests.0 in
    let ok = s.bytes.ok.0 in
    let len = c.len.ensures in
    let size = x.2 in
    (x.0, subst (λ (u : List ℕ). Leaves u x.0) (sym (all-given s.bytes.items s.start s.taken s.order rests.0)) x.1, omega (arith, long, none, ok, len, size))
