use Rattle.std.proofs.Common.{◌≡◌, ◌∷◌, ◌++◌, ◌∙◌, ◌+◌, ◌-◌, [], ℕ, List, ap, append-nil, append_assoc, arith, get_or, length, sym}
use Rattle.resp_cache.specs.Rings.{RingValue, walk}
use Rattle.resp_cache.proofs.Walking.{walk_end, walk_step}
use Rattle.resp_cache.proofs.ring.Ring.numbers.Goals as goal

pub each-init : goal.each-init
each-init c =
    let ls = c.self.inside.older.items in
    ap (λ (ns : List ℕ). ns ++ walk (c.len-end.result - 1) ls 0) c.in_ok-numbers.ensures.items

pub each-preserved : goal.each-preserved
each-preserved c =
    let ls = c.self.inside.older.items in
    let a = c.each.number in
    let next = c.older_in-number.result in
    let rest : List ℕ = walk (c.len-end.result - (c.each.counter + 1)) ls next in
    let is : next ≡ get_or ls a 0 = c.older_in-number.ensures ∙ ap (λ (xs : List ℕ). get_or xs a 0) c.deref.ensures.value in
    ap (λ (ns : List ℕ). ns ++ rest) c.in_ok-push.ensures.items
    ∙ (append_assoc c.each.numbers.items (next ∷ []) rest
    ∙ (ap (λ (v : ℕ). c.each.numbers.items ++ v ∷ walk (c.len-end.result - (c.each.counter + 1)) ls v) is
    ∙ (ap (λ (ns : List ℕ). c.each.numbers.items ++ ns) (sym (walk_step c.len-end.result c.each.counter ls a c.each-test.true)) ∙ c.each.invariant)))

pub returns : goal.returns
returns c =
    let ls = c.self.inside.older.items in
    let none = walk_end c.len-end.result c.each.counter ls c.each.number c.each-test.false in
    let all : c.each.numbers.items ≡ walk (c.len-end.result - 1) ls 0 =
    sym (append-nil c.each.numbers.items) ∙ (ap (λ (ns : List ℕ). c.each.numbers.items ++ ns) (sym none) ∙ c.each.invariant) in
    let len : c.len-end.result ≡ length ls = omega (arith, c.len-end.ensures, c.self.inside.older.ok) in
    all ∙ (ap (λ (n : ℕ). walk (n - 1) ls 0) len ∙ ap (λ (v : RingValue). v.items) c.self.view_is)
