use Rattle.std.proofs.Common.{◌∙◌, ℕ, List, ap}
use Rattle.resp_cache.specs.Rings.{RingValue, last_of, numbers_in}
use Rattle.resp_cache.proofs.Linking.{first_gives, last_is}
use Rattle.resp_cache.proofs.ring.Ring.last.Goals as goal

pub returns-in-Some : goal.returns-in-Some
returns-in-Some c =
    let ls = c.self.inside.older.items in
    let ns = c.self.inside.newer.items in
    let items : RingValue → List ℕ = λ v. v.items in
    let value = rw (c.deref.ensures.value) at c.in-Some.ensures.value in
    first_gives ns c.in-Some.last.now value ∙ (last_is ls ns 0 (numbers_in ls) 0 c.self.invariant.linked.follow ∙ ap (λ (v : RingValue). last_of 0 v.items) c.self.view_is)
