use Rattle.std.proofs.Common.{◌≡◌, ◌∙◌, List, ap, subst, sym}
use Rattle.std.specs.Prelude.{Option}
use Rattle.resp_cache.specs.Slots.{pairs_in}
use Rattle.resp_cache.specs.Stores.{IsStore}
use Rattle.resp_cache.specs.Tables.{pairs_of}
use Rattle.resp_cache.specs.declared.pair.Pair.{Pair}
use Rattle.resp_cache.proofs.Keeping.{store_is}
use Rattle.resp_cache.proofs.Walking.{on_ok}
use Rattle.resp_cache.proofs.filling.pairs_in_use.Goals as goal

pub returns-clause-store : goal.returns-clause-store
returns-clause-store c =
    let t = c.args.table.now in
    let stored = store_is t.slots.items t.ring.items t.names.items c.requires in
    let all : pairs_in c.deref.result.now c.deref-2.result.now ≡ pairs_of t =
    ap (λ (slots : List (Option Pair)). pairs_in slots c.deref-2.result.now) c.deref.ensures.value
    ∙ ap (pairs_in t.slots.items) (c.deref-2.ensures.value ∙ c.in_ok-order.ensures) in
    on_ok c.shared_in.result (λ pairs is. subst IsStore (sym (is ∙ all)) stored) c.shared_in.ensures
