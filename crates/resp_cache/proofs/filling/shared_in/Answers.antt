use Rattle.std.proofs.Common.{◌≡◌, ◌++◌, ◌∙◌, ◌+◌, List, Some, refl, ap, append-nil, drop, get_or, sym}
use Rattle.std.specs.Option.{option_copied}
use Rattle.std.specs.Prelude.{Option}
use Rattle.resp_cache.specs.Slots.{pairs_in, slot_at, with_pair}
use Rattle.resp_cache.specs.declared.pair.Pair.{Pair}
use Rattle.resp_cache.proofs.Walking.{dropped_all, pairs_step, step_none, step_some}
use Rattle.resp_cache.proofs.filling.shared_in.Goals.{in-Some+in_ok-share+in_ok-push, in_default}
use Rattle.resp_cache.proofs.filling.shared_in.Goals as goal

pub each-init : goal.each-init
each-init c = ap (λ (ps : List Pair). ps ++ pairs_in c.args.slots.now c.args.order.now) c.in_ok-pairs.ensures.items

pub each-preserved : goal.each-preserved
each-preserved c =
    let slots = c.args.slots.now in
    let order = c.args.order.now in
    let i = c.each.slot-index in
    let rest : List Pair = pairs_in slots (drop (i + 1) order) in
    let here : Option Pair = slot_at slots (get_or order i 0) in
    let all : c.each.pairs.items ++ with_pair here rest ≡ pairs_in slots order =
    ap (λ (ps : List Pair). c.each.pairs.items ++ ps) (sym (pairs_step slots order i (i + 1) refl c.each-test.true)) ∙ c.each.invariant in
    elim c.match-pair_at.branch [
      | in-Some+in_ok-share+in_ok-push w ↦
          step_some c.each.pairs.items c.match-pair_at.pairs.items w.in_ok-share.field-0 here rest (pairs_in slots order)
          (ap (λ (v : _). v.items) w.pairs-is ∙ w.in_ok-push.ensures.items)
          (sym c.pair_at.ensures ∙ (ap option_copied w.in-Some.is ∙ ap (λ (p : Pair). Some p) (sym w.in_ok-share.ensures))) all
      | in_default w ↦ step_none c.each.pairs.items c.match-pair_at.pairs.items here rest (pairs_in slots order) (ap (λ (v : _). v.items) w.pairs-is) (sym c.pair_at.ensures ∙ ap option_copied w.in_default.is) all
    ]

pub returns : goal.returns
returns c =
    let slots = c.args.slots.now in
    let none = dropped_all c.args.order.now c.each.slot-index c.each-test.false in
    sym (append-nil c.each.pairs.items)
    ∙ (ap (λ (os : List _). c.each.pairs.items ++ pairs_in slots os) (sym none) ∙ c.each.invariant)
