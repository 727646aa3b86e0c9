use Rattle.std.proofs.Common.{◌+◌, drop, is_some, refl, sym, ap, ◌∙◌, arith}
use Rattle.json.specs.Value.{value_view, items_view, members_view}
use Rattle.json.proofs.Trees.{view-Array, view-Object}
use Rattle.serde_json.specs.Data.{no_members}
use Rattle.serde_json.specs.Read.{of_json, of_items, of_members}
use Rattle.transformers.proofs.Putting.{drop_step}
use Rattle.transformers.proofs.Standing.{drop_end, items_on, items_off, members_on, members_off, some_array, some_object}
use Rattle.transformers.proofs.readable.+is_readable.Goals as goal

pub is_readable-returns-in-Array : goal.is_readable-returns-in-Array
is_readable-returns-in-Array t c =
    let items = c.in-Array.items in
    c.are_readable.ensures ∙ sym (some_array (of_items (items_view items.items))) ∙ sym (ap (λ j. is_some (of_json j)) (ap value_view c.in-Array.is ∙ view-Array items))

pub is_readable-returns-in-Object : goal.is_readable-returns-in-Object
is_readable-returns-in-Object t c =
    let members = c.in-Object.members in
    c.members_are_readable.ensures no_members ∙ sym (some_object (of_members (members_view members.items) no_members)) ∙ sym (ap (λ j. is_some (of_json j)) (ap value_view c.in-Object.is ∙ view-Object members))

pub are_readable-each-init : goal.are_readable-each-init
are_readable-each-init t c = refl

pub are_readable-returns-then-not-is_readable : goal.are_readable-returns-then-not-is_readable
are_readable-returns-then-not-is_readable t c =
    let all = c.deref-item-items.result.now in
    let i = c.each.item-index in
    let one = c.item-item.result in
    let left = drop (i + 1) all in
    let whole = ap (λ vs. is_some (of_items (items_view vs))) c.deref-item-items.ensures.value in
    sym (items_off (value_view one) (items_view left) (sym c.is_readable.ensures ∙ c.if-not-is_readable.true))
    ∙ sym (ap (λ vs. is_some (of_items (items_view vs))) (drop_step i all one (omega arith) c.item-item.is)) ∙ sym c.each.invariant ∙ whole

pub are_readable-each-preserved : goal.are_readable-each-preserved
are_readable-each-preserved t c =
    let all = c.deref-item-items.result.now in
    let i = c.each.item-index in
    let one = c.item-item.result in
    c.each.invariant ∙ ap (λ vs. is_some (of_items (items_view vs))) (drop_step i all one (omega arith) c.item-item.is)
    ∙ items_on (value_view one) (items_view (drop (i + 1) all)) (sym c.is_readable.ensures ∙ c.if-not-is_readable.false)

pub are_readable-returns : goal.are_readable-returns
are_readable-returns t c =
    let all = c.deref-item-items.result.now in
    let none = drop_end c.each.item-index all (omega arith) in
    let whole = ap (λ vs. is_some (of_items (items_view vs))) c.deref-item-items.ensures.value in
    sym (ap (λ vs. is_some (of_items (items_view vs))) none) ∙ sym c.each.invariant ∙ whole

pub members_are_readable-each-init : goal.members_are_readable-each-init
members_are_readable-each-init t c found = (found, refl)

pub members_are_readable-returns-then-not-is_readable : goal.members_are_readable-returns-then-not-is_readable
members_are_readable-returns-then-not-is_readable t c found =
    let all = c.deref-member-items.result.now in
    let i = c.each.member-index in
    let one = c.member-item.result in
    let l = c.each.invariant found in
    let whole = ap (λ ms. is_some (of_members (members_view ms) found)) c.deref-member-items.ensures.value in
    sym (members_off one.0.now (value_view one.1) (members_view (drop (i + 1) all)) l.0 (sym c.is_readable.ensures ∙ c.if-not-is_readable.true))
    ∙ sym (ap (λ ms. is_some (of_members (members_view ms) l.0)) (drop_step i all one (omega arith) c.member-item.is)) ∙ sym l.1 ∙ whole

pub members_are_readable-each-preserved : goal.members_are_readable-each-preserved
members_are_readable-each-preserved t c found =
    let all = c.deref-member-items.result.now in
    let i = c.each.member-index in
    let one = c.member-item.result in
    let l = c.each.invariant found in
    let next = members_on one.0.now (value_view one.1) (members_view (drop (i + 1) all)) l.0 (sym c.is_readable.ensures ∙ c.if-not-is_readable.false) in
    (next.0, l.1 ∙ ap (λ ms. is_some (of_members (members_view ms) l.0)) (drop_step i all one (omega arith) c.member-item.is) ∙ next.1)

pub members_are_readable-returns : goal.members_are_readable-returns
members_are_readable-returns t c found =
    let all = c.deref-member-items.result.now in
    let none = drop_end c.each.member-index all (omega arith) in
    let l = c.each.invariant found in
    let whole = ap (λ ms. is_some (of_members (members_view ms) found)) c.deref-member-items.ensures.value in
    sym (ap (λ ms. is_some (of_members (members_view ms) l.0)) none) ∙ sym l.1 ∙ whole
