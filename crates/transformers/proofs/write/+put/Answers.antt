use Rattle.std.proofs.Common.{arith, rules, ℕ, ◌+◌, List, Bor, ◌≡◌, drop, is_some, true≢false, refl, sym, ap, ◌∙◌, subst}
use Rattle.std.proofs.lemmas.Result.{on_ok_weaker}
use Rattle.json.specs.Json as json
use Rattle.json.specs.Value.{value_view, items_view, members_view}
use Rattle.json.specs.declared.value.Value.{the_lemmas}
use Rattle.json.proofs.Trees.{view-Array, view-Object}
use Rattle.serde_json.specs.Data.{no_members}
use Rattle.serde_json.specs.Events.{members_len}
use Rattle.serde_json.specs.Read.{of_json, of_items, of_members}
use Rattle.transformers.specs.Puts.{ArePlaced}
use Rattle.transformers.proofs.Placing.{places_counted, place_within, member_readable, member_put, member_refused, members_at, members_begun, members_done, front_put, member_told, only_list, only_readable, only_put, only_refused}
use Rattle.transformers.proofs.Putting.{some_of, is_some_of, drop_step, as_put, as_refused, items_counted, items_begun, items_at, item_readable, item_put, item_refused, items_done, array_put, array_refused, array_too_deep, object_put, object_refused, object_too_deep}
use Rattle.transformers.proofs.Standing.{drop_end, items_on, some_array, some_object}
use Rattle.transformers.proofs.write.+put.Goals as goal

-- ---- any value

pub put-put_items-requires : goal.put-put_items-requires
put-put_items-requires t c =
    let items = c.in-Array.items in
    let seen = ap value_view c.in-Array.is ∙ view-Array items in
    (omega (arith, c.decreases, c.if-levels-gt0.true), λ h. sym (some_array (of_items (items_view items.items))) ∙ sym (ap (λ j. is_some (of_json j)) seen) ∙ c.requires h)

pub put-put_members-requires : goal.put-put_members-requires
put-put_members-requires t c =
    let members = c.in-Object.members in
    let seen = ap value_view c.in-Object.is ∙ view-Object members in
    (omega (arith, c.decreases, c.if-levels-gt0-2.true), λ h. sym (some_object (of_members (members_view members.items) no_members)) ∙ sym (ap (λ j. is_some (of_json j)) seen) ∙ c.requires h)

pub put-returns-in-Null-clause-ok : goal.put-returns-in-Null-clause-ok
put-returns-in-Null-clause-ok t c =
    let seen : json.null ≡ value_view c.args.value.now = rw c.in-Null.is (search (rules, the_lemmas)) in
    on_ok_weaker c.put_word.result (λ p. as_put c.args.levels _ _ _ _ (ap of_json (sym seen)) p) c.put_word.ensures.ok

pub put-returns-in-Bool-clause-ok : goal.put-returns-in-Bool-clause-ok
put-returns-in-Bool-clause-ok t c =
    let seen : json.boolean c.in-Bool.b ≡ value_view c.args.value.now = rw c.in-Bool.is (search (rules, the_lemmas)) in
    on_ok_weaker c.put_word-in-Bool.result (λ p. as_put c.args.levels _ _ _ _ (ap of_json (sym seen)) p) c.put_word-in-Bool.ensures.ok

pub put-returns-in-Number-clause-ok : goal.put-returns-in-Number-clause-ok
put-returns-in-Number-clause-ok t c =
    let seen : json.number c.in-Number.text.now ≡ value_view c.args.value.now = rw c.in-Number.is (search (rules, the_lemmas)) in
    on_ok_weaker c.put_number.result (λ p. as_put c.args.levels _ _ _ _ (ap of_json (sym seen)) p) c.put_number.ensures.ok

pub put-returns-in-Number-clause-content : goal.put-returns-in-Number-clause-content
put-returns-in-Number-clause-content t c said =
    let seen : json.number c.in-Number.text.now ≡ value_view c.args.value.now = rw c.in-Number.is (search (rules, the_lemmas)) in
    as_refused c.args.levels _ _ (ap of_json (sym seen)) (c.put_number.ensures.content said)

pub put-returns-in-String-clause-ok : goal.put-returns-in-String-clause-ok
put-returns-in-String-clause-ok t c =
    let seen : json.string c.in-String.text.now ≡ value_view c.args.value.now = rw c.in-String.is (search (rules, the_lemmas)) in
    on_ok_weaker c.put_string.result (λ p. as_put c.args.levels _ _ _ _ (ap of_json (sym seen)) p) c.put_string.ensures.ok

pub put-returns-in-Array-clause-ok : goal.put-returns-in-Array-clause-ok
put-returns-in-Array-clause-ok t c =
    let items = c.in-Array.items in
    let seen = ap value_view c.in-Array.is ∙ view-Array items in
    on_ok_weaker c.put_items.result (λ p. as_put c.args.levels _ _ _ _ (ap of_json seen) (array_put c.args.levels _ _ _ (omega (arith, c.if-levels-gt0.true)) p)) c.put_items.ensures.ok

pub put-returns-in-Array-clause-content : goal.put-returns-in-Array-clause-content
put-returns-in-Array-clause-content t c said =
    let items = c.in-Array.items in
    let seen = ap value_view c.in-Array.is ∙ view-Array items in
    as_refused c.args.levels _ _ (ap of_json seen) (array_refused c.args.levels _ (omega (arith, c.if-levels-gt0.true)) (c.put_items.ensures.content said))

pub put-returns-in-Object-clause-ok : goal.put-returns-in-Object-clause-ok
put-returns-in-Object-clause-ok t c =
    let members = c.in-Object.members in
    let seen = ap value_view c.in-Object.is ∙ view-Object members in
    on_ok_weaker c.put_members.result (λ p. as_put c.args.levels _ _ _ _ (ap of_json seen) (object_put c.args.levels _ _ _ (omega (arith, c.if-levels-gt0-2.true)) p)) c.put_members.ensures.ok

pub put-returns-in-Object-clause-content : goal.put-returns-in-Object-clause-content
put-returns-in-Object-clause-content t c said =
    let members = c.in-Object.members in
    let seen = ap value_view c.in-Object.is ∙ view-Object members in
    as_refused c.args.levels _ _ (ap of_json seen) (object_refused c.args.levels _ (omega (arith, c.if-levels-gt0-2.true)) (c.put_members.ensures.content said))

pub put-returns-in-Array-2-clause-content : goal.put-returns-in-Array-2-clause-content
put-returns-in-Array-2-clause-content t c said =
    let items = c.in-Array.items in
    let seen = ap value_view c.in-Array.is ∙ view-Array items in
    as_refused c.args.levels _ _ (ap of_json seen) (array_too_deep c.args.levels _ (omega (arith, c.if-levels-gt0.false)))

pub put-returns-in-Array-2-2-clause-content : goal.put-returns-in-Array-2-2-clause-content
put-returns-in-Array-2-2-clause-content t c said =
    let members = c.in-Object.members in
    let seen = ap value_view c.in-Object.is ∙ view-Object members in
    as_refused c.args.levels _ _ (ap of_json seen) (object_too_deep c.args.levels _ (omega (arith, c.if-levels-gt0-2.false)))

-- ---- arrays

pub put_items-each-init : goal.put_items-each-init
put_items-each-init t c = (refl, λ all is. items_begun c.args.levels c.deref-item-items.result.now all _ _ is refl)

pub put_items-put-requires : goal.put_items-put-requires
put_items-put-requires t c =
    let vs = c.deref-item-items.result.now in
    let one = c.item-item.result in
    let step = drop_step c.each.item-index vs one (omega arith) c.item-item.is in
    let same = ap (λ ws. of_items (items_view ws)) c.deref-item-items.ensures.value in (
      omega (arith, c.decreases),
      λ h. (let all = some_of (of_items (items_view c.args.items.now.items)) (c.requires h) in
          item_readable c.args.levels one _ all.0 _ _ (items_at c.args.levels _ _ all.0 _ _ step (c.each.invariant.1 all.0 (same ∙ all.1)))),
    )

pub put_items-returns-in_err-put-clause-content : goal.put_items-returns-in_err-put-clause-content
put_items-returns-in_err-put-clause-content t c said x is =
    let vs = c.deref-item-items.result.now in
    let one = c.item-item.result in
    let step = drop_step c.each.item-index vs one (omega arith) c.item-item.is in
    let same = ap (λ ws. of_items (items_view ws)) c.deref-item-items.ensures.value in
    item_refused c.args.levels one _ x _ _ _ (items_at c.args.levels _ _ x _ _ step (c.each.invariant.1 x (same ∙ is))) is (c.put.ensures.content (grind arith)) x is

pub put_items-each-preserved : goal.put_items-each-preserved
put_items-each-preserved t c =
    let vs = c.deref-item-items.result.now in
    let i = c.each.item-index in
    let one = c.item-item.result in
    let l = c.each.invariant in
    let step = drop_step i vs one (omega arith) c.item-item.is in
    let put = c.in_ok-put.ensures.ok in
    let some = l.0 ∙ ap (λ ws. is_some (of_items (items_view ws))) step ∙ items_on (value_view one) (items_view (drop (i + 1) vs)) (is_some_of (of_json (value_view one)) put.value put.is) in
    (some, λ all is. item_put c.args.levels one _ all _ _ _ (items_at c.args.levels _ _ all _ _ step (l.1 all is)) put)

pub put_items-returns-clause-ok : goal.put_items-returns-clause-ok
put_items-returns-clause-ok t c =
    let vs = c.deref-item-items.result.now in
    let l = c.each.invariant in
    let none = drop_end c.each.item-index vs (omega arith) in
    let all = some_of (of_items (items_view vs)) (l.0 ∙ ap (λ ws. is_some (of_items (items_view ws))) none) in
    let is = sym (ap (λ ws. of_items (items_view ws)) c.deref-item-items.ensures.value) ∙ all.1 in
    items_done c.args.levels _ all.0 _ _ _ _ (items_at c.args.levels _ _ all.0 _ _ none (l.1 all.0 all.1)) is c.in_ok-put_head.ensures (omega (arith, c.len.ensures, items_counted c.args.items.now.items all.0 is))

-- ---- members

pub put_member-returns-clause-ok : goal.put_member-returns-clause-ok
put_member-returns-clause-ok t c =
    on_ok_weaker c.put.result (λ p. member_told c.args.levels c.args.key.now _ _ _ _ c.put_text.ensures.utf8 c.in_ok-put_text.ensures.ok p) c.put.ensures.ok

pub put_members-put_member-requires : goal.put_members-put_member-requires
put_members-put_member-requires t c =
    let e = c.index-only.result.now in
    let only = only_list c.args.members.now.items e (omega (arith, c.if-len-eq1.true, c.len.ensures)) c.index-only.ensures in
    (omega (arith, c.decreases), λ h. only_readable e _ (ap (λ es. of_members (members_view es) no_members) only) (c.requires h))

pub put_members-returns-then-len-eq1-clause-ok : goal.put_members-returns-then-len-eq1-clause-ok
put_members-returns-then-len-eq1-clause-ok t c =
    let e = c.index-only.result.now in
    let only = only_list c.args.members.now.items e (omega (arith, c.if-len-eq1.true, c.len.ensures)) c.index-only.ensures in
    on_ok_weaker c.put_member.result (λ p. only_put c.args.levels e _ _ _ _ (ap (λ es. of_members (members_view es) no_members) only) c.in_ok-put_head.ensures p) c.put_member.ensures.ok

pub put_members-returns-then-len-eq1-clause-content : goal.put_members-returns-then-len-eq1-clause-content
put_members-returns-then-len-eq1-clause-content t c said =
    let e = c.index-only.result.now in
    let only = only_list c.args.members.now.items e (omega (arith, c.if-len-eq1.true, c.len.ensures)) c.index-only.ensures in
    only_refused c.args.levels e _ (ap (λ es. of_members (members_view es) no_members) only) (c.put_member.ensures.content said)

pub put_members-are_known-requires : goal.put_members-are_known-requires
put_members-are_known-requires t c = c.requires

pub put_members-returns-then-not-are_known-clause-content : goal.put_members-returns-then-not-are_known-clause-content
put_members-returns-then-not-are_known-clause-content t c said x is within =
    true≢false (sym (ap is_some is) ∙ sym c.are_known.ensures ∙ c.if-not-are_known.true)

pub put_members-returns-in_err-places-clause-content : goal.put_members-returns-in_err-places-clause-content
put_members-returns-in_err-places-clause-content t c said = absurd (c.places_of.ensures.memory (grind arith))

pub put_members-put_placed-requires : goal.put_members-put_placed-requires
put_members-put_placed-requires t c =
    let total = some_of (of_members (members_view c.args.members.now.items) no_members) (sym c.are_known.ensures ∙ c.if-not-are_known.false) in
    let placed = c.in_ok-places.ensures.placed total.0 total.1 in
    (omega (arith, c.decreases), (total.0, placed.0, placed.1))

pub put_members-returns-clause-ok : goal.put_members-returns-clause-ok
put_members-returns-clause-ok t c =
    let total = some_of (of_members (members_view c.args.members.now.items) no_members) (sym c.are_known.ensures ∙ c.if-not-are_known.false) in
    let placed = c.in_ok-places.ensures.placed total.0 total.1 in
    let counted : c.len-2.result ≡ members_len total.0 = c.len-2.ensures.len ∙ sym (places_counted c.args.members.now.items _ total.0 placed.0) in
    on_ok_weaker c.put_placed.result (λ front. front_put c.args.levels _ _ total.0 _ _ _ total.1 c.in_ok-put_head-2.ensures counted (front total.0 placed.0 placed.1)) c.put_placed.ensures.ok

pub put_members-returns-clause-content : goal.put_members-returns-clause-content
put_members-returns-clause-content t c said =
    let total = some_of (of_members (members_view c.args.members.now.items) no_members) (sym c.are_known.ensures ∙ c.if-not-are_known.false) in
    let placed = c.in_ok-places.ensures.placed total.0 total.1 in
    λ x e. c.put_placed.ensures.content said total.0 placed.0 placed.1 x (sym total.1 ∙ e)

-- ---- those that count

pub put_placed-each-init : goal.put_placed-each-init
put_placed-each-init t c ms placed keys =
    members_begun c.args.members.now.items c.args.levels _ ms _ (subst (λ es. ArePlaced c.args.members.now.items es ms) (sym c.iter-left.ensures.rest) placed) keys

pub put_placed-index-requires : goal.put_placed-index-requires
put_placed-index-requires t c =
    let need = c.requires in
    let e : Bor (List ℕ) × ℕ = (c.in-Some.key.now, c.in-Some.place.now) in
    omega (arith, c.args.members.now.ok.0, place_within c.args.members.now.items c.args.levels e c.next.new.self need.0 _ _ (members_at c.args.members.now.items c.args.levels _ _ need.0 _ _ c.in-Some.ensures.steps (c.each.invariant need.0 need.1 need.2)))

pub put_placed-put_member-requires : goal.put_placed-put_member-requires
put_placed-put_member-requires t c =
    let need = c.requires in
    let e : Bor (List ℕ) × ℕ = (c.in-Some.key.now, c.in-Some.place.now) in
    (omega (arith, c.decreases), λ _. member_readable c.args.members.now.items c.args.levels e c.next.new.self need.0 _ _ c.index.result.now (members_at c.args.members.now.items c.args.levels _ _ need.0 _ _ c.in-Some.ensures.steps (c.each.invariant need.0 need.1 need.2)) c.index.ensures)

pub put_placed-returns-in_err-put_member-clause-content : goal.put_placed-returns-in_err-put_member-clause-content
put_placed-returns-in_err-put_member-clause-content t c said ms placed keys =
    let e : Bor (List ℕ) × ℕ = (c.in-Some.key.now, c.in-Some.place.now) in
    member_refused c.args.members.now.items c.args.levels e c.next.new.self ms _ _ c.index.result.now (members_at c.args.members.now.items c.args.levels _ _ ms _ _ c.in-Some.ensures.steps (c.each.invariant ms placed keys)) c.index.ensures (c.put_member.ensures.content (grind arith))

pub put_placed-each-preserved : goal.put_placed-each-preserved
put_placed-each-preserved t c ms placed keys =
    let e : Bor (List ℕ) × ℕ = (c.in-Some.key.now, c.in-Some.place.now) in
    member_put c.args.members.now.items c.args.levels e c.next.new.self ms _ _ _ c.index.result.now (members_at c.args.members.now.items c.args.levels _ _ ms _ _ c.in-Some.ensures.steps (c.each.invariant ms placed keys)) c.index.ensures c.in_ok-put_member.ensures.ok

pub put_placed-returns-clause-ok : goal.put_placed-returns-clause-ok
put_placed-returns-clause-ok t c ms placed keys =
    members_done c.args.members.now.items c.args.levels ms _ _ (members_at c.args.members.now.items c.args.levels _ _ ms _ _ c.in_default.ensures.steps.0 (c.each.invariant ms placed keys))
