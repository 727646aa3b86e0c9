use Rattle.std.proofs.Common.{arith, ◌≡◌, ℕ, List, ◌++◌, sym, ap, ◌∙◌, string_bytes, refl}
use Rattle.std.proofs.lemmas.Result.{IfOk-weaker}
use Rattle.serde_json.specs.Data.{no_members}
use Rattle.serde_json.specs.Written.{compact_text}
use Rattle.transformers.specs.Item.{item_at, next_item, next_member}
use Rattle.transformers.proofs.Items.{read_headless, read_body, refused, item_refused, member_keyless, member_refused, member_equal, array_refused, map_refused}
use Rattle.transformers.proofs.Told.{as_read, told_simple, none_told, one_told, all_told, told_array, one_held, none_held, more_held, all_held, told_map, only_one, told_only}
use Rattle.transformers.proofs.item.+item.Goals as goal

pub item-returns-in-Some-clause-ok : goal.item-returns-in-Some-clause-ok
item-returns-in-Some-clause-ok t c =
    told_simple c.args.levels c.args.bytes.now c.in-Some.rest.now _ _ c.in-Some.value (sym c.in-Some.ensures) c.in_ok-put_simple.ensures

pub item-returns-in_default-head-clause-content : goal.item-returns-in_default-head-clause-content
item-returns-in_default-head-clause-content t c _ =
    read_headless c.args.levels c.args.bytes.now (sym c.in_default.ensures) (sym c.in_default-head.ensures)

pub item-returns-clause-ok : goal.item-returns-clause-ok
item-returns-clause-ok t c =
    IfOk-weaker c.body.result _ _ (λ rest told. as_read _ _ _ _ _ (read_body c.args.levels c.args.bytes.now _ (sym c.in_default.ensures) (sym c.in-Some-head.ensures)) told) c.body.ensures.ok

pub item-returns-clause-content : goal.item-returns-clause-content
item-returns-clause-content t c said =
    read_body c.args.levels c.args.bytes.now _ (sym c.in_default.ensures) (sym c.in-Some-head.ensures) ∙ c.body.ensures.content said

pub body-returns-in-Array-clause-ok : goal.body-returns-in-Array-clause-ok
body-returns-in-Array-clause-ok t c =
    rw c.in-Array.is (IfOk-weaker c.items.result _ _ (λ rest told. told_array c.args.levels c.args.argument c.args.bytes.now _ _ _ (omega (arith, c.if-levels-gt0.true)) told) c.items.ensures.ok)

pub body-returns-in-Array-clause-content : goal.body-returns-in-Array-clause-content
body-returns-in-Array-clause-content t c said =
    rw c.in-Array.is (array_refused c.args.levels c.args.argument c.args.bytes.now (omega (arith, c.if-levels-gt0.true)) (c.items.ensures.content said))

pub body-returns-in-Map-clause-ok : goal.body-returns-in-Map-clause-ok
body-returns-in-Map-clause-ok t c =
    rw c.in-Map.is (IfOk-weaker c.members.result _ _ (λ rest told. told_map c.args.levels c.args.argument c.args.bytes.now _ _ _ (omega arith) told) c.members.ensures.ok)

pub body-returns-in-Map-clause-content : goal.body-returns-in-Map-clause-content
body-returns-in-Map-clause-content t c said =
    rw c.in-Map.is (map_refused c.args.levels c.args.argument c.args.bytes.now (omega arith) (c.members.ensures.content said))

pub items-each-init : goal.items-each-init
items-each-init t c = none_told (item_at c.args.levels) c.args.count c.args.bytes.now _ _ c.in_ok-push.ensures.items

pub items-returns-in_err-rest-clause-content : goal.items-returns-in_err-rest-clause-content
items-returns-in_err-rest-clause-content t c said =
    let one = item_at c.args.levels in
    let ds = c.each.invariant.0 in
    refused (next_item one) c.args.count c.each.i ds c.each.rest.now _ c.each-test.true (item_refused one ds c.each.rest.now (c.item.ensures.content (grind arith))) c.each.invariant.2

pub items-each-preserved : goal.items-each-preserved
items-each-preserved t c =
    one_told (item_at c.args.levels) c.args.count c.each.i c.each.rest.now _ _ _ _ _ _ _ c.each-test.true refl c.each.invariant c.in_ok-put_comma.ensures c.in_ok-rest.ensures.ok

pub items-returns-clause-ok : goal.items-returns-clause-ok
items-returns-clause-ok t c =
    all_told (item_at c.args.levels) c.args.count c.each.i c.each.rest.now _ _ _ _ c.each-test.false c.each.invariant c.in_ok-push-2.ensures.items

pub member-returns-in_default-clause-content : goal.member-returns-in_default-clause-content
member-returns-in_default-clause-content t c said ms held =
    member_keyless (item_at c.args.levels) ms c.args.bytes.now (sym (rw c.in_default.is at c.key.ensures))

pub member-returns-in_err-rest-clause-content : goal.member-returns-in_err-rest-clause-content
member-returns-in_err-rest-clause-content t c said ms held =
    member_refused (item_at c.args.levels) ms c.args.bytes.now _ (sym c.in-Some.ensures) (c.item.ensures.content (grind arith))

pub member-returns-in_err-add_member-clause-content : goal.member-returns-in_err-add_member-clause-content
member-returns-in_err-add_member-clause-content t c said ms held =
    let told = c.in_ok-rest.ensures.ok in
    let named : string_bytes c.in_ok-name.name ≡ c.in-Some.name.now = c.in_ok-name.ensures.ok in
    let equal = rw named at (c.add_member.ensures.content (grind arith) ms told.value held) in
    member_equal (item_at c.args.levels) ms c.args.bytes.now _ _ (sym c.in-Some.ensures) told.is equal

pub member-returns-clause-ok : goal.member-returns-clause-ok
member-returns-clause-ok t c ms sound held =
    let told = c.in_ok-rest.ensures.ok in
    let named : string_bytes c.in_ok-name.name ≡ c.in-Some.name.now = c.in_ok-name.ensures.ok in
    let text = told.told ∙ ap (λ (old : List ℕ). old ++ compact_text told.value) c.new-piece.ensures.items in
    let added = rw named at (c.in_ok-add_member.ensures.ok ms told.value held text) in
    one_held (item_at c.args.levels) ms c.args.bytes.now c.in-Some.name.now c.in-Some.rest.now _ _ _ _ sound (sym c.in-Some.ensures) told added

pub members-returns-then-count-eq1-clause-ok : goal.members-returns-then-count-eq1-clause-ok
members-returns-then-count-eq1-clause-ok t c =
    IfOk-weaker c.only_member.result _ _ (λ rest told. as_read _ _ _ _ _ (only_one (item_at c.args.levels) c.args.count c.args.bytes.now c.if-count-eq1.true _ refl) told) c.only_member.ensures.ok

pub members-returns-then-count-eq1-clause-content : goal.members-returns-then-count-eq1-clause-content
members-returns-then-count-eq1-clause-content t c said =
    only_one (item_at c.args.levels) c.args.count c.args.bytes.now c.if-count-eq1.true _ (c.only_member.ensures.content said)

pub members-each-init : goal.members-each-init
members-each-init t c = none_held (item_at c.args.levels) c.args.count c.args.bytes.now _ c.new-found.ensures.empty

pub members-returns-in_err-rest-clause-content : goal.members-returns-in_err-rest-clause-content
members-returns-in_err-rest-clause-content t c said =
    let s = c.each.invariant in
    refused (next_member (item_at c.args.levels)) c.args.count c.each.counter s.0 c.each.rest.now _ c.each-test.true (c.member.ensures.content (grind arith) s.0 s.3) s.1

pub members-each-preserved : goal.members-each-preserved
members-each-preserved t c =
    let s = c.each.invariant in
    more_held (item_at c.args.levels) c.args.count c.each.counter c.each.rest.now _ _ _ _ c.each-test.true s (c.in_ok-rest.ensures.ok s.0 s.2 s.3)

pub members-returns-clause-ok : goal.members-returns-clause-ok
members-returns-clause-ok t c =
    all_held (item_at c.args.levels) c.args.count c.each.counter c.each.rest.now _ _ _ _ _ c.each-test.false c.each.invariant c.in_ok-push.ensures.items c.in_ok-put_pieces.ensures

pub only_member-returns-in_default-clause-content : goal.only_member-returns-in_default-clause-content
only_member-returns-in_default-clause-content t c said =
    member_keyless (item_at c.args.levels) no_members c.args.bytes.now (sym (rw c.in_default.is at c.key.ensures))

pub only_member-returns-in_err-rest-clause-content : goal.only_member-returns-in_err-rest-clause-content
only_member-returns-in_err-rest-clause-content t c said =
    member_refused (item_at c.args.levels) no_members c.args.bytes.now _ (sym c.in-Some.ensures) (c.item.ensures.content (grind arith))

pub only_member-returns-clause-ok : goal.only_member-returns-clause-ok
only_member-returns-clause-ok t c =
    told_only (item_at c.args.levels) c.args.bytes.now c.in-Some.name.now c.in-Some.rest.now _ _ _ _ _ _ _ (sym c.in-Some.ensures) c.in_ok-push.ensures.items c.in_ok-put_quoted.ensures c.in_ok-push-2.ensures.items c.in_ok-rest.ensures.ok c.in_ok-push-3.ensures.items
