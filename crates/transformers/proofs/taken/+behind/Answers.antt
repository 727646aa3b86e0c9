use Rattle.std.proofs.Common.{rules, arith, ◌≡◌, ◌+◌, ◌-◌, List, ℕ, true, false, true≢false, is_some, None, refl, sym, ap, ◌∙◌}
use Rattle.serde_json.specs.Data.{no_members}
use Rattle.serde_json.specs.Find.{get_member}
use Rattle.transformers.specs.Item.{item_at, next_item, next_member}
use Rattle.transformers.proofs.Items.{read_simple, read_headless, member_keyless}
use Rattle.transformers.proofs.Passing.{nothing, something, behind_body, behind_array, behind_map, behind_item, begins, none_yet, goes, stops, ends, one_more, member_passes, member_stops, member_again, one_more_of, never_keyless, never_stopped, left_from, at_start, at_end, put_same, put_other, text_same, text_other}
use Rattle.transformers.proofs.taken.+behind.Goals as goal
use Rattle.transformers.proofs.taken.+behind.Goals.{behind_members-else-compared-via-then-compared+else-is_among, behind_members-else-compared-via-else-compared, is_among-then-eq, is_among-else-eq}

pub behind-returns-in-Some : goal.behind-returns-in-Some
behind-returns-in-Some t c =
    something c.args.compared (item_at c.args.levels c.args.bytes.now) _ (read_simple c.args.levels c.args.bytes.now _ (sym c.in-Some.ensures))

pub behind-returns-in_err-major : goal.behind-returns-in_err-major
behind-returns-in_err-major t c =
    let gone : c.from_residual.result ≡ None = search rules in
    rw gone (nothing c.args.compared (item_at c.args.levels c.args.bytes.now) (read_headless c.args.levels c.args.bytes.now (sym c.in_default.ensures) (sym c.in_err-major.ensures)))

pub behind-returns : goal.behind-returns
behind-returns t c =
    behind_body c.args.compared c.args.levels c.args.bytes.now _ _ (sym c.in_default.ensures) (sym c.in_ok-major.ensures) c.behind_head.ensures

pub behind_head-returns-in-Array : goal.behind_head-returns-in-Array
behind_head-returns-in-Array t c =
    rw c.in-Array.is (behind_array c.args.compared c.args.levels c.args.argument c.args.bytes.now _ (omega arith) c.behind_items.ensures)

pub behind_head-returns-in-Map : goal.behind_head-returns-in-Map
behind_head-returns-in-Map t c =
    rw c.in-Map.is (behind_map c.args.compared c.args.levels c.args.argument c.args.bytes.now _ (omega arith) c.behind_members.ensures)

pub behind_items-returns-in_err-rest : goal.behind_items-returns-in_err-rest
behind_items-returns-in_err-rest t c =
    let gone : c.from_residual.result ≡ None = search rules in
    let one = next_item (item_at c.args.levels) in
    let l = c.each.invariant in
    rw gone (stops c.args.compared one c.args.count c.each.counter l.0 c.each.rest.now _ c.each-test.true (behind_item c.args.compared (item_at c.args.levels) l.0 c.each.rest.now None c.in_err-rest.ensures) l.1)

pub behind_items-each-preserved : goal.behind_items-each-preserved
behind_items-each-preserved t c =
    let one = next_item (item_at c.args.levels) in
    let l = c.each.invariant in
    let on = goes c.args.compared one c.args.count c.each.counter l.0 c.each.rest.now _ _ c.each-test.true (behind_item c.args.compared (item_at c.args.levels) l.0 c.each.rest.now _ c.in_ok-rest.ensures) l.1 in
    (on.0, on.1)

pub behind_items-returns : goal.behind_items-returns
behind_items-returns t c =
    let l = c.each.invariant in
    ends c.args.compared (next_item (item_at c.args.levels)) c.args.count c.each.counter l.0 c.each.rest.now _ c.each-test.false l.1

pub behind_members-each-init : goal.behind_members-each-init
behind_members-each-init t c =
    let one = next_member (item_at c.args.levels) in
    (no_members, begins c.args.compared one c.args.count no_members c.args.bytes.now, λ _. none_yet one no_members c.args.bytes.now)

pub behind_members-returns-then-is_among : goal.behind_members-returns-then-is_among
behind_members-returns-then-is_among t c =
    let one = item_at c.args.levels in
    let l = c.each.invariant in
    let again : is_some (get_member c.in_ok-name.name.now l.0) ≡ true = sym (c.is_among.ensures (l.0, c.each.rest.now) (l.2 c.if-compared.true)) ∙ c.if-is_among.true in
    stops c.args.compared (next_member one) c.args.count c.each.seen l.0 c.each.rest.now _ c.each-test.true (member_again c.args.compared one l.0 c.each.rest.now (c.in_ok-name.name.now, c.in_ok-name.value.now) (sym c.in_ok-name.ensures) again) l.1

pub behind_members-returns-in_err-name : goal.behind_members-returns-in_err-name
behind_members-returns-in_err-name t c =
    let gone : c.from_residual.result ≡ None = search rules in
    let one = item_at c.args.levels in
    let l = c.each.invariant in
    rw gone (stops c.args.compared (next_member one) c.args.count c.each.seen l.0 c.each.rest.now _ c.each-test.true (nothing c.args.compared (next_member one l.0 c.each.rest.now) (member_keyless one l.0 c.each.rest.now (sym c.in_err-name.ensures))) l.1)

pub behind_members-returns-in_err-rest : goal.behind_members-returns-in_err-rest
behind_members-returns-in_err-rest t c =
    let gone : c.from_residual-in_err-rest.result ≡ None = search rules in
    let one = item_at c.args.levels in
    let l = c.each.invariant in
    rw gone (stops c.args.compared (next_member one) c.args.count c.each.seen l.0 c.each.rest.now _ c.each-test.true (member_stops c.args.compared one l.0 c.each.rest.now (c.in_ok-name.name.now, c.in_ok-name.value.now) (sym c.in_ok-name.ensures) c.in_err-rest.ensures) l.1)

pub behind_members-each-preserved : goal.behind_members-each-preserved
behind_members-each-preserved t c =
    let one = item_at c.args.levels in
    let l = c.each.invariant in
    let new : c.args.compared ≡ true → is_some (get_member c.in_ok-name.name.now l.0) ≡ false = λ yes. elim c.else-compared.branch [
      | behind_members-else-compared-via-then-compared+else-is_among w ↦ sym (w.is_among.ensures (l.0, c.each.rest.now) (l.2 yes)) ∙ w.if-is_among.false
      | behind_members-else-compared-via-else-compared w ↦ absurd (true≢false (sym yes ∙ w.if-compared.false))
    ] in
    let passed = member_passes c.args.compared one l.0 c.each.rest.now (c.in_ok-name.name.now, c.in_ok-name.value.now) _ (sym c.in_ok-name.ensures) c.in_ok-rest.ensures new in
    let on = goes c.args.compared (next_member one) c.args.count c.each.seen l.0 c.each.rest.now _ _ c.each-test.true passed l.1 in
    (on.0, on.1, λ e. one_more (next_member one) c.each.seen no_members c.args.bytes.now (l.0, c.each.rest.now) _ (l.2 e) (on.2 e))

pub behind_members-returns : goal.behind_members-returns
behind_members-returns t c =
    let l = c.each.invariant in
    ends c.args.compared (next_member (item_at c.args.levels)) c.args.count c.each.seen l.0 c.each.rest.now _ c.each-test.false l.1

pub is_among-each-init : goal.is_among-each-init
is_among-each-init t c = λ x e. (no_members, at_start (item_at c.args.levels) c.args.count c.args.bytes.now x e, refl)

pub is_among-returns-in_default : goal.is_among-returns-in_default
is_among-returns-in_default t c = λ x e.
    (let l = c.each.invariant x e in
    absurd (never_keyless (item_at c.args.levels) c.args.count c.each.counter l.0 c.each.rest.now x c.each-test.true (sym (rw c.in_default.is at c.key.ensures)) l.1))

pub is_among-returns-in_default-behind : goal.is_among-returns-in_default-behind
is_among-returns-in_default-behind t c = λ x e.
    (let l = c.each.invariant x e in
    let m = one_more_of (item_at c.args.levels) c.args.count c.each.counter l.0 c.each.rest.now _ x c.each-test.true (sym c.in-Some.ensures) l.1 in
    absurd (never_stopped _ m.value m.value_is (rw c.in_default-behind.is at c.behind.ensures)))

pub is_among-each-preserved : goal.is_among-each-preserved
is_among-each-preserved t c = λ x e.
    (let l = c.each.invariant x e in
    let one = item_at c.args.levels in
    let k : List ℕ × List ℕ = (c.in-Some.other.now, c.in-Some.value.now) in
    let m = one_more_of one c.args.count c.each.counter l.0 c.each.rest.now k x c.each-test.true (sym c.in-Some.ensures) l.1 in
    let other = c.in-Some.other.now in
    let name = c.args.name.now in
    let found : is_some (get_member name m.all) ≡ c.if-eq.found = elim c.if-eq.branch [
      | is_among-then-eq w ↦ rw w.found-is (put_same name other m.value.0 l.0 m.all (text_same other name (sym c.eq.ensures ∙ w.if-eq.true)) m.all_is)
      | is_among-else-eq w ↦ rw w.found-is (put_other name other m.value.0 l.0 m.all (text_other other name (sym c.eq.ensures ∙ w.if-eq.false)) m.all_is ∙ l.2)
    ] in
    (m.all, left_from one (c.args.count - (c.each.counter + 1)) l.0 k x _ m c.in-Some-behind.ensures, found))

pub is_among-returns : goal.is_among-returns
is_among-returns t c = λ x e.
    (let l = c.each.invariant x e in
    let all = at_end (item_at c.args.levels) c.args.count c.each.counter l.0 c.each.rest.now x c.each-test.false l.1 in
    sym l.2 ∙ ap (λ ms. is_some (get_member c.args.name.now ms)) all)
