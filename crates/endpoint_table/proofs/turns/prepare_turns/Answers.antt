use Rattle.std.proofs.Common.{◌+◌, ℕ, List, drop, get_or, set, subst, ap, sym, ◌∙◌, arith}
use Rattle.std.proofs.lemmas.List.{drop_all, drop_more}
use Rattle.exchange_model.specs.Calls.{link_due}
use Rattle.endpoint_table.specs.declared.endpoint.Endpoint.{Endpoint}
use Rattle.endpoint_table.specs.declared.turns.Turn.{Turn}
use Rattle.endpoint_table.specs.Tables.{peer_link}
use Rattle.endpoint_table.proofs.DueRows.{turn-more, turn-next, turns-done, TurnsSoFar}
use Rattle.endpoint_table.proofs.Ticked.{map-set}
use Rattle.endpoint_table.proofs.turns.prepare_turns.Goals as goal

pub index_mut-requires : goal.index_mut-requires
index_mut-requires c =
    let ps = c.args.places.now in
    let k = c.each.place-index in
    let ks = c.each.turns.items in
    let ys = c.each.rows.items in
    let xs = c.args.rows.now.items in
    let so_far = subst (λ (qs : List ℕ). TurnsSoFar c.args.moment c.args.gone.now qs xs ys ks)
    (drop_more ps k 0 c.each-test.true) c.each.invariant in
    let reached =
    turn-next c.args.moment c.args.gone.now ys ks (get_or ps k 0) (drop (k + 1) ps) xs so_far in
    let lt = reached.place in
    let n = c.each.rows.ok.0 in
    omega (arith, lt, n)

pub push_turn-requires-clause-due : goal.push_turn-requires-clause-due
push_turn-requires-clause-due c =
    let ps = c.args.places.now in
    let k = c.each.place-index in
    let ks = c.each.turns.items in
    let ys = c.each.rows.items in
    let xs = c.args.rows.now.items in
    let so_far = subst (λ (qs : List ℕ). TurnsSoFar c.args.moment c.args.gone.now qs xs ys ks)
    (drop_more ps k 0 c.each-test.true) c.each.invariant in
    let reached =
    turn-next c.args.moment c.args.gone.now ys ks (get_or ps k 0) (drop (k + 1) ps) xs so_far in
    ap (λ (e : Endpoint). link_due c.args.moment (peer_link e)) c.index_mut.ensures.value
    ∙ reached.due c.index_mut.result.now

pub returns-in_err-push_turn-clause-same : goal.returns-in_err-push_turn-clause-same
returns-in_err-push_turn-clause-same c =
    map-set peer_link c.each.rows.items (get_or c.args.places.now c.each.place-index 0)
    c.push_turn.new.endpoint c.index_mut.result.now
    (c.push_turn.ensures.same ∙ ap peer_link c.index_mut.ensures.value)
    ∙ c.each.invariant.same

pub each-preserved : goal.each-preserved
each-preserved c =
    let t = c.args.moment in
    let gone = c.args.gone.now in
    let ps = c.args.places.now in
    let k = c.each.place-index in
    let p = get_or ps k 0 in
    let ks = c.each.turns.items in
    let ys = c.each.rows.items in
    let xs = c.args.rows.now.items in
    let so_far = subst (λ (qs : List ℕ). TurnsSoFar t gone qs xs ys ks)
    (drop_more ps k 0 c.each-test.true) c.each.invariant in
    let h = c.in_ok-push_turn.ensures.turn in
    subst (λ (js : List Turn).
    TurnsSoFar t gone (drop (k + 1) ps) xs (set ys p c.push_turn.new.endpoint) js) (sym {A = List Turn} h.1)
    (turn-more t gone ys ks p (drop (k + 1) ps) xs c.push_turn.new.endpoint
    c.index_mut.result.now h.0 so_far
    (c.push_turn.ensures.same ∙ ap peer_link c.index_mut.ensures.value) h.2)

pub returns-clause-turns : goal.returns-clause-turns
returns-clause-turns c =
    turns-done c.args.moment c.args.gone.now c.each.rows.items c.each.turns.items
    c.args.rows.now.items
    (subst (λ (qs : List ℕ). TurnsSoFar c.args.moment c.args.gone.now qs c.args.rows.now.items
    c.each.rows.items c.each.turns.items)
    (drop_all c.each.place-index c.args.places.now c.each-test.false) c.each.invariant)
