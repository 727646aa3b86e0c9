use Rattle.std.proofs.Common.{◌+◌, ◌++◌, ℕ, List, drop, get_or, subst, ap, ◌∙◌, arith}
use Rattle.std.specs.Option.{option_to_list}
use Rattle.std.proofs.lemmas.List.{drop_all, drop_more}
use Rattle.endpoint_table.specs.declared.endpoint.Endpoint.{Endpoint}
use Rattle.endpoint_table.specs.GivenUps.{given_by}
use Rattle.endpoint_table.specs.Tables.{peer_link}
use Rattle.endpoint_table.proofs.GivenRows.{given-done, given-more, given-next, GivenSoFar}
use Rattle.endpoint_table.proofs.Ticked.{map-set}
use Rattle.endpoint_table.proofs.given_up.given_up_all.Goals as goal

pub index_mut-requires : goal.index_mut-requires
index_mut-requires c =
    let ps = c.args.places.now in
    let k = c.each.place-index in
    let gs = c.each.given.items in
    let ys = c.each.rows.items in
    let xs = c.args.rows.now.items in
    let so_far = subst (λ (qs : List ℕ). GivenSoFar c.args.moment qs xs ys gs)
    (drop_more ps k 0 c.each-test.true) c.each.invariant in
    let reached = given-next c.args.moment ys gs (get_or ps k 0) (drop (k + 1) ps) xs so_far in
    let lt = reached.place in
    let n = c.each.rows.ok.0 in
    omega (arith, lt, n)

pub returns-in_err-push_given_up-clause-same : goal.returns-in_err-push_given_up-clause-same
returns-in_err-push_given_up-clause-same c =
    map-set peer_link c.each.rows.items (get_or c.args.places.now c.each.place-index 0)
    c.push_given_up.new.endpoint c.index_mut.result.now
    (c.push_given_up.ensures.same ∙ ap peer_link c.index_mut.ensures.value)
    ∙ c.each.invariant.same

pub each-preserved : goal.each-preserved
each-preserved c =
    let ps = c.args.places.now in
    let k = c.each.place-index in
    let p = get_or ps k 0 in
    let gs = c.each.given.items in
    let ys = c.each.rows.items in
    let xs = c.args.rows.now.items in
    let so_far = subst (λ (qs : List ℕ). GivenSoFar c.args.moment qs xs ys gs)
    (drop_more ps k 0 c.each-test.true) c.each.invariant in
    given-more c.args.moment ys gs p (drop (k + 1) ps) xs c.push_given_up.new.endpoint
    c.index_mut.result.now c.push_given_up.new.given.items so_far
    (c.push_given_up.ensures.same ∙ ap peer_link c.index_mut.ensures.value)
    (c.in_ok-push_given_up.ensures.given ∙ ap (λ (e : Endpoint).
    gs ++ option_to_list (given_by c.args.moment (peer_link e))) c.index_mut.ensures.value)

pub returns-clause-given : goal.returns-clause-given
returns-clause-given c =
    given-done c.args.moment c.each.rows.items c.each.given.items c.args.rows.now.items
    (subst (λ (qs : List ℕ).
    GivenSoFar c.args.moment qs c.args.rows.now.items c.each.rows.items c.each.given.items)
    (drop_all c.each.place-index c.args.places.now c.each-test.false) c.each.invariant)
