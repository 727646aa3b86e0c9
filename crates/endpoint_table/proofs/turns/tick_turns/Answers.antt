use Rattle.std.proofs.Common.{◌<◌, ◌≤◌, ◌+◌, List, length, map, drop, get_or, refl, sym, ap, subst, ◌∙◌, arith}
use Rattle.std.proofs.Math.ListN.{length-set}
use Rattle.std.proofs.lemmas.Option.{slice_get-get_or}
use Rattle.message_layer.specs.Calls.{is_among}
use Rattle.message_layer.specs.Prepared.{IsTicking}
use Rattle.exchange_model.specs.Entering.{link_after}
use Rattle.endpoint_table.specs.declared.endpoint.Endpoint.{Endpoint}
use Rattle.endpoint_table.specs.Tables.{has_room, peer_link}
use Rattle.endpoint_table.specs.Turns.{AreTurns}
use Rattle.endpoint_table.proofs.Ticked.{AreDone, done-all, done-more, drop-set, left-there, takes-turn}
use Rattle.endpoint_table.proofs.Timers.{got-is}
use Rattle.endpoint_table.proofs.turns.tick_turns.Goals as goal

pub each-init : goal.each-init
each-init c =
    record { done = refl; ready = c.requires.ready; dues = c.requires.dues; as_many = refl }

pub index-requires : goal.index-requires
index-requires c =
    let test = c.each-test.true in
    let end = c.len-place-end.ensures in
    let n = c.args.rows.now.ok.0 in
    let m = c.each.rows.ok.0 in
    let same = c.each.invariant.as_many in
    omega (arith, test, end, n, m, same)

pub tick_at-requires-clause-place : goal.tick_at-requires-clause-place
tick_at-requires-clause-place c =
    let test = c.each-test.true in
    let end = c.len-place-end.ensures in
    let n = c.args.rows.now.ok.0 in
    let same = c.each.invariant.as_many in
    omega (arith, test, end, n, same)

pub tick_at-requires-clause-ready : goal.tick_at-requires-clause-ready
tick_at-requires-clause-ready c = λ e k.
    let t = c.args.moment in
    let gone = c.args.gone.now in
    let ys = c.each.rows.items in
    let i = c.each.place in
    let z = c.index.result.now in
    let test = c.each-test.true in
    let end = c.len-place-end.ensures in
    let n = c.args.rows.now.ok.0 in
    let same = c.each.invariant.as_many in
    let lt : i < length ys = omega (arith, test, end, n, same) in
    subst (λ (y : Endpoint). IsTicking t gone y.link c.take_ticking-ticking.result)
    (c.index.ensures ∙ got-is ys i e z k)
    ((takes-turn t gone z c.each.turns.items c.take_ticking-ticking.new.turns.items
    c.take_ticking-ticking.result _
    (left-there t gone ys i z c.each.turns.items lt c.index.ensures c.each.invariant.ready)
    c.take_ticking-ticking.ensures.due c.take_ticking-ticking.ensures.rests).does)

pub each-preserved : goal.each-preserved
each-preserved c =
    let t = c.args.moment in
    let gone = c.args.gone.now in
    let f = link_after t (is_among gone) in
    let ys = c.each.rows.items in
    let i = c.each.place in
    let z = c.index.result.now in
    let test = c.each-test.true in
    let end = c.len-place-end.ensures in
    let n = c.args.rows.now.ok.0 in
    let same = c.each.invariant.as_many in
    let lt : i < length ys = omega (arith, test, end, n, same) in
    let left = c.take_ticking-ticking.new.turns.items in
    let takes = takes-turn t gone z c.each.turns.items left c.take_ticking-ticking.result _
    (left-there t gone ys i z c.each.turns.items lt c.index.ensures c.each.invariant.ready)
    c.take_ticking-ticking.ensures.due c.take_ticking-ticking.ensures.rests in
    let row = c.tick_at.ensures.row (get_or ys i z) (slice_get-get_or ys i z lt) in
    record {
      done = subst (λ (xs : List Endpoint). AreDone f (i + 1) xs c.args.rows.now.items)
          (sym row.1)
          (done-more f i ys c.args.rows.now.items row.0 z lt c.each.invariant.done row.2);
      ready = subst (λ (xs : List Endpoint). AreTurns t gone (map peer_link (drop (i + 1) xs))
          (map has_room (drop (i + 1) xs)) left) (sym row.1)
          (subst (λ (zs : List Endpoint). AreTurns t gone (map peer_link zs) (map has_room zs) left)
          (sym (drop-set ys i row.0)) takes.others);
      dues = c.tick_at.ensures.dues;
      as_many = ap length row.1 ∙ (length-set ys i row.0 ∙ same);
    }

pub returns-clause-links : goal.returns-clause-links
returns-clause-links c =
    let test = c.each-test.false in
    let end = c.len-place-end.ensures in
    let n = c.args.rows.now.ok.0 in
    let same = c.each.invariant.as_many in
    let le : length c.each.rows.items ≤ c.each.place = omega (arith, test, end, n, same) in
    done-all (link_after c.args.moment (is_among c.args.gone.now)) c.each.place c.each.rows.items
    c.args.rows.now.items le c.each.invariant.done
