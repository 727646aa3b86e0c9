use Rattle.std.proofs.Common.{◌<◌, ◌≤◌, length, map, ap, sym, ◌∙◌, arith}
use Rattle.std.specs.Prelude.{vec_capacity}
use Rattle.endpoint_table.specs.Tables.{peer_link}
use Rattle.endpoint_table.proofs.KeptRows.{kept-all, kept-more, kept-same, none-yet, undue}
use Rattle.endpoint_table.proofs.keeping.keep_rows.Goals as goal
use Rattle.endpoint_table.proofs.keeping.keep_rows.Goals.{then-has, else-has}

pub each-init : goal.each-init
each-init c = none-yet c.args.moment c.args.keeping.now c.args.rows.now.items

pub each-preserved : goal.each-preserved
each-preserved c =
    let t = c.args.moment in
    let ms = c.args.keeping.now in
    let xs = c.args.rows.now.items in
    let ys = c.each.rows.items in
    let test = c.each-test.true in
    let end = c.len-place-end.ensures in
    let n = c.args.rows.now.ok.0 in
    let long = c.each.invariant.long in
    let lt : c.each.place < length ys = omega (arith, test, end, n, long) in
    elim c.if-has.branch [
      | then-has w ↦ rw (w.rows-is, w.kept-is)
          (kept-more t ms xs ys c.each.kept c.each.place c.each.invariant lt
          w.keep_row.new.rows.items (sym c.has.ensures ∙ w.if-has.true)
          w.keep_row.ensures.kept w.keep_row.ensures.rest w.keep_row.ensures.len)
      | else-has w ↦ rw (w.rows-is, w.kept-is)
          (kept-same t ms xs ys c.each.kept c.each.place c.each.invariant lt
          (sym c.has.ensures ∙ w.if-has.false))
    ]

pub returns-clause-dues : goal.returns-clause-dues
returns-clause-dues c =
    let xs = c.args.rows.now.items in
    let test = c.each-test.false in
    let end = c.len-place-end.ensures in
    let n = c.args.rows.now.ok.0 in
    let past : length xs ≤ c.each.place = omega (arith, test, end, n) in
    let same = c.clear.ensures.capacity in
    undue c.args.moment c.args.keeping.now xs c.truncate.new.self.items c.args.dues.now.items
    c.clear.new.self.items (vec_capacity c.args.dues.now) (vec_capacity c.clear.new.self) c.requires
    (ap (map peer_link) c.truncate.ensures.items
    ∙ kept-all c.args.moment c.args.keeping.now xs c.each.rows.items c.each.kept c.each.place
    c.each.invariant past)
    c.clear.ensures.items (omega (arith, same))
