use Rattle.std.proofs.Common.{◌≡◌, ◌∙◌, sym, refl, arith}
use Rattle.media_map.proofs.Trimming.{shortened, ended}
use Rattle.media_map.proofs.text.trim_end.Goals.{then-each-test+else-is_blank_byte, else-each-test}
use Rattle.media_map.proofs.text.trim_end.Goals as goal

pub each-preserved : goal.each-preserved
each-preserved c =
    (c.each.invariant.0 ∙ shortened c.args.text.now c.each.len c.each-test.true c.each.invariant.1 (sym c.is_blank_byte.ensures ∙ c.if-is_blank_byte.true), omega (arith, c.each.invariant.1))

pub returns : goal.returns
returns c =
    elim c.each-test.branch [
      | then-each-test+else-is_blank_byte w ↦
          sym (c.each.invariant.0 ∙ ended c.args.text.now c.each.len w.each-test.true c.each.invariant.1 (sym w.is_blank_byte.ensures ∙ w.if-is_blank_byte.false))
      | else-each-test w ↦
          let e : c.each.len ≡ 0 = omega (arith, w.each-test.false) in
          sym (c.each.invariant.0 ∙ rw e refl)
    ]
