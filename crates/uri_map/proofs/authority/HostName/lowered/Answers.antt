use Rattle.std.proofs.Common.{◌≡◌, length, take, sym, ◌∙◌, arith}
use Rattle.std.proofs.lemmas.List.{length-take-le}
use Rattle.uri_map.proofs.Lowering.{all_read, no_bytes, no_utf8, is_found}
use Rattle.uri_map.proofs.authority.HostName.lowered.Goals as goal
use Rattle.uri_map.proofs.authority.HostName.lowered.Goals.{then-len-eq0-via-then-len-eq0, then-len-eq0-via-else-len-eq0+then-not-is_text}

pub returns-then-len-eq0 : goal.returns-then-len-eq0
returns-then-len-eq0 c =
    let same = all_read _ _ _ c.in_default.ensures.steps.0 c.each.invariant.read in
    let size : length (take c.each.len c.each.bytes) ≡ c.each.len = length-take-le c.each.len c.each.bytes (omega (arith, c.each.invariant.within, c.each.invariant.size)) in
    elim c.then-len-eq0.branch [
      | then-len-eq0-via-then-len-eq0 w ↦ no_bytes _ _ same (size ∙ w.if-len-eq0.true)
      | then-len-eq0-via-else-len-eq0+then-not-is_text w ↦ no_utf8 _ _ same (sym w.is_text.ensures ∙ w.if-not-is_text.true)
    ]

pub returns : goal.returns
returns c =
    let same = all_read _ _ _ c.in_default.ensures.steps.0 c.each.invariant.read in
    let size : length (take c.each.len c.each.bytes) ≡ c.each.len = length-take-le c.each.len c.each.bytes (omega (arith, c.each.invariant.within, c.each.invariant.size)) in
    (same, is_found _ _ same (omega (arith, size, c.if-len-eq0.false)) (omega (arith, size, c.each.invariant.within)) (sym c.is_text.ensures ∙ c.if-not-is_text.false))
