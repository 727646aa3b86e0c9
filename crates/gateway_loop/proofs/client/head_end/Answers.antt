-- Each line ends at its line feed; behind it CRs are passed over.
use Rattle.std.proofs.Common.{◌≡◌, ◌≢◌, ◌≤◌, ◌<◌, ◌-◌, ◌+◌, ℕ, List, drop, length, length-drop}
use Rattle.std.proofs.Common.{slice_index, take, take_all, sym, ap, ◌∙◌, arith}
use Rattle.gateway_loop.proofs.Lines.{further, head_len-all, head_len-end, head_len-line, head_len-text}
use Rattle.gateway_loop.proofs.client.head_end.Goals as goal
use Rattle.gateway_loop.proofs.client.head_end.Goals.{else-at-bytes-via-else-at-bytes}
use Rattle.gateway_loop.proofs.client.head_end.Goals.{else-at-bytes-via-then-at-bytes+else-bytes-at-eq10}

-- what stands from a place on
all : (bs : List ℕ) (at : ℕ) → take (length bs - at) (drop at bs) ≡ drop at bs
all bs at =
    let fits : length (drop at bs) ≤ length bs - at = omega (length-drop at bs, arith) in
    take_all _ _ fits

pub returns-then-bytes-at-eq10-clause-head : goal.returns-then-bytes-at-eq10-clause-head
returns-then-bytes-at-eq10-clause-head c =
    let bs = c.args.bytes.now in
    let at = c.lines.at in
    let to = c.behind_crs-at.ensures in
    let line =
    head_len-line bs at c.lines.invariant.1 _ (all bs at) c.in-Some.line c.in-Some.ensures in
    let end = head_len-end bs _ c.if-at-bytes.true c.if-bytes-at-eq10.true in
    let so = further _ _ _ _ _ to.from line to.empty in
    sym (so ∙ ap (λ n. c.behind_crs-at.result + n) end)

pub lines-preserved : goal.lines-preserved
lines-preserved c =
    let bs = c.args.bytes.now in
    let at = c.lines.at in
    let r = c.behind_crs-at.result in
    let to = c.behind_crs-at.ensures in
    let line =
    head_len-line bs at c.lines.invariant.1 _ (all bs at) c.in-Some.line c.in-Some.ensures in
    let other : r < length bs → slice_index bs r ≢ 10 = elim c.else-at-bytes.branch [
      | else-at-bytes-via-then-at-bytes+else-bytes-at-eq10 w ↦ (λ l. w.if-bytes-at-eq10.false)
      | else-at-bytes-via-else-at-bytes w ↦ (λ l. absurd (omega arith))
    ] in
    let so = further _ _ _ _ _ to.from line to.empty in
    (to.fits, so ∙ ap (λ n. r + n) (head_len-text bs r other to.behind))

pub returns-clause-none : goal.returns-clause-none
returns-clause-none c =
    let bs = c.args.bytes.now in
    let at = c.lines.at in
    let so = c.lines.invariant in
    λ none. sym (head_len-all bs at so.1 _ (all bs at) so.0 c.in_default.ensures)
