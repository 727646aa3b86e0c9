-- One more row is installed.
use Rattle.std.proofs.Common.{◌≡◌, ℕ, ◌+◌, ◌<◌, List, length, get_or, refl, ap, subst, ◌∙◌}
use Rattle.proxy_settings.specs.declared.resource.Resource.{Resource as Row}
use Rattle.device_server.specs.Rows.{IsRow}
use Rattle.device_server.proofs.Listed.{rows_next}
use Rattle.story_runs.proofs.play.tell_book.Goals as goal

pub each-preserved : goal.each-preserved
each-preserved g c =
    let rows = c.args.book.now.held.items in
    let row = c.row-item.result in
    let i = c.each.row-index in
    let L : List Row → Type 0 = λ xs. i < length xs in
    let S : Row → Type 0 = λ x. IsRow x c.in_ok-resource.resource in
    let at : row ≡ get_or rows i row =
    c.row-item.is
    ∙ ap (λ (xs : List Row). get_or xs i row) c.as_slice-row-items.ensures.value in (
      c.install.ensures.keep,
      rows_next rows c.each.all.items c.install.new.all.items i (i + 1) row
          c.in_ok-resource.resource refl c.in_ok-install.ensures.ok
          (subst L c.as_slice-row-items.ensures.value c.each-test.true) c.each.invariant.1
          (subst S at c.in_ok-resource.ensures.row),
    )
