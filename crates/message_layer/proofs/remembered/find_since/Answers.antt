use Rattle.std.proofs.Common.{◌≡◌, ◌+◌, ◌∷◌, List, drop, filter, sym, ◌∙◌, ap, arith}
use Rattle.std.specs.List.{find}
use Rattle.std.proofs.lemmas.List.{drop_more, drop_all}
use Rattle.message_layer.specs.declared.state.Heard.{Heard}
use Rattle.message_layer.specs.Kept.{is_since}
use Rattle.message_layer.specs.Remembering.{is_repeat, moment_heard}
use Rattle.message_layer.proofs.KeptLaws.{find-here, find-skip}
use Rattle.message_layer.proofs.remembered.find_since.Goals as goal

pub each-preserved : goal.each-preserved
each-preserved c =
    let p = is_repeat c.args.moment c.args.mid in
    let q = is_since moment_heard c.args.since in
    let ms = c.args.series.now.items in
    let h = c.at-h.result in
    let here : drop c.each.i ms ≡ h ∷ drop (c.each.i + 1) ms =
    drop_more ms c.each.i h (omega (arith, c.len-i-end.ensures.all))
    ∙ ap (λ (m : Heard). m ∷ drop (c.each.i + 1) ms) (sym c.at-h.ensures) in
    c.each.invariant ∙ ap (λ (xs : List Heard). find p (filter q xs)) here
    ∙ find-skip p q h (drop (c.each.i + 1) ms) (sym c.is_repeat_since.ensures ∙ c.if-is_repeat_since.false)

pub returns-then-is_repeat_since : goal.returns-then-is_repeat_since
returns-then-is_repeat_since c =
    let p = is_repeat c.args.moment c.args.mid in
    let q = is_since moment_heard c.args.since in
    let ms = c.args.series.now.items in
    let h = c.at-h.result in
    let here : drop c.each.i ms ≡ h ∷ drop (c.each.i + 1) ms =
    drop_more ms c.each.i h (omega (arith, c.len-i-end.ensures.all))
    ∙ ap (λ (m : Heard). m ∷ drop (c.each.i + 1) ms) (sym c.at-h.ensures) in
    find-here p q h (drop (c.each.i + 1) ms) (sym c.is_repeat_since.ensures ∙ c.if-is_repeat_since.true)
    ∙ sym (c.each.invariant ∙ ap (λ (xs : List Heard). find p (filter q xs)) here)

pub returns : goal.returns
returns c =
    let p = is_repeat c.args.moment c.args.mid in
    let q = is_since moment_heard c.args.since in
    let ms = c.args.series.now.items in
    sym (c.each.invariant ∙ ap (λ (xs : List Heard). find p (filter q xs)) (drop_all c.each.i ms (omega (arith, c.len-i-end.ensures.all))))
