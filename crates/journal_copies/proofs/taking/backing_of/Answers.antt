use Rattle.std.proofs.Common.{ℕ, List, ◌∷◌, [], ◌++◌, get_or, ap, sym, ◌∙◌}
use Rattle.exchange_model.specs.Backing.{backing}
use Rattle.journal_copies.proofs.Backs.{reply-goes, reply-stops}
use Rattle.journal_copies.proofs.taking.backing_of.Goals as goal

pub returns-in_default : goal.returns-in_default
returns-in_default c = λ ws traced.
    let ks = c.list-reply-items.result.now in
    reply-stops ws c.args.stored.now.list ks c.each.reply-index 0 c.each.numbers.items (backing ws c.args.stored.now)
    c.list-reply-items.ensures c.each-test.true
    (sym (traced (get_or ks c.each.reply-index 0)) ∙ (sym c.replied_to.ensures ∙ c.in_default.is)) (c.each.invariant ws traced)

pub each-preserved : goal.each-preserved
each-preserved c = λ ws traced.
    let ks = c.list-reply-items.result.now in
    reply-goes ws c.args.stored.now.list ks c.each.reply-index 0 c.each.numbers.items c.push-in-each-2.new.self.items
    c.in-Some.sending (backing ws c.args.stored.now) c.list-reply-items.ensures c.each-test.true
    (sym (traced (get_or ks c.each.reply-index 0)) ∙ (sym c.replied_to.ensures ∙ c.in-Some.is))
    (c.in_ok-push-3.ensures.items ∙ ap (λ (ns : List ℕ). ns ++ get_or ks c.each.reply-index 0 ∷ []) c.in_ok-push-2.ensures.items)
    (c.each.invariant ws traced)
