use Rattle.std.proofs.Common.{◌+◌, Bool, ◌&&◌, ltb, List, ℕ, Some, sym, ap, subst, ◌∙◌}
use Rattle.std.specs.Prelude.{option_map}
use Rattle.limits.specs.declared.TheConstants.{EXCHANGE_LIFETIME}
use Rattle.journal_book.specs.Entries.{Heard}
use Rattle.journal_book.specs.Views.{item_of}
use Rattle.journal_copies.specs.Copying.{Looks, received}
use Rattle.journal_copies.specs.Knowing.{Sees}
use Rattle.journal_copies.proofs.Looked.{looks-else, looks-heard}
use Rattle.journal_copies.proofs.remembering.is_remembered.Goals as goal

pub returns-then-more : goal.returns-then-more
returns-then-more g c = λ n old before k.
    let w = item_of c.args.entry.now in
    let m = c.see.new.self.moments in
    subst (λ (b : Bool). Looks c.args.moment n w old m b)
    (ap (λ (b : Bool). b && ltb c.args.moment (w.moment + EXCHANGE_LIFETIME)) c.if-more.true ∙ sym c.is_fresh.ensures)
    (looks-heard m c.args.moment n w c.in-Some.received.peer c.in-Some.received.bytes.now old c.in_ok-more.more
    (sym c.heard_in.ensures ∙ ap (option_map received) c.in-Some.is)
    (subst (λ (bs : List ℕ). Sees n w.moment (Some (Heard c.in-Some.received.peer bs)) old m c.in_ok-more.more) c.as_slice.ensures (c.in_ok-more.ensures n old before k)))

pub returns-else-more : goal.returns-else-more
returns-else-more g c = λ n old before k.
    let w = item_of c.args.entry.now in
    let m = c.see.new.self.moments in
    subst (λ (b : Bool). Looks c.args.moment n w old m b)
    (ap (λ (b : Bool). b && ltb c.args.moment (w.moment + EXCHANGE_LIFETIME)) c.if-more.false ∙ sym c.if-more.false)
    (looks-heard m c.args.moment n w c.in-Some.received.peer c.in-Some.received.bytes.now old c.in_ok-more.more
    (sym c.heard_in.ensures ∙ ap (option_map received) c.in-Some.is)
    (subst (λ (bs : List ℕ). Sees n w.moment (Some (Heard c.in-Some.received.peer bs)) old m c.in_ok-more.more) c.as_slice.ensures (c.in_ok-more.ensures n old before k)))

pub returns : goal.returns
returns g c = λ n old before k.
    looks-else c.args.seen.now.moments c.args.moment n (item_of c.args.entry.now) old c.is_recent_first.result
    (sym c.heard_in.ensures ∙ ap (option_map received) c.in_default.is) before k c.is_recent_first.ensures
