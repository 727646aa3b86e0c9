use Rattle.std.proofs.Common.{sym, ◌∙◌}
use Rattle.journal_copies.proofs.Known.{sees-none, sees-some}
use Rattle.journal_copies.proofs.seen.SeenMessages.see.Goals as goal

pub returns-in_ok-more-in-Some : goal.returns-in_ok-more-in-Some
returns-in_ok-more-in-Some c =
    λ n old before k. sees-some c.note.new.self.moments n c.args.moment c.args.peer c.args.bytes.now c.in-Some.mid old c.in_ok-more-in-Some.more
    before (sym c.in_ok-mid.ensures ∙ c.in-Some.is) (c.in_ok-more-in-Some.ensures.more old k) (c.in_ok-more-in-Some.ensures.knows n old k)

pub returns-in-None : goal.returns-in-None
returns-in-None c =
    λ n old before k. sees-none c.args.self.now.moments n c.args.moment c.args.peer c.args.bytes.now old before k (sym c.in_ok-mid.ensures ∙ c.in-None.is)
