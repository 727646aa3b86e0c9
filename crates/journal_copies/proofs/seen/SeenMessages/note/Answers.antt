use Rattle.std.proofs.Common.{sym, ◌∙◌}
use Rattle.journal_copies.proofs.Known.{knows-more}
use Rattle.journal_copies.proofs.seen.SeenMessages.note.Goals as goal

pub returns-clause-knows : goal.returns-clause-knows
returns-clause-knows c =
    λ n old k. knows-more c.args.self.now.moments c.insert.new.self n c.args.moment c.args.source old k
    (λ q. c.in_ok-insert.ensures.updates.0 q) (sym (c.is_repeat.ensures old k) ∙ c.if-is_repeat.false)
