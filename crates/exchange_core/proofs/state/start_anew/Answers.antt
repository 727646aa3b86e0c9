use Rattle.std.proofs.Common.{◌≡◌, [], length, sym, subst, ap, ◌∙◌}
use Rattle.exchange_core.specs.Drafts.{Drafts, empty_draft}
use Rattle.exchange_core.specs.States.{state_of}
use Rattle.exchange_core.proofs.Drafting.{drafts-none}
use Rattle.exchange_core.proofs.state.start_anew.Goals as goal

pub returns-clause-drafts : goal.returns-clause-drafts
returns-clause-drafts g c =
    let e : c.begin.new.self ≡ empty_draft (length c.args.s.now.journal.entries) =
    c.begin.ensures ∙ ap empty_draft c.len.ensures in
    λ t. subst (Drafts t (state_of c.args.s.now) []) (sym e) (drafts-none t (state_of c.args.s.now))
