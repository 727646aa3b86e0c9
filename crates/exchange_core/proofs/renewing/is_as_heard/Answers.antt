use Rattle.std.proofs.Common.{ℕ, Option, not, true, sym, ap, ◌∙◌}
use Rattle.std.specs.Option.{option_map_or}
use Rattle.journal_book.specs.Journals.{IsHere}
use Rattle.exchange_core.specs.Renewing.{hears_valid}
use Rattle.exchange_core.proofs.Listed.{last-here}
use Rattle.exchange_core.proofs.renewing.is_as_heard.Goals as goal

pub is_renewal-requires : goal.is_renewal-requires
is_renewal-requires g c =
    last-here (IsHere c.args.journal.now.given c.args.journal.now.kept) c.args.stored.now.list c.in-Some.last.now
    (sym (rw (c.list.ensures) at c.in-Some.ensures.value)) c.requires

pub returns-in-Some : goal.returns-in-Some
returns-in-Some g c =
    ap not c.is_renewal.ensures
    ∙ ap (λ (v : Option ℕ). option_map_or (λ (n : ℕ). not (hears_valid c.args.journal.now.entries n)) v true) (rw (c.list.ensures) at c.in-Some.ensures.value)
