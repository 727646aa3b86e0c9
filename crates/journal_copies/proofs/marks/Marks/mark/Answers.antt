use Rattle.std.proofs.Common.{List, Option, Some, arith, inl, ap, sym, ◌∙◌}
use Rattle.std.specs.Prelude.{slice_set}
use Rattle.journal_book.specs.Entries.{Written, done_of}
use Rattle.journal_book.specs.Views.{item_of}
use Rattle.journal_book.specs.declared.entry.Mark.{Mark}
use Rattle.journal_book.specs.declared.entry.Mark.TheVariants as M
use Rattle.journal_copies.proofs.Grounded.{absent, marked-more, marked-none, marked-past, present}
use Rattle.journal_copies.proofs.marks.Marks.mark.Goals as goal

pub returns-in_default : goal.returns-in_default
returns-in_default g c = λ t gs h.
    let past = c.in_default.ensures.entry (inl (omega (arith, c.requires))) in
    marked-past t c.args.journal.now.entries gs c.args.number c.args.self.now (omega (arith, past)) h

pub returns-then-not-may_be_copied : goal.returns-then-not-may_be_copied
returns-then-not-may_be_copied g c = λ t gs h.
    let w : Written = item_of c.in-Some.entry.now in
    marked-none t c.args.journal.now.entries gs c.args.number w c.args.self.now c.in-Some.ensures.entry
    (absent (done_of w.deed) (sym c.may_be_copied.ensures ∙ c.if-not-may_be_copied.true)) h

pub returns : goal.returns
returns g c = λ t gs h.
    let w : Written = item_of c.in-Some.entry.now in
    let done = present (done_of w.deed) (sym c.may_be_copied.ensures ∙ c.if-not-may_be_copied.false) in
    marked-more t c.args.journal.now.entries gs c.args.number c.size.result w done.0 c.args.self.now c.set.new.self
    c.in-Some.ensures.entry done.1 c.size.ensures
    (c.set.ensures.marks ∙ ap (λ (ms : List (Option Mark)). slice_set ms c.args.number (Some M.Ground)) c.count_in.ensures.marks)
    (c.set.ensures.count ∙ c.count_in.ensures.count) (c.set.ensures.bytes ∙ c.count_in.ensures.bytes) h
