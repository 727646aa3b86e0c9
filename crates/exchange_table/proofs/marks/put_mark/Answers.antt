use Rattle.std.proofs.Common.{◌≡◌, ◌+◌, ◌∷◌, ◌++◌, [], rules, sym, subst}
use Rattle.std.specs.Prelude.{insert}
use Rattle.exchange_table.specs.Groups.{AreGrouped, IsFirstFrom}
use Rattle.exchange_table.specs.declared.marks.Mark.{Mark}
use Rattle.exchange_table.specs.Marks.{digest_in}
use Rattle.exchange_table.proofs.Grouping.{grouped-push}
use Rattle.exchange_table.proofs.marks.put_mark.Goals as goal

pub returns : goal.returns
returns c = λ ms grouped.
    let marks = c.args.marks.now.items in
    let m : Mark = record { digest = c.args.digest; opening = c.args.opening } in
    let place : IsFirstFrom digest_in (c.args.digest + 1) marks c.first_from-place.result = rw (c.from.ensures, c.as_slice.ensures.value) at c.first_from-place.ensures in
    let items : c.insert.new.self.items ≡ insert marks c.first_from-place.result m = search rules in
    subst (AreGrouped digest_in (ms ++ m ∷ [])) (sym items) (grouped-push digest_in ms marks c.first_from-place.result m place grouped)
