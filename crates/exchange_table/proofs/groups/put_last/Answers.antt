use Rattle.std.proofs.Common.{◌≡◌, ◌+◌, ◌∷◌, ◌++◌, [], rules, sym, subst}
use Rattle.std.specs.Prelude.{insert}
use Rattle.exchange_table.specs.Groups.{AreGrouped, IsFirstFrom}
use Rattle.exchange_table.specs.Readers.{opening_read}
use Rattle.exchange_table.proofs.Grouping.{grouped-push}
use Rattle.exchange_table.proofs.groups.put_last.Goals as goal

pub returns : goal.returns
returns c = λ rs grouped.
    let groups = c.args.groups.now.items in
    let r = c.args.reader in
    let place : IsFirstFrom opening_read (r.opening + 1) groups c.place_after-place.result = rw (c.as_slice.ensures.value) at c.place_after-place.ensures in
    let items : c.insert.new.self.items ≡ insert groups c.place_after-place.result r = search rules in
    subst (AreGrouped opening_read (rs ++ r ∷ [])) (sym items) (grouped-push opening_read rs groups c.place_after-place.result r place grouped)
