use Rattle.std.proofs.Common.{◌≡◌, ◌≢◌, true, false, refl, sym, ap, ◌∙◌}
use Rattle.std.proofs.lemmas.Bool.{false≢true}
use Rattle.history_laws.proofs.CallerLemmas.{all-more}
use Rattle.exchange_model.specs.declared.kept.Reader.{Reader}
use Rattle.exchange_table.specs.Places.{IsNowhere, IsOnlyAt}
use Rattle.exchange_table.specs.Readers.{has_ask, is_on}
use Rattle.exchange_table.proofs.Grouping.{conn-none, conn-only, conn-other, conn-same}
use Rattle.exchange_table.proofs.Standing.{filter-none}
use Rattle.exchange_table.proofs.readers.remove_on.Goals as goal

pub returns-in_default-clause-rows : goal.returns-in_default-clause-rows
returns-in_default-clause-rows c =
    let rows = c.args.rows.now.items in
    sym (filter-none (is_on c.args.conn) rows (conn-none c.args.conn c.args.pending rows c.in_default.is c.requires.waits))

pub returns-in_default-reader_place-clause-rows : goal.returns-in_default-reader_place-clause-rows
returns-in_default-reader_place-clause-rows c =
    let rows = c.args.rows.now.items in
    let nobody : IsNowhere (has_ask c.in-Some.ask) rows = rw (c.as_slice.ensures.value) at (c.in_default-reader_place.ensures.none refl) in
    sym (filter-none (is_on c.args.conn) rows
    (conn-other c.args.conn c.in-Some.ask c.args.pending rows c.in-Some.is c.requires.waits
    (all-more (λ (r : Reader). has_ask c.in-Some.ask r ≡ false) (λ (r : Reader). has_ask c.in-Some.ask r ≡ true → r.conn ≢ c.args.conn)
    (λ r other is. absurd (false≢true (sym other ∙ is))) rows nobody)))

pub returns-then-index-conn-clause-rows : goal.returns-then-index-conn-clause-rows
returns-then-index-conn-clause-rows c =
    let rows = c.args.rows.now.items in
    let place = c.in-Some-reader_place.place in
    let only : IsOnlyAt (has_ask c.in-Some.ask) rows place = rw (c.as_slice.ensures.value) at c.in-Some-reader_place.ensures.some in
    let conn = ap (λ (r : Reader). r.conn) c.index.ensures in
    c.remove_at.ensures.rows
    ∙ conn-same c.args.conn c.in-Some.ask c.args.pending rows c.in-Some.is c.requires.waits
    (all-more _ (λ (r : Reader). has_ask c.in-Some.ask r ≡ true → r.conn ≡ c.args.conn) (λ r there is. there is ∙ (sym conn ∙ c.if-index-conn.true)) rows
    (conn-only c.in-Some.ask rows place c.index.result.now only))

pub returns-else-index-conn-clause-rows : goal.returns-else-index-conn-clause-rows
returns-else-index-conn-clause-rows c =
    let rows = c.args.rows.now.items in
    let place = c.in-Some-reader_place.place in
    let only : IsOnlyAt (has_ask c.in-Some.ask) rows place = rw (c.as_slice.ensures.value) at c.in-Some-reader_place.ensures.some in
    let conn = ap (λ (r : Reader). r.conn) c.index.ensures in
    sym (filter-none (is_on c.args.conn) rows
    (conn-other c.args.conn c.in-Some.ask c.args.pending rows c.in-Some.is c.requires.waits
    (all-more _ (λ (r : Reader). has_ask c.in-Some.ask r ≡ true → r.conn ≢ c.args.conn) (λ r there is on. c.if-index-conn.false (conn ∙ (sym (there is) ∙ on))) rows
    (conn-only c.in-Some.ask rows place c.index.result.now only))))
