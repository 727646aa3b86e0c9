use Rattle.std.proofs.Common.{◌≡◌, ◌<◌, ◌≤◌, ℕ, get_or, ltb, ltb-true, ltb-false, rules, sym, ap, subst, ◌∙◌, arith}
use Rattle.std.specs.Prelude.{insert}
use Rattle.std.specs.List.{list_any}
use Rattle.std.proofs.lemmas.List.Sorted.{IsPartitionedBy-ltb, IsPartitionPoint-from_clause}
use Rattle.exchange_table.specs.Fetched.{is_number, itself}
use Rattle.exchange_table.specs.Places.{IsNowhere, RiseBy}
use Rattle.exchange_table.proofs.Grouping.{all-back, all-front}
use Rattle.exchange_table.proofs.Owning.{any-insert, noted-already, nowhere-any, rise-insert}
use Rattle.exchange_table.proofs.Standing.{Splits, non-decreasing}
use Rattle.exchange_table.proofs.owners.note_owner.Goals as goal

pub returns-clause-order : goal.returns-clause-order
returns-clause-order c =
    let o = c.args.opening in
    let os = c.args.owners.now.items in
    let place = c.partition_point-place.result in
    let items : c.insert.new.self.items ≡ insert os place o = search rules in
    let none : IsNowhere (is_number o) os = nowhere-any (is_number o) os (ap (list_any (is_number o)) (sym c.as_slice.ensures.value) ∙ sym c.if-is_owner.ensures) in
    let split : Splits itself o os place = rw (c.deref.ensures.value) at
    (IsPartitionPoint-from_clause (λ (n : ℕ). ltb n o) c.deref.result.now place c.partition_point-place.ensures.partitioned
    (IsPartitionedBy-ltb itself c.deref.result.now o (non-decreasing itself c.deref.result.now (subst (RiseBy itself) (sym c.deref.ensures.value) c.requires.order))) (λ a r f' called. search rules)) in
    subst (RiseBy itself) (sym items)
    (rise-insert o os place
    (all-front (λ (n : ℕ). n < o) os place (λ k d less lt. ltb-true (get_or os k d) o (split.0 k d (omega arith) less)))
    (all-back (λ (n : ℕ). o ≤ n) os place (λ k d le lt. ltb-false (get_or os k d) o (split.1 k d le lt)))
    none c.requires.order)

pub returns-clause-noted : goal.returns-clause-noted
returns-clause-noted c = λ o.
    let p = c.args.opening in
    let os = c.args.owners.now.items in
    let place = c.partition_point-place.result in
    let items : c.insert.new.self.items ≡ insert os place p = search rules in
    ap (list_any (is_number o)) items ∙ any-insert (is_number o) os place p

pub returns-then-is_owner-clause-noted : goal.returns-then-is_owner-clause-noted
returns-then-is_owner-clause-noted c =
    let os = c.args.owners.now.items in
    noted-already c.args.opening os (ap (list_any (is_number c.args.opening)) (sym c.as_slice.ensures.value) ∙ sym c.if-is_owner.ensures)
