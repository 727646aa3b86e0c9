-- Those that opened are taken off, and the others are as they were.
use Rattle.std.proofs.Common.{◌∙◌, List, sym, ap, subst, map, not, rules}
use Rattle.std.specs.List.{All, filter}
use Rattle.std.proofs.lemmas.Fn.{filter_same}
use Rattle.gateway_connections.specs.declared.row.Row.{Row}
use Rattle.gateway_connections.specs.Rows.{AreInOrder, IsNoted, IsWhole, current_of, marked_of, put_back}
use Rattle.gateway_connections.proofs.Keeping.{back-current, back-marked, back-whole}
use Rattle.gateway_connections.proofs.Noting.{noted-back}
use Rattle.gateway_connections.proofs.table.Table.back.Goals as goal

pub invariant_of-self : goal.invariant_of-self
invariant_of-self c =
    let rows = c.self.inside.rows.items in
    let kept = filter_same _ (λ (r : Row). not r.fresh) _ (λ x b f' k. search rules) _ _ c.retain.ensures.filtered in
    let whole = back-whole rows (λ (r : Row). not r.fresh) c.self.invariant.0 c.self.invariant.1 in
    subst (λ (rs : List Row). AreInOrder rs × All IsWhole rs × IsNoted c.none-self-inside.result rs) (sym (c.back_all.ensures ∙ ap (map put_back) kept))
    (whole.0, whole.1, noted-back c.none-self-inside.result (filter (λ (r : Row). not r.fresh) rows))

pub returns-clause-current : goal.returns-clause-current
returns-clause-current c =
    let kept = filter_same _ (λ (r : Row). not r.fresh) _ (λ x b f' k. search rules) _ _ c.retain.ensures.filtered in
    rw (← c.self.view_is) (ap current_of (c.back_all.ensures ∙ ap (map put_back) kept) ∙ back-current c.self.inside.rows.items)

pub returns-clause-marked : goal.returns-clause-marked
returns-clause-marked c =
    let kept = filter_same _ (λ (r : Row). not r.fresh) _ (λ x b f' k. search rules) _ _ c.retain.ensures.filtered in
    rw (← c.self.view_is) (ap marked_of (c.back_all.ensures ∙ ap (map put_back) kept) ∙ back-marked c.self.inside.rows.items)
