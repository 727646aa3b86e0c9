use Rattle.std.proofs.Common.{◌≡◌, ℕ, Bool, List, eqb, inl, inr, not, rules, sym, ap, subst, ◌∙◌}
use Rattle.std.specs.Prelude.{filter}
use Rattle.std.specs.List.{list_any}
use Rattle.std.proofs.lemmas.Bool.{eq-eqb, ne_eqb}
use Rattle.std.proofs.lemmas.Bool.Decides.{eqb_tells}
use Rattle.std.proofs.lemmas.Fn.{filter_same}
use Rattle.exchange_model.specs.declared.kept.Exchange.{Exchange}
use Rattle.exchange_model.specs.declared.kept.Stale.{Stale}
use Rattle.exchange_model.specs.Hearing.{is_stale_of_none}
use Rattle.exchange_table.specs.Places.{RiseBy}
use Rattle.exchange_table.specs.Stales.{asked_in}
use Rattle.exchange_table.specs.Tables.{is_opened_at}
use Rattle.exchange_table.proofs.Standing.{rise-filter}
use Rattle.exchange_table.proofs.stales.drop_stales.Goals as goal

same-test : (a b : ℕ) → eqb a b ≡ eqb b a
same-test a b = elim (eqb_tells a b) [
  | inl u ↦ u.0 ∙ sym (eq-eqb b a (sym u.1))
  | inr u ↦ u.0 ∙ sym (ne_eqb b a (λ e. u.1 (sym e)))
]

none-is : (es : List Exchange) → (λ (x : Stale). not (list_any (is_opened_at x.opening) es)) ≡ is_stale_of_none es
none-is es = λ i x. not (list_any (λ (e : Exchange). same-test e.opening x.opening i) es)

pub returns-clause-stales : goal.returns-clause-stales
returns-clause-stales c =
    let es = c.args.over.now in
    filter_same _ (λ (x : Stale). not (list_any (is_opened_at x.opening) es)) _ (λ x b f' k. search rules) _ _ c.retain.ensures.filtered
    ∙ ap (λ (q : Stale → Bool). filter q c.args.stales.now.items) (none-is es)

pub returns-clause-order : goal.returns-clause-order
returns-clause-order c =
    let es = c.args.over.now in
    let left : c.retain.new.self.items ≡ filter (is_stale_of_none es) c.args.stales.now.items =
    filter_same _ (λ (x : Stale). not (list_any (is_opened_at x.opening) es)) _ (λ x b f' k. search rules) _ _ c.retain.ensures.filtered
    ∙ ap (λ (q : Stale → Bool). filter q c.args.stales.now.items) (none-is es) in
    subst (RiseBy asked_in) (sym left) (rise-filter asked_in (is_stale_of_none es) c.args.stales.now.items c.requires.order)
