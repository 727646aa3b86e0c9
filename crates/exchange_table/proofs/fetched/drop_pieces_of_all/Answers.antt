use Rattle.std.proofs.Common.{◌≡◌, ℕ, Bool, List, eqb, inl, inr, not, rules, sym, ap, ◌∙◌}
use Rattle.std.specs.Prelude.{filter}
use Rattle.std.specs.List.{list_any}
use Rattle.std.proofs.lemmas.Bool.{eq-eqb, ne_eqb}
use Rattle.std.proofs.lemmas.Bool.Decides.{eqb_tells}
use Rattle.std.proofs.lemmas.Fn.{filter_same}
use Rattle.exchange_model.specs.declared.kept.Exchange.{Exchange}
use Rattle.exchange_model.specs.declared.kept.Piece.{Piece}
use Rattle.exchange_model.specs.Hearing.{is_of_none}
use Rattle.exchange_table.specs.Tables.{is_opened_at}
use Rattle.exchange_table.proofs.fetched.drop_pieces_of_all.Goals as goal

same-test : (a b : ℕ) → eqb a b ≡ eqb b a
same-test a b = elim (eqb_tells a b) [
  | inl u ↦ u.0 ∙ sym (eq-eqb b a (sym u.1))
  | inr u ↦ u.0 ∙ sym (ne_eqb b a (λ e. u.1 (sym e)))
]

none-is : (es : List Exchange) → (λ (x : Piece). not (list_any (is_opened_at x.opening) es)) ≡ is_of_none es
none-is es = λ i x. not (list_any (λ (e : Exchange). same-test e.opening x.opening i) es)

pub returns-clause-pieces : goal.returns-clause-pieces
returns-clause-pieces c =
    let es = c.args.over.now in
    filter_same _ (λ (x : Piece). not (list_any (is_opened_at x.opening) es)) _ (λ x b f' k. search rules) _ _ c.retain.ensures.filtered
    ∙ ap (λ (q : Piece → Bool). filter q c.args.pieces.now.items) (none-is es)
