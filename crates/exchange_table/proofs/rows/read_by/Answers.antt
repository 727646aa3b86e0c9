use Rattle.std.proofs.Common.{◌≡◌, ℕ, Bool, Some, eqb, inl, inr, rules, refl, sym, ap, ◌∙◌}
use Rattle.std.specs.List.{find}
use Rattle.std.proofs.lemmas.Bool.{eq-eqb, ne_eqb}
use Rattle.std.proofs.lemmas.Bool.Decides.{eqb_tells}
use Rattle.exchange_model.specs.declared.kept.Exchange.{Exchange}
use Rattle.exchange_model.specs.declared.kept.Reader.{Reader}
use Rattle.exchange_model.specs.Calls.{is_reader_of}
use Rattle.exchange_table.specs.Tables.{is_opened_at}
use Rattle.exchange_table.proofs.Standing.{find-only, find-none}
use Rattle.exchange_table.proofs.rows.read_by.Goals as goal

same-test : (a b : ℕ) → eqb a b ≡ eqb b a
same-test a b = elim (eqb_tells a b) [
  | inl u ↦ u.0 ∙ sym (eq-eqb b a (sym u.1))
  | inr u ↦ u.0 ∙ sym (ne_eqb b a (λ e. u.1 (sym e)))
]

read-is : (r : Reader) → (λ (e : Exchange). is_reader_of e r) ≡ is_opened_at r.opening
read-is r = λ i e. same-test r.opening e.opening i

pub returns-in_err-place : goal.returns-in_err-place
returns-in_err-place c =
    let r = c.args.reader.now in
    rw (ap (λ (q : Exchange → Bool). find q c.args.rows.now) (read-is r) ∙ find-none (is_opened_at r.opening) c.args.rows.now (c.in_err-place.ensures.none refl)) (search rules)

pub returns : goal.returns
returns c =
    let r = c.args.reader.now in
    let x = c.index-rows-place.result in
    sym (ap (λ (q : Exchange → Bool). find q c.args.rows.now) (read-is r)
    ∙ find-only (is_opened_at r.opening) c.args.rows.now c.in_ok-place.place x c.in_ok-place.ensures.some
    ∙ ap Some (sym c.index-rows-place.is))
