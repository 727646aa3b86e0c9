-- Values of options, one after the other.
use Rattle.std.proofs.Common.{◌≡◌, ℕ, ◌≤◌, ◌<◌, ◌+◌, List, [], ◌∷◌, ◌++◌, length, drop, get_or, add-one, refl, sym, ap, ◌∙◌, append_assoc}
use Rattle.std.proofs.lemmas.List.{append-nil, drop_all}
use Rattle.std.proofs.lemmas.Bool.{eq-eqb, ne_eqb}
use Rattle.coap_codec.specs.declared.opt.Opt.{Opt}
use Rattle.coap_codec.specs.Spelling.{entries}
use Rattle.coap_codec.specs.Values.{values}
use Rattle.coap_codec.proofs.Appends.{next_entry}

pub values_skip : (front : List (List ℕ)) (number : ℕ) (os : List Opt) (i : ℕ) (o : Opt) (total : List (List ℕ)) → i < length os → o ≡ get_or os i o → (o.number ≡ number → ⊥)
    → front ++ values number (entries (drop i os)) ≡ total → front ++ values number (entries (drop (i + 1) os)) ≡ total
values_skip front number os i o total lt e other so_far =
    let step : values number (entries (drop i os)) ≡ values number (entries (drop (i + 1) os)) = rw (next_entry os i o lt e, ne_eqb o.number number other, add-one) refl in
    rw (← step) so_far

pub values_take : (front : List (List ℕ)) (number : ℕ) (os : List Opt) (i : ℕ) (o : Opt) (total : List (List ℕ)) → i < length os → o ≡ get_or os i o → o.number ≡ number
    → front ++ values number (entries (drop i os)) ≡ total → (front ++ o.value.items ∷ []) ++ values number (entries (drop (i + 1) os)) ≡ total
values_take front number os i o total lt e same so_far =
    let step : values number (entries (drop i os)) ≡ o.value.items ∷ values number (entries (drop (i + 1) os)) = rw (next_entry os i o lt e, eq-eqb o.number number same, add-one) refl in
    append_assoc front (o.value.items ∷ []) (values number (entries (drop (i + 1) os))) ∙ sym (ap (λ (r : List (List ℕ)). front ++ r) step) ∙ so_far

pub values_end : (front : List (List ℕ)) (number : ℕ) (os : List Opt) (i : ℕ) (total : List (List ℕ)) → length os ≤ i → front ++ values number (entries (drop i os)) ≡ total → front ≡ total
values_end front number os i total le so_far = sym (append-nil front) ∙ ap (λ (r : List Opt). front ++ values number (entries r)) (sym (drop_all i os le)) ∙ so_far
