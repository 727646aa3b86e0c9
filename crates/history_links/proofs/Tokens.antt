-- First sendings are found by their numbers, and told apart by their tokens.
use Rattle.std.proofs.Common.{◌≡◌, ℕ, Bool, eqb, List, Some, sym, ◌∙◌}
use Rattle.std.specs.List.{find}
use Rattle.history_laws.specs.Readings.{Noted}
use Rattle.history_laws.specs.Transmissions.{FirstSending, firsts, first_at}
use Rattle.history_laws.specs.Justified.{Legal}
use Rattle.history_laws.proofs.CallerLemmas.{eqb-same, find-some, first-listed, firsts-tokens}

pub number-of : (l : List Noted) (i : ℕ) (f : FirstSending) → first_at l i ≡ Some f → f.number ≡ i
number-of l i f e = eqb-same f.number i (find-some (λ (f : FirstSending). eqb f.number i) (firsts l) f e).1

-- two that bear one token are one
pub one-token : (l : List Noted) (i j : ℕ) (f g : FirstSending) → Legal l → first_at l i ≡ Some f → first_at l j ≡ Some g → f.message.token ≡ g.message.token → i ≡ j
one-token l i j f g legal e h same =
    sym (number-of l i f e)
    ∙ (firsts-tokens l f g legal (find-some (λ (f : FirstSending). eqb f.number i) (firsts l) f e).0 (find-some (λ (f : FirstSending). eqb f.number j) (firsts l) g h).0 same
    ∙ number-of l j g h)

-- Who is found by another test is found by its number.
pub found-first : (l : List Noted) (q : FirstSending → Bool) (f : FirstSending) → find q (firsts l) ≡ Some f → first_at l f.number ≡ Some f
found-first l q f e = first-listed l f (find-some q (firsts l) f e).0
