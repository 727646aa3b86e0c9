-- What is given out goes to whom it is for.
use Rattle.std.proofs.Common.{◌≡◌, ◌≢◌, ◌⊎◌, inl, inr, ℕ, Bool, true, List, [], ◌∷◌, ◌++◌, Option, refl, sym, ap, subst, ◌∙◌, eq-eqb}
use Rattle.std.specs.List.{concat}
use Rattle.std.proofs.lemmas.List.{append-nil, append_assoc}
use Rattle.std.proofs.lemmas.List.{map_push}
use Rattle.std.proofs.lemmas.Grind.{flat_map-append}
use Rattle.exchange_core.specs.Values.{Outgoing}
use Rattle.gateway_model.specs.declared.input.Output.{Output}
use Rattle.std.specs.Prelude.{if◌then◌else◌}
use Rattle.gateway_model.specs.Emissions.{Closed, Emission, GivenUp, Says, emission_of, emissions}
use Rattle.gateway_model.specs.Going.{goes_by, goes_in}
use Rattle.gateway_model.specs.Told.{said_by, said_to}
use Rattle.gateway_loop.specs.Clients.{ClientValue, Gets}
use Rattle.gateway_loop.specs.Delivery.{AreGiven, IsGiven, IsLost, given_to, readied, readied_by}
use Rattle.gateway_loop.specs.Places.{ClientsValue, HaveTurns, IsGoneOr, OnlyAt}
use Rattle.gateway_loop.specs.Serving.{said}
use Rattle.gateway_loop.specs.Sockets.{Grown}
use Rattle.gateway_loop.proofs.Growing.{grown-then}
use Rattle.gateway_loop.proofs.Changing.{all-as, all-emptied, all-kept, all-same, all-then, not-same, same-or-not}
use Rattle.gateway_loop.proofs.Served.{said-both}

module _ {S : Type 0} where
  given-none : (c : ℕ) (x : ClientValue S) → given_to c [] x ≡ x
  given-none c x = λ i. record { stream = x.stream; left = append-nil x.left i; unfed = x.unfed; leaving = x.leaving }

  -- who is told nothing stays
  pub given-quietly : (c : ℕ) (out : List Emission) (x : ClientValue S) → said c out ≡ [] → given_to c out x ≡ x
  given-quietly c out x none = ap (λ (t : List ℕ). record x { left = x.left ++ t }) none ∙ given-none c x

  given-both : (c : ℕ) (a b : List Emission) (x : ClientValue S) → given_to c b (given_to c a x) ≡ given_to c (a ++ b) x
  given-both c a b x = λ i. record {
    stream = x.stream;
    left = (append_assoc x.left (said c a) (said c b) ∙ ap (λ (t : List ℕ). x.left ++ t) (sym (said-both c a b))) i;
    unfed = x.unfed;
    leaving = x.leaving;
  }

  -- nothing is given out yet
  pub given-start : (a : List (Option (ClientValue S))) → AreGiven [] a a
  given-start a = all-same (IsGiven []) (IsLost []) a (λ c x. sym (given-none c x))

  -- one after another
  pub given-then : (o p : List Emission) (a b d : List (Option (ClientValue S)))
      → AreGiven o a b → AreGiven p b d → AreGiven (o ++ p) a d
  given-then o p a b d g h =
      all-then (IsGiven o) (IsGiven p) (IsGiven (o ++ p)) (IsLost o) (IsLost p) (IsLost (o ++ p)) a b d
      (λ c x y z e f. f ∙ (ap (given_to c p) e ∙ given-both c o p x))
      (λ c x some none. some (front (said_to c o) (said_to c p) (sym (flat_map-append (said_by c) o p) ∙ none)))
      (λ c x y e some none. some (back (said_to c o) (said_to c p) (sym (flat_map-append (said_by c) o p) ∙ none))) g h
    where
      front : (u v : List (List ℕ)) → u ++ v ≡ [] → u ≡ []
      front [] v e = refl
      front (x ∷ u) v e = absurd cc

      back : (u v : List (List ℕ)) → u ++ v ≡ [] → v ≡ []
      back [] v e = e
      back (x ∷ u) v e = absurd cc

  -- who is closed is given no bytes
  pub given-closed : (n : ℕ) (a : List (Option (ClientValue S))) → AreGiven (Closed n ∷ []) a a
  given-closed n a = all-same (IsGiven (Closed n ∷ [])) (IsLost (Closed n ∷ [])) a (λ c x. sym (given-none c x))

  pub given-up : (n : ℕ) (a : List (Option (ClientValue S))) → AreGiven (GivenUp n ∷ []) a a
  given-up n a = all-same (IsGiven (GivenUp n ∷ [])) (IsLost (GivenUp n ∷ [])) a (λ c x. sym (given-none c x))

  -- bytes are given to one, and kept, or it is gone
  pub given-says : (n : ℕ) (bytes : List ℕ) (a b : List (Option (ClientValue S))) → IsGoneOr n (Gets bytes) a b
      → AreGiven (Says n bytes ∷ []) a b
  given-says n bytes a b (inl e) =
      all-as (OnlyAt n (Gets bytes)) (IsGiven (Says n bytes ∷ [])) (IsLost (Says n bytes ∷ [])) (IsLost (Says n bytes ∷ [])) a b
      (λ c x y at o. by c x y o (same-or-not c n)) (λ c x h. h) (all-kept (OnlyAt n (Gets bytes)) (IsLost (Says n bytes ∷ [])) a b e)
    where
      own : (c : ℕ) → c ≡ n → said c (Says n bytes ∷ []) ≡ bytes
      own c q = ap (λ (t : Bool). concat ((if t then bytes ∷ [] else []) ++ [])) (eq-eqb n c (sym q)) ∙ append-nil bytes

      other : (c : ℕ) → c ≢ n → said c (Says n bytes ∷ []) ≡ []
      other c ne = ap (λ (t : Bool). concat ((if t then bytes ∷ [] else []) ++ [])) (not-same n c (λ q. ne (sym q)))

      by : (c : ℕ) (x y : ClientValue S) → OnlyAt n (Gets bytes) c x y → (c ≡ n) ⊎ (c ≢ n)
          → IsGiven (Says n bytes ∷ []) c x y
      by c x y o (inl q) = o.changes q ∙ ap (λ (t : List ℕ). record x { left = x.left ++ t }) (sym (own c q))
      by c x y o (inr ne) = o.same ne ∙ (sym (given-none c x) ∙ ap (λ (t : List ℕ). record x { left = x.left ++ t }) (sym (other c ne)))
  given-says n bytes a b (inr e) =
      all-emptied (IsGiven (Says n bytes ∷ [])) (IsLost (Says n bytes ∷ [])) n a b
      (λ c x ne. sym (given-none c x) ∙ ap (λ (t : List ℕ). record x { left = x.left ++ t }) (sym (other c ne)))
      (λ x none. some (sym (ap (λ (t : Bool). (if t then bytes ∷ [] else []) ++ []) (eq-eqb n n refl)) ∙ none)) e
    where
      other : (c : ℕ) → c ≢ n → said c (Says n bytes ∷ []) ≡ []
      other c ne = ap (λ (t : Bool). concat ((if t then bytes ∷ [] else []) ++ [])) (not-same n c (λ q. ne (sym q)))

      some : bytes ∷ [] ≡ [] → ⊥
      some q = cc

-- one output more

pub given-more : {R S : Type 0} (ys : List (Output R)) (o : Output R) (a b d : List (Option (ClientValue S)))
    → AreGiven (emissions ys) a b → AreGiven (emission_of o ∷ []) b d → AreGiven (emissions (ys ++ o ∷ [])) a d
given-more ys o a b d g h =
    subst (λ (out : List Emission). AreGiven out a d) (sym (map_push emission_of ys o))
    (given-then (emissions ys) (emission_of o ∷ []) a b d g h)

pub turns-start : {S : Type 0} (a : ClientsValue S) → HaveTurns [] a a
turns-start a = inr (refl, sym (append-nil a.line))

-- These have their turns after those in the line; or everyone has.
abbrev Turns : List ℕ → Bool → List ℕ → Bool → List ℕ → Type 0
Turns ns all line all1 line1 = (all1 ≡ true) ⊎ ((all1 ≡ all) × (line1 ≡ line ++ ns))

-- one after another
turns-then : (xs ys : List ℕ) (a b d : Bool) (al bl dl : List ℕ) → Turns xs a al b bl → Turns ys b bl d dl
    → Turns (xs ++ ys) a al d dl
turns-then xs ys a b d al bl dl h (inl all) = inl all
turns-then xs ys a b d al bl dl (inl all) (inr (same, e)) = inl (same ∙ all)
turns-then xs ys a b d al bl dl (inr (was, h)) (inr (same, e)) =
    inr (same ∙ was, e ∙ (ap (λ (t : List ℕ). t ++ ys) h ∙ append_assoc al xs ys))

pub turns-more : {R : Type 0} (ys : List (Output R)) (o : Output R) (a b d : Bool) (al bl dl : List ℕ)
    → (b ≡ true) ⊎ ((b ≡ a) × (bl ≡ al ++ readied (emissions ys)))
    → (d ≡ true) ⊎ ((d ≡ b) × (dl ≡ bl ++ readied_by (emission_of o)))
    → (d ≡ true) ⊎ ((d ≡ a) × (dl ≡ al ++ readied (emissions (ys ++ o ∷ []))))
turns-more ys o a b d al bl dl h e =
    subst (λ (ns : List ℕ). Turns ns a al d dl)
    (sym (more (emissions ys) (emission_of o)) ∙ ap readied (sym (map_push emission_of ys o)))
    (turns-then (readied (emissions ys)) (readied_by (emission_of o)) a b d al bl dl h e)
  where
    more : (es : List Emission) (e : Emission) → readied (es ++ e ∷ []) ≡ readied es ++ readied_by e
    more es e = flat_map-append readied_by es (e ∷ []) ∙ ap (λ (t : List ℕ). readied es ++ t) (append-nil (readied_by e))

pub sent-more : {R W : Type 0} (ys : List (Output R)) (o : Output R) (sent : W → Option (List Outgoing)) (u v w : W)
    → Grown (sent u) (sent v) (goes_in (emissions ys)) → Grown (sent v) (sent w) (goes_by (emission_of o))
    → Grown (sent u) (sent w) (goes_in (emissions (ys ++ o ∷ [])))
sent-more ys o sent u v w g h =
    subst (Grown (sent u) (sent w)) (sym (ap goes_in (map_push emission_of ys o) ∙ more (emissions ys) (emission_of o)))
    (grown-then (sent u) (sent v) (sent w) (goes_in (emissions ys)) (goes_by (emission_of o)) g h)
  where
    more : (es : List Emission) (e : Emission) → goes_in (es ++ e ∷ []) ≡ goes_in es ++ goes_by e
    more es e = flat_map-append goes_by es (e ∷ []) ∙ ap (λ (t : List Outgoing). goes_in es ++ t) (append-nil (goes_by e))
