-- The members of the queue at a peer wait there; so does what is sent first.
use Rattle.std.proofs.Common.{◌≡◌, ℕ, true, eqb, List, [], ◌∷◌, ◌++◌, length, Option, subst}
use Rattle.std.specs.Prelude.{filter}
use Rattle.std.specs.List.{AllByRecursion}
use Rattle.coap_codec.specs.Spelling.{Content}
use Rattle.uri_map.specs.declared.peer.Peer.{Peer}
use Rattle.history_laws.specs.Readings.{Noted}
use Rattle.history_laws.specs.Exchanges.{openings, is_waiting, waiting, is_submitted_at, submitted}
use Rattle.history_laws.specs.Justified.{MayBeFirst}
use Rattle.history_laws.proofs.Elements.{all-more, all-passes}
use Rattle.history_laws.proofs.Resting.{and-right}

pub all-join : {X : Type 0} (P : X → Type 0) (xs ys : List X) → AllByRecursion P xs → AllByRecursion P ys → AllByRecursion P (xs ++ ys)
all-join P [] ys a b = b
all-join P (x ∷ xs) ys a b = (a.0, all-join P xs ys a.1 b)

-- The members of the queue wait.
pub waiting-all : (l : List Noted) (p : Peer) → AllByRecursion (λ (o : ℕ). is_waiting l p o ≡ true) (waiting l p)
waiting-all [] p = tt
waiting-all (x ∷ older) p =
    let n = x ∷ older in
    let new = is_submitted_at n p (length older) in
    all-join (λ (o : ℕ). is_waiting n p o ≡ true) (filter (is_waiting n p) (waiting older p)) (filter new (openings n))
    (all-passes (is_waiting n p) (waiting older p))
    (all-more (λ (o : ℕ). new o ≡ true) (λ (o : ℕ). is_waiting n p o ≡ true) (λ o h. and-right (eqb (submitted n o) (length older)) _ h) (filter new (openings n)) (all-passes new (openings n)))

pub first-waits : (l : List Noted) (t o : ℕ) (p : Peer) (b : List ℕ) (m : Content) (w : Option ℕ) → MayBeFirst l t o p b m w → is_waiting l p o ≡ true
first-waits l t o p b m w may =
    let all : AllByRecursion (λ (q : ℕ). is_waiting l p q ≡ true) (o ∷ may.others) =
    subst (AllByRecursion (λ (q : ℕ). is_waiting l p q ≡ true)) may.first (waiting-all l p) in
    all.0
