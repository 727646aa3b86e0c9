-- Acts in order.
use Rattle.std.proofs.Common.{ℕ, Bool, true, false, ◌+◌, ◌≤◌, List, [], ◌∷◌, ◌++◌, refl, sym, subst, ap, ◌∙◌, arith}
use Rattle.std.specs.Prelude.{flat_map}
use Rattle.std.specs.List.{AllByRecursion}
use Rattle.std.proofs.lemmas.List.{append-nil, append_assoc}
use Rattle.std.proofs.lemmas.Grind.{flat_map-append}
use Rattle.gateway_model.specs.Acts.{Act, Opens, TurnsAway, Takes, Hears, Passes, Asks, Denies, Sends, Tells, GoesOn, GivesUp, Forgoes, Rests, Leaves, Misses}
use Rattle.gateway_model.specs.Orders.{IsFor, AreFor, ServesOut, IsSends, AreSends, Turn, telling, acts_of, IsTurn, Rise, IsTelling, AreTurns, HasTurns, Delivers}

pub all-append : {A : Type 0} (P : A → Type 0) (xs ys : List A)
    → AllByRecursion P xs → AllByRecursion P ys → AllByRecursion P (xs ++ ys)
all-append P [] ys h k = k
all-append P (x ∷ xs) ys h k = (h.0, all-append P xs ys h.1 k)

pub all-as : {A : Type 0} (P Q : A → Type 0) (xs : List A)
    → ((x : A) → P x → Q x) → AllByRecursion P xs → AllByRecursion Q xs
all-as P Q [] f h = h
all-as P Q (x ∷ xs) f h = (f x h.0, all-as P Q xs f h.1)

pub sends-for : (c : ℕ) (a : Act) → IsSends a → IsFor c a
sends-for c (Opens d) h = absurd h
sends-for c TurnsAway h = absurd h
sends-for c (Takes d bytes) h = absurd h
sends-for c (Hears p bytes) h = absurd h
sends-for c Passes h = absurd h
sends-for c (Asks d) h = absurd h
sends-for c (Denies d) h = absurd h
sends-for c Sends h = tt
sends-for c (Tells d k) h = absurd h
sends-for c (GoesOn d) h = absurd h
sends-for c (GivesUp d) h = absurd h
sends-for c (Forgoes d k) h = absurd h
sends-for c (Rests d) h = absurd h
sends-for c (Leaves d) h = absurd h
sends-for c (Misses d) h = absurd h

pub sends-are-for : (c : ℕ) (xs : List Act) → AreSends xs → AreFor c xs
sends-are-for c xs h = all-as IsSends (IsFor c) xs (sends-for c) h

pub sends-on : (xs ys : List Act) → AreSends xs → AreSends ys → AreSends (xs ++ ys)
sends-on xs ys h k = all-append IsSends xs ys h k

pub for-on : (c : ℕ) (xs ys : List Act) → AreFor c xs → AreFor c ys → AreFor c (xs ++ ys)
for-on c xs ys h k = all-append (IsFor c) xs ys h k

pub sends-for-on : (c : ℕ) (xs ys : List Act) → AreSends xs → AreFor c ys → AreFor c (xs ++ ys)
sends-for-on c xs ys h k = for-on c xs ys (sends-are-for c xs h) k

-- what is told, or forgone, is done for its connection
pub telling-for : (told : Bool) (c k : ℕ) → IsFor c (telling told c k)
telling-for true c k = refl
telling-for false c k = refl

pub told-for : (c k : ℕ) (xs : List Act) → IsTelling c k xs → AreFor c xs
told-for c k xs e = subst (AreFor c) (sym e.1) (telling-for e.0 c k, tt)

pub out-on : (c : ℕ) (xs ys : List Act) → AreFor c xs → ServesOut c ys → ServesOut c (xs ++ ys)
out-on c xs ys h k = record {
  first = xs ++ k.first;
  are = ap (λ (zs : List Act). xs ++ zs) k.are ∙ sym (append_assoc xs k.first (Rests c ∷ []));
  for = for-on c xs k.first h k.for;
}

-- turns

rise-to : (n k : ℕ) (turns : List Turn) (m : ℕ) (x : Turn) → Rise n turns m → m ≤ x.ask → Rise n (turns ++ x ∷ []) (x.ask + 1)
rise-to n k [] m x h le = (trans-le n m x.ask h le, refl-le (x.ask + 1))
  where
    trans-le : (a b c : ℕ) → a ≤ b → b ≤ c → a ≤ c
    trans-le a b c h k = omega arith

    refl-le : (a : ℕ) → a ≤ a
    refl-le a = omega arith
rise-to n k (y ∷ turns) m x h le = (h.0, rise-to (y.ask + 1) k turns m x h.1 le)

pub no-turns : AreTurns 0 []
no-turns = record { turns = []; are = refl; each = tt; rise = zero-le }
  where
    zero-le : 0 ≤ 0
    zero-le = omega arith

pub turns-on : (m c k : ℕ) (xs ys zs : List Act) → m ≤ k → AreTurns m xs → IsTelling c k ys → ServesOut c zs
    → AreTurns (k + 1) (xs ++ (ys ++ zs))
turns-on m c k xs ys zs le h e f =
    let x : Turn = record { conn = c; ask = k; told = e.0; further = zs } in
    record {
      turns = h.turns ++ x ∷ [];
      are = ap (λ (vs : List Act). vs ++ (ys ++ zs)) h.are
          ∙ (ap (λ (vs : List Act). flat_map acts_of h.turns ++ vs) (ap (λ (vs : List Act). vs ++ zs) e.1 ∙ sym (append-nil (acts_of x)))
          ∙ sym (flat_map-append acts_of h.turns (x ∷ [])));
      each = all-append IsTurn h.turns (x ∷ []) h.each (f, tt);
      rise = rise-to 0 0 h.turns m x h.rise le;
    }

pub delivers-on : (xs ys : List Act) → AreSends xs → HasTurns ys → Delivers (xs ++ ys)
delivers-on xs ys h k = record { sends = xs; answers = ys; are = refl; sent = h; told = k }

-- What each act for a connection has, and each end of it, all acts that follow an input's first have.
pub record Each (P : Act → Type 0) : Type 0 where
  pub asks : (c : ℕ) → P (Asks c)
  pub denies : (c : ℕ) → P (Denies c)
  pub sends : P Sends
  pub tells : (c k : ℕ) → P (Tells c k)
  pub goes_on : (c : ℕ) → P (GoesOn c)
  pub gives_up : (c : ℕ) → P (GivesUp c)
  pub forgoes : (c k : ℕ) → P (Forgoes c k)
  pub rests : (c : ℕ) → P (Rests c)

module _ (P : Act → Type 0) (each : Each P) where
  each-for : (c : ℕ) (a : Act) → IsFor c a → P a
  each-for c (Opens d) h = absurd h
  each-for c TurnsAway h = absurd h
  each-for c (Takes d bytes) h = absurd h
  each-for c (Hears p bytes) h = absurd h
  each-for c Passes h = absurd h
  each-for c (Asks d) h = each.asks d
  each-for c (Denies d) h = each.denies d
  each-for c Sends h = each.sends
  each-for c (Tells d k) h = each.tells d k
  each-for c (GoesOn d) h = each.goes_on d
  each-for c (GivesUp d) h = each.gives_up d
  each-for c (Forgoes d k) h = each.forgoes d k
  each-for c (Rests d) h = absurd h
  each-for c (Leaves d) h = absurd h
  each-for c (Misses d) h = absurd h

  pub each-out : (c : ℕ) (acts : List Act) → ServesOut c acts → AllByRecursion P acts
  each-out c acts h =
      subst (AllByRecursion P) (sym h.are)
      (all-append P h.first (Rests c ∷ []) (all-as (IsFor c) P h.first (each-for c) h.for) (each.rests c, tt))

  each-telling : (told : Bool) (c k : ℕ) → P (telling told c k)
  each-telling true c k = each.tells c k
  each-telling false c k = each.forgoes c k

  each-turns : (turns : List Turn) → AllByRecursion IsTurn turns → AllByRecursion P (flat_map acts_of turns)
  each-turns [] h = tt
  each-turns (x ∷ turns) h =
      all-append P (acts_of x) (flat_map acts_of turns) (each-telling x.told x.conn x.ask, each-out x.conn x.further h.0) (each-turns turns h.1)

  pub each-delivers : (acts : List Act) → Delivers acts → AllByRecursion P acts
  each-delivers acts h =
      let turns = h.told.1 in
      subst (AllByRecursion P) (sym h.are)
      (all-append P h.sends h.answers (all-as IsSends P h.sends (λ a s. each-for 0 a (sends-for 0 a s)) h.sent)
      (subst (AllByRecursion P) (sym turns.are) (each-turns turns.turns turns.each)))
