-- The turns of the endpoints, prepared and done one after another.
use Rattle.std.proofs.Common.{◌≡◌, ℕ, suc, zero, ◌+◌, ◌<◌, ◌≤◌, true, false, List, [], ◌∷◌, ◌++◌, length, map, take, drop, get_or, set, Option, Some, None, refl, sym, ap, subst, ◌∙◌, arith, append_assoc, append-nil}
use Rattle.std.specs.Prelude.{⊤}
use Rattle.std.specs.Option.{option_to_list}
use Rattle.message_layer.specs.Prepared.{IsTicking}
use Rattle.message_layer.specs.declared.prepared.Ticking.{Ticking}
use Rattle.message_layer.specs.declared.prepared.Ticking.TheVariants.{Rests}
use Rattle.exchange_model.specs.Calls.{link_due}
use Rattle.exchange_model.specs.State.{PeerLink}
use Rattle.endpoint_table.specs.declared.endpoint.Endpoint.{Endpoint}
use Rattle.endpoint_table.specs.declared.turns.Turn.{Turn}
use Rattle.endpoint_table.specs.Tables.{has_room, peer_link}
use Rattle.endpoint_table.specs.Turns.{AreTurns, IsFirst, IsTurnOf}
use Rattle.endpoint_table.proofs.Deeds.{rests-there}

-- one that shows as before is set
pub map-set : {A B : Type 0} (f : A → B) (xs : List A) (i : ℕ) (r d : A) → f r ≡ f (get_or xs i d)
    → map f (set xs i r) ≡ map f xs
map-set f [] i r d e = refl
map-set f (x ∷ xs) zero r d e = ap (λ y. y ∷ map f xs) e
map-set f (x ∷ xs) (suc i) r d e = ap (λ ys. f x ∷ ys) (map-set f xs i r d e)

-- one more is prepared
pub turns-push : (t : ℕ) (gone : List (List ℕ)) (ys : List Endpoint) (i : ℕ) (r : Endpoint)
    (o : Option Turn) (ks : List Turn) → i < length ys
    → AreTurns t gone (map peer_link (take i ys)) (map has_room (take i ys)) ks
    → IsTurnOf t gone (peer_link r) r.link.room o
    → AreTurns t gone (map peer_link (take (i + 1) (set ys i r)))
    (map has_room (take (i + 1) (set ys i r))) (ks ++ option_to_list o)
turns-push t gone [] i r o ks lt a h = absurd (omega (arith, lt))
turns-push t gone (y ∷ ys) zero r o ks lt a h = record {
  turn = o;
  others = [];
  are = ap (λ (js : List Turn). js ++ option_to_list o) a ∙ sym (append-nil (option_to_list o));
  is = h;
  rest = refl;
}
turns-push t gone (y ∷ ys) (suc i) r o ks lt a h =
    let n : suc i + 1 ≡ suc (i + 1) = omega arith in
    subst (λ (m : ℕ). AreTurns t gone (map peer_link (take m (set (y ∷ ys) (suc i) r)))
    (map has_room (take m (set (y ∷ ys) (suc i) r))) (ks ++ option_to_list o)) (sym n)
    (record {
      turn = a.turn;
      others = a.others ++ option_to_list o;
      are = ap (λ (js : List Turn). js ++ option_to_list o) a.are
          ∙ append_assoc (option_to_list a.turn) a.others (option_to_list o);
      is = a.is;
      rest = turns-push t gone ys i r o a.others (omega (arith, lt)) a.rest h;
    })

-- the first that is left is that of the endpoint in this place, if it has one
pub left-there : (t : ℕ) (gone : List (List ℕ)) (ys : List Endpoint) (i : ℕ) (y : Endpoint)
    (ks : List Turn) → i < length ys → y ≡ get_or ys i y
    → AreTurns t gone (map peer_link (drop i ys)) (map has_room (drop i ys)) ks
    → IsFirst t gone (peer_link y) y.link.room ks
    (AreTurns t gone (map peer_link (drop (i + 1) ys)) (map has_room (drop (i + 1) ys)))
left-there t gone [] i y ks lt is a = absurd (omega (arith, lt))
left-there t gone (x ∷ ys) zero y ks lt is a =
    subst (λ (z : Endpoint). IsFirst t gone (peer_link z) z.link.room ks
    (AreTurns t gone (map peer_link ys) (map has_room ys))) (sym is) a
left-there t gone (x ∷ ys) (suc i) y ks lt is a =
    let n : suc i + 1 ≡ suc (i + 1) = omega arith in
    subst (λ (m : ℕ). IsFirst t gone (peer_link y) y.link.room ks
    (AreTurns t gone (map peer_link (drop m (x ∷ ys))) (map has_room (drop m (x ∷ ys))))) (sym n)
    (left-there t gone ys i y ks (omega (arith, lt)) is a)

-- What is taken is what the endpoint does, and the others are left.
pub record TakesTurn (t : ℕ) (gone : List (List ℕ)) (y : Endpoint) (k : Ticking)
    (left : List Turn) (AreOthers : List Turn → Type 0) : Type 0 where
  pub does : IsTicking t gone y.link k
  pub others : AreOthers left

pub takes-turn : (t : ℕ) (gone : List (List ℕ)) (y : Endpoint) (ks left : List Turn) (k : Ticking)
    (AreOthers : List Turn → Type 0) → IsFirst t gone (peer_link y) y.link.room ks AreOthers
    → ((j : Turn) (js : List Turn) → ks ≡ j ∷ js → link_due t (peer_link y) ≡ true
    → (k ≡ j.ticking) × (left ≡ js))
    → (link_due t (peer_link y) ≡ false → (k ≡ Rests) × (left ≡ ks))
    → TakesTurn t gone y k left AreOthers
takes-turn t gone y ks left k AreOthers f due rests = by f.turn f.are f.is
  where
    by : (o : Option Turn) → ks ≡ option_to_list o ++ f.others
        → IsTurnOf t gone (peer_link y) y.link.room o → TakesTurn t gone y k left AreOthers
    by None are h =
        let a = rests h in record {
          does = subst (λ (j : Ticking). IsTicking t gone y.link j) (sym a.0)
              (rests-there t gone (peer_link y) y.link.room h);
          others = subst AreOthers (sym (a.1 ∙ are)) f.rest;
        }
    by (Some j) are h =
        let a = due j f.others are h.0 in record {
          does = subst (λ (j : Ticking). IsTicking t gone y.link j) (sym a.0) h.2;
          others = subst AreOthers (sym a.1) f.rest;
        }

-- those up to a place were changed, and the others are as they were
abbrev pub AreDone : (PeerLink → PeerLink) → ℕ → List Endpoint → List Endpoint → Type 0
AreDone f zero ys zs = ys ≡ zs
AreDone f (suc i) [] [] = ⊤
AreDone f (suc i) (y ∷ ys) [] = ⊥
AreDone f (suc i) [] (z ∷ zs) = ⊥
AreDone f (suc i) (y ∷ ys) (z ∷ zs) = (peer_link y ≡ f (peer_link z)) × AreDone f i ys zs

pub done-more : (f : PeerLink → PeerLink) (i : ℕ) (ys zs : List Endpoint) (r d : Endpoint)
    → i < length ys → AreDone f i ys zs → peer_link r ≡ f (peer_link (get_or ys i d))
    → AreDone f (i + 1) (set ys i r) zs
done-more f i [] zs r d lt a e = absurd (omega (arith, lt))
done-more f zero (y ∷ ys) zs r d lt a e =
    subst (AreDone f 1 (r ∷ ys)) a (e, refl)
done-more f (suc i) (y ∷ ys) [] r d lt a e = absurd a
done-more f (suc i) (y ∷ ys) (z ∷ zs) r d lt a e =
    let n : suc i + 1 ≡ suc (i + 1) = omega arith in
    subst (λ (m : ℕ). AreDone f m (y ∷ set ys i r) (z ∷ zs)) (sym n)
    (a.0, done-more f i ys zs r d (omega (arith, lt)) a.1 e)

pub done-all : (f : PeerLink → PeerLink) (i : ℕ) (ys zs : List Endpoint) → length ys ≤ i
    → AreDone f i ys zs → map peer_link ys ≡ map f (map peer_link zs)
done-all f zero [] zs le a = subst (λ (xs : List Endpoint). [] ≡ map f (map peer_link xs)) a refl
done-all f zero (y ∷ ys) zs le a = absurd (omega (arith, le))
done-all f (suc i) [] [] le a = refl
done-all f (suc i) (y ∷ ys) [] le a = absurd a
done-all f (suc i) [] (z ∷ zs) le a = absurd a
done-all f (suc i) (y ∷ ys) (z ∷ zs) le a =
    ap (λ (x : PeerLink). x ∷ map peer_link ys) a.0
    ∙ ap (λ (xs : List PeerLink). f (peer_link z) ∷ xs) (done-all f i ys zs (omega (arith, le)) a.1)

-- what comes after it isn't changed
pub drop-set : {X : Type 0} (xs : List X) (i : ℕ) (x : X) → drop (i + 1) (set xs i x) ≡ drop (i + 1) xs
drop-set [] i x = refl
drop-set (y ∷ xs) zero x = refl
drop-set (y ∷ xs) (suc i) x =
    let n : suc i + 1 ≡ suc (i + 1) = omega arith in
    ap (λ (m : ℕ). drop m (y ∷ set xs i x)) n ∙ (drop-set xs i x
    ∙ sym (ap (λ (m : ℕ). drop m (y ∷ xs)) n))
