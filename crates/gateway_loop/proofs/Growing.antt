-- What sockets moved, as far as it is known.
use Rattle.std.proofs.Common.{List, [], ◌∷◌, ◌++◌, Option, Some, None, refl, sym, ap, subst, ◌∙◌}
use Rattle.std.proofs.lemmas.List.{append-nil, append_assoc}
use Rattle.gateway_loop.specs.Sockets.{Are, AreAmong, Grown, Hold}

module _ {A : Type 0} where
  pub are-more : (old new : Option (List A)) (xs more : List A) → Are old xs → Grown old new more → Are new (xs ++ more)
  are-more None None xs more a g = tt
  are-more None (Some n) xs more a g = absurd g
  are-more (Some o) None xs more a g = absurd g
  are-more (Some o) (Some n) xs more a g = g ∙ ap (λ (ys : List A). ys ++ more) a

  pub are-same : (old new : Option (List A)) (xs : List A) → Are old xs → Grown old new [] → Are new xs
  are-same old new xs a g = subst (Are new) (append-nil xs) (are-more old new xs [] a g)

  pub grown-none : (x : Option (List A)) → Grown x x []
  grown-none None = tt
  grown-none (Some xs) = sym (append-nil xs)

  pub grown-then : (a b c : Option (List A)) (xs ys : List A) → Grown a b xs → Grown b c ys → Grown a c (xs ++ ys)
  grown-then None None None xs ys g h = tt
  grown-then None None (Some z) xs ys g h = absurd h
  grown-then None (Some y) c xs ys g h = absurd g
  grown-then (Some x) None c xs ys g h = absurd g
  grown-then (Some x) (Some y) None xs ys g h = absurd h
  grown-then (Some x) (Some y) (Some z) xs ys g h =
      h ∙ (ap (λ (zs : List A). zs ++ ys) g ∙ append_assoc x xs ys)

  -- some of those that came

  pub among-same : (xs : List A) → AreAmong xs xs
  among-same [] = tt
  among-same (x ∷ xs) = ([], xs, refl, among-same xs)

  among-after : (ys all more : List A) → AreAmong ys more → AreAmong ys (all ++ more)
  among-after [] all more h = tt
  among-after (y ∷ ys) all more (b, a, e, r) =
      (all ++ b, a, ap (λ (zs : List A). all ++ zs) e ∙ sym (append_assoc all b (y ∷ a)), r)

  among-then : (xs ys all more : List A) → AreAmong xs all → AreAmong ys more → AreAmong (xs ++ ys) (all ++ more)
  among-then [] ys all more h k = among-after ys all more k
  among-then (x ∷ xs) ys all more (b, a, e, r) k =
      (b, a ++ more, ap (λ (zs : List A). zs ++ more) e ∙ append_assoc b (x ∷ a) more, among-then xs ys a more r k)

  -- of those that came, these are held besides
  pub hold-more : (old new : Option (List A)) (xs more kept : List A) → Hold old xs → Grown old new more → AreAmong kept more
      → Hold new (xs ++ kept)
  hold-more None None xs more kept h g k = tt
  hold-more None (Some n) xs more kept h g k = absurd g
  hold-more (Some o) None xs more kept h g k = absurd g
  hold-more (Some o) (Some n) xs more kept h g k = subst (AreAmong (xs ++ kept)) (sym g) (among-then xs kept o more h k)

  -- .. or none
  pub hold-same : (old new : Option (List A)) (xs more : List A) → Hold old xs → Grown old new more → Hold new xs
  hold-same old new xs more h g = subst (Hold new) (append-nil xs) (hold-more old new xs more [] h g tt)

  pub hold-none : (x : Option (List A)) → Hold x []
  hold-none None = tt
  hold-none (Some xs) = tt
