-- What a step of the world says, once it is known whether it was taken.
use Rattle.std.proofs.Common.{◌≡◌, ◌-◌, ◌+◌, ℕ, List, [], ◌∷◌, ◌++◌, length, take, Option, Some, None, refl, sym, ap, subst, ◌∙◌, arith, rules, length-append}
use Rattle.exchange_core.specs.Values.{CoreValue}
use Rattle.gateway_model.specs.declared.input.Happening.{Happening}
use Rattle.gateway_model.specs.declared.input.Happening.TheVariants as H
use Rattle.gateway_world.specs.declared.engine.Step.{Step}
use Rattle.gateway_world.specs.declared.engine.Step.TheVariants as S
use Rattle.gateway_world.specs.Openings.{IsCounted}
use Rattle.gateway_world.specs.Refusals.{IfTaken, IsRefused, MayBeRefused, opened_in}
use Rattle.gateway_world.specs.Worlds.{WorldValue, IsTooMuch, served_in}
use Rattle.gateway_loop.specs.Gateways.{BringsNoBytes, IsBare}

pub taken : {P : Type 0} (s : Step) (n : Option ℕ) → s ≡ S.Taken n → IfTaken s P → P
taken (S.Taken m) n e h = h
taken S.Refused n e h = absurd cc

pub counted : (x : Happening) (s : Step) (n : Option ℕ) (old new : CoreValue) → s ≡ S.Taken n
    → IsCounted x (opened_in s) old new → IsCounted x n old new
counted x s n old new e h = subst (λ (o : Option ℕ). IsCounted x o old new) (ap opened_in e) h

pub refused : {P : Type 0} (s : Step) → s ≡ S.Refused → (IsRefused s → P) → P
refused s e h = h (subst IsRefused (sym e) tt)

-- what comes of a connection is never refused
pub not-refused : (s : Step) (x : Happening) → s ≡ S.Refused → (IsRefused s → MayBeRefused x) → (MayBeRefused x → ⊥) → ⊥
not-refused s x e may never = never (may (subst IsRefused (sym e) tt))

-- so it is of more that holds where it was done
pub taken-more : {P Q : Type 0} (s : Step) → (P → Q) → IfTaken s P → IfTaken s Q
taken-more (S.Taken n) f h = f h
taken-more S.Refused f h = tt

-- what brings nothing brings no bytes

pub bare-quiet : (x : Happening) → IsBare x → BringsNoBytes x
bare-quiet H.Open h = tt
bare-quiet (H.Bytes d b) h = h
bare-quiet (H.Datagram p b) h = tt
bare-quiet H.Tick h = tt
bare-quiet H.Rotate h = tt
bare-quiet (H.Close d) h = tt

pub quiet-fits : (x : Happening) (w : WorldValue) → BringsNoBytes x → IsTooMuch x (served_in w) → ⊥
quiet-fits H.Open w h m = m
quiet-fits (H.Bytes d b) w h m = absurd h
quiet-fits (H.Datagram p b) w h m = m
quiet-fits H.Tick w h m = m
quiet-fits H.Rotate w h m = m
quiet-fits (H.Close d) w h m = m

-- a place that was made last is taken away again
pub pop-last : {A : Type 0} (xs zs : List A) (x : A) → zs ≡ xs ++ x ∷ [] → take (length zs - 1) zs ≡ xs
pop-last {A} xs zs x e =
    ap (λ (us : List A). take (length us - 1) us) e ∙ (ap (λ (n : ℕ). take n (xs ++ x ∷ [])) (before xs) ∙ front xs)
  where
    longer : (us : List A) → length (us ++ x ∷ []) ≡ length us + 1
    longer us = search (length-append, rules)

    before : (us : List A) → length (us ++ x ∷ []) - 1 ≡ length us
    before us = let more = longer us in omega (arith, more)

    front : (us : List A) → take (length us) (us ++ x ∷ []) ≡ us
    front [] = refl
    front (u ∷ us) = ap (λ (ws : List A). u ∷ ws) (front us)
