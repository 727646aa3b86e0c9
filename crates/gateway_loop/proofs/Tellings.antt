-- What is told goes on with what is given out.
use Rattle.std.proofs.Common.{◌≡◌, ◌⊎◌, inl, inr, List, [], ◌∷◌, ◌++◌, refl, sym, ap, subst, ◌∙◌}
use Rattle.std.proofs.lemmas.List.{append-nil, append_assoc, map_push}
use Rattle.std.proofs.lemmas.Grind.{flat_map-append}
use Rattle.gateway_model.specs.declared.input.Output.{Output}
use Rattle.gateway_model.specs.Emissions.{Emission, emission_of, emissions}
use Rattle.gateway_loop.specs.Telling.{AreLast, NotesValue, Off, Lost, Kept, Telling, Tells, forgotten, told_in, tellings, tellings_by}

tellings-both : (a b : List Emission) → tellings (a ++ b) ≡ tellings a ++ tellings b
tellings-both a b = flat_map-append tellings_by a b

-- nothing is given out yet
pub tells-start : (x : NotesValue) → Tells [] x x
tells-start Off = refl
tells-start Lost = refl
tells-start (Kept ts) = inr (ap Kept (sym (append-nil ts)))

-- nothing that is given out is told
pub tells-quiet : (out : List Emission) (x : NotesValue) → tellings out ≡ [] → Tells out x x
tells-quiet out Off e = refl
tells-quiet out Lost e = refl
tells-quiet out (Kept ts) e =
    inr (ap Kept (sym (append-nil ts) ∙ ap (λ (t : List Telling). ts ++ t) (sym e)))

-- one after another
tells-then : (a b : List Emission) (x y z : NotesValue) → Tells a x y → Tells b y z → Tells (a ++ b) x z
tells-then a b Off y z g h = subst (λ (n : NotesValue). Tells b n z) g h
tells-then a b Lost y z g h = subst (λ (n : NotesValue). Tells b n z) g h
tells-then a b (Kept ts) y z (inl g) h = inl (subst (λ (n : NotesValue). Tells b n z) g h)
tells-then a b (Kept ts) y z (inr g) h = by (subst (λ (n : NotesValue). Tells b n z) g h)
  where
    by : (z ≡ Lost) ⊎ (z ≡ Kept ((ts ++ tellings a) ++ tellings b))
        → (z ≡ Lost) ⊎ (z ≡ Kept (ts ++ tellings (a ++ b)))
    by (inl e) = inl e
    by (inr e) =
        inr (e ∙ ap Kept (append_assoc ts (tellings a) (tellings b)
        ∙ ap (λ (t : List Telling). ts ++ t) (sym (tellings-both a b))))

pub tells-more : {R : Type 0} (ys : List (Output R)) (o : Output R) (x y z : NotesValue)
    → Tells (emissions ys) x y → Tells (emission_of o ∷ []) y z → Tells (emissions (ys ++ o ∷ [])) x z
tells-more ys o x y z g h =
    subst (λ (out : List Emission). Tells out x z) (sym (map_push emission_of ys o))
    (tells-then (emissions ys) (emission_of o ∷ []) x y z g h)

-- nothing is told
pub last-none : (given : List Emission) (x : NotesValue) → told_in x ≡ [] → AreLast given x
last-none given x e =
    (tellings given, ap (λ (t : List Telling). tellings given ++ t) e ∙ append-nil (tellings given))

-- more is given out
pub last-on : (given out : List Emission) (x y : NotesValue) → AreLast given x → Tells out x y → AreLast (given ++ out) y
last-on given out Off y l g = last-none (given ++ out) y (ap told_in g)
last-on given out Lost y l g = last-none (given ++ out) y (ap told_in g)
last-on given out (Kept ts) y l (inl g) = last-none (given ++ out) y (ap told_in g)
last-on given out (Kept ts) y l (inr g) = (
  l.0,
  ap (λ (t : List Telling). l.0 ++ t) (ap told_in g)
      ∙ (sym (append_assoc l.0 ts (tellings out))
      ∙ (ap (λ (t : List Telling). t ++ tellings out) l.1 ∙ sym (tellings-both given out))),
)

pub last-same : (given : List Emission) (x y : NotesValue) → y ≡ x → AreLast given x → AreLast given y
last-same given x y e l = subst (AreLast given) (sym e) l

-- the same, of what is the same

pub tells-as : (out : List Emission) (x y z : NotesValue) → z ≡ y → Tells out x y → Tells out x z
tells-as out x y z e h = subst (Tells out x) (sym e) h

pub tells-from : (out : List Emission) (x y z : NotesValue) → y ≡ x → Tells out y z → Tells out x z
tells-from out x y z e h = subst (λ (n : NotesValue). Tells out n z) e h

-- nothing that was forgotten is told
pub forgotten-none : (x y : NotesValue) → y ≡ forgotten x → told_in y ≡ []
forgotten-none Off y e = ap told_in e
forgotten-none Lost y e = ap told_in e
forgotten-none (Kept ts) y e = ap told_in e
