-- Inputs are taken one after another.
use Rattle.std.proofs.Common.{◌≡◌, inl, inr, ℕ, ◌+◌, ◌<◌, List, [], ◌∷◌, ◌++◌, length, take, drop, get_or, refl, sym, ap, subst, ◌∙◌, take-append-drop}
use Rattle.std.proofs.lemmas.List.{append-nil, append_assoc, take_more, drop_more}
use Rattle.media_map.specs.declared.form.Form.{Form}
use Rattle.gateway_model.specs.declared.input.Input.{Input}
use Rattle.gateway_model.specs.declared.input.Output.{Output}
use Rattle.gateway_model.specs.Emissions.{Emission, emission_of, emissions}
use Rattle.gateway_world.specs.Inputs.{Takes, TakesAll, IsRefusedAfter}
use Rattle.gateway_world.specs.Worlds.{WorldValue, IsTooMuch, Memory, memory_of, served_in, with_memory}

module _ (holds : Form → Form → List ℕ → List ℕ → Type 0) (takes : Form → Form → List ℕ → Type 0) where
  pub takes-more : (is : List Input) (i : Input) (a b c : WorldValue) (o p : List Emission)
      → TakesAll holds takes is a o b → Takes holds takes i b p c → TakesAll holds takes (is ++ i ∷ []) a (o ++ p) c
  takes-more [] i a b c o p h k = (
    h.0,
    c,
    p,
    [],
    subst (λ (w : WorldValue). Takes holds takes i w p c) h.1 k,
    (memory_of c, refl, refl),
    ap (λ (q : List Emission). q ++ p) h.2 ∙ sym (append-nil p),
  )
  takes-more (x ∷ is) i a b c o p h k = (
    h.0,
    h.1,
    h.2,
    h.3 ++ p,
    h.4,
    takes-more is i h.1 b c h.3 p h.5 k,
    ap (λ (q : List Emission). q ++ p) h.6 ∙ append_assoc h.2 h.3 p,
  )

  -- Entries may leave memory then.
  pub takes-gives : (m : Memory) (is : List Input) (a b : WorldValue) (o : List Emission)
      → TakesAll holds takes is a o b → TakesAll holds takes is a o (with_memory m b)
  takes-gives m [] a b o h = (m, ap (with_memory m) h.1, h.2)
  takes-gives m (x ∷ is) a b o h =
      (h.0, h.1, h.2, h.3, h.4, takes-gives m is h.1 b h.3 h.5, h.6)

  pub takes-next : (is : List Input) (n : ℕ) (d : Input) (a b c : WorldValue) (o p : List Emission) → n < length is
      → TakesAll holds takes (take n is) a o b → Takes holds takes (get_or is n d) b p c
      → TakesAll holds takes (take (n + 1) is) a (o ++ p) c
  takes-next is n d a b c o p lt h k =
      rw (take_more is n d lt) (takes-more (take n is) (get_or is n d) a b c o p h k)

  -- The rules stay.
  pub takes-rules : (i : Input) (a b : WorldValue) (o : List Emission) → Takes holds takes i a o b → b.rules ≡ a.rules
  takes-rules i a b o (inl k) = k.handles.rules
  takes-rules i a b o (inr k) = k.rules

split-at : {A : Type 0} (xs : List A) (n : ℕ) (d : A) → n < length xs → xs ≡ take n xs ++ get_or xs n d ∷ drop (n + 1) xs
split-at {A} xs n d lt = sym (take-append-drop n xs) ∙ ap (λ (ys : List A). take n xs ++ ys) (drop_more xs n d lt)

pub refused-at : (holds : Form → Form → List ℕ → List ℕ → Type 0) (takes : Form → Form → List ℕ → Type 0)
    (is : List Input) (n : ℕ) (d : Input) (a b : WorldValue) (o : List Emission) → n < length is
    → TakesAll holds takes (take n is) a o b → IsTooMuch (get_or is n d).happening (served_in b)
    → IsRefusedAfter holds takes is a
refused-at holds takes is n d a b o lt h full = record {
  before = take n is;
  input = get_or is n d;
  after = drop (n + 1) is;
  are = split-at is n d lt;
  out = o;
  world = b;
  taken = h;
  full = full;
}

-- what is given out by an input comes after what was given out before

pub emitted-both : {R : Type 0} (xs ys : List (Output R)) → emissions (xs ++ ys) ≡ emissions xs ++ emissions ys
emitted-both [] ys = refl
emitted-both (x ∷ xs) ys = ap (λ (es : List Emission). emission_of x ∷ es) (emitted-both xs ys)

pub joined : {R : Type 0} (holds : Form → Form → List ℕ → List ℕ → Type 0) (takes : Form → Form → List ℕ → Type 0)
    (is : List Input) (a b : WorldValue) (xs ys zs : List (Output R)) → zs ≡ xs ++ ys
    → TakesAll holds takes is a (emissions xs ++ emissions ys) b → TakesAll holds takes is a (emissions zs) b
joined holds takes is a b xs ys zs e h =
    subst (λ (es : List Emission). TakesAll holds takes is a es b) (sym (ap emissions e ∙ emitted-both xs ys)) h
