-- Turns are taken one after another.
use Rattle.std.proofs.Common.{◌≡◌, inl, inr, ℕ, ◌+◌, ◌<◌, List, [], ◌∷◌, ◌++◌, length, take, drop, get_or, refl, sym, ap, subst, ◌∙◌, take-append-drop}
use Rattle.std.proofs.lemmas.List.{take_more, drop_more}
use Rattle.media_map.specs.declared.form.Form.{Form}
use Rattle.demo_origin.specs.Values.{Relation}
use Rattle.gateway_model.specs.declared.input.Happening.{Happening}
use Rattle.gateway_model.specs.declared.input.Happening.TheVariants as H
use Rattle.gateway_model.specs.declared.input.Input.{Input}
use Rattle.gateway_model.specs.Emissions.{Emission}
use Rattle.gateway_world.specs.Inputs.{Takes}
use Rattle.gateway_world.specs.Worlds.{WorldValue, counted}
use Rattle.gateway_world.proofs.Memories.{takes-hold}
use Rattle.three_parties.specs.Arriving.{IsFull}
use Rattle.three_parties.specs.Flights.{Reach, ToProxy, ToDevice, Nowhere}
use Rattle.three_parties.specs.Scenes.{Scene, ProxyTakes, Reaches, TakesInput, TakesTurn, TakesTurns}
use Rattle.three_parties.specs.Stories.{IsRefused}
use Rattle.three_parties.specs.declared.turn.Turn.{Turn}
use Rattle.three_parties.specs.declared.turn.Turn.TheVariants as T

module _ (holds : Form → Form → List ℕ → List ℕ → Type 0) (takes : Form → Form → List ℕ → Type 0) (R : Relation) where
  pub turns-more : (xs : List Turn) (x : Turn) (a b c : Scene) → TakesTurns holds takes R xs a b → TakesTurn holds takes R x b c
      → TakesTurns holds takes R (xs ++ x ∷ []) a c
  turns-more [] x a b c h k = (c, subst (λ (s : Scene). TakesTurn holds takes R x s c) h k, refl)
  turns-more (y ∷ xs) x a b c h k = (h.0, h.1, turns-more xs x h.0 b c h.2 k)

  pub turns-next : (xs : List Turn) (n : ℕ) (d : Turn) (a b c : Scene) → n < length xs → TakesTurns holds takes R (take n xs) a b
      → TakesTurn holds takes R (get_or xs n d) b c → TakesTurns holds takes R (take (n + 1) xs) a c
  turns-next xs n d a b c lt h k = rw (take_more xs n d lt) (turns-more (take n xs) (get_or xs n d) a b c h k)

  -- The rules stay.
  world-rules : (i : Input) (a b : WorldValue) (o : List Emission) → Takes holds takes i a o b → b.rules ≡ a.rules
  world-rules i a b o (inl k) = k.handles.rules
  world-rules i a b o (inr k) = k.rules

  proxy-rules : (t : ℕ) (i : Input) (a b : Scene) → ProxyTakes holds takes R t i a b → b.world.rules ≡ a.world.rules
  proxy-rules t i a b p =
      ap (λ (s : Scene). s.world.rules) p.is ∙ world-rules (record i { moment = t }) a.world p.world p.given p.takes_it

  input-rules : (t : ℕ) (i : Input) (x : Happening) (a b : Scene) → TakesInput holds takes R t i x a b → b.world.rules ≡ a.world.rules
  input-rules t i (H.Datagram p bytes) a b k = ap (λ (s : Scene). s.world.rules) k
  input-rules t i H.Open a b k = proxy-rules t i a b k
  input-rules t i (H.Bytes c bytes) a b k = proxy-rules t i a b k
  input-rules t i H.Tick a b k = proxy-rules t i a b k
  input-rules t i (H.Close c) a b k = proxy-rules t i a b k
  input-rules t i H.Rotate a b k = proxy-rules t i a b k

  reach-rules : (t word n : ℕ) (r : Reach) (a b : Scene) → Reaches holds takes R t word n r a b → b.world.rules ≡ a.world.rules
  reach-rules t word n (ToProxy bytes) a b k = proxy-rules t _ a b k.takes_it
  reach-rules t word n (ToDevice bytes) a b k = ap (λ (s : Scene). s.world.rules) k.is
  reach-rules t word n Nowhere a b k = ap (λ (s : Scene). s.world.rules) k

  pub turn-rules : (x : Turn) (a b : Scene) → TakesTurn holds takes R x a b → b.world.rules ≡ a.world.rules
  turn-rules (T.Proxy i) a b k = input-rules _ i i.happening a b k
  turn-rules (T.Device m) a b k = ap (λ (s : Scene). s.world.rules) k.is
  turn-rules (T.Deliver w n) a b k = reach-rules (counted a.moment w.moment) w.word n _ a b k

  -- Nothing is given out.
  proxy-given : (t : ℕ) (i : Input) (a b : Scene) → ProxyTakes holds takes R t i a b → b.world.core.state.given ≡ a.world.core.state.given
  proxy-given t i a b p =
      ap (λ (s : Scene). s.world.core.state.given) p.is ∙ takes-hold holds takes (record i { moment = t }) a.world p.world p.given p.takes_it

  input-given : (t : ℕ) (i : Input) (x : Happening) (a b : Scene) → TakesInput holds takes R t i x a b → b.world.core.state.given ≡ a.world.core.state.given
  input-given t i (H.Datagram p bytes) a b k = ap (λ (s : Scene). s.world.core.state.given) k
  input-given t i H.Open a b k = proxy-given t i a b k
  input-given t i (H.Bytes c bytes) a b k = proxy-given t i a b k
  input-given t i H.Tick a b k = proxy-given t i a b k
  input-given t i (H.Close c) a b k = proxy-given t i a b k
  input-given t i H.Rotate a b k = proxy-given t i a b k

  reach-given : (t word n : ℕ) (r : Reach) (a b : Scene) → Reaches holds takes R t word n r a b → b.world.core.state.given ≡ a.world.core.state.given
  reach-given t word n (ToProxy bytes) a b k = proxy-given t _ a b k.takes_it
  reach-given t word n (ToDevice bytes) a b k = ap (λ (s : Scene). s.world.core.state.given) k.is
  reach-given t word n Nowhere a b k = ap (λ (s : Scene). s.world.core.state.given) k

  pub turn-given : (x : Turn) (a b : Scene) → TakesTurn holds takes R x a b → b.world.core.state.given ≡ a.world.core.state.given
  turn-given (T.Proxy i) a b k = input-given _ i i.happening a b k
  turn-given (T.Device m) a b k = ap (λ (s : Scene). s.world.core.state.given) k.is
  turn-given (T.Deliver w n) a b k = reach-given (counted a.moment w.moment) w.word n _ a b k

split-at : {A : Type 0} (xs : List A) (n : ℕ) (d : A) → n < length xs → xs ≡ take n xs ++ get_or xs n d ∷ drop (n + 1) xs
split-at {A} xs n d lt = sym (take-append-drop n xs) ∙ ap (λ (ys : List A). take n xs ++ ys) (drop_more xs n d lt)

-- a turn that is refused
pub refused-at : (holds : Form → Form → List ℕ → List ℕ → Type 0) (takes : Form → Form → List ℕ → Type 0) (R : Relation)
    (xs : List Turn) (n : ℕ) (d : Turn) (a b : Scene) → n < length xs
    → TakesTurns holds takes R (take n xs) a b → IsFull (get_or xs n d) b → IsRefused holds takes R xs a
refused-at holds takes R xs n d a b lt h full = by (get_or xs n d) refl full
  where
    by : (x : Turn) → get_or xs n d ≡ x → IsFull x b → IsRefused holds takes R xs a
    by (T.Proxy i) is k = record {
      before = take n xs;
      input = i;
      after = drop (n + 1) xs;
      are = split-at xs n d lt ∙ ap (λ (x : Turn). take n xs ++ x ∷ drop (n + 1) xs) is;
      scene = b;
      taken = h;
      full = k;
    }
    by (T.Device m) is k = absurd k
    by (T.Deliver w m) is k = absurd k
