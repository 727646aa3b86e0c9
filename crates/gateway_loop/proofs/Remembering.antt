-- Entries leave memory, and all is served as it was.
use Rattle.std.proofs.Common.{◌≡◌, ℕ, List, Option, Some, None, Result, Ok, Err, sym, ap, subst, ◌∙◌}
use Rattle.std.specs.Option.{IfSome}
use Rattle.std.specs.Result.{IfOk}
use Rattle.journal_book.specs.Entries.{Written}
use Rattle.media_map.specs.declared.form.Form.{Form}
use Rattle.exchange_core.specs.Values.{Outgoing}
use Rattle.gateway_model.specs.declared.input.Input.{Input}
use Rattle.gateway_model.specs.Emissions.{Emission}
use Rattle.gateway_world.specs.declared.engine.Step.{Step}
use Rattle.gateway_world.specs.Giving.{IsGivenOut}
use Rattle.gateway_world.specs.Inputs.{Takes}
use Rattle.gateway_world.specs.Openings.{IsCounted}
use Rattle.gateway_world.specs.Refusals.{IfTaken, IsRefused, opened_in}
use Rattle.gateway_world.specs.Worlds.{Memory, WorldValue, new_world, with_memory}
use Rattle.gateway_world.proofs.Running.{takes-gives}
use Rattle.gateway_loop.specs.Clients.{ClientValue}
use Rattle.gateway_loop.specs.declared.leaving.Segment.{Segment}
use Rattle.gateway_loop.specs.Gateways.{GivesNext, IsShorter, IsTriedAfter}
use Rattle.gateway_loop.specs.Serving.{IsServing}
use Rattle.gateway_loop.specs.Telling.{NotesValue}
use Rattle.gateway_loop.proofs.Stepping.{taken-more}

pub some-holds : {A : Type 0} (P : A → Type 0) (o : Option A) (x : A) → o ≡ Some x → IfSome o P → P x
some-holds P o x e h = subst (λ (y : Option _). IfSome y P) e h

-- what holds of an answer by three clauses
pub all-three : {A E : Type 0} (r : Result A E) (P Q S T : A → Type 0) → IfOk r P → IfOk r Q → IfOk r S
    → ((a : A) → P a → Q a → S a → T a) → IfOk r T
all-three (Ok a) P Q S T p q s f = f a p q s
all-three (Err e) P Q S T p q s f = tt

-- one more segment left
pub shorter-given : (segment : List Written) (a b c : WorldValue) → IsShorter a b → IsGivenOut segment b c → IsShorter a c
shorter-given segment a b c h g = (g.memory, g.is ∙ ap (with_memory g.memory) h.1)

-- the rules stay
pub next-rules : {R : Type 0} (s : Option (Segment R)) (w v : WorldValue) → GivesNext s w v → v.rules ≡ w.rules
next-rules (Some s) w v h = ap (λ (u : WorldValue). u.rules) h.1.is
next-rules None w v h = ap (λ (u : WorldValue). u.rules) h

-- an input that is tried once more, on a world of which entries left memory
pub tried-again : {E : Type 0} (holds : Form → Form → List ℕ → List ℕ → Type 0) (takes : Form → Form → List ℕ → Type 0)
    (input : Input) (out : List Emission) (step : Step) (memory : Memory) (w v u : WorldValue)
    → v ≡ with_memory memory w → IfTaken step (Takes holds takes input v out u) → (IsRefused step → (u ≡ v) × E)
    → IsCounted input.happening (opened_in step) v.core u.core
    → IsTriedAfter (λ (z : WorldValue). Takes holds takes input z out u) input.happening step w u
tried-again holds takes input out step memory w v u is t s o = record {
  memory = memory;
  takes = taken-more step (subst (λ (z : WorldValue). Takes holds takes input z out u) is) t;
  stays = λ r. (s r).0 ∙ is;
  opened = subst (λ (z : WorldValue). IsCounted input.happening (opened_in step) z.core u.core) is o;
}

module _ (holds : Form → Form → List ℕ → List ℕ → Type 0) (takes : Form → Form → List ℕ → Type 0)
    {S W : Type 0} (written gave : S → Option (List ℕ)) (sent heard : W → Option (List Outgoing)) where
  pub serving-gives : (memory : Memory) (w : WorldValue) (xs : List (Option (ClientValue S))) (m : W) (n0 : NotesValue)
      → IsServing holds takes written gave sent heard w xs m n0
      → IsServing holds takes written gave sent heard (with_memory memory w) xs m n0
  serving-gives memory w xs m n0 h = record {
    past = h.past;
    after = takes-gives holds takes memory h.past.inputs (new_world w.rules) w h.past.given h.after;
    numbers = h.numbers;
    each = h.each;
    goes = h.goes;
    came = h.came;
    last = h.last;
  }

  pub serving-shorter : (w v : WorldValue) (xs : List (Option (ClientValue S))) (m : W) (n0 : NotesValue) → IsShorter w v
      → IsServing holds takes written gave sent heard w xs m n0
      → IsServing holds takes written gave sent heard v xs m n0
  serving-shorter w v xs m n0 g h =
      subst (λ (u : WorldValue). IsServing holds takes written gave sent heard u xs m n0) (sym g.1) (serving-gives g.0 w xs m n0 h)

  pub serving-out : (segment : List Written) (w v : WorldValue) (xs : List (Option (ClientValue S))) (m : W) (n0 : NotesValue)
      → IsGivenOut segment w v → IsServing holds takes written gave sent heard w xs m n0
      → IsServing holds takes written gave sent heard v xs m n0
  serving-out segment w v xs m n0 g h = serving-shorter w v xs m n0 (g.memory, g.is) h
