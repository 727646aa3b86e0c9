-- Steps are taken one after another.
use Rattle.std.proofs.Common.{◌≡◌, ℕ, ◌+◌, ◌<◌, List, [], ◌∷◌, ◌++◌, length, take, get_or, refl, sym, subst, ◌∙◌}
use Rattle.std.specs.Prelude.{Result, Ok, Err, OnOk}
use Rattle.std.proofs.lemmas.List.{take_more}
use Rattle.command_line.specs.declared.script.Event.{Event}
use Rattle.command_line.specs.declared.script.Event.TheVariants as E
use Rattle.command_line.specs.declared.story.StoryTurn.{StoryTurn}
use Rattle.command_line.specs.declared.story.StoryTurn.TheVariants as S
use Rattle.demo_origin.specs.Values.{Relation}
use Rattle.media_map.specs.declared.form.Form.{Form}
use Rattle.three_parties.specs.Scenes.{Scene}
use Rattle.three_parties.specs.declared.turn.Turn.TheVariants as T
use Rattle.three_parties.proofs.Running.{turn-rules}
use Rattle.story_runs.specs.Steps.{TakesEvent, TakesBoth, TakesSo, TakesStep, TakesSteps}
use Rattle.story_runs.specs.declared.book.Step.{Step}

-- what follows where all went well
pub on-ok : {S E : Type 0} (P Q : Type 0) → (P → Q) → (r : Result S E) → OnOk r P → OnOk r Q
on-ok P Q f (Ok s) h = f h
on-ok P Q f (Err e) h = h

module _ (holds : Form → Form → List ℕ → List ℕ → Type 0) (takes : Form → Form → List ℕ → Type 0) (R : Relation) where
  pub event-rules : (t word : ℕ) (e : Event) (a b : Scene) → TakesEvent holds takes R t word e a b → b.world.rules ≡ a.world.rules
  event-rules t word e a b h = turn-rules holds takes R (T.Proxy h.input) a b h.takes_it

  -- The rules stay.
  so-rules : (t word : ℕ) (x : StoryTurn) (a b : Scene) → TakesSo holds takes R t word x a b → b.world.rules ≡ a.world.rules
  so-rules t word (S.Gateway e) a b h = event-rules t word e a b h
  so-rules t word S.Device a b h = turn-rules holds takes R (T.Device t) a b h
  so-rules t word S.Both a b h = turn-rules holds takes R (T.Device t) h.between b h.then ∙ event-rules t word E.Tick a h.between h.first
  so-rules t word (S.Deliver n) a b h = turn-rules holds takes R (T.Deliver (record { moment = t; word = word }) n) a b h

  pub step-rules : (x : Step) (a b : Scene) → TakesStep holds takes R x a b → b.world.rules ≡ a.world.rules
  step-rules x a b h = so-rules x.moment x.word x.turn a b h

  steps-more : (xs : List Step) (x : Step) (a b c : Scene) → TakesSteps holds takes R xs a b → TakesStep holds takes R x b c
      → TakesSteps holds takes R (xs ++ x ∷ []) a c
  steps-more [] x a b c h k = (c, subst (λ (s : Scene). TakesStep holds takes R x s c) h k, refl)
  steps-more (y ∷ xs) x a b c h k = (h.0, h.1, steps-more xs x h.0 b c h.2 k)

  pub steps-next : (xs : List Step) (n : ℕ) (d : Step) (a b c : Scene) → n < length xs → TakesSteps holds takes R (take n xs) a b
      → TakesStep holds takes R (get_or xs n d) b c → TakesSteps holds takes R (take (n + 1) xs) a c
  steps-next xs n d a b c lt h k =
      subst (λ (ys : List Step). TakesSteps holds takes R ys a c) (sym (take_more xs n d lt)) (steps-more (take n xs) (get_or xs n d) a b c h k)

  -- the same steps, from the same scene
  pub steps-from : (xs ys : List Step) (a b c : Scene) → xs ≡ ys → a ≡ b → TakesSteps holds takes R xs a c → TakesSteps holds takes R ys b c
  steps-from xs ys a b c e f h =
      subst (λ (s : Scene). TakesSteps holds takes R ys s c) f (subst (λ (zs : List Step). TakesSteps holds takes R zs a c) e h)
