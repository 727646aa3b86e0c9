-- What the engine leads to, of which nothing is taken back, is what the world takes.
use Rattle.std.proofs.Common.{◌≡◌, inl, inr, ℕ, ◌+◌, List, [], ◌∷◌, ◌++◌, Option, Some, None, refl, sym, ap, subst, ◌∙◌}
use Rattle.std.specs.Prelude.{⊤}
use Rattle.media_map.specs.declared.form.Form.{Form}
use Rattle.ask_model.specs.Views.{Rules}
use Rattle.history_laws.specs.Justified.{Stands}
use Rattle.exchange_model.specs.State.{State}
use Rattle.exchange_model.specs.Room.{KeptInRoom}
use Rattle.exchange_core.specs.Values.{CoreValue}
use Rattle.gateway_model.specs.declared.input.Happening.{Happening}
use Rattle.gateway_model.specs.declared.input.Happening.TheVariants as H
use Rattle.gateway_model.specs.declared.input.Input.{Input}
use Rattle.gateway_model.specs.declared.input.Output.{Output}
use Rattle.gateway_model.specs.declared.input.When.{When}
use Rattle.gateway_model.specs.Acts.{Terms, at}
use Rattle.gateway_model.specs.Emissions.{Emission, emissions, Turned}
use Rattle.gateway_model.specs.Orders.{IsInOrder}
use Rattle.gateway_model.specs.Resting.{AllRest}
use Rattle.gateway_model.specs.Rotating.{Rotates}
use Rattle.gateway_model.specs.Tellings.{terms_of}
use Rattle.gateway_model.specs.Unasked.{unasked_in}
use Rattle.gateway_model.specs.Waiting.{IsDrained}
use Rattle.history_claims.proofs.CallerLemmas.{asks-once, names-cause}
use Rattle.history_claims.specs.Order.{KeepsOrder}
use Rattle.gateway_connections.specs.Inlets.{TableValue}
use Rattle.gateway_model.proofs.CallerLemmas.{CountsOpened, input-counts, rotation-is}
use Rattle.gateway_world.specs.declared.engine.Engine.{Engine}
use Rattle.gateway_world.specs.Inputs.{Takes, TakesActs, TakesRotation}
use Rattle.gateway_world.specs.Keeping.{IsKept}
use Rattle.gateway_world.specs.Leading.{LeadsBy, RotatesBy, StepsBy, served_of}
use Rattle.gateway_world.specs.Openings.{IsCounted, IsOpening}
use Rattle.gateway_world.specs.Worlds.{WorldValue, Handles, IsTooMuch, counted, world_of}
use Rattle.gateway_world.proofs.AskedInRun.{heeded}
use Rattle.gateway_world.proofs.Handling.{handled}
use Rattle.gateway_world.proofs.Promises.{led-closes, led-sends, led-tells, input-shows}

module _ {R : Type 0} (holds : Form → Form → List ℕ → List ℕ → Type 0) (takes : Form → Form → List ℕ → Type 0) (rules : Rules) where
  -- An input is taken once the connections are marked as they are.
  taken-led : KeepsOrder → (i : Input) (m t : ℕ) (old mid new : Engine R) (before after : List (Output R))
      → LeadsBy (terms_of holds takes rules) (record { moment = t; word = i.word }) (IsInOrder i.happening) old before mid after
      → emissions before ≡ [] → t ≡ counted m i.moment → new.core ≡ mid.core → new.table.current ≡ mid.table.current
      → IsKept holds takes rules m old → IsDrained mid.core → KeptInRoom old.core.state → Stands mid.core.state.entries
      → (IsTooMuch i.happening (served_of old) → ⊥) → IsKept holds takes rules t new
      → TakesActs holds takes i (world_of old rules m) (emissions after) (world_of new rules t)
  taken-led law i m t old mid new before after l none now core current h drained kept stands room then =
      subst (λ (v : CoreValue). TakesActs holds takes i (world_of old rules m) (emissions after)
      (record { core = v; inlets = new.table.current; rules = rules; moment = t })) (sym core)
      (by (handled (terms_of holds takes rules) i (world_of old rules m) mid.core mid.table.current new.table.current t
      (emissions before) (emissions after) l none current now))
    where
      mine : WorldValue
      mine = record { core = mid.core; inlets = new.table.current; rules = rules; moment = t }

      by : Handles (terms_of holds takes rules) i (world_of old rules m) (emissions after) mine
          → TakesActs holds takes i (world_of old rules m) (emissions after) mine
      by handles = record {
        room = room;
        handles = handles;
        told = led-tells holds takes rules _ i.happening old mid before after l none h.1 drained stands h.4;
        causes = names-cause mid.core.state.entries stands;
        once = asks-once mid.core.state.entries stands;
        in_order = law mid.core.state.entries stands;
        asks = heeded holds takes rules i (world_of old rules m) mine (emissions after) handles;
        sends = led-sends holds takes rules _ _ old mid before after l none h.1 drained;
        shows = input-shows (terms_of holds takes rules) i (world_of old rules m) mine (emissions after) handles kept;
        closes = led-closes (terms_of holds takes rules) _ i.happening old mid before after l none h.1.answers drained.answers;
        rests = record {
          drained = drained;
          rests = subst (λ (v : CoreValue). AllRest (record { core = v; unasked = unasked_in new.table.current })) core then.3;
        };
      }

  -- So is one at which the journal was to be given out.
  pub taken-rotated : KeepsOrder → (i : Input) (m t : ℕ) (old mid new : Engine R) (before after : List (Output R)) → i.happening ≡ H.Rotate
      → RotatesBy (record { moment = t; word = i.word }) old before mid after
      → emissions before ≡ [] → t ≡ counted m i.moment → new.core ≡ mid.core → new.table.current ≡ mid.table.current
      → Stands old.core.state.entries → Stands mid.core.state.entries → IsKept holds takes rules t new
      → TakesRotation holds takes i (world_of old rules m) (emissions after) (world_of new rules t)
  taken-rotated law i m t old mid new before after wants r none now core current stood stands then = record {
    wants = wants;
    stands = stood;
    rotates =
        subst (λ (n : ℕ). Rotates (at (record { moment = n; word = i.word }) (served_of old)) old.core (emissions after) new.core) now
        (subst (λ (es : List Emission). Rotates (at (record { moment = t; word = i.word }) (served_of old)) old.core es new.core)
        (sym (r.added ∙ ap (λ (es : List Emission). es ++ r.given) none))
        (subst (λ (v : CoreValue). Rotates (at (record { moment = t; word = i.word }) (served_of old)) old.core r.given v) (sym core) r.rotates));
    inlets = current ∙ ap (λ (x : TableValue). x.current) r.table;
    rules = refl;
    moment = now;
    mapped = then.4;
    causes = names-cause new.core.state.entries (subst (λ (v : CoreValue). Stands v.state.entries) (sym core) stands);
    once = asks-once new.core.state.entries (subst (λ (v : CoreValue). Stands v.state.entries) (sym core) stands);
    in_order = law new.core.state.entries (subst (λ (v : CoreValue). Stands v.state.entries) (sym core) stands);
    rests = record { drained = then.1; rests = then.3 };
  }

  -- What happens is one or the other.
  pub taken-stepped : KeepsOrder → (i : Input) (m t : ℕ) (old mid new : Engine R) (before after : List (Output R))
      → StepsBy (terms_of holds takes rules) (record { moment = t; word = i.word }) i.happening old before mid after
      → emissions before ≡ [] → t ≡ counted m i.moment → new.core ≡ mid.core → new.table.current ≡ mid.table.current
      → IsKept holds takes rules m old → IsDrained mid.core → KeptInRoom old.core.state → Stands old.core.state.entries
      → Stands mid.core.state.entries → (IsTooMuch i.happening (served_of old) → ⊥) → IsKept holds takes rules t new
      → Takes holds takes i (world_of old rules m) (emissions after) (world_of new rules t)
  taken-stepped law i m t old mid new before after (inl l) none now core current h drained kept stood stands room then =
      inl (taken-led law i m t old mid new before after l none now core current h drained kept stands room then)
  taken-stepped law i m t old mid new before after (inr r) none now core current h drained kept stood stands room then =
      inr (taken-rotated law i m t old mid new before after r.0 r.1 none now core current stood stands then)

-- Which connection opens with an input.

no-more : (a b : List Emission) (e : Emission) → a ≡ [] → b ≡ [] → b ≡ a ++ e ∷ [] → ⊥
no-more a b e none empty h = some-none (sym (h ∙ ap (λ (es : List Emission). es ++ e ∷ []) none) ∙ empty)
  where
    IsSome : List Emission → Type 0
    IsSome [] = ⊥
    IsSome (x ∷ xs) = ⊤

    some-none : e ∷ [] ≡ [] → ⊥
    some-none q = subst IsSome q tt

pub counted-so : (x : Happening) (n : Option ℕ) (old new : CoreValue) (before out : List Emission) → before ≡ []
    → CountsOpened x out old.state.opened new.state.opened → IsOpening x n old.state.opened before out
    → IsCounted x n old new
counted-so x (Some c) old new before out none (inl k) o = (o.0, o.1, k.2 ∙ ap (λ (n : ℕ). n + 1) (sym o.1))
counted-so x (Some c) old new before out none (inr (inl k)) o = absurd (no-more [] out Turned refl (o.2 ∙ none) k.1)
counted-so x (Some c) old new before out none (inr (inr k)) o = absurd (k.0 o.0)
counted-so x None old new before out none (inl k) o = absurd (no-more before out Turned none k.1 (o k.0))
counted-so x None old new before out none (inr (inl k)) o = k.2
counted-so x None old new before out none (inr (inr k)) o = k.1

opened-led : {R : Type 0} (M : Terms) (w : When) (x : Happening) (n : Option ℕ) (old new : Engine R) (before after : List (Output R))
    → LeadsBy M w (IsInOrder x) old before new after → emissions before ≡ []
    → IsOpening x n old.core.state.opened (emissions before) (emissions after) → IsCounted x n old.core new.core
opened-led M w x n old new before after l none o =
    counted-so x n old.core new.core (emissions before) (emissions after) none
    (subst (λ (es : List Emission). CountsOpened x es old.core.state.opened new.core.state.opened)
    (sym (l.added ∙ ap (λ (es : List Emission). es ++ l.given) none))
    (input-counts M w x l.acts (served_of old) l.given (served_of new) l.done l.order)) o

-- None does where the journal is to be given out.
opened-rotated : {R : Type 0} (w : When) (x : Happening) (n : Option ℕ) (old new : Engine R) (before after : List (Output R))
    → x ≡ H.Rotate → RotatesBy w old before new after
    → IsOpening x n old.core.state.opened (emissions before) (emissions after) → IsCounted x n old.core new.core
opened-rotated w x (Some c) old new before after wants r o = absurd (is-other (sym wants ∙ o.0))
  where
    IsOpen : Happening → Type 0
    IsOpen H.Open = ⊤
    IsOpen _ = ⊥

    is-other : H.Rotate ≡ H.Open → ⊥
    is-other e = subst IsOpen (sym e) tt
opened-rotated w x None old new before after wants r o = by r.rotates
  where
    by : Rotates (at w (served_of old)) old.core r.given new.core → new.core.state.opened ≡ old.core.state.opened
    by (inl k) =
        ap (λ (S : State). S.opened)
        (rotation-is (at w (served_of old)) old.core.state old.core.state.entries new.core.state k.turned.is).is
    by (inr k) = ap (λ (v : CoreValue). v.state.opened) k.same

pub opened-stepped : {R : Type 0} (M : Terms) (w : When) (x : Happening) (n : Option ℕ) (old new : Engine R) (before after : List (Output R))
    → StepsBy M w x old before new after → emissions before ≡ []
    → IsOpening x n old.core.state.opened (emissions before) (emissions after) → IsCounted x n old.core new.core
opened-stepped M w x n old new before after (inl l) none o = opened-led M w x n old new before after l none o
opened-stepped M w x n old new before after (inr r) none o = opened-rotated w x n old new before after r.0 r.1 o
