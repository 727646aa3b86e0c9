-- What the device holds between its calls.
use Rattle.std.proofs.Common.{◌≡◌, ℕ, zero, suc, ◌≤◌, List, [], ◌∷◌, ◌++◌, length, take, drop, Option, Some, refl, sym, ap, subst, ◌∙◌, arith}
use Rattle.std.specs.Prelude.{slice_get}
use Rattle.std.proofs.lemmas.List.{take-append-le, take_all}
use Rattle.history_laws.proofs.CallerLemmas.{none-some, some-is}
use Rattle.demo_origin.specs.Calls.{Call, Follow, left_by}
use Rattle.demo_origin.specs.Done.{HoldsLeft, told_in}
use Rattle.demo_origin.specs.Once.{Event, Runs, Steps, gave}
use Rattle.demo_origin.specs.Origins.{sent_out}
use Rattle.demo_origin.specs.Requests.{IsAt}
use Rattle.demo_origin.specs.Values.{Device, Relation}
use Rattle.demo_origin.specs.Versions.{IsLater}
use Rattle.demo_origin.specs.declared.state.Held.{Held}
use Rattle.demo_origin.proofs.Stating.{states_are_told}
use Rattle.story_laws.proofs.Originating.{follow-take}

-- ---- the device before a call, and after it

pub before-left : (R : Relation) (cs : List Call) (s : Device) (a : ℕ) (c : Call) → Follow R s cs → slice_get cs a ≡ Some c
    → c.before ≡ left_by s (take a cs)
before-left R [] s a c f e = absurd (none-some c e)
before-left R (x ∷ cs) s zero c f e = ap (λ (v : Call). v.before) (sym (some-is x c e)) ∙ f.0
before-left R (x ∷ cs) s (suc a) c f e = before-left R cs x.after a c f.2 e

pub after-left : (R : Relation) (cs : List Call) (s : Device) (a : ℕ) (c : Call) → Follow R s cs → slice_get cs a ≡ Some c
    → c.after ≡ left_by s (take (suc a) cs)
after-left R [] s a c f e = absurd (none-some c e)
after-left R (x ∷ cs) s zero c f e = ap (λ (v : Call). v.after) (sym (some-is x c e))
after-left R (x ∷ cs) s (suc a) c f e = after-left R cs x.after a c f.2 e

-- ---- over a whole run

-- one call more, which gives out what there is to give out
abbrev gives : Device → Call
gives d = record { event = gave; before = d; after = (sent_out d).0 }

follow-more : (R : Relation) (cs : List Call) (s : Device) → Follow R s cs → Follow R s (cs ++ gives (left_by s cs) ∷ [])
follow-more R [] s f = (refl, refl, tt)
follow-more R (c ∷ cs) s f = (f.0, f.1, follow-more R cs c.after f.2)

got-end : (cs : List Call) (x : Call) → slice_get (cs ++ x ∷ []) (length cs) ≡ Some x
got-end [] x = refl
got-end (c ∷ cs) x = got-end cs x

first-call : (R : Relation) (cs : List Call) (s : Device) (a : ℕ) (c : Call) → Follow R s cs → slice_get cs a ≡ Some c
    → (x : Call) × (slice_get cs 0 ≡ Some x) × (x.before ≡ s)
first-call R [] s a c f e = absurd (none-some c e)
first-call R (x ∷ cs) s a c f e = (x, refl, f.0)

-- After a run a resource holds what its executions left it with.
pub told-over : (R : Relation) (cs : List Call) (s : Device) (path : List (List ℕ)) (i : ℕ) (first : Held) → Follow R s cs
    → IsAt path s.resources i first → HoldsLeft path i first (told_in cs) (left_by s cs)
told-over R cs s path i first f there =
    let last = gives (left_by s cs) in
    let all = cs ++ last ∷ [] in
    let more = follow-more R cs s f in
    let begin = first-call R all s (length cs) last more (got-end cs last) in
    let same : take (length cs) all ≡ cs = take-append-le (length cs) cs (last ∷ []) (omega arith) ∙ take_all (length cs) cs (omega arith) in
    subst (λ (xs : List Call). HoldsLeft path i first (told_in xs) (left_by s cs)) same
    (states_are_told R s all 0 (length cs) begin.0 last path i first more begin.1 (got-end cs last) (omega arith)
    (subst (λ (d : Device). IsAt path d.resources i first) (sym begin.2) there))

-- Whatever it held between two calls, it stands there between later ones.
pub record StandsThen (path : List (List ℕ)) (i : ℕ) (first : Held) (d : Device) : Type 0 where
  pub held : Held
  pub stands : IsAt path d.resources i held
  pub later : IsLater first held

pub stands-then : (R : Relation) (cs : List Call) (s : Device) (a b : ℕ) (path : List (List ℕ)) (i : ℕ) (first : Held) → Follow R s cs → a ≤ b
    → IsAt path (left_by s (take a cs)).resources i first → StandsThen path i first (left_by s (take b cs))
stands-then R cs s zero b path i first f le there =
    let it = told-over R (take b cs) s path i first (follow-take R cs s b f) there in
    record { held = it.held; stands = it.stands; later = it.later }
stands-then R cs s (suc a) zero path i first f le there = absurd (omega (arith, le))
stands-then R [] s (suc a) (suc b) path i first f le there =
    let it = told-over R [] s path i first tt there in
    record { held = it.held; stands = it.stands; later = it.later }
stands-then R (c ∷ cs) s (suc a) (suc b) path i first f le there = stands-then R cs c.after a b path i first f.2 (omega (arith, le)) there

-- ---- as events alone

pub record Events (R : Relation) (old new : Device) : Type 0 where
  pub events : List Event
  pub runs : Runs R events old new

pub events-of : (R : Relation) (cs : List Call) (s : Device) → Follow R s cs → Events R s (left_by s cs)
events-of R [] s f = record { events = []; runs = refl }
events-of R (c ∷ cs) s f =
    let rest = events-of R cs c.after f.2 in
    record { events = c.event ∷ rest.events; runs = (c.after, subst (λ (d : Device). Steps R c.event d c.after) f.0 f.1, rest.runs) }
