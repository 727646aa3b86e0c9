-- What lies between two calls.
use Rattle.std.proofs.Common.{◌≡◌, ℕ, zero, suc, ◌<◌, ◌≤◌, Bool, true, false, ltb, List, [], ◌∷◌, Option, Some, refl, sym, ap, subst, ◌∙◌, arith}
use Rattle.std.specs.Prelude.{slice_get}
use Rattle.std.specs.List.{AllByRecursion}
use Rattle.std.proofs.lemmas.Bool.{ltb-true, ltb-false}
use Rattle.uri_map.specs.declared.peer.Peer.{Peer}
use Rattle.history_laws.proofs.CallerLemmas.{none-some, some-is}
use Rattle.demo_origin.specs.Calls.{Call, Follow}
use Rattle.demo_origin.specs.Once.{Event, heard, looked, gave, Steps, Runs, IsBy}
use Rattle.demo_origin.specs.Values.{Device, Relation}
use Rattle.demo_origin.specs.declared.execution.Taken.{Taken}
use Rattle.story_laws.specs.Networks.{moment_after, AreTimed}

-- the call hears something at this moment
pub record HearsAt (t : ℕ) (c : Call) : Type 0 where
  pub peer : Peer
  pub datagram : List ℕ
  pub taken : Option Taken
  pub comes : c.event ≡ heard t peer datagram taken

-- a call's step
pub step-at : (R : Relation) (cs : List Call) (s : Device) (a : ℕ) (c : Call) → Follow R s cs → slice_get cs a ≡ Some c
    → Steps R c.event c.before c.after
step-at R [] s a c f e = absurd (none-some c e)
step-at R (x ∷ cs) s zero c f e =
    subst (λ (v : Call). Steps R v.event v.before v.after) (some-is x c e) f.1
step-at R (x ∷ cs) s (suc a) c f e = step-at R cs x.after a c f.2 e

-- what holds of each call
pub all-at : (P : Call → Type 0) (cs : List Call) (a : ℕ) (c : Call) → AllByRecursion P cs → slice_get cs a ≡ Some c → P c
all-at P [] a c h e = absurd (none-some c e)
all-at P (x ∷ cs) zero c h e = subst P (some-is x c e) h.0
all-at P (x ∷ cs) (suc a) c h e = all-at P cs a c h.1 e

-- no call comes before this moment
pub timed-late : (cs : List Call) (s t b : ℕ) (c : Call) → AreTimed s cs → slice_get cs b ≡ Some c → HearsAt t c → s ≤ t
timed-late [] s t b c h e at = absurd (none-some c e)
timed-late (x ∷ cs) s t zero c h e at =
    let same : x.event ≡ heard t at.peer at.datagram at.taken = ap (λ (v : Call). v.event) (some-is x c e) ∙ at.comes in
    subst (λ (v : Event). s ≤ moment_after s v) same h.0
timed-late (x ∷ cs) s t (suc b) c h e at =
    let first = h.0 in
    let later = timed-late cs (moment_after s x.event) t b c h.1 e at in
    omega (arith, first, later)

by-event : (e : Event) (s u : ℕ) → moment_after s e ≤ u → IsBy u e
by-event (heard t p d taken) s u le = le
by-event (looked t) s u le = le
by-event gave s u le = tt

-- the calls from a device on to one of them
pub record Between (R : Relation) (old new : Device) (u : ℕ) : Type 0 where
  pub events : List Event
  pub runs : Runs R events old new
  pub by : AllByRecursion (IsBy u) events

pub runs-to : (R : Relation) (cs : List Call) (d : Device) (s u b : ℕ) (y : Call) → Follow R d cs → AreTimed s cs
    → slice_get cs b ≡ Some y → HearsAt u y → Between R d y.before u
runs-to R [] d s u b y f h e at = absurd (none-some y e)
runs-to R (x ∷ cs) d s u zero y f h e at =
    record { events = []; runs = sym (ap (λ (v : Call). v.before) (some-is x y e)) ∙ f.0; by = tt }
runs-to R (x ∷ cs) d s u (suc b) y f h e at =
    let rest = runs-to R cs x.after (moment_after s x.event) u b y f.2 h.1 e at in
    let late = timed-late cs (moment_after s x.event) u b y h.1 e at in
    record { events = x.event ∷ rest.events; runs = (x.after, subst (λ (s : Device). Steps R x.event s x.after) f.0 f.1, rest.runs); by = (by-event x.event s u late, rest.by) }

pub runs-between : (R : Relation) (cs : List Call) (d : Device) (s u a b : ℕ) (x y : Call) → Follow R d cs → AreTimed s cs
    → slice_get cs a ≡ Some x → slice_get cs b ≡ Some y → HearsAt u y → a < b → Between R x.after y.before u
runs-between R [] d s u a b x y f h e g at lt = absurd (none-some x e)
runs-between R (c ∷ cs) d s u a zero x y f h e g at lt = absurd (omega (arith, lt))
runs-between R (c ∷ cs) d s u zero (suc b) x y f h e g at lt =
    subst (λ (v : Call). Between R v.after y.before u) (some-is c x e)
    (runs-to R cs c.after (moment_after s c.event) u b y f.2 h.1 g at)
runs-between R (c ∷ cs) d s u (suc a) (suc b) x y f h e g at lt =
    runs-between R cs c.after (moment_after s c.event) u a b x y f.2 h.1 e g at (omega (arith, lt))

-- the moments of two calls
pub timed-between : (cs : List Call) (s t u a b : ℕ) (x y : Call) → AreTimed s cs → slice_get cs a ≡ Some x → slice_get cs b ≡ Some y
    → HearsAt t x → HearsAt u y → a < b → t ≤ u
timed-between [] s t u a b x y h e g at bt lt = absurd (none-some x e)
timed-between (c ∷ cs) s t u a zero x y h e g at bt lt = absurd (omega (arith, lt))
timed-between (c ∷ cs) s t u zero (suc b) x y h e g at bt lt =
    let same : c.event ≡ heard t at.peer at.datagram at.taken = ap (λ (v : Call). v.event) (some-is c x e) ∙ at.comes in
    timed-late cs t u b y (subst (λ (v : Event). AreTimed (moment_after s v) cs) same h.1) g bt
timed-between (c ∷ cs) s t u (suc a) (suc b) x y h e g at bt lt =
    timed-between cs (moment_after s c.event) t u a b x y h.1 e g at bt (omega (arith, lt))

-- neither before the other
pub in-one-place : (a b : ℕ) → (a < b → ⊥) → (b < a → ⊥) → a ≡ b
in-one-place a b f g = go (ltb a b) refl (ltb b a) refl
  where
    go : (x : Bool) → ltb a b ≡ x → (y : Bool) → ltb b a ≡ y → a ≡ b
    go true e y h = absurd (f (ltb-true a b e))
    go false e true h = absurd (g (ltb-true b a h))
    go false e false h = let p = ltb-false a b e in let q = ltb-false b a h in omega (arith, p, q)
