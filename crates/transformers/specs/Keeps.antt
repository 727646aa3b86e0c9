-- What stored transformers keep, in terms of the answers that their closures may give.
use Rattle.std.specs.Prelude.{◌≡◌, ◌++◌, ◌∷◌, ℕ, List, Contains, length, map, ltb, if◌then◌else◌, Result, Ok, Err, Option, Some}
use Rattle.std.specs.Fn.{CalledAt}
use Rattle.std.specs.declared.alloc.Global.{Global}
use Rattle.std.specs.declared.vec.Vec.{Vec}
use Rattle.limits.specs.declared.TheConstants.{MAX_BODY_LEN}
use Rattle.media_map.specs.declared.form.Form.{Form}
use Rattle.transformers.specs.declared.apply_fault.ApplyFault.{ApplyFault}
use Rattle.transformers.specs.declared.apply_fault.ApplyFault.TheVariants as fault
use Rattle.transformers.specs.declared.refused.Refused.{Refused}
use Rattle.transformers.specs.declared.refused.Refused.TheVariants.{Content, Memory}
use Rattle.transformers.specs.declared.stored.Stored.{Stored}

-- An answer fits where its bytes hold. Content is refused only where it isn't taken.
abbrev pub Fits : (List ℕ → Type 0) → Type 0 → Result (Vec ℕ Global) Refused → Type 0
Fits holds takes (Ok v) = holds v.items
Fits holds takes (Err e) = e ≡ Content → ¬ takes

-- Each answer that may be given at an input fits.
pub record Keeps (holds : List ℕ → List ℕ → Type 0) (takes : List ℕ → Type 0)
    (gives : List ℕ → Result (Vec ℕ Global) Refused → Type 0) : Type 0 where
  pub each : (x : List ℕ) (r : Result (Vec ℕ Global) Refused) → gives x r
      → Fits (holds x) (takes x) r

-- the pair of a stored transformer
abbrev pub pair_of : {R X : Type 0} {F : X → Type 0} {g : _} → Stored R X F g → Form × Form
pair_of s = (s.from, s.to)

-- an answer that a stored transformer may give
abbrev pub Gives : {R X : Type 0} {F : X → Type 0} {g : _} → Stored R X F g → List ℕ
    → Result (Vec ℕ Global) Refused → Type 0
Gives {R} {X} {F} {g} s x r = (f : (v : X) × F v)
    × CalledAt g (s.closure.call.vtable, s.closure.call.value) x r f

-- A stored transformer keeps the relation for its pair.
abbrev pub KeepsRelation : {R X : Type 0} {F : X → Type 0} {g : _}
    → (Form → Form → List ℕ → List ℕ → Type 0) → (Form → Form → List ℕ → Type 0)
    → Stored R X F g → Type 0
KeepsRelation holds takes s = Keeps (holds s.from s.to) (takes s.from s.to) (λ x r. Gives s x r)

-- Each of them does.
pub record AllKeep {R X : Type 0} {F : X → Type 0} {g : _}
    (holds : Form → Form → List ℕ → List ℕ → Type 0) (takes : Form → Form → List ℕ → Type 0)
    (stored : List (Stored R X F g)) : Type 0 where
  pub each : (s : Stored R X F g) → Contains stored s → KeepsRelation holds takes s

-- the first stored transformer for a pair
pub record IsFirstFor {R X : Type 0} {F : X → Type 0} {g : _} (stored : List (Stored R X F g))
    (from to : Form) (first : Stored R X F g) : Type 0 where
  pub before : List (Stored R X F g)
  pub after : List (Stored R X F g)
  pub parts : stored ≡ before ++ first ∷ after
  pub pair : pair_of first ≡ (from, to)
  pub none_before : ¬ Contains (map pair_of before) (from, to)

-- a bank's answer, from that of the transformer
abbrev pub passed_on : Result (Vec ℕ Global) Refused → Result (Option (Vec ℕ Global)) ApplyFault
passed_on (Ok v) = if ltb MAX_BODY_LEN (length v.items) then Err fault.TooLarge else Ok (Some v)
passed_on (Err Content) = Err fault.Refused
passed_on (Err Memory) = Err fault.Memory

-- A bank's answer is that of the first transformer for the pair.
pub record IsFromFirst {R X : Type 0} {F : X → Type 0} {g : _} (stored : List (Stored R X F g))
    (from to : Form) (input : List ℕ) (answer : Result (Option (Vec ℕ Global)) ApplyFault)
    : Type 0 where
  pub first : Stored R X F g
  pub is_first : IsFirstFor stored from to first
  pub gave : Result (Vec ℕ Global) Refused
  pub gives : Gives first input gave
  pub is : answer ≡ passed_on gave
