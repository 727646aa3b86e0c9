-- What handlers keep, in terms of the answers that their closures may give.
use Rattle.std.specs.Prelude.{◌≡◌, ◌≤◌, ◌/◌, ◌⊎◌, ℕ, List, length, Contains, Result, Ok, Err, IsErrOf}
use Rattle.std.specs.Borrow.{Bor}
use Rattle.std.specs.Fn.{Called}
use Rattle.std.specs.declared.alloc.Global.{Global}
use Rattle.std.specs.declared.vec.Vec.{Vec}
use Rattle.limits.specs.declared.TheConstants.{MAX_BODY_LEN}
use Rattle.demo_origin.specs.Values.{Relation, Replied, replied}
use Rattle.demo_origin.specs.declared.fault.Refused.{Refused}
use Rattle.demo_origin.specs.declared.fault.Refused.TheVariants.{Content}
use Rattle.demo_origin.specs.declared.request.CoapRequest.{CoapRequest}
use Rattle.demo_origin.specs.declared.request.Reply.{Reply}
use Rattle.demo_origin.specs.declared.handler.Handler.{Handler}

-- a code of class 2, 4 or 5 (RFC 7252, section 5.9)
abbrev pub IsResponseCode : ℕ → Type 0
IsResponseCode code = (code / 32 ≡ 2) ⊎ ((code / 32 ≡ 4) ⊎ (code / 32 ≡ 5))

-- what a handler may make of a state and a request
pub record IsKept (holds : List ℕ → Replied → Type 0) (after : List ℕ) (reply : Replied) : Type 0
  where
    pub kept : holds after reply
    pub code : IsResponseCode reply.code
    pub short : length after ≤ MAX_BODY_LEN

-- what a handler answers: the new state and the reply, or that it takes no such request
abbrev pub Answer : Type 0
Answer = Result (Vec ℕ Global × Reply) Refused

abbrev pub Fits : (List ℕ → Replied → Type 0) → Answer → Type 0
Fits holds (Ok p) = IsKept holds p.0.items (replied p.1)
Fits holds (Err e) = Unit {0}

-- Each answer that may be given at a state and a request fits, and the content is refused only of
-- what isn't taken.
pub record Keeps (R : Relation) (gives : Bor (List ℕ) → Bor CoapRequest → Answer → Type 0)
    : Type 0 where
  pub each : (p : Bor (List ℕ)) (q : Bor CoapRequest) (r : Answer)
      → gives p q r → Fits (R.holds p.now q.now) r
  pub takes : (p : Bor (List ℕ)) (q : Bor CoapRequest) (r : Answer)
      → gives p q r → IsErrOf r Content → ¬ R.takes p.now q.now

-- an answer that a handler may give
abbrev pub Gives : {H X : Type 0} {F : X → Type 0} {g : _}
    → Handler H X F g → Bor (List ℕ) → Bor CoapRequest → Answer → Type 0
Gives {H} {X} {F} {g} s p q r =
    (f : (v : X) × F v)
    × Called g (s.closure.call.vtable, s.closure.call.value) (p, (q, tt)) r f

-- A handler keeps the relation.
abbrev pub KeepsRelation : {H X : Type 0} {F : X → Type 0} {g : _}
    → Relation → Handler H X F g → Type 0
KeepsRelation R s = Keeps R (λ p q r. Gives s p q r)

-- Each of them does.
pub record AllKeep {H X : Type 0} {F : X → Type 0} {g : _}
    (R : Relation) (handlers : List (Handler H X F g)) : Type 0 where
  pub each : (s : Handler H X F g) → Contains handlers s → KeepsRelation R s
