-- What functions answer, beside what a table gives.
use Rattle.std.specs.Prelude.{◌≡◌, ℕ, Option, Some, None, Result, Ok, Err, ⊤}
use Rattle.proxy_settings.specs.declared.fault.SetupFault.{SetupFault}
use Rattle.proxy_settings.specs.declared.fault.SetupFault.TheVariants.{Refused, Memory}

abbrev pub number_of : SetupFault → ℕ
number_of (Refused reason) = 1
number_of Memory = 2

-- What a function returned, seen by view, is what reading gives, and a fault where it gives none.
abbrev pub Reads : {X Y E : Type 0} → (X → Y) → Result X E → Option Y → Type 0
Reads view (Ok x) read = read ≡ Some (view x)
Reads view (Err e) read = read ≡ None

-- What a function returned, seen by view, stands in the relation; it returned a fault if nothing
-- does.
abbrev pub Shows : {X Y E : Type 0} → (X → Y) → Result X E → (Y → Type 0) → Type 0
Shows view (Ok x) R = R (view x)
Shows {X} {Y} view (Err e) R = (y : Y) → R y → ⊥

-- Whether something stands in the relation.
abbrev pub Tests : {X E : Type 0} → Result (Unit {0}) E → (X → Type 0) → Type 0
Tests {X} (Ok u) R = (x : X) × R x
Tests {X} (Err e) R = (x : X) → R x → ⊥

-- What a function returned stands in the relation, and the text is refused where nothing does.
abbrev pub Finds : {X : Type 0} → Result X SetupFault → (X → Type 0) → Type 0
Finds (Ok x) R = R x
Finds {X} (Err (Refused reason)) R = (x : X) → R x → ⊥
Finds (Err Memory) R = ⊤

-- The same, and memory runs out only where something does.
abbrev pub FindsLast : {X : Type 0} → Result X SetupFault → (X → Type 0) → Type 0
FindsLast (Ok x) R = R x
FindsLast {X} (Err (Refused reason)) R = (x : X) → R x → ⊥
FindsLast {X} (Err Memory) R = (x : X) × R x
