-- Steps of reading, each of which gives a value or a fault, and what a function gave beside them.
use Rattle.std.specs.Prelude.{◌≡◌, ◌⊎◌, ℕ, List, Option, Some, None, Result, Ok, Err, IsOk}
use Rattle.std.specs.Borrow.{Bor}
use Rattle.uri_map.specs.declared.fault.UriFault.{UriFault}
use Rattle.uri_map.specs.declared.fault.UriFault.TheVariants.{Memory}

infixl 10 ◌>>=◌
abbrev pub ◌>>=◌ : {A B : Type 0} → Result A UriFault → (A → Result B UriFault) → Result B UriFault
(Ok x) >>= f = f x
(Err e) >>= f = Err e

-- What a function returned, seen by view, is what reading gives.
abbrev pub Reads : {X Y : Type 0} → (X → Y) → Result X UriFault → Result Y UriFault → Type 0
Reads view (Ok x) read = read ≡ Ok (view x)
Reads view (Err e) read = read ≡ Err e

-- What a function returned is what reading gives, unless memory ran out.
abbrev pub Gives : {X : Type 0} → Result X UriFault → Result X UriFault → Type 0
Gives (Ok x) read = read ≡ Ok x
Gives (Err e) read = (e ≡ Memory) ⊎ (read ≡ Err e)

-- The same, and memory runs out only where reading meets no fault.
abbrev pub GivesLast : {X : Type 0} → Result X UriFault → Result X UriFault → Type 0
GivesLast (Ok x) read = read ≡ Ok x
GivesLast (Err e) read = ((e ≡ Memory) × IsOk read) ⊎ (read ≡ Err e)

-- What a borrowed text, if there is one, has.
abbrev pub option_view : Option (Bor (List ℕ)) → Option (List ℕ)
option_view None = None
option_view (Some text) = Some text.now
