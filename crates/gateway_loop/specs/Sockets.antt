-- What is known of sockets.
use Rattle.std.specs.Prelude.{◌≡◌, ⊤, ℕ, List, [], ◌∷◌, ◌++◌, take, Option, Some, None}
use Rattle.exchange_core.specs.Values.{Outgoing}
use Rattle.gateway_loop.specs.declared.sockets.Moved.{Moved}
use Rattle.gateway_loop.specs.declared.sockets.Moved.TheVariants as M
use Rattle.gateway_loop.specs.declared.sockets.Received.{Received}
use Rattle.gateway_loop.specs.declared.sockets.Received.TheVariants as R

-- how many bytes a call moved
abbrev pub moved : Moved → ℕ
moved (M.Bytes n) = n
moved M.Later = 0
moved M.End = 0

-- Nothing can be moved any more.
abbrev pub IsEnd : Moved → Type 0
IsEnd (M.Bytes n) = n ≡ 0
IsEnd M.Later = ⊥
IsEnd M.End = ⊤

-- how many bytes of a datagram came in
abbrev pub received : Received → ℕ
received (R.From n p) = n
received R.Later = 0

-- the datagram that came in
abbrev pub came_from : Received → List ℕ → List Outgoing
came_from (R.From n p) buffer = record { peer = p; bytes = take n buffer } ∷ []
came_from R.Later buffer = []

-- They are these, where it is known which they are.
abbrev pub Are : {A : Type 0} → Option (List A) → List A → Type 0
Are None xs = ⊤
Are (Some ys) xs = ys ≡ xs

-- These are among those, in their order.
abbrev pub AreAmong : {A : Type 0} → List A → List A → Type 0
AreAmong [] all = ⊤
AreAmong {A} (x ∷ xs) all =
    (before : List A) × (after : List A) × (all ≡ before ++ x ∷ after) × AreAmong xs after

-- They hold these in their order, where it is known which they are; the others were lost.
abbrev pub Hold : {A : Type 0} → Option (List A) → List A → Type 0
Hold None xs = ⊤
Hold (Some ys) xs = AreAmong xs ys

-- These came after those before, where it is known which there are.
abbrev pub Grown : {A : Type 0} → Option (List A) → Option (List A) → List A → Type 0
Grown None None more = ⊤
Grown (Some old) (Some new) more = new ≡ old ++ more
Grown _ _ more = ⊥
