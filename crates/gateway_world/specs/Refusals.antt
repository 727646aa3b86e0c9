-- Where memory is refused before anything is done.
use Rattle.std.specs.Prelude.{⊤, ℕ, Option, None}
use Rattle.gateway_model.specs.declared.input.Happening.{Happening}
use Rattle.gateway_model.specs.declared.input.Happening.TheVariants as H
use Rattle.gateway_world.specs.declared.engine.Step.{Step}
use Rattle.gateway_world.specs.declared.engine.Step.TheVariants as S

-- So it is where it was done.
abbrev pub IfTaken : Step → Type 0 → Type 0
IfTaken (S.Taken n) P = P
IfTaken S.Refused P = ⊤

abbrev pub IsRefused : Step → Type 0
IsRefused (S.Taken n) = ⊥
IsRefused S.Refused = ⊤

-- the connection that opened
abbrev pub opened_in : Step → Option ℕ
opened_in (S.Taken n) = n
opened_in S.Refused = None

-- Whether an input may be refused so. What a connection brings, and that its client closed it,
-- never is: where memory is refused for a connection, that is given up.
abbrev pub MayBeRefused : Happening → Type 0
MayBeRefused (H.Bytes c bytes) = ⊥
MayBeRefused (H.Close c) = ⊥
MayBeRefused _ = ⊤
