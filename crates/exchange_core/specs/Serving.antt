-- What a caller that serves connections needs of a core: the first answer, and that numbers rise.
use Rattle.std.specs.Prelude.{◌≡◌, ℕ, ◌<◌, ◌≤◌, ◌==◌, not, List, [], filter, Option, Some, None}
use Rattle.std.specs.List.{AllByRecursion, Contains}
use Rattle.exchange_model.specs.declared.kept.Conn.{Conn}
use Rattle.exchange_core.specs.Values.{Untaken, CoreValue}
use Rattle.exchange_core.specs.Answering.{Given}
use Rattle.exchange_core.specs.Taking.{IsTaken}

-- The answer to the first of the asks whose answers weren't taken is taken; or there is none, and
-- nothing changes.
abbrev pub IsFirst : ℕ → List Untaken → Type 0
IsFirst k us = AllByRecursion (λ (u : Untaken). k ≤ u.ask) us

abbrev pub IsFirstTaken : Option Given → CoreValue → CoreValue → Type 0
IsFirstTaken (Some g) old new = IsTaken (Some g) g.ask old new × IsFirst g.ask old.untaken
IsFirstTaken None old new = (old.untaken ≡ []) × (new ≡ old)

-- the same of the answers alone
abbrev pub IsFirstOf : Option Given → List Given → List Given → Type 0
IsFirstOf (Some g) old new =
    Contains old g × AllByRecursion (λ (h : Given). g.ask ≤ h.ask) old
    × (new ≡ filter (λ (h : Given). not (h.ask == g.ask)) old)
IsFirstOf None old new = (old ≡ []) × (new ≡ old)

-- The connections have numbers below this one, and the answers are to asks before the entry with
-- this number.
abbrev pub AreBelow : ℕ → List Conn → Type 0
AreBelow id cs = AllByRecursion (λ (x : Conn). x.id < id) cs

abbrev pub AreOlder : ℕ → List Untaken → Type 0
AreOlder k us = AllByRecursion (λ (u : Untaken). u.ask < k) us
