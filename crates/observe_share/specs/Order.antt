-- Notifications of one resource that come in any order.
use Rattle.std.specs.Prelude.{◌≡◌, ℕ, ◌+◌, ◌%◌, ◌<◌, ◌≤◌, List, [], ◌∷◌, Contains, Some, find}
use Rattle.std.specs.List.{AllByRecursion}
use Rattle.observe_share.specs.declared.registration.Registration.{Registration}
use Rattle.observe_share.specs.declared.notice.Notice.TheVariants.{Update}
use Rattle.observe_share.specs.Watches.{is_under, noticed}

-- the change of the resource that it tells, counted from the resource's first, and when it came
pub record Came : Type 0 where
  pub change : ℕ
  pub moment : ℕ

-- its number, of 24 bits (RFC 7641 section 2)
abbrev pub number_of : Came → ℕ
number_of c = c.change % 16777216

-- what the watches are after an update under the token
abbrev pub updated : List ℕ → Came → List Registration → List Registration
updated token d ws = noticed token (Update (number_of d)) d.moment ws

-- what they are after such updates, in the order in which these came
abbrev pub updated_by : List ℕ → List Came → List Registration → List Registration
updated_by token [] ws = ws
updated_by token (d ∷ ds) ws = updated_by token ds (updated token d ws)

-- It tells one of 2^23 changes from this one on, and came within 128 s from this moment on.
pub record IsAmong (from since : ℕ) (c : Came) : Type 0 where
  pub above : from ≤ c.change
  pub below : c.change < from + 8388608
  pub after : since ≤ c.moment
  pub soon : c.moment ≤ since + 128000

-- one of them that tells the last change
pub record IsLatest (cs : List Came) (c : Came) : Type 0 where
  pub one : Contains cs c
  pub latest : AllByRecursion (λ (d : Came). d.change ≤ c.change) cs

abbrev pub with_newest : Came → Registration → Registration
with_newest c r = record r { version = number_of c; moment = c.moment }

-- The watch under the token has the number and moment of one notification, and others come: then it
-- has those of one that was sent last.
abbrev pub NewestWins : Type 0
NewestWins =
    (token : List ℕ) (ws : List Registration) (r : Registration)
    → (from since : ℕ) (c : Came) (ds : List Came)
    → find (is_under token) ws ≡ Some (with_newest c r)
    → AllByRecursion (IsAmong from since) (c ∷ ds)
    → (e : Came) × IsLatest (c ∷ ds) e
    × (find (is_under token) (updated_by token ds ws) ≡ Some (with_newest e r))
