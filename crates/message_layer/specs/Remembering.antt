-- The CONs and NONs that a link remembers, and how one is found by its ID (RFC 7252, section 4.2).
use Rattle.std.specs.Prelude.{◌≡◌, ℕ, suc, zero, ◌+◌, ◌-◌, ◌%◌, ◌^◌, ◌≤◌, ◌<◌, List, [], ◌∷◌, length, take, get_or, Option, Some, Bool, false, not, ◌==◌, ◌&&◌, nat_lt, nat_le, if◌then◌else◌, vec_len}
use Rattle.std.specs.List.{AllByRecursion, find}
use Rattle.std.specs.Option.{option_or}
use Rattle.limits.specs.declared.TheConstants.{EXCHANGE_LIFETIME}
use Rattle.message_layer.specs.declared.state.Heard.{Heard}
use Rattle.message_layer.specs.declared.chains.Chains.{Chains}

-- Within this time messages with the same ID are one and the same (EXCHANGE_LIFETIME, RFC 7252,
-- section 4.8.2).
abbrev pub is_fresh : ℕ → Heard → Bool
is_fresh t h = nat_lt (t - h.moment) EXCHANGE_LIFETIME

abbrev pub moment_heard : Heard → ℕ
moment_heard h = h.moment

abbrev pub is_repeat : ℕ → ℕ → Heard → Bool
is_repeat t mid h = (h.mid == mid) && is_fresh t h

pub record MessagesHeard : Type 0 where
  -- the oldest first
  pub messages : List Heard
  -- there is room in memory for one more
  pub room : Bool

-- the clock doesn't go back between them
abbrev pub AreInOrder : List Heard → Type 0
AreInOrder [] = Unit {0}
AreInOrder (h ∷ rest) = AllByRecursion (λ later. h.moment ≤ later.moment) rest × AreInOrder rest

-- the oldest one is remembered no more
abbrev pub begins_old : ℕ → List Heard → Bool
begins_old t [] = false
begins_old t (h ∷ rest) = not (is_fresh t h)

-- messages whose IDs have the same low byte are a chain
abbrev pub chain_of : ℕ → ℕ
chain_of mid = mid % 256

abbrev pub place_beside : ℕ → Heard → ℕ → ℕ
place_beside c h zero = if chain_of h.mid == c then 1 else 0
place_beside c h (suc n) = suc (suc n)

-- where the last one of a chain stands, counted from 1; 0 where there is none
abbrev pub last_place : ℕ → List Heard → ℕ
last_place c [] = 0
last_place c (h ∷ rest) = place_beside c h (last_place c rest)

-- Messages are numbered in order, from one after those that were forgotten. A number that is not
-- above these names none. Each chain is known by the number of its last message, and each message
-- by that of the one before it in its chain.
pub record AreChained (forgotten : ℕ) (before last : List ℕ) (messages : List Heard) : Type 0 where
  pub few : forgotten + length messages < 2 ^ 32
  pub as_many : length before ≡ length messages
  pub chain_ends : (c : ℕ) → c < 256 → get_or last c 0 - forgotten ≡ last_place c messages
  pub steps : (i : ℕ) (h : Heard) (n : ℕ) → i < length messages
      → get_or before i n - forgotten
      ≡ last_place (chain_of (get_or messages i h).mid) (take i messages)

abbrev pub IsChained : Chains → List Heard → Type 0
IsChained x messages = AreChained x.forgotten x.before.items x.last.items messages

-- the clock did not go back, and each can be found
pub record IsOrderly (newest : ℕ) (x : Chains) (messages : List Heard) : Type 0 where
  pub in_order : AreInOrder messages
  pub latest : AllByRecursion (λ h. h.moment ≤ newest) messages
  pub chained : IsChained x messages

-- room for one more number
abbrev pub has_number_room : Chains → Bool
has_number_room x = nat_lt 0 x.before.room && nat_le 256 (vec_len x.last)

abbrev pub chosen : ℕ → ℕ → Heard → Option Heard → Option Heard
chosen t mid h found = if is_repeat t mid h then Some h else found

-- A chain was followed back to this number: the first repeat is among so many first messages, or
-- else it was found.
pub record IsFollowed (x : Chains) (messages : List Heard) (t mid number : ℕ) (found : Option Heard)
    : Type 0 where
  pub left : ℕ
  pub within : left ≤ length messages
  pub is : number - x.forgotten ≡ last_place (chain_of mid) (take left messages)
  pub rest : option_or (find (is_repeat t mid) (take left messages)) found
      ≡ find (is_repeat t mid) messages
