-- What a resource holds over a run: what the executions left it with, as the calls told them.
use Rattle.std.specs.Prelude.{◌≡◌, ◌≤◌, ℕ, List, [], ◌∷◌, ◌++◌, take, drop, slice_get, Option, Some, None, Bool, true, ◌==◌, Ok, if◌then◌else◌}
use Rattle.std.specs.Cmp.Lexicographic.{pointwise}
use Rattle.uri_map.specs.declared.peer.Peer.{Peer}
use Rattle.coap_codec.specs.Spelling.{Content}
use Rattle.coap_codec.specs.Reading.{message_at}
use Rattle.coap_codec.specs.Values.{values}
use Rattle.demo_origin.specs.Values.{Device, Relation}
use Rattle.demo_origin.specs.Calls.{Call, Follow}
use Rattle.demo_origin.specs.Hearing.{Hears}
use Rattle.demo_origin.specs.Once.{Event, heard, looked, gave}
use Rattle.demo_origin.specs.Requests.{IsAt, method_code}
use Rattle.demo_origin.specs.Versions.{IsLater}
use Rattle.demo_origin.specs.declared.execution.Taken.{Taken}
use Rattle.demo_origin.specs.declared.state.Held.{Held}

-- ---- one execution

-- It tells the path and the method that the message asks for, the state that the resource of that
-- path had, and the one that it has now.
pub record TellsOf (datagram : List ℕ) (taken : Taken) (old new : Device) : Type 0 where
  pub message : Content
  pub reads : message_at datagram ≡ Ok message
  pub path : taken.path ≡ values 11 message.options
  pub method : method_code taken.method ≡ message.code
  pub place : ℕ
  pub held : Held
  pub stood : IsAt taken.path old.resources place held
  pub before : taken.before ≡ held.state
  pub now : Held
  pub stands : IsAt taken.path new.resources place now
  pub after : taken.after ≡ now.state

abbrev pub ExecutionsTell : Relation → Type 0
ExecutionsTell R =
    (t : ℕ) (p : Peer) (datagram : List ℕ) (old new : Device) (taken : Taken)
    → Hears R t p datagram old new (Some taken) → TellsOf datagram taken old new

-- ---- a run

abbrev pub told_of : Option Taken → List Taken
told_of None = []
told_of (Some taken) = taken ∷ []

abbrev pub told_by : Event → List Taken
told_by (heard t p d taken) = told_of taken
told_by (looked t) = []
told_by gave = []

-- the executions that calls told, in order
abbrev pub told_in : List Call → List Taken
told_in [] = []
told_in (c ∷ cs) = told_by c.event ++ told_in cs

abbrev pub is_of : List (List ℕ) → Taken → Bool
is_of path x = pointwise (pointwise ◌==◌) x.path path

-- what a resource of that path is left with by executions
abbrev pub left_with : List (List ℕ) → List ℕ → List Taken → List ℕ
left_with path state [] = state
left_with path state (x ∷ xs) = left_with path (if is_of path x then x.after else state) xs

-- each execution of it began with what the one before it left
abbrev pub GoOn : List (List ℕ) → List ℕ → List Taken → Type 0
GoOn path state [] = Unit {0}
GoOn path state (x ∷ xs) =
    (is_of path x ≡ true → x.before ≡ state)
    × GoOn path (if is_of path x then x.after else state) xs

-- The resource stands where it stood, of no older a version, and holds what the executions left.
pub record HoldsLeft (path : List (List ℕ)) (place : ℕ) (first : Held) (xs : List Taken)
    (new : Device) : Type 0 where
  pub held : Held
  pub stands : IsAt path new.resources place held
  pub later : IsLater first held
  pub state : held.state ≡ left_with path first.state xs
  pub go_on : GoOn path first.state xs

-- Of two calls of a run: a resource holds before the later one what the executions between them
-- left of what it held before the earlier one.
abbrev pub StatesAreTold : Relation → Type 0
StatesAreTold R =
    (s : Device) (cs : List Call) (j k : ℕ) (a b : Call)
    (path : List (List ℕ)) (place : ℕ) (held : Held)
    → Follow R s cs → slice_get cs j ≡ Some a → slice_get cs k ≡ Some b → j ≤ k
    → IsAt path a.before.resources place held
    → HoldsLeft path place held (told_in (drop j (take k cs))) b.before
