-- The kinds of resources of a demonstration device.
use Rattle.std.specs.Prelude.{◌≡◌, ◌≤◌, ℕ, ◌+◌, ◌-◌, ◌*◌, List, [], ◌∷◌, length, Option, Some, None, IsSome, Bool, true, false, nat_lt, nat_le, ◌&&◌, if◌then◌else◌}
use Rattle.std.specs.Fmt.{decimal}
use Rattle.demo_origin.specs.Values.{Relation, Replied}
use Rattle.limits.specs.declared.TheConstants.{MAX_BODY_LEN}
use Rattle.demo_origin.specs.declared.request.CoapRequest.{CoapRequest}
use Rattle.demo_origin.specs.declared.request.Method.{Method}
use Rattle.demo_origin.specs.declared.request.Method.TheVariants.{Post, Put, Delete}

abbrev pub plain : ℕ → Bool → Replied
plain code changed = record { code = code; payload = []; changed = changed }

-- A cell: PUT sets its state, DELETE empties it, and POST isn't allowed.
abbrev pub CellDoes : Method → List ℕ → List ℕ → List ℕ → Replied → Type 0
CellDoes Put body before after reply = (after ≡ body) × (reply ≡ plain 68 true)
CellDoes Delete body before after reply = (after ≡ []) × (reply ≡ plain 66 true)
CellDoes Post body before after reply = (after ≡ before) × (reply ≡ plain 133 false)

abbrev pub IsCell : List ℕ → CoapRequest → List ℕ → Replied → Type 0
IsCell before request after reply = CellDoes request.method request.body before after reply

-- It takes what has at most 65,536 bytes.
abbrev pub IsTakenByCell : List ℕ → CoapRequest → Type 0
IsTakenByCell before request =
    (length request.body ≤ MAX_BODY_LEN) × (length before ≤ MAX_BODY_LEN)

abbrev pub cells : Relation
cells = record { holds = IsCell; takes = IsTakenByCell }

-- the number that decimal digits stand for, after those that stand for n, where it has 64 bits
abbrev pub counted_from : ℕ → List ℕ → Option ℕ
counted_from n [] = Some n
counted_from n (c ∷ cs) =
    if (nat_le 48 c && nat_le c 57) && nat_le (10 * n + (c - 48)) 18446744073709551615
    then counted_from (10 * n + (c - 48)) cs else None

-- the number in a counter's state: 0 where it is empty
abbrev pub counted : List ℕ → Option ℕ
counted state = counted_from 0 state

-- one more, unless it is the last number of 64 bits
abbrev pub CountsOn : Bool → ℕ → List ℕ → List ℕ → Replied → Type 0
CountsOn true n before after reply =
    (after ≡ decimal (n + 1))
    × (reply ≡ record { code = 68; payload = decimal (n + 1); changed = true })
CountsOn false n before after reply = (after ≡ before) × (reply ≡ plain 160 false)

abbrev pub Counts : Option ℕ → List ℕ → List ℕ → Replied → Type 0
Counts None before after reply = ⊥
Counts (Some n) before after reply =
    CountsOn (nat_lt n 18446744073709551615) n before after reply

-- A counter: POST adds one, and the others aren't allowed.
abbrev pub CounterDoes : Method → List ℕ → List ℕ → Replied → Type 0
CounterDoes Post before after reply = Counts (counted before) before after reply
CounterDoes Put before after reply = (after ≡ before) × (reply ≡ plain 133 false)
CounterDoes Delete before after reply = (after ≡ before) × (reply ≡ plain 133 false)

abbrev pub IsCounter : List ℕ → CoapRequest → List ℕ → Replied → Type 0
IsCounter before request after reply = CounterDoes request.method before after reply

abbrev pub CanCount : Method → List ℕ → Type 0
CanCount Post before = IsSome (counted before)
CanCount Put before = Unit {0}
CanCount Delete before = Unit {0}

-- It takes a state of at most 65,536 bytes, and for POST one that is a number of 64 bits.
abbrev pub IsTakenByCounter : List ℕ → CoapRequest → Type 0
IsTakenByCounter before request =
    (length before ≤ MAX_BODY_LEN) × CanCount request.method before

abbrev pub counters : Relation
counters = record { holds = IsCounter; takes = IsTakenByCounter }
