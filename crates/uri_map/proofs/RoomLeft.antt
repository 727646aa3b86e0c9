-- Options fit where the room that they leave one after the other does not run out.
use Rattle.std.proofs.Common.{◌≡◌, ℕ, ◌+◌, ◌-◌, ◌<◌, ◌≤◌, Bool, true, false, ◌&&◌, nat_le, if◌then◌else◌, List, [], ◌∷◌, ◌++◌, length, map, Result, Ok, Err, is_ok, refl, sym, ap, ◌∙◌, arith, inl, inr}
use Rattle.std.specs.List.{list_all}
use Rattle.std.proofs.lemmas.Bool.{cases_lt, lt-ltb, le-ltb, lt-leb, le-leb}
use Rattle.percent_encoding.specs.Percent.{percent_decode}
use Rattle.coap_codec.specs.Spelling.{Entry}
use Rattle.uri_map.specs.declared.fault.UriFault.{UriFault}
use Rattle.uri_map.specs.declared.fault.UriFault.TheVariants.{TooLong}
use Rattle.uri_map.specs.declared.room.Room.{Room}
use Rattle.uri_map.specs.declared.target.Target.{Target}
use Rattle.uri_map.specs.declared.target.Host.{Host}
use Rattle.uri_map.specs.Steps.{◌>>=◌}
use Rattle.uri_map.specs.Limits.{is_short, spelled_len, host_options, options_with, options_for, uri_options, fits, within_limits}
use Rattle.uri_map.specs.Rooms.{all_room, taken, room_behind, rooms_behind, host_room, room_for}

-- the room after options
abbrev pub walk : List Entry → Room → Result Room UriFault
walk [] room = Ok room
walk (o ∷ os) room = room_behind o.number (length o.value) room >>= walk os

same_step : (r : Result Room UriFault) (f g : Room → Result Room UriFault) → ((x : Room) → f x ≡ g x) → (r >>= f) ≡ (r >>= g)
same_step (Ok x) f g same = same x
same_step (Err e) f g same = refl

pub walk_part : (n : ℕ) (ps : List (List ℕ)) (room : Room) → rooms_behind n ps room ≡ walk (options_with n (map percent_decode ps)) room
walk_part n [] room = refl
walk_part n (p ∷ ps) room = same_step (room_behind n (length (percent_decode p)) room) _ _ (λ next. walk_part n ps next)

-- The room after one piece, and then after the others.
piece_first : (n : ℕ) (piece : List ℕ) (others : List (List ℕ)) (room : Result Room UriFault) → (room >>= rooms_behind n (piece ∷ others)) ≡ ((room >>= room_behind n (length (percent_decode piece))) >>= rooms_behind n others)
piece_first n piece others (Ok x) = refl
piece_first n piece others (Err e) = refl

pub room_goes_on : (n len : ℕ) (piece : List ℕ) (others pieces : List (List ℕ)) (room after all : Result Room UriFault) → pieces ≡ piece ∷ others → len ≡ length (percent_decode piece) → after ≡ (room >>= room_behind n len) → (room >>= rooms_behind n pieces) ≡ all → (after >>= rooms_behind n others) ≡ all
room_goes_on n len piece others pieces room after all split size step same =
    rw (step, size) (sym (piece_first n piece others room) ∙ (rw split at same))

pub room_ends : (n : ℕ) (pieces : List (List ℕ)) (room all : Result Room UriFault) → pieces ≡ [] → (room >>= rooms_behind n pieces) ≡ all → room ≡ all
room_ends n pieces (Ok x) all none same = rw none at same
room_ends n pieces (Err e) all none same = same

walk_step : (r : Result Room UriFault) (os others : List Entry) → ((x : Room) → walk (os ++ others) x ≡ (walk os x >>= walk others)) → (r >>= walk (os ++ others)) ≡ ((r >>= walk os) >>= walk others)
walk_step (Ok x) os others same = same x
walk_step (Err e) os others same = refl

pub walk-append : (os others : List Entry) (room : Room) → walk (os ++ others) room ≡ (walk os room >>= walk others)
walk-append [] others room = refl
walk-append (o ∷ os) others room = walk_step (room_behind o.number (length o.value) room) os others (λ x. walk-append os others x)

none_fits : (b : Bool) → b && false ≡ false
none_fits true = refl
none_fits false = refl

-- Each option leaves what the sum says.
pub walk_fits : (os : List Entry) (room : Room) → is_ok (walk os room) ≡ (list_all is_short os && nat_le (spelled_len room.number os) room.left)
unfolding room_behind
walk_fits [] room = sym (le-leb 0 room.left (omega arith))
walk_fits (o ∷ os) room =
    elim (cases_lt 255 (length o.value)) [
      | inl long ↦ rw (lt-ltb _ _ long, lt-leb _ _ long) refl
      | inr short ↦ elim (cases_lt room.left (taken room.number o.number (length o.value))) [
        | inl full ↦
            let over : room.left < taken room.number o.number (length o.value) + spelled_len o.number os = omega arith in
            rw (le-ltb _ _ short, lt-ltb _ _ full, le-leb _ _ short, lt-leb _ _ over) (sym (none_fits _))
        | inr left ↦ rw (le-ltb _ _ short, le-ltb _ _ left, le-leb _ _ short) (walk_fits os (record { number = o.number; left = room.left - taken room.number o.number (length o.value) }) ∙ ap (λ b. list_all is_short os && b) (same_left _ _ _ left))
      ]
    ]
  where
    same_left : (used all more : ℕ) → used ≤ all → nat_le more (all - used) ≡ nat_le (used + more) all
    same_left used all more le =
        elim (cases_lt all (used + more)) [
          | inl over ↦ rw (lt-leb _ _ over, lt-leb more (all - used) (omega arith)) refl
          | inr within ↦ rw (le-leb _ _ within, le-leb more (all - used) (omega arith)) refl
        ]

-- no fault but TooLong
abbrev failed : Result Room UriFault
failed = Err TooLong

abbrev kept : Room → Result Room UriFault
kept room = Ok room

kept_step : (r : Result Room UriFault) → r ≡ (r >>= λ x. kept x)
kept_step (Ok x) = refl
kept_step (Err e) = refl

abbrev pub Long : Result Room UriFault → Type 0
Long (Ok room) = Unit {0}
Long (Err e) = e ≡ TooLong

long_choice : (b : Bool) (room : Room) → Long (if b then failed else kept room)
long_choice true room = refl
long_choice false room = tt

long_step : (r : Result Room UriFault) (f : Room → Result Room UriFault) → Long r → ((x : Room) → Long (f x)) → Long (r >>= f)
long_step (Ok x) f one others = others x
long_step (Err e) f one others = one

long_one : (o : Entry) (room : Room) → Long (room_behind o.number (length o.value) room)
unfolding room_behind
long_one o room = long_choice _ _

pub walk_long : (os : List Entry) (room : Room) → Long (walk os room)
walk_long [] room = tt
walk_long (o ∷ os) room = long_step _ _ (long_one o room) (λ x. walk_long os x)

pub walk_host : (host : Host) (room : Room) → host_room host room ≡ walk (host_options host) room
walk_host (Host.Name name) room = kept_step (room_behind 3 (length name) room)
walk_host (Host.V4 address) room = refl
walk_host (Host.V6 address) room = refl

both_steps : (r : Result Room UriFault) (f g h k : Room → Result Room UriFault) → ((x : Room) → f x ≡ g x) → ((x : Room) → h x ≡ k x) → (r >>= λ x. f x >>= h) ≡ ((r >>= g) >>= k)
both_steps (Ok x) f g h k one two = ap (λ t. t >>= h) (one x) ∙ same_step (g x) h k two
both_steps (Err e) f g h k one two = refl

pub room_walk : (host : Host) (path query : List (List ℕ)) → room_for host path query ≡ walk (options_for host (map percent_decode path) (map percent_decode query)) all_room
unfolding room_for
room_walk host path query =
    let segments = options_with 11 (map percent_decode path) in
    let arguments = options_with 15 (map percent_decode query) in
    both_steps (host_room host all_room) _ _ _ _ (walk_part 11 path) (walk_part 15 query)
    ∙ ap (λ r. (r >>= walk segments) >>= walk arguments) (walk_host host all_room)
    ∙ sym (ap (λ r. r >>= walk arguments) (walk-append (host_options host) segments all_room))
    ∙ sym (walk-append (host_options host ++ segments) arguments all_room)

steps_in_turn : (r : Result Room UriFault) (f g : Room → Result Room UriFault) → ((r >>= f) >>= g) ≡ (r >>= λ x. f x >>= g)
steps_in_turn (Ok x) f g = refl
steps_in_turn (Err e) f g = refl

-- The room after the host, then after the path, then after the query.
room_in_turn : (host : Host) (path query : List (List ℕ)) → ((host_room host all_room >>= rooms_behind 11 path) >>= rooms_behind 15 query) ≡ room_for host path query
unfolding room_for
room_in_turn host path query = steps_in_turn (host_room host all_room) (rooms_behind 11 path) (rooms_behind 15 query)

pub room_after : (host : Host) (path query : List (List ℕ)) (first second third : Result Room UriFault) → first ≡ host_room host all_room → second ≡ (first >>= rooms_behind 11 path) → third ≡ (second >>= rooms_behind 15 query) → room_for host path query ≡ third
room_after host path query first second third hosted routed asked =
    sym (asked ∙ ap (λ r. r >>= rooms_behind 15 query) (routed ∙ ap (λ r. r >>= rooms_behind 11 path) hosted) ∙ room_in_turn host path query)

ok_test : {A : Type 0} (r : Result A UriFault) (x : A) → r ≡ Ok x → is_ok r ≡ true
ok_test (Ok y) x e = refl
ok_test (Err f) x e = absurd cc

fault_test : {A : Type 0} (r : Result A UriFault) (f : UriFault) → r ≡ Err f → is_ok r ≡ false
fault_test (Ok y) f e = absurd cc
fault_test (Err g) f e = refl

long_fault : (r : Result Room UriFault) (f : UriFault) → Long r → r ≡ Err f → f ≡ TooLong
long_fault (Ok x) f long e = absurd cc
long_fault (Err g) f long e = cc

-- The target keeps the limits where there is room for its options.
pub room_found : (t : Target) (path query : List (List ℕ)) (room : Room) → room_for t.host path query ≡ Ok room → t.path ≡ map percent_decode path → t.query ≡ map percent_decode query → within_limits t ≡ Ok t
room_found t path query room e p q =
    let test : fits (uri_options t) ≡ true = rw (p, q) (sym (walk_fits _ all_room) ∙ ok_test _ room (sym (room_walk t.host path query) ∙ e)) in
    rw test refl

pub room_missing : (t : Target) (path query : List (List ℕ)) (f : UriFault) → room_for t.host path query ≡ Err f → t.path ≡ map percent_decode path → t.query ≡ map percent_decode query → within_limits t ≡ Err f
room_missing t path query f e p q =
    let walked = sym (room_walk t.host path query) ∙ e in
    let test : fits (uri_options t) ≡ false = rw (p, q) (sym (walk_fits _ all_room) ∙ fault_test _ f walked) in
    let fault : f ≡ TooLong = long_fault _ f (walk_long _ all_room) walked in
    rw (test, fault) refl
