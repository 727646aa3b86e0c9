-- Room in memory, as a test and as facts.
use Rattle.std.proofs.Common.{◌≡◌, ◌+◌, Bool, true, false, ◌&&◌, nat_lt, nat_le, vec_len, vec_capacity, refl}
use Rattle.std.specs.VecDeque.{deque_len, deque_capacity}
use Rattle.std.proofs.lemmas.Bool.{lt-ltb, leb-true, le-leb}
use borrow.Author.Tests.{ltb-true}
use Rattle.message_layer.specs.Values.{has_room}
use Rattle.message_layer.specs.Sending.{HasRoomToo}
use Rattle.message_layer.specs.declared.state.State.{State}

both : (a b : Bool) → a ≡ true → b ≡ true → (a && b) ≡ true
both true true e f = refl
both true false e f = f
both false b e f = e

one : (a b : Bool) → (a && b) ≡ true → a ≡ true
one true b e = refl
one false b e = e

other : (a b : Bool) → (a && b) ≡ true → b ≡ true
other true b e = e
other false b e = absurd cc

pub room_holds : (s : State) → HasRoomToo s → has_room s ≡ true
room_holds s h =
    both (nat_lt 0 s.given.room) _ (lt-ltb 0 s.given.room h.given)
    (both (nat_lt (vec_len s.waiting) (vec_capacity s.waiting)) _ (lt-ltb _ _ h.waiting)
    (both (nat_lt (vec_len s.awaited) (vec_capacity s.awaited)) _ (lt-ltb _ _ h.awaited)
    (both s.heard.room _ h.heard
    (le-leb (deque_len s.out + 2) (deque_capacity s.out) h.out))))

pub has_room_gives : (s : State) → has_room s ≡ true → HasRoomToo s
has_room_gives s e =
    let heard : Bool = s.heard.room in
    let awaited : Bool = nat_lt (vec_len s.awaited) (vec_capacity s.awaited) in
    let waiting : Bool = nat_lt (vec_len s.waiting) (vec_capacity s.waiting) in
    let given : Bool = nat_lt 0 s.given.room in
    let out : Bool = nat_le (deque_len s.out + 2) (deque_capacity s.out) in
    let e2 = other given (waiting && (awaited && (heard && out))) e in
    let e3 = other waiting (awaited && (heard && out)) e2 in
    let e4 = other awaited (heard && out) e3 in
    record {
      given = ltb-true 0 s.given.room (one given (waiting && (awaited && (heard && out))) e);
      waiting = ltb-true (vec_len s.waiting) (vec_capacity s.waiting) (one waiting (awaited && (heard && out)) e2);
      awaited = ltb-true (vec_len s.awaited) (vec_capacity s.awaited) (one awaited (heard && out) e3);
      heard = one heard out e4;
      out = leb-true (deque_len s.out + 2) (deque_capacity s.out) (other heard out e4);
    }
