use Rattle.uri_map.proofs.TextLists.{same_goes_on, same_ends}
use Rattle.uri_map.proofs.RoomLeft.{room_goes_on, room_ends}
use Rattle.uri_map.proofs.room.behind_part.Goals as goal

pub each-preserved : goal.each-preserved
each-preserved c =
    let split = c.in-Some.ensures.pieces in
    let measured = c.in_ok-len.ensures in
    record {
      read = same_goes_on c.args.part c.in-Some.piece.now _ _ _ _ split measured.0 c.each.invariant.read;
      room = room_goes_on _ _ c.in-Some.piece.now _ _ _ _ _ split measured.1 (rw c.number.ensures at c.further-room.ensures) c.each.invariant.room;
    }

pub returns : goal.returns
returns c =
    let none = c.in_default.ensures.pieces in
    let read = same_ends c.args.part _ _ none c.each.invariant.read in
    (read.0, read.1, room_ends _ _ _ _ none c.each.invariant.room)
