use Rattle.std.proofs.Common.{sym, arith}
use Rattle.std.specs.Prelude.{count_by}
use Rattle.std.proofs.lemmas.List.Sums.{count_by-le-length}
use Rattle.exchange_model.specs.Room.{has_asked}
use Rattle.exchange_core.proofs.Waiting.{room-fewer}
use Rattle.exchange_core.proofs.room.has_room_for.Goals as goal

pub returns-then-has_room : goal.returns-then-has_room
returns-then-has_room c =
    let all = count_by-le-length has_asked c.args.conns.now in
    let most = c.requires in
    sym (room-fewer c.args.entries c.args.bytes c.args.count c.args.count (count_by has_asked c.args.conns.now) (omega (arith, all, most)) (sym c.if-has_room.ensures))
