use Rattle.exchange_core.proofs.Ordered.{asks-ordered, conns-ordered}
use Rattle.exchange_core.proofs.Readers.{waits-on}
use Rattle.exchange_core.proofs.Sounding.{conn-place, sound-shut}
use Rattle.exchange_core.proofs.opening.close.Goals as goal

pub returns-clause-sound : goal.returns-clause-sound
returns-clause-sound g c =
    let e = c.take_conn.ensures in
    sound-shut c.args.moment c.args.conn c.in-Some.pending _ _ _ _ _ _ _ _ c.requires.sound (rw (c.as_slice.ensures.value) at c.in-Some.ensures.some) c.requires.later c.requires.early e.state e.bytes e.room e.answers

pub find_pending-requires : goal.find_pending-requires
find_pending-requires g c = rw (c.as_slice.ensures.value) (conns-ordered _ c.requires.sound.kept)

pub take_conn-requires-clause-conns : goal.take_conn-requires-clause-conns
take_conn-requires-clause-conns g c = conns-ordered _ c.requires.sound.kept

pub take_conn-requires-clause-readers : goal.take_conn-requires-clause-readers
take_conn-requires-clause-readers g c = asks-ordered _ c.requires.sound.kept

pub take_conn-requires-clause-waits : goal.take_conn-requires-clause-waits
take_conn-requires-clause-waits g c = waits-on _ c.args.conn c.in-Some.pending c.requires.sound.kept (rw (c.as_slice.ensures.value) at c.in-Some.ensures.some)

pub take_conn-requires-clause-room : goal.take_conn-requires-clause-room
take_conn-requires-clause-room g c =
    conn-place _ _ _ _ c.args.conn c.in-Some.pending c.requires.sound (rw (c.as_slice.ensures.value) at c.in-Some.ensures.some)
