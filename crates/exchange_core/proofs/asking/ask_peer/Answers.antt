use Rattle.std.proofs.Common.{◌≡◌, Some, None, false, sym, ap, subst, arith, length}
use Rattle.uri_map.specs.declared.peer.Peer.{Peer}
use Rattle.exchange_model.specs.Calls.{has_place}
use Rattle.std.specs.Arc.{arc_value}
use Rattle.ask_model.specs.Views.{Mapping}
use Rattle.ask_model.specs.declared.cause.Cause.TheVariants as C
use Rattle.journal_book.specs.Views.{ask_of}
use Rattle.exchange_model.specs.State.{State}
use Rattle.exchange_model.proofs.CallerLemmas.{all-digested}
use Rattle.exchange_core.specs.Refusing.{MayRefuse}
use Rattle.exchange_core.specs.Values.{CoreValue}
use Rattle.exchange_core.specs.States.{state_of}
use Rattle.exchange_core.proofs.Asks.{found-by, full-no-place, may-be-busy, may-join, may-recall, request-of, stored-by}
use Rattle.exchange_core.proofs.Read.{asks-here}
use Rattle.exchange_core.proofs.asking.ask_peer.Goals as goal

pub find_joined-requires-clause-digested : goal.find_joined-requires-clause-digested
find_joined-requires-clause-digested g c = all-digested (state_of c.args.s.now) c.requires.sound.kept.kept

pub turn_away-requires-clause-refused : goal.turn_away-requires-clause-refused
turn_away-requires-clause-refused g c =
    let r = request-of _ _ c.requires.asked in
    let test = c.if-as_slice-ge-MAX_EXCHANGES.true in
    let len = ap length c.as_slice.ensures.all in
    may-be-busy c.args.moment c.args.conn _ r.0 (state_of c.args.s.now) c.requires.sound.kept c.requires.unsealed c.requires.later c.requires.idle c.requires.small r.1 (stored-by (arc_value c.args.mapped) _ c.args.moment c.args.s.now.store.pairs _ None c.in_ok-found.ensures c.deref.ensures c.in_default.is)
    (found-by _ (arc_value c.args.mapped) _ c.args.s.now.exchanges.exchanges _ None c.find_joined.ensures c.deref-2.ensures c.in_default-find_joined.is)
    (full-no-place c.args.moment r.0.peer (state_of c.args.s.now) (omega (arith, test, len)))

pub turn_away-requires-in-Busy-clause-refused : goal.turn_away-requires-in-Busy-clause-refused
turn_away-requires-in-Busy-clause-refused g c =
    let r = request-of _ _ c.requires.asked in
    let e = rw (c.in-Busy.is) at c.in-Ok.ensures.begins in
    let same = ap (λ (v : CoreValue). v.state) e.0 in
    subst (λ (S : State). MayRefuse c.args.moment c.args.conn (ask_of (arc_value c.in-Busy.mapped)) C.Busy S) (sym same)
    (subst (λ (m : Mapping). MayRefuse c.args.moment c.args.conn (ask_of m) C.Busy (state_of c.args.s.now)) (sym e.2)
    (may-be-busy c.args.moment c.args.conn _ r.0 (state_of c.args.s.now) c.requires.sound.kept c.requires.unsealed c.requires.later c.requires.idle c.requires.small r.1 (stored-by (arc_value c.args.mapped) _ c.args.moment c.args.s.now.store.pairs _ None c.in_ok-found.ensures c.deref.ensures c.in_default.is)
    (found-by _ (arc_value c.args.mapped) _ c.args.s.now.exchanges.exchanges _ None c.find_joined.ensures c.deref-2.ensures c.in_default-find_joined.is)
    (subst (λ (p : Peer). has_place c.args.moment p (state_of c.args.s.now) ≡ false) (sym r.2) e.1)))

pub read_along-requires-clause-joins : goal.read_along-requires-clause-joins
read_along-requires-clause-joins g c =
    let r = request-of _ _ c.requires.asked in
    (may-join c.args.moment c.args.conn (ask_of (arc_value c.args.mapped)) r.0 c.in-Some-find_joined.exchange (state_of c.args.s.now) c.requires.sound.kept c.requires.unsealed c.requires.later c.requires.idle c.requires.small r.1 (stored-by (arc_value c.args.mapped) _ c.args.moment c.args.s.now.store.pairs _ None c.in_ok-found.ensures c.deref.ensures c.in_default.is)
    (found-by _ (arc_value c.args.mapped) _ c.args.s.now.exchanges.exchanges _ (Some c.in-Some-find_joined.exchange) c.find_joined.ensures c.deref-2.ensures c.in-Some-find_joined.is)).0

pub read_along-requires-clause-nothing : goal.read_along-requires-clause-nothing
read_along-requires-clause-nothing g c =
    let r = request-of _ _ c.requires.asked in
    (may-join c.args.moment c.args.conn (ask_of (arc_value c.args.mapped)) r.0 c.in-Some-find_joined.exchange (state_of c.args.s.now) c.requires.sound.kept c.requires.unsealed c.requires.later c.requires.idle c.requires.small r.1 (stored-by (arc_value c.args.mapped) _ c.args.moment c.args.s.now.store.pairs _ None c.in_ok-found.ensures c.deref.ensures c.in_default.is)
    (found-by _ (arc_value c.args.mapped) _ c.args.s.now.exchanges.exchanges _ (Some c.in-Some-find_joined.exchange) c.find_joined.ensures c.deref-2.ensures c.in-Some-find_joined.is)).1

pub read_stored-requires-clause-recalls : goal.read_stored-requires-clause-recalls
read_stored-requires-clause-recalls g c =
    let r = request-of _ _ c.requires.asked in
    (may-recall c.args.moment c.args.conn (arc_value c.args.mapped) r.0 c.in-Some.stored (state_of c.args.s.now) c.requires.sound.kept c.requires.unsealed c.requires.later c.requires.idle c.requires.small r.1
    (stored-by (arc_value c.args.mapped) _ c.args.moment c.args.s.now.store.pairs _ (Some c.in-Some.stored) c.in_ok-found.ensures c.deref.ensures c.in-Some.is)).0

pub read_stored-requires-clause-nothing : goal.read_stored-requires-clause-nothing
read_stored-requires-clause-nothing g c =
    let r = request-of _ _ c.requires.asked in
    (may-recall c.args.moment c.args.conn (arc_value c.args.mapped) r.0 c.in-Some.stored (state_of c.args.s.now) c.requires.sound.kept c.requires.unsealed c.requires.later c.requires.idle c.requires.small r.1
    (stored-by (arc_value c.args.mapped) _ c.args.moment c.args.s.now.store.pairs _ (Some c.in-Some.stored) c.in_ok-found.ensures c.deref.ensures c.in-Some.is)).1

pub begin-requires-clause-unserved : goal.begin-requires-clause-unserved
begin-requires-clause-unserved g c =
    stored-by (arc_value c.args.mapped) _ c.args.moment c.args.s.now.store.pairs _ None c.in_ok-found.ensures c.deref.ensures c.in_default.is

pub find_joined-requires-clause-here : goal.find_joined-requires-clause-here
find_joined-requires-clause-here g c = asks-here (state_of c.args.s.now) c.requires.sound.kept.here
