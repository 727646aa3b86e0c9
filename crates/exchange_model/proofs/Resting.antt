-- Where all that was due is done, a history is at rest.
use Rattle.std.proofs.Common.{◌≡◌, ℕ, ◌+◌, ◌<◌, Bool, true, false, not, ◌||◌, inl, inr, List, [], ◌∷◌, map, Option, Some, None, is_some, refl, sym, ap, subst, ◌∙◌, lt-ltb}
use Rattle.std.proofs.lemmas.Bool.{lt-leb}
use Rattle.std.proofs.lemmas.List.Elements.{All-contains_itself, recursion_from_All}
use Rattle.std.specs.Option.{option_map_or}
use Rattle.std.specs.List.{AllByRecursion, Contains, list_all, range_with_len}
use Rattle.limits.specs.declared.TheConstants.{MAX_TRANSMIT_WAIT}
use Rattle.uri_map.specs.declared.peer.Peer.{Peer}
use Rattle.uri_map.proofs.CallerLemmas.{same_peer-itself}
use Rattle.message_layer.specs.declared.state.Waiting.{Waiting}
use Rattle.message_layer.specs.declared.state.Outstanding.{Outstanding}
use Rattle.history_laws.specs.Readings.{Noted, ticked}
use Rattle.history_laws.specs.Connections.{is_open, opened}
use Rattle.history_laws.specs.Transmissions.{FirstSending, firsts, Transmission, transmission, due, outstanding}
use Rattle.history_laws.specs.Exchanges.{begun, waits_for, is_going, open_exchanges, waiting}
use Rattle.history_laws.specs.Justified.{pending, reads, reads_open, is_in_hand, finds_outstanding, is_under_way, is_early, is_done, is_in_time}
use Rattle.history_laws.proofs.CallerLemmas.{all-more, contains-none, first-is, first-listed, none-some, outstanding-last, some-is, waiting-has, way-first}
use Rattle.history_links.specs.Agrees.{Start, way_of, TurnIn, WaitIn}
use Rattle.history_laws.specs.Laws.{IsFirst}
use Rattle.exchange_model.specs.declared.kept.Conn.{Conn}
use Rattle.exchange_model.specs.declared.kept.Exchange.{Exchange}
use Rattle.exchange_model.specs.declared.kept.Reader.{Reader}
use Rattle.exchange_model.specs.State.{State, link_of}
use Rattle.exchange_model.specs.Reads.{ExchangeIn, opening_of, Reads}
use Rattle.exchange_model.specs.Resting.{IsUndue, HasExchange, HasReader, IsServed, HasConn, Rests, RestsAtRest}
use Rattle.exchange_model.proofs.Lists.{all-map, all-both, all-pass, every-passes}
use Rattle.exchange_model.proofs.ConnsTell.{conns-tell}
use Rattle.exchange_model.proofs.Lately.{all-asked-for}
use Rattle.exchange_model.proofs.Opened.{OpenIn, open-ones}
use Rattle.exchange_model.proofs.Readers.{ReaderIn, readers-wait}

-- a test that each of them passes
open-pass : (l : List Noted) (S : State) (q : ℕ → Bool) → Reads l S → AllByRecursion (λ (e : Exchange). q e.opening ≡ true) S.exchanges
    → list_all q (open_exchanges l) ≡ true
open-pass l S q r a =
    subst (λ (os : List ℕ). list_all q os ≡ true) (sym r.keys)
    (all-pass q (map opening_of S.exchanges) (all-map opening_of (λ (o : ℕ). q o ≡ true) S.exchanges a))

-- What connections wait for is in hand.

going-one : (start : Start) (l : List Noted) (es : List Exchange) (o : ℕ) → AllByRecursion (OpenIn start l) es → HasExchange es o → is_going l o ≡ true
going-one start l [] o a h = elim h [ ]
going-one start l (e ∷ es) o a (inl h) = subst (λ (k : ℕ). is_going l k ≡ true) h a.0.1
going-one start l (e ∷ es) o a (inr h) = going-one start l es o a.1 h

reads-one : (l : List Noted) (rs : List Reader) (k : ℕ) → AllByRecursion (λ (r : Reader). ReaderIn l r × (is_going l r.opening ≡ true)) rs → HasReader rs k
    → reads_open l (reads l k) ≡ true
reads-one l [] k a h = elim h [ ]
reads-one l (r ∷ rs) k a (inl h) = subst (λ (k : ℕ). reads_open l (reads l k) ≡ true) h (rw (a.0.0.stands, a.0.0.reads) a.0.1)
reads-one l (r ∷ rs) k a (inr h) = reads-one l rs k a.1 h

served-one : (l : List Noted) (rs : List Reader) (p : Option ℕ) → AllByRecursion (λ (r : Reader). ReaderIn l r × (is_going l r.opening ≡ true)) rs → IsServed rs p
    → option_map_or (λ (k : ℕ). reads_open l (reads l k)) p true ≡ true
served-one l rs None a h = refl
served-one l rs (Some k) a h = reads-one l rs k a h

served-by : (rs : List Reader) (xs : List Conn) (c : ℕ) (p : Option ℕ) → AllByRecursion (λ (x : Conn). IsServed rs x.pending) xs
    → HasConn xs c p → IsServed rs p
served-by rs [] c p a h = elim h [ ]
served-by rs (x ∷ xs) c p a (inl h) = subst (IsServed rs) h.1 a.0
served-by rs (x ∷ xs) c p a (inr h) = served-by rs xs c p a.1 h

in-hand : (l : List Noted) (S : State) (c : ℕ) → Rests l S → is_in_hand l c ≡ true
in-hand l S c r = by (is_open l c) refl
  where
    by : (b : Bool) → is_open l c ≡ b → (not b || option_map_or (λ (k : ℕ). reads_open l (reads l k)) (pending l c) true) ≡ true
    by false e = refl
    by true e =
        let has : HasConn S.conns c (pending l c) = (conns-tell l S c r.reads).0 e in
        let open_readers = all-both (ReaderIn l) (λ (r : Reader). is_going l r.opening ≡ true) S.readers
        (subst (AllByRecursion (ReaderIn l)) r.reads.readers_are (readers-wait l r.reads.legal))
        (all-more _ (λ (x : Reader). is_going l x.opening ≡ true) (λ x h. going-one r.reads.start l S.exchanges x.opening (open-ones l S r.reads) h) S.readers r.reading) in
        served-one l S.readers (pending l c) open_readers (served-by S.readers S.conns c (pending l c) r.served has)

-- The next message of an open exchange is out, or waits after another one.

none-waits : (start : Start) (l : List Noted) (os : List ℕ) (o : ℕ) → WaitIn start l os [] → Contains os o → ⊥
none-waits start l [] o w has = contains-none o has
none-waits start l (p ∷ os) o w has = absurd w

busy-by : (start : Start) (l : List Noted) (p : Peer) (o tick : ℕ) (out : Option Outstanding) (ws : List Waiting) → TurnIn l p out → IsUndue tick out ws
    → WaitIn start l (waiting l p) ws → Contains (waiting l p) o → is_some (outstanding l p) ≡ true
busy-by start l p o tick (Some x) ws turn undue waits has = ap is_some turn.is
busy-by start l p o tick None ws turn undue waits has =
    absurd (none-waits start l (waiting l p) o (subst (WaitIn start l (waiting l p)) undue waits) has)

-- a peer at which an exchange waits has a message outstanding
busy : (l : List Noted) (S : State) (p : Peer) (o : ℕ) → Rests l S → Contains (waiting l p) o → is_some (outstanding l p) ≡ true
busy l S p o r has =
    let s = link_of S.links p in
    let a = r.reads.links_are p in
    busy-by r.reads.start l p o (ticked l) s.outstanding s.waiting a.turn (r.links p) a.waits has

under-way : {start : Start} (l : List Noted) (S : State) (e : Exchange) → Rests l S → OpenIn start l e → is_under_way l e.opening ≡ true
under-way l S e r h = by (waits_for l e.opening) refl
  where
    waits-here : waits_for l e.opening ≡ None → Contains (waiting l h.0.request.peer) e.opening
    waits-here w = waiting-has l h.0.request.peer e.opening r.reads.legal (rw (h.0.opening, same_peer-itself h.0.request.peer, h.1, w) refl)

    by : (w : Option ℕ) → waits_for l e.opening ≡ w → (is_some w || finds_outstanding l (begun l e.opening)) ≡ true
    by (Some i) w = refl
    by None w = rw (h.0.opening) (busy l S h.0.request.peer e.opening r (waits-here w))

-- No copy was due at the last tick.

early-by : (l : List Noted) (p : Peer) (g : FirstSending) (y : Transmission) (tick : ℕ) (out : Option Outstanding) (ws : List Waiting)
    → TurnIn l p out → IsUndue tick out ws → outstanding l p ≡ Some g → transmission l g.number ≡ Some y → tick < due y
early-by l p g y tick None ws turn undue is way = absurd (none-some g (sym turn ∙ is))
early-by l p g y tick (Some o) ws turn undue is way =
    let same : turn.first ≡ g = some-is turn.first g (sym turn.is ∙ is) in
    let its : transmission l g.number ≡ Some (way_of o) = subst (λ (f : FirstSending). transmission l f.number ≡ Some (way_of o)) same turn.way in
    subst (λ (v : Transmission). tick < due v) (some-is (way_of o) y (sym its ∙ way)) undue

done : (l : List Noted) (S : State) (f : FirstSending) → Rests l S → Contains (firsts l) f → is_done l f ≡ true
done l S f r listed = by (transmission l f.number) refl
  where
    by : (w : Option Transmission) → transmission l f.number ≡ w → is_early (ticked l) w ≡ true
    by None e = refl
    by (Some y) e =
        let own = way-first l f.number y e in
        let same : f ≡ record { number = f.number; moment = own.0; opening = own.1; peer = own.2; message = own.3 } =
        first-is l own.0 own.1 f.number own.2 own.3 f own.4 (first-listed l f listed) in
        let first : IsFirst l f.moment f.opening f.number f.peer f.message =
        subst (λ (g : FirstSending). IsFirst l g.moment g.opening f.number g.peer g.message) (sym same) own.4 in
        let last = outstanding-last l f.moment f.opening f.number f.peer f.message y r.reads.legal first e in
        let way : transmission l last.0.number ≡ Some y = subst (λ (i : ℕ). transmission l i ≡ Some y) (sym last.2) e in
        let is : outstanding l f.peer ≡ Some last.0 = rw (last.1, way) refl in
        let s = link_of S.links f.peer in
        lt-ltb (ticked l) (due y)
        (early-by l f.peer last.0 y (ticked l) s.outstanding s.waiting (r.reads.links_are f.peer).turn (r.links f.peer) is way)

-- Open exchanges are in time.

in-time : {start : Start} (l : List Noted) (e : Exchange) → ExchangeIn start l e → ticked l < e.since + MAX_TRANSMIT_WAIT → is_in_time l e.opening ≡ true
in-time l e h lt = rw (h.opening, lt-leb (e.since + MAX_TRANSMIT_WAIT) (ticked l) lt) refl

pub rests-at-rest : RestsAtRest
rests-at-rest l S r =
    let open_now = open-ones l S r.reads in
    record {
      waits = every-passes (is_in_hand l) (λ c. in-hand l S c r) (range_with_len 0 (opened l));
      given = λ sealed. r.quiet;
      sent = λ sealed.
          open-pass l S (is_under_way l) r.reads
          (all-more (OpenIn r.reads.start l) (λ (e : Exchange). is_under_way l e.opening ≡ true) (λ e h. under-way l S e r h) S.exchanges open_now);
      copied = λ sealed.
          all-pass (is_done l) (firsts l)
          (all-more (Contains (firsts l)) (λ (f : FirstSending). is_done l f ≡ true) (λ f h. done l S f r h) (firsts l) (recursion_from_All (Contains (firsts l)) (firsts l) (All-contains_itself (firsts l))));
      ended = λ sealed.
          open-pass l S (is_in_time l) r.reads
          (all-more (λ (e : Exchange). OpenIn r.reads.start l e × (ticked l < e.since + MAX_TRANSMIT_WAIT)) (λ (e : Exchange). is_in_time l e.opening ≡ true)
          (λ e h. in-time l e h.0.0 h.1) S.exchanges
          (all-both (OpenIn r.reads.start l) (λ (e : Exchange). ticked l < e.since + MAX_TRANSMIT_WAIT) S.exchanges open_now r.in_time));
      forgotten = λ sealed. all-asked-for l r.reads.legal;
    }
