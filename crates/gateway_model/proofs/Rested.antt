-- After an input each connection waits for an answer, or for bytes.
use Rattle.std.proofs.Common.{◌≡◌, ◌≢◌, ◌⊎◌, inl, inr, ℕ, Bool, true, false, List, [], ◌∷◌, ◌++◌, Option, Some, None, Err, refl, sym, ap, ◌∙◌, subst}
use Rattle.std.specs.Prelude.{flat_map}
use Rattle.std.specs.List.{AllByRecursion}
use Rattle.std.proofs.lemmas.Bool.{both_ways}
use Rattle.uri_map.specs.declared.peer.Peer.{Peer}
use Rattle.http_edge.specs.Edges.{Expects, LeavesBytes}
use Rattle.journal_book.specs.Entries.{Opens as Opened, Asks as Asked}
use Rattle.history_claims.specs.Headline.{IsEntry}
use Rattle.gateway_connections.specs.Reads.{IsIdle}
use Rattle.gateway_connections.proofs.Nothing.{expects-nothing, leaves-nothing}
use Rattle.exchange_model.specs.State.{State}
use Rattle.exchange_model.specs.Steps.{opens}
use Rattle.exchange_model.specs.Resting.{HasConn}
use Rattle.exchange_model.specs.Room.{KeptInRoom}
use Rattle.exchange_model.specs.Growing.{at_moment}
use Rattle.exchange_model.specs.Sealing.{opens_in_room, hears_in_room, ticks_in_room}
use Rattle.exchange_model.proofs.CallerLemmas.{conns-rise}
use Rattle.exchange_core.specs.declared.fault.OpenFault.TheVariants as Open
use Rattle.exchange_core.specs.Calls.{IsOpened}
use Rattle.exchange_core.specs.Values.{CoreValue, Untaken, stepped}
use Rattle.gateway_model.specs.declared.input.Happening.{Happening}
use Rattle.gateway_model.specs.declared.input.Happening.TheVariants as H
use Rattle.gateway_model.specs.declared.input.When.{When}
use Rattle.gateway_model.specs.Acts.{Act, Opens, TurnsAway, Takes, Hears, Passes, Asks, Denies, Sends, Tells, GoesOn, GivesUp, Forgoes, Rests, Leaves, Misses, Served, Terms, RestsAt, Does, DoesAll, at}
use Rattle.gateway_model.specs.Emissions.{Emission}
use Rattle.gateway_model.specs.Orders.{ServesOut, AreSends, Turn, telling, acts_of, IsTurn, Delivers, IsInOrder}
use Rattle.gateway_model.specs.Resting.{IsNumbered, AwaitsAnswer, AwaitsLast, AwaitsBytes, AllRest, any_terms, InputsRest}
use Rattle.gateway_model.specs.Unasked.{Unasked, unasked_at, no_bytes, IsReadOut}
use Rattle.gateway_model.proofs.Moving.{opens-as, turns-away, hears-move, ticks-move}
use Rattle.gateway_model.proofs.Conns.{once-rising, more-open}
use Rattle.gateway_model.proofs.Awaiting.{IsToTell, Awaits, AskTheirOwn, entry-more, own-with, told-more, StepsTo, steps-by, which}
use Rattle.gateway_model.proofs.Numbers.{numbered}
use Rattle.gateway_model.proofs.Standing.{added-at, is-open}
use Rattle.gateway_model.proofs.Order.{telling-for}
use Rattle.gateway_model.proofs.Serving.{IsAny, any-of, Base, LastAt, RestsNow, KeepsAt, last-kept, rests-kept, keeps-steps, base-steps, keeps-shut, gone-shut, base-shut, ServesOne, rests-serve, takes-serve, sends-keep, sends-base}
use Rattle.gateway_model.proofs.ServesFor.{for-serves, acts-serve}

-- One that rests does.
rests-now : (c : ℕ) (s : Served) → Base s → LastAt c s → RestsAt c s → RestsNow c s
rests-now c s b l r x e = by r
  where
    last : x.closing ≡ true → Awaits IsAny c s.core ⊎ AwaitsBytes x
    last t = inl (any-of c s.core (l x e t))

    waits : (p : Option ℕ) → HasConn s.core.state.conns c p → (HasConn s.core.state.conns c None → ⊥)
        → Awaits IsAny c s.core ⊎ AwaitsBytes x
    waits None has waiting = absurd (waiting has)
    waits (Some k) has waiting =
        let own = b.own c k has in
        inl (record { number = k; moment = own.0; ask = own.1; asked = own.2; such = tt; due = inl has })

    idle : (q : Bool) → x.closing ≡ q → IsIdle x.text → (Expects x.text → x.told ≡ true) → LeavesBytes x.text x.unread
        → Awaits IsAny c s.core ⊎ AwaitsBytes x
    idle true t none told counted = last t
    idle false t none told counted = inr (record { goes_on = t; idle = none; told = told; counted = counted })

    out : IsReadOut (Some x) → Awaits IsAny c s.core ⊎ AwaitsBytes x
    out (inl t) = last t
    out (inr h) = idle x.closing refl h.0 h.1 h.2

    by : RestsAt c s → Awaits IsAny c s.core ⊎ AwaitsBytes x
    by (inl waiting) = let has = is-open c s x b.numbered e in waits has.0 has.1 waiting
    by (inr h) = out (subst IsReadOut e h)

-- acts one after another
pub record Split (M : Terms) (w : When) (xs ys : List Act) (old new : Served) : Type 0 where
  pub mid : Served
  pub given : List Emission
  pub further : List Emission
  pub first : DoesAll M w xs old given mid
  pub then_so : DoesAll M w ys mid further new

pub split-acts : (M : Terms) (w : When) (xs ys : List Act) (old : Served) (out : List Emission) (new : Served)
    → DoesAll M w (xs ++ ys) old out new → Split M w xs ys old new
split-acts M w [] ys old out new h = record { mid = old; given = []; further = out; first = (refl, refl); then_so = h }
split-acts M w (a ∷ xs) ys old out new h =
    let rest = split-acts M w xs ys h.0 h.2 new h.4 in
    record {
      mid = rest.mid;
      given = h.1 ++ rest.given;
      further = rest.further;
      first = (h.0, h.1, rest.given, h.3, rest.first, refl);
      then_so = rest.then_so;
    }

-- what holds of all connections
record AllServed (s : Served) : Type 0 where
  base : Base s
  last : (c : ℕ) → LastAt c s
  rests : (c : ℕ) → RestsNow c s

all-same : (a b : Served) → b ≡ a → AllServed a → AllServed b
all-same a b e h = subst AllServed (sym e) h

all-kept : (a b : Served) → Base b → ((c : ℕ) → KeepsAt c a b) → AllServed a → AllServed b
all-kept a b base k h = record {
  base = base;
  last = λ c. last-kept c a b (k c) (h.last c);
  rests = λ c. rests-kept c a b (k c) (h.rests c);
}

-- Once a connection is served out, all rest.
record ButOne (c : ℕ) (s : Served) : Type 0 where
  base : Base s
  last : (d : ℕ) → LastAt d s
  rests : (d : ℕ) → d ≢ c → RestsNow d s

serves-but-one : (c : ℕ) (a b : Served) → ServesOne c a b → ButOne c a → ButOne c b
serves-but-one c a b s h = record {
  base = s.base;
  last = λ d. by d (which d c);
  rests = λ d ne. rests-kept d a b (s.others d ne) (h.rests d ne);
}
  where
    by : (d : ℕ) → (d ≡ c) ⊎ (d ≢ c) → LastAt d b
    by d (inl e) = subst (λ (k : ℕ). LastAt k b) (sym e) (s.last (h.last c))
    by d (inr ne) = last-kept d a b (s.others d ne) (h.last d)

but-one : (c : ℕ) (s : Served) → AllServed s → ButOne c s
but-one c s h = record { base = h.base; last = h.last; rests = λ d ne. h.rests d }

served-out : (M : Terms) (w : When) (c : ℕ) (acts : List Act) (old : Served) (out : List Emission) (new : Served)
    → ServesOut c acts → DoesAll M w acts old out new → ButOne c old → AllServed new
served-out M w c acts old out new so h k =
    let parts = split-acts M w so.first (Rests c ∷ []) old out new
    (subst (λ (xs : List Act). DoesAll M w xs old out new) so.are h) in
    let done : ServesOne c old parts.mid = acts-serve M w c so.first old parts.given parts.mid so.for parts.first k.base in
    rest parts (serves-but-one c old parts.mid done k)
  where
    rest : (parts : Split M w so.first (Rests c ∷ []) old new) → ButOne c parts.mid → AllServed new
    rest parts b =
        all-same end new parts.then_so.4.0 (record {
          base = at_end.base;
          last = at_end.last;
          rests = λ d. by d (which d c);
        })
      where
        end : Served
        end = parts.then_so.0

        at_end : ButOne c parts.then_so.0
        at_end = serves-but-one c parts.mid parts.then_so.0
            (rests-serve M w c parts.mid parts.then_so.1 parts.then_so.0 parts.then_so.3 b.base) b

        by : (d : ℕ) → (d ≡ c) ⊎ (d ≢ c) → RestsNow d parts.then_so.0
        by d (inl e) = subst (λ (k : ℕ). RestsNow k parts.then_so.0) (sym e)
            (rests-now c parts.then_so.0 at_end.base (at_end.last c) parts.then_so.3.3)
        by d (inr ne) = at_end.rests d ne

-- the turns of an input

turns-serve : (M : Terms) (w : When) (turns : List Turn) (old : Served) (out : List Emission) (new : Served)
    → AllByRecursion IsTurn turns → DoesAll M w (flat_map acts_of turns) old out new → AllServed old → AllServed new
turns-serve M w [] old out new each h k = all-same old new h.0 k
turns-serve M w (x ∷ turns) old out new each h k =
    let parts = split-acts M w (acts_of x) (flat_map acts_of turns) old out new h in
    let told = parts.first in
    let one : ServesOne x.conn old told.0 = for-serves M w x.conn (telling x.told x.conn x.ask) old told.1 told.0
    (telling-for x.told x.conn x.ask) told.3 k.base in
    let served : AllServed parts.mid = served-out M w x.conn x.further told.0 told.2 parts.mid each.0 told.4
    (serves-but-one x.conn old told.0 one (but-one x.conn old k)) in
    turns-serve M w turns parts.mid parts.further new each.1 parts.then_so served

sends-serve : (M : Terms) (w : When) (acts : List Act) (old : Served) (out : List Emission) (new : Served)
    → AreSends acts → DoesAll M w acts old out new → AllServed old → AllServed new
sends-serve M w [] old out new i h k = all-same old new h.0 k
sends-serve M w (Sends ∷ acts) old out new i h k =
    let one : AllServed h.0 = all-kept old h.0 (sends-base M w old h.1 h.0 h.3 k.base) (λ c. sends-keep M w c old h.1 h.0 h.3) k in
    sends-serve M w acts h.0 h.2 new i.1 h.4 one
sends-serve M w (Opens d ∷ acts) old out new i h k = absurd i.0
sends-serve M w (TurnsAway ∷ acts) old out new i h k = absurd i.0
sends-serve M w (Takes d bytes ∷ acts) old out new i h k = absurd i.0
sends-serve M w (Hears p bytes ∷ acts) old out new i h k = absurd i.0
sends-serve M w (Passes ∷ acts) old out new i h k = absurd i.0
sends-serve M w (Asks d ∷ acts) old out new i h k = absurd i.0
sends-serve M w (Denies d ∷ acts) old out new i h k = absurd i.0
sends-serve M w (Tells d j ∷ acts) old out new i h k = absurd i.0
sends-serve M w (GoesOn d ∷ acts) old out new i h k = absurd i.0
sends-serve M w (GivesUp d ∷ acts) old out new i h k = absurd i.0
sends-serve M w (Forgoes d j ∷ acts) old out new i h k = absurd i.0
sends-serve M w (Rests d ∷ acts) old out new i h k = absurd i.0
sends-serve M w (Leaves d ∷ acts) old out new i h k = absurd i.0
sends-serve M w (Misses d ∷ acts) old out new i h k = absurd i.0

delivers-serve : (M : Terms) (w : When) (acts : List Act) (old : Served) (out : List Emission) (new : Served)
    → Delivers acts → DoesAll M w acts old out new → AllServed old → AllServed new
delivers-serve M w acts old out new so h k =
    let parts = split-acts M w so.sends so.answers old out new (subst (λ (xs : List Act). DoesAll M w xs old out new) so.are h) in
    let sent : AllServed parts.mid = sends-serve M w so.sends old parts.given parts.mid so.sent parts.first k in
    let turns = so.told.1 in
    turns-serve M w turns.turns parts.mid parts.further new turns.each
    (subst (λ (xs : List Act). DoesAll M w xs parts.mid parts.further new) turns.are parts.then_so) sent

-- the first act of an input

hears-serve : (M : Terms) (w : When) (p : Peer) (d : List ℕ) (old : Served) (out : List Emission) (new : Served)
    → Does M w (Hears p d) old out new → AllServed old → AllServed new
hears-serve M w p d old out new h k =
    let t : ℕ = at w old in
    let s : StepsTo old.core new.core = steps-by (hears_in_room t p d h.0.numbers old.core.state) old.core new.core
    h.0.is (hears-move t p d h.0.numbers old.core.state h.4) in
    all-kept old new (base-steps old new (numbered M w (Hears p d) old out new h k.base.numbered) s k.base)
    (λ c. keeps-steps c old new h.1 s k.base.once) k

passes-serve : (M : Terms) (w : When) (old : Served) (out : List Emission) (new : Served)
    → Does M w Passes old out new → AllServed old → AllServed new
passes-serve M w old out new h k =
    let t : ℕ = at w old in
    let s : StepsTo old.core new.core = steps-by (ticks_in_room t old.core.state) old.core new.core
    (ap (λ (x : Served). x.core) h.0) (ticks-move t old.core.state h.3) in
    all-kept old new (base-steps old new (numbered M w Passes old out new h k.base.numbered) s k.base)
    (λ c. keeps-steps c old new (ap (λ (x : Served). x.unasked) h.0) s k.base.once) k

leaves-serve : (M : Terms) (w : When) (c : ℕ) (old : Served) (out : List Emission) (new : Served)
    → Does M w (Leaves c) old out new → AllServed old → AllServed new
leaves-serve M w c old out new h k = record {
  base = base-shut w c old new h.0 k.base;
  last = λ d. last d (which d c);
  rests = λ d. rests d (which d c);
}
  where
    last : (d : ℕ) → (d ≡ c) ⊎ (d ≢ c) → LastAt d new
    last d (inl e) = λ x there t. absurd (gone-shut w c old new h.0 x (subst (λ (i : ℕ). unasked_at i new.unasked ≡ Some x) e there))
    last d (inr ne) = last-kept d old new (keeps-shut w c d old new ne h.0) (k.last d)

    rests : (d : ℕ) → (d ≡ c) ⊎ (d ≢ c) → RestsNow d new
    rests d (inl e) = λ x there. absurd (gone-shut w c old new h.0 x (subst (λ (i : ℕ). unasked_at i new.unasked ≡ Some x) e there))
    rests d (inr ne) = rests-kept d old new (keeps-shut w c d old new ne h.0) (k.rests d)

served-same : (old new : Served) → new.core ≡ old.core → new.unasked ≡ old.unasked → new ≡ old
served-same old new e f = ap (λ (v : CoreValue). record { core = v; unasked = new.unasked }) e
    ∙ ap (λ (xs : List Unasked). record { core = old.core; unasked = xs }) f

turns-away-serves : (M : Terms) (w : When) (old : Served) (out : List Emission) (new : Served)
    → Does M w TurnsAway old out new → AllServed old → AllServed new
turns-away-serves M w old out new h k = by h.0
  where
    n : IsNumbered new
    n = numbered M w TurnsAway old out new h k.base.numbered

    by : IsOpened (Err Open.Full) (at w old) old.core new.core ⊎ IsOpened (Err Open.Sealed) (at w old) old.core new.core
        → AllServed new
    by (inl full) =
        let same : new ≡ old = served-same old new full.0 h.1 in
        all-same old new same k
    by (inr sealed) =
        let t : ℕ = at w old in
        let closed : (opens_in_room t old.core.state).sealed ≡ true =
        sym (ap (λ (v : CoreValue). v.state.sealed) sealed.0) ∙ sealed.1 in
        let s : StepsTo old.core new.core = steps-by (opens_in_room t old.core.state) old.core new.core sealed.0
        (turns-away t old.core.state closed) in
        all-kept old new (base-steps old new n s k.base) (λ c. keeps-steps c old new h.1 s k.base.once) k

-- before and after an input

rested-before : (s : Served) → KeptInRoom s.core.state → AllRest s → AllServed s
rested-before s kept h = record {
  base = record {
    numbered = h.numbered;
    once = once-rising s.core.state.conns (conns-rise s.core.state kept);
    own = λ c k has. let a = h.asked c k has in (a.moment, a.ask, a.stands);
  };
  last = λ c x e t. let l = h.last c x e t in record {
    number = l.number;
    moment = l.asked.moment;
    ask = l.asked.ask;
    asked = l.asked.stands;
    such = l.last;
    due = inl l.waits;
  };
  rests = λ c x e. by c x (h.rests c x e);
}
  where
    by : (c : ℕ) (x : Unasked) → AwaitsAnswer c s ⊎ AwaitsBytes x → Awaits IsAny c s.core ⊎ AwaitsBytes x
    by c x (inl y) =
        let a = h.asked c y.0 y.1 in
        inl (record { number = y.0; moment = a.moment; ask = a.ask; asked = a.stands; such = tt; due = inl y.1 })
    by c x (inr y) = inr y

waits-now : (c k : ℕ) (v : CoreValue) → v.untaken ≡ [] → HasConn v.state.conns c (Some k) ⊎ IsToTell v.untaken c k
    → HasConn v.state.conns c (Some k)
waits-now c k v none (inl has) = has
waits-now c k v none (inr told) = absurd (subst (λ (us : List Untaken). IsToTell us c k) none told)

rested-after : (s : Served) → s.core.untaken ≡ [] → AllServed s → AllRest s
rested-after s none h = record {
  numbered = h.base.numbered;
  asked = λ c k has. let own = h.base.own c k has in record { moment = own.0; ask = own.1; stands = own.2 };
  last = λ c x e t. let y = h.last c x e t in record {
    number = y.number;
    waits = waits-now c y.number s.core none y.due;
    asked = record { moment = y.moment; ask = y.ask; stands = y.asked };
    last = y.such;
  };
  rests = λ c x e. by c x (h.rests c x e);
}
  where
    by : (c : ℕ) (x : Unasked) → Awaits IsAny c s.core ⊎ AwaitsBytes x → AwaitsAnswer c s ⊎ AwaitsBytes x
    by c x (inl y) = inl (y.number, waits-now c y.number s.core none y.due)
    by c x (inr y) = inr y

-- a connection is opened

opened-rests : (M : Terms) (w : When) (c : ℕ) (old : Served) (out : List Emission) (new : Served)
    → Does M w (Opens c) old out new → new.core.untaken ≡ [] → AllServed old → AllRest new
opened-rests M w c old out new h none k = record {
  numbered = numbered M w (Opens c) old out new h k.base.numbered;
  asked = λ d j has. let a = own d j has in record { moment = a.0; ask = a.1; stands = a.2 };
  last = λ d x e t. last d x (there d x e) t;
  rests = λ d x e. rests d x (there d x e);
}
  where
    t : ℕ
    t = at w old

    S : State
    S = opens_in_room (at w old) old.core.state

    open_still : (opens_in_room (at w old) old.core.state).sealed ≡ false
    open_still = sym (ap (λ (v : CoreValue). v.state.sealed) h.0.1) ∙ h.0.2

    is : new.core ≡ stepped (opens (at w old) old.core.state) old.core
    is = h.0.1 ∙ ap (λ (S : State). stepped S old.core) (opens-as (at w old) old.core.state open_still)

    own : AskTheirOwn new.core.state.entries new.core.state.conns
    own = subst (λ (v : CoreValue). AskTheirOwn v.state.entries v.state.conns) (sym is)
        (own-with old.core.state.entries old.core.state.conns
        (at_moment (at w old) (Opened old.core.state.opened) ∷ []) k.base.own)

    untaken : (d j : ℕ) → IsToTell old.core.untaken d j → IsToTell new.core.untaken d j
    untaken d j told = subst (λ (v : CoreValue). IsToTell v.untaken d j) (sym is) (told-more old.core.untaken _ d j told)

    has_more : (d : ℕ) (p : Option ℕ) → HasConn old.core.state.conns d p → HasConn new.core.state.conns d p
    has_more d p has = subst (λ (v : CoreValue). HasConn v.state.conns d p) (sym is)
        (more-open d p old.core.state.conns (record { id = old.core.state.opened; pending = None } ∷ []) has)

    waits : (d j : ℕ) → HasConn old.core.state.conns d (Some j) ⊎ IsToTell old.core.untaken d j → HasConn new.core.state.conns d (Some j)
    waits d j (inl has) = has_more d (Some j) has
    waits d j (inr told) = absurd (subst (λ (us : List Untaken). IsToTell us d j) none (untaken d j told))

    there : (d : ℕ) (x : Unasked) → unasked_at d new.unasked ≡ Some x → (unasked_at d old.unasked ≡ Some x) ⊎ (x ≡ no_bytes c)
    there d x e = added-at c d old.unasked x (subst (λ (xs : List Unasked). unasked_at d xs ≡ Some x) h.1 e)

    last : (d : ℕ) (x : Unasked) → (unasked_at d old.unasked ≡ Some x) ⊎ (x ≡ no_bytes c) → x.closing ≡ true → AwaitsLast d new
    last d x (inl e) closing =
        let y = k.last d x e closing in
        record {
          number = y.number;
          waits = waits d y.number y.due;
          asked = record {
            moment = y.moment;
            ask = y.ask;
            stands = subst (λ (v : CoreValue). IsEntry v.state.entries y.number y.moment (Asked d y.ask)) (sym is)
                (entry-more old.core.state.entries (at_moment (at w old) (Opened old.core.state.opened) ∷ [])
                y.number y.moment (Asked d y.ask) y.asked);
          };
          last = y.such;
        }
    last d x (inr e) closing = absurd (both_ways x.closing (ap (λ (z : Unasked). z.closing) e) closing)

    rests : (d : ℕ) (x : Unasked) → (unasked_at d old.unasked ≡ Some x) ⊎ (x ≡ no_bytes c) → AwaitsAnswer d new ⊎ AwaitsBytes x
    rests d x (inl e) = by (k.rests d x e)
      where
        by : Awaits IsAny d old.core ⊎ AwaitsBytes x → AwaitsAnswer d new ⊎ AwaitsBytes x
        by (inl y) = inl (y.number, waits d y.number y.due)
        by (inr y) = inr y
    rests d x (inr e) = inr (subst AwaitsBytes (sym e) (record {
      goes_on = refl;
      idle = inl refl;
      told = λ expects. absurd (expects-nothing expects);
      counted = leaves-nothing;
    }))

-- an input

pub input-rests : (M : Terms) (w : When) (x : Happening) (acts : List Act) (old : Served) (out : List Emission) (new : Served)
    → DoesAll M w acts old out new → IsInOrder x acts
    → KeptInRoom old.core.state → new.core.untaken ≡ [] → AllRest old → AllRest new
input-rests M w H.Open acts old out new h o kept none r = by o
  where
    by : ((c : ℕ) × (acts ≡ Opens c ∷ [])) ⊎ (acts ≡ TurnsAway ∷ []) → AllRest new
    by (inl one) =
        let d = subst (λ (xs : List Act). DoesAll M w xs old out new) one.1 h in
        let first : Does M w (Opens one.0) old d.1 new =
        subst (λ (s : Served). Does M w (Opens one.0) old d.1 s) (sym d.4.0) d.3 in
        opened-rests M w one.0 old d.1 new first none (rested-before old kept r)
    by (inr one) =
        let d = subst (λ (xs : List Act). DoesAll M w xs old out new) one h in
        rested-after new none
        (all-same d.0 new d.4.0 (turns-away-serves M w old d.1 d.0 d.3 (rested-before old kept r)))
input-rests M w (H.Bytes c bytes) acts old out new h o kept none r =
    let d = subst (λ (xs : List Act). DoesAll M w xs old out new) o.are h in
    let before : AllServed old = rested-before old kept r in
    let one : ServesOne c old d.0 = takes-serve M w c bytes.now old d.1 d.0 d.3 before.base in
    rested-after new none
    (served-out M w c o.rest d.0 d.2 new o.then d.4 (serves-but-one c old d.0 one (but-one c old before)))
input-rests M w (H.Datagram p bytes) acts old out new h o kept none r =
    let d = subst (λ (xs : List Act). DoesAll M w xs old out new) o.are h in
    rested-after new none
    (delivers-serve M w o.rest d.0 d.2 new o.then d.4
    (hears-serve M w p bytes.now old d.1 d.0 d.3 (rested-before old kept r)))
input-rests M w H.Tick acts old out new h o kept none r =
    let d = subst (λ (xs : List Act). DoesAll M w xs old out new) o.are h in
    rested-after new none
    (delivers-serve M w o.rest d.0 d.2 new o.then d.4 (passes-serve M w old d.1 d.0 d.3 (rested-before old kept r)))
input-rests M w (H.Close c) acts old out new h o kept none r = by o
  where
    by : (acts ≡ Leaves c ∷ []) ⊎ (acts ≡ Misses c ∷ []) → AllRest new
    by (inl one) =
        let d = subst (λ (xs : List Act). DoesAll M w xs old out new) one h in
        rested-after new none
        (all-same d.0 new d.4.0 (leaves-serve M w c old d.1 d.0 d.3 (rested-before old kept r)))
    by (inr one) =
        let d = subst (λ (xs : List Act). DoesAll M w xs old out new) one h in
        rested-after new none (all-same old new (d.4.0 ∙ d.3.0) (rested-before old kept r))
input-rests M w H.Rotate acts old out new h o kept none r = absurd o

pub inputs-rest : InputsRest
inputs-rest w x acts old out new h o kept none r = input-rests any_terms w x acts old out new h o kept none r
