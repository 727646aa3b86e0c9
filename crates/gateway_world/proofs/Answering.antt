-- Answers are told in the order of their asks.
use Rattle.std.proofs.Common.{◌≡◌, ◌≢◌, Bool, true, false, cond, not, eq-eqb, ℕ, zero, suc, ◌+◌, ◌<◌, ◌≤◌, List, [], ◌∷◌, ◌++◌, length, Some, refl, sym, ap, subst, ◌∙◌, arith}
use Rattle.std.specs.Prelude.{◌==◌}
use Rattle.std.specs.List.{AllByRecursion, Contains, filter}
use Rattle.std.proofs.lemmas.Bool.{both_ways}
use Rattle.exchange_core.specs.Answering.{Given}
use Rattle.exchange_core.specs.Serving.{IsFirst, IsFirstTaken}
use Rattle.uri_map.specs.declared.peer.Peer.{Peer}
use Rattle.exchange_model.specs.Growing.{Adds}
use Rattle.exchange_model.specs.State.{State}
use Rattle.exchange_model.specs.Keeping.{Kept}
use Rattle.exchange_model.specs.Sealing.{hears_in_room, ticks_in_room}
use Rattle.exchange_model.proofs.CallerLemmas.{hears-add, hears-answer, ticks-add, ticks-answer}
use Rattle.exchange_core.specs.Calls.{HearsSo}
use Rattle.exchange_core.specs.Values.{CoreValue, Untaken, stepped}
use Rattle.gateway_model.proofs.CallerLemmas.{all-as, keeps-for, keeps-out, keeps-then, KeepsOpen, no-turns, served-after, told-for, turns-on}
use Rattle.gateway_connections.specs.Inlets.{Inlet, TableValue}
use Rattle.gateway_world.specs.declared.engine.Engine.{Engine}
use Rattle.gateway_model.specs.declared.input.When.{When}
use Rattle.gateway_model.specs.declared.input.Output.{Output}
use Rattle.gateway_model.specs.Acts.{Act, Terms, IsAllTold}
use Rattle.gateway_model.specs.Emissions.{emissions}
use Rattle.gateway_world.specs.Engines.{IsSentOut, KeepsWaiting, LeadsAfter, MayGoBack}
use Rattle.gateway_world.specs.Leading.{Leads, LeadsBy, served_of}
use Rattle.gateway_model.specs.Orders.{ServesOut, IsTelling, AreTurns, HasTurns}
use Rattle.gateway_model.specs.Waiting.{AreApart, AreServed, IsOpen}
use Rattle.gateway_world.proofs.Growth.{back-none, back-state, back-then}
use Rattle.gateway_world.proofs.Lead.{leads-none, leads-then, leads-as}
use Rattle.gateway_world.proofs.Untaken.{not_to, rest-after, fewer, filter-all, all-at}

-- So far answers to asks below the number were told, and those that wait are to later ones.
pub record Answered {R : Type 0} (M : Terms) (w : When) (old : Engine R) (before : List (Output R)) (new : Engine R) (after : List (Output R))
    : Type 0 where
  pub number : ℕ
  pub leads : LeadsBy M w (AreTurns number) old before new after
  pub above : IsFirst number new.core.untaken
  pub served : AreServed new.core
  pub back : MayGoBack old new
  pub unsent : old.core.unsent ≡ [] → new.core.unsent ≡ []

above-zero : (us : List Untaken) → IsFirst 0 us
above-zero [] = tt
above-zero (u ∷ us) = (zero-le u.ask, above-zero us)
  where
    zero-le : (n : ℕ) → 0 ≤ n
    zero-le n = omega arith

first-below : (m c k n : ℕ) (us : List Untaken) → IsFirst m us → Contains us (record { conn = c; ask = k; number = n }) → m ≤ k
first-below m c k n [] h (i, lt, e) = absurd (omega (arith, lt))
first-below m c k n (u ∷ us) h (zero, lt, e) = subst (λ (v : Untaken). m ≤ v.ask) e h.0
first-below m c k n (u ∷ us) h (suc i, lt, e) = first-below m c k n us h.1 (i, omega (arith, lt), e)

pub answered-fewer : (g : Given) (mid taken told new : CoreValue) → IsFirstTaken (Some g) mid taken
    → KeepsWaiting taken told → KeepsWaiting told new → length new.untaken < length mid.untaken
answered-fewer g mid taken told new first waits1 waits2 =
    let left : new.untaken ≡ filter (not_to g.ask) mid.untaken =
    waits2.untaken ∙ (waits1.untaken ∙ ap (λ (v : CoreValue). v.untaken) first.0.3) in
    rw left (fewer g.conn g.ask g.number mid.untaken first.0.1)

-- Once one is taken, the others that wait are of other connections, and open.

apart-both : (u v : Untaken) (us : List Untaken) → AllByRecursion (λ (x : Untaken). u.conn ≢ x.conn) us → Contains us v → u.conn ≢ v.conn
apart-both u v [] h (i, lt, e) = absurd (omega (arith, lt))
apart-both u v (x ∷ us) h (zero, lt, e) = subst (λ (y : Untaken). u.conn ≢ y.conn) e h.0
apart-both u v (x ∷ us) h (suc i, lt, e) = apart-both u v us h.1 (i, omega (arith, lt), e)

none-of : (k : ℕ) (u : Untaken) (us : List Untaken) → AllByRecursion (λ (x : Untaken). u.conn ≢ x.conn) us
    → AllByRecursion (λ (x : Untaken). u.conn ≢ x.conn) (filter (not_to k) us)
none-of k u us h = filter-all (λ (x : Untaken). u.conn ≢ x.conn) k us h

others-apart : (c k n : ℕ) (us : List Untaken) → AreApart us → Contains us (record { conn = c; ask = k; number = n })
    → AllByRecursion (λ (u : Untaken). u.conn ≢ c) (filter (not_to k) us)
others-apart c k n [] h has = tt
others-apart c k n (u ∷ us) h (zero, lt, e) =
    first-gone (u.ask == k) refl (ap (λ (v : Untaken). v.ask) e)
    (all-as (λ (x : Untaken). u.conn ≢ x.conn) (λ (x : Untaken). x.conn ≢ c) (filter (not_to k) us)
    (λ x ne same. ne (ap (λ (v : Untaken). v.conn) e ∙ sym same)) (filter-all (λ (x : Untaken). u.conn ≢ x.conn) k us h.0))
  where
    first-gone : (b : Bool) → (u.ask == k) ≡ b → u.ask ≡ k → AllByRecursion (λ (x : Untaken). x.conn ≢ c) (filter (not_to k) us)
        → AllByRecursion (λ (x : Untaken). x.conn ≢ c) (cond (not b) (u ∷ filter (not_to k) us) (filter (not_to k) us))
    first-gone true t is rest = rest
    first-gone false t is rest = absurd (both_ways (u.ask == k) t (eq-eqb u.ask k is))
others-apart c k n (u ∷ us) h (suc i, lt, e) =
    let has : Contains us (record { conn = c; ask = k; number = n }) = (i, omega (arith, lt), e) in
    more (not (u.ask == k)) (apart-both u (record { conn = c; ask = k; number = n }) us h.0 has) (others-apart c k n us h.1 has)
  where
    more : (b : Bool) → u.conn ≢ c → AllByRecursion (λ (x : Untaken). x.conn ≢ c) (filter (not_to k) us)
        → AllByRecursion (λ (x : Untaken). x.conn ≢ c) (cond b (u ∷ filter (not_to k) us) (filter (not_to k) us))
    more true ne rest = (ne, rest)
    more false ne rest = rest

apart-filter : (k : ℕ) (us : List Untaken) → AreApart us → AreApart (filter (not_to k) us)
apart-filter k [] h = tt
apart-filter k (u ∷ us) h = one (not (u.ask == k)) (none-of k u us h.0) (apart-filter k us h.1)
  where
    one : (b : Bool) → AllByRecursion (λ (x : Untaken). u.conn ≢ x.conn) (filter (not_to k) us) → AreApart (filter (not_to k) us)
        → AreApart (cond b (u ∷ filter (not_to k) us) (filter (not_to k) us))
    one true a b = (a, b)
    one false a b = b

kept-open : (c : ℕ) (old new : CoreValue) (us : List Untaken) → KeepsOpen c old new → AllByRecursion (λ (u : Untaken). u.conn ≢ c) us
    → AllByRecursion (λ (u : Untaken). IsOpen u.conn old.state.conns) us → AllByRecursion (λ (u : Untaken). IsOpen u.conn new.state.conns) us
kept-open c old new [] k ne o = tt
kept-open c old new (u ∷ us) k ne o = (k u.conn ne.0 o.0, kept-open c old new us k ne.1 o.1)

served-on : (c k n : ℕ) (old new : CoreValue) → AreServed old → Contains old.untaken (record { conn = c; ask = k; number = n })
    → new.untaken ≡ filter (not_to k) old.untaken → KeepsOpen c old new → AreServed new
served-on c k n old new h has left keeps = record {
  apart = subst AreApart (sym left) (apart-filter k old.untaken h.apart);
  opened = subst (AllByRecursion (λ (u : Untaken). IsOpen u.conn new.state.conns)) (sym left)
      (kept-open c old new (filter (not_to k) old.untaken) keeps (others-apart c k n old.untaken h.apart has)
      (filter-all (λ (u : Untaken). IsOpen u.conn old.state.conns) k old.untaken h.opened));
}

-- what the engine has to know of the answer that is first
pub first-open : (g : Given) (mid taken : CoreValue) → AreServed mid → IsFirstTaken (Some g) mid taken → IsOpen g.conn taken.state.conns
first-open g mid taken h first =
    subst (λ (v : CoreValue). IsOpen g.conn v.state.conns) (sym first.0.3)
    (all-at (λ (u : Untaken). IsOpen u.conn mid.state.conns) (record { conn = g.conn; ask = g.ask; number = g.number }) mid.untaken h.opened first.0.1)

pub first-told : (g : Given) (mid taken told : CoreValue) → AreServed mid → IsFirstTaken (Some g) mid taken → KeepsWaiting taken told
    → IsAllTold g.conn told
first-told g mid taken told h first waits =
    subst (AllByRecursion (λ (u : Untaken). u.conn ≢ g.conn)) (sym (waits.untaken ∙ ap (λ (v : CoreValue). v.untaken) first.0.3))
    (others-apart g.conn g.ask g.number mid.untaken h.apart first.0.1)

pub all-told : (c : ℕ) (v : CoreValue) → v.untaken ≡ [] → IsAllTold c v
all-told c v e = subst (AllByRecursion (λ (u : Untaken). u.conn ≢ c)) (sym e) tt

pub still-told : (c : ℕ) (old new : CoreValue) → IsAllTold c old → KeepsWaiting old new → IsAllTold c new
still-told c old new h k = subst (AllByRecursion (λ (u : Untaken). u.conn ≢ c)) (sym k.untaken) h

-- where all datagrams went out, as before
pub sent-served : (old new : CoreValue) → IsSentOut old new → AreServed old → AreServed new
sent-served old new out h = record {
  apart = subst AreApart (sym out.untaken) h.apart;
  opened = subst (AllByRecursion (λ (u : Untaken). IsOpen u.conn new.state.conns)) (sym out.untaken)
      (subst (λ (s : State). AllByRecursion (λ (u : Untaken). IsOpen u.conn s.conns) old.untaken) (sym out.state) h.opened);
}

-- after a datagram, and a tick
pub heard-served : (t word : ℕ) (p : Peer) (d : List ℕ) (old new : CoreValue) → old.untaken ≡ []
    → HearsSo t word p d old new → Kept new.state → AreServed new
heard-served t word p d old new none h kept =
    let S : State = hears_in_room t p d h.numbers old.state in
    let x : Adds t old.state S = hears-add t p d h.numbers old.state in
    served-after t old new S none h.is x (hears-answer t p d h.numbers old.state x) kept

pub ticked-served : (t : ℕ) (old new : CoreValue) → old.untaken ≡ []
    → new ≡ stepped (ticks_in_room t old.state) old → Kept new.state → AreServed new
ticked-served t old new none e kept =
    let x : Adds t old.state (ticks_in_room t old.state) = ticks-add t old.state in
    served-after t old new (ticks_in_room t old.state) none e x (ticks-answer t old.state x) kept

module _ {R : Type 0} (M : Terms) (w : When) where
  pub answered-none : (e : Engine R) (before : List (Output R)) → AreServed e.core → Answered M w e before e before
  answered-none e before served = record {
    number = 0;
    leads = leads-none M w (AreTurns 0) (served_of e) (emissions before) no-turns;
    above = above-zero e.core.untaken;
    served = served;
    back = back-none e;
    unsent = λ none. none;
  }

  pub answered-on : (g : Given) (old mid taken told new : Engine R) (before sofar said after : List (Output R))
      → Answered M w old before mid sofar
      → IsFirstTaken (Some g) mid.core taken.core → taken.table ≡ mid.table
      → LeadsAfter M w (IsTelling g.conn g.ask) mid.core taken.table.current sofar told said
      → MayGoBack taken told → KeepsWaiting taken.core told.core
      → LeadsBy M w (ServesOut g.conn) told said new after
      → MayGoBack told new → KeepsWaiting told.core new.core
      → Answered M w old before new after
  answered-on g old mid taken told new before sofar said after h first table tells back1 waits1 serves back2 waits2 =
      let k : ℕ = g.ask in
      let le : h.number ≤ k = first-below h.number g.conn k g.number mid.core.untaken h.above first.0.1 in
      let left : new.core.untaken ≡ filter (not_to k) mid.core.untaken =
      waits2.untaken ∙ (waits1.untaken ∙ ap (λ (v : CoreValue). v.untaken) first.0.3) in
      let unsent : taken.core.unsent ≡ mid.core.unsent = ap (λ (v : CoreValue). v.unsent) first.0.3 in
      let back0 : MayGoBack mid taken =
      back-state mid taken (ap (λ (v : CoreValue). v.state) first.0.3) (ap (λ (t : TableValue). t.marked) table) in
      let from : Leads M w (IsTelling g.conn k) (served_of mid) (emissions sofar) (served_of told) (emissions said) =
      subst (λ (xs : List Inlet). LeadsAfter M w (IsTelling g.conn k) mid.core xs sofar told said)
      (ap (λ (t : TableValue). t.current) table) tells in
      let keeps : KeepsOpen g.conn mid.core new.core =
      keeps-then g.conn mid.core told.core new.core
      (keeps-for M w g.conn from.acts (served_of mid) from.given (served_of told) (told-for g.conn k from.acts from.order) from.done)
      (keeps-out M w g.conn serves.acts (served_of told) serves.given (served_of new) serves.order serves.done) in
      record {
        number = k + 1;
        leads = leads-then M w (AreTurns h.number) (λ (xs : List Act). (ys : List Act) × (zs : List Act) × (xs ≡ ys ++ zs) × IsTelling g.conn k ys × ServesOut g.conn zs) (AreTurns (k + 1)) (served_of old) (served_of mid) (served_of new)
            (emissions before) (emissions sofar) (emissions after)
            (λ xs ys a b. subst (λ (vs : List Act). AreTurns (k + 1) (xs ++ vs)) (sym b.2) (turns-on h.number g.conn k xs b.0 b.1 le a b.3 b.4)) h.leads
            (leads-then M w (IsTelling g.conn k) (ServesOut g.conn) (λ (xs : List Act). (ys : List Act) × (zs : List Act) × (xs ≡ ys ++ zs) × IsTelling g.conn k ys × ServesOut g.conn zs) (served_of mid) (served_of told) (served_of new)
            (emissions sofar) (emissions said) (emissions after) (λ ys zs a b. (ys, zs, refl, a, b)) from serves);
        above = subst (IsFirst (k + 1)) (sym left) (rest-after k mid.core.untaken first.1);
        served = served-on g.conn k g.number mid.core new.core h.served first.0.1 left keeps;
        back = back-then old mid new h.back (back-then mid taken new back0 (back-then taken told new back1 back2));
        unsent = λ none. waits2.unsent (waits1.unsent (unsent ∙ h.unsent none));
      }

  pub answered-all : (old new : Engine R) (before after : List (Output R)) → Answered M w old before new after
      → LeadsBy M w HasTurns old before new after
  answered-all old new before after h =
      leads-as M w (AreTurns h.number) HasTurns (served_of old) (served_of new) (emissions before) (emissions after)
      (λ xs a. (h.number, a)) h.leads
