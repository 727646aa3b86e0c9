-- Acts for one connection leave the others open.
use Rattle.std.proofs.Common.{◌≡◌, ◌≢◌, ℕ, zero, suc, ◌<◌, Bool, true, false, not, List, [], ◌∷◌, length, map, None, Ok, Err, inl, inr, refl, sym, ap, subst, arith, eqb-true}
use Rattle.std.specs.Prelude.{Option, ◌==◌, ⊤}
use Rattle.std.specs.List.{AllByRecursion, Contains, filter}
use Rattle.history_laws.proofs.CallerLemmas.{contains-filter}
use Rattle.ask_model.specs.Views.{Ask}
use Rattle.http_mapping.specs.Means.{closes}
use Rattle.exchange_model.specs.declared.kept.Conn.{Conn}
use Rattle.exchange_model.specs.State.{State}
use Rattle.exchange_model.specs.Resting.{HasConn}
use Rattle.exchange_core.specs.declared.fault.AskFault.TheVariants as Fault
use Rattle.exchange_core.specs.Calls.{IsAsked, IsClosed}
use Rattle.exchange_core.specs.Values.{CoreValue}
use Rattle.gateway_model.specs.declared.input.When.{When}
use Rattle.gateway_model.specs.Acts.{Act, Opens, TurnsAway, Takes, Hears, Passes, Asks, Denies, Sends, Tells, GoesOn, GivesUp, Forgoes, Rests, Leaves, Misses, Served, Terms, Ends, Does, DoesAll, at}
use Rattle.gateway_model.specs.Emissions.{Emission}
use Rattle.gateway_model.specs.Orders.{IsFor, AreFor, ServesOut}
use Rattle.gateway_model.specs.Waiting.{conn_id, IsOpen}
use Rattle.gateway_model.proofs.Numbers.{asks-ids, denied-ids, dropped}
use Rattle.gateway_model.proofs.Order.{all-append, all-as}

-- a connection that the core has is open, and the other way round

pub there : {X : Type 0} (y x : X) (xs : List X) → Contains xs x → Contains (y ∷ xs) x
there y x xs (i, lt, e) = (suc i, omega (arith, lt), e)

pub here : {X : Type 0} (x y : X) (xs : List X) → x ≡ y → Contains (x ∷ xs) y
here x y xs e = (zero, more (length xs), e)
  where
    more : (n : ℕ) → zero < suc n
    more n = omega arith

pub open-conn : (c : ℕ) (p : Option ℕ) (cs : List Conn) → HasConn cs c p → IsOpen c cs
open-conn c p [] h = absurd h
open-conn c p (x ∷ cs) (inl h) = here x.id c (map conn_id cs) h.0
open-conn c p (x ∷ cs) (inr h) = there x.id c (map conn_id cs) (open-conn c p cs h)

pub conn-open : (c : ℕ) (cs : List Conn) → IsOpen c cs → (p : Option ℕ) × HasConn cs c p
conn-open c [] (i, lt, e) = absurd (omega (arith, lt))
conn-open c (x ∷ cs) (zero, lt, e) = (x.pending, inl (e, refl))
conn-open c (x ∷ cs) (suc i, lt, e) =
    let h = conn-open c cs (i, omega (arith, lt), e) in (h.0, inr h.1)

pub open-ids : (c : ℕ) (cs ds : List Conn) → map conn_id ds ≡ map conn_id cs → IsOpen c cs → IsOpen c ds
open-ids c cs ds e h = subst (λ (ks : List ℕ). Contains ks c) (sym e) h

-- An ask leaves its connection open, also one that the journal doesn't take.
pub asked-open : (t word c k : ℕ) (a : Ask) (old asked : CoreValue) → IsAsked (Ok k) t word c a old asked → IsOpen c asked.state.conns
asked-open t word c k a old asked h =
    open-ids c old.state.conns asked.state.conns (asks-ids t word c a old asked h.2)
    (open-conn c None old.state.conns h.2.idle)

pub denied-open : (t word c : ℕ) (a : Ask) (old asked : CoreValue) → IsAsked (Err Fault.Sealed) t word c a old asked
    → IsOpen c asked.state.conns
denied-open t word c a old asked h =
    open-ids c old.state.conns asked.state.conns (denied-ids t word c a old asked h)
    (open-conn c None old.state.conns h.1)

-- the other connections that were open are open

abbrev pub KeepsOpen : ℕ → CoreValue → CoreValue → Type 0
KeepsOpen c old new = (d : ℕ) → d ≢ c → IsOpen d old.state.conns → IsOpen d new.state.conns

keeps-ids : (c : ℕ) (old new : CoreValue) → map conn_id new.state.conns ≡ map conn_id old.state.conns → KeepsOpen c old new
keeps-ids c old new e d ne h = open-ids d old.state.conns new.state.conns e h

keeps-core : (c : ℕ) (old new : CoreValue) → new.state ≡ old.state → KeepsOpen c old new
keeps-core c old new e = keeps-ids c old new (ap (λ (s : State). map conn_id s.conns) e)

pub keeps-then : (c : ℕ) (x y z : CoreValue) → KeepsOpen c x y → KeepsOpen c y z → KeepsOpen c x z
keeps-then c x y z h k d ne o = k d ne (h d ne o)

not-it : (k c : ℕ) → k ≢ c → not (k == c) ≡ true
not-it k c ne = by (k == c) refl
  where
    by : (b : Bool) → (k == c) ≡ b → not b ≡ true
    by true t = absurd (ne (eqb-true k c t))
    by false t = refl

kept-in : (c d : ℕ) (ks : List ℕ) → d ≢ c → Contains ks d → Contains (filter (λ (k : ℕ). not (k == c)) ks) d
kept-in c d ks ne h = contains-filter (λ (k : ℕ). not (k == c)) ks d h (not-it d c ne)

keeps-closed : (t c : ℕ) (old new : CoreValue) → IsClosed t c old new → KeepsOpen c old new
keeps-closed t c old new h d ne o =
    subst (λ (cs : List Conn). IsOpen d cs) (sym (ap (λ (v : CoreValue). v.state.conns) h.1))
    (subst (λ (ks : List ℕ). Contains ks d) (sym (dropped conn_id c old.state.conns))
    (kept-in c d (map conn_id old.state.conns) ne o))

keeps-ends : (w : When) (c : ℕ) (b : Bool) (old : Served) (out : List Emission) (new : Served) → Ends w c b old out new
    → KeepsOpen c old.core new.core
keeps-ends w c true old out new h = keeps-closed (at w old) c old.core new.core h.0.0
keeps-ends w c false old out new h = keeps-core c old.core new.core (ap (λ (s : Served). s.core.state) h.0)

-- it is done for the connection, or rests
abbrev IsWith : ℕ → Act → Type 0
IsWith c (Rests d) = ⊤
IsWith c a = IsFor c a

for-with : (c : ℕ) (a : Act) → IsFor c a → IsWith c a
for-with c (Opens d) h = h
for-with c TurnsAway h = h
for-with c (Takes d bytes) h = h
for-with c (Hears p bytes) h = h
for-with c Passes h = h
for-with c (Asks d) h = h
for-with c (Denies d) h = h
for-with c Sends h = h
for-with c (Tells d k) h = h
for-with c (GoesOn d) h = h
for-with c (GivesUp d) h = h
for-with c (Forgoes d k) h = h
for-with c (Rests d) h = tt
for-with c (Leaves d) h = h
for-with c (Misses d) h = h

keeps-act : (M : Terms) (w : When) (c : ℕ) (a : Act) (old : Served) (out : List Emission) (new : Served) → IsWith c a
    → Does M w a old out new → KeepsOpen c old.core new.core
keeps-act M w c (Opens d) old out new f h = absurd f
keeps-act M w c TurnsAway old out new f h = absurd f
keeps-act M w c (Takes d bytes) old out new f h = absurd f
keeps-act M w c (Hears p bytes) old out new f h = absurd f
keeps-act M w c Passes old out new f h = absurd f
keeps-act M w c (Asks d) old out new f h =
    keeps-ids c old.core new.core (asks-ids (at w old) w.word d h.0.ask old.core new.core h.0.asked.2)
keeps-act M w c (Denies d) old out new f h =
    keeps-then c old.core h.0.core new.core
    (keeps-ids c old.core h.0.core (denied-ids (at w old) w.word d h.1.ask old.core h.0.core h.1.denied))
    (subst (λ (k : ℕ). KeepsOpen k h.0.core new.core) f (keeps-closed (at w h.0) d h.0.core new.core h.2.0))
keeps-act M w c Sends old out new f h = keeps-core c old.core new.core (ap (λ (v : CoreValue). v.state) h.sent.1)
keeps-act M w c (Tells d k) old out new f h =
    keeps-then c old.core h.told.core new.core
    (keeps-core c old.core h.told.core (ap (λ (v : CoreValue). v.state) h.taken.3))
    (subst (λ (n : ℕ). KeepsOpen n h.told.core new.core) f (keeps-ends w d (closes h.answer.mapping.came) h.told h.after new h.ends))
keeps-act M w c (GoesOn d) old out new f h = keeps-core c old.core new.core (ap (λ (v : CoreValue). v.state) h.1)
keeps-act M w c (GivesUp d) old out new f h =
    subst (λ (n : ℕ). KeepsOpen n old.core new.core) f (keeps-closed (at w old) d old.core new.core h.0.0)
keeps-act M w c (Forgoes d k) old out new f h =
    keeps-then c old.core h.0.core new.core
    (keeps-core c old.core h.0.core (ap (λ (v : CoreValue). v.state) h.1.taken.3))
    (subst (λ (n : ℕ). KeepsOpen n h.0.core new.core) f (keeps-closed (at w h.0) d h.0.core new.core h.2.0))
keeps-act M w c (Rests d) old out new f h = keeps-core c old.core new.core (ap (λ (v : CoreValue). v.state) h.0)
keeps-act M w c (Leaves d) old out new f h = absurd f
keeps-act M w c (Misses d) old out new f h = absurd f

keeps-with : (M : Terms) (w : When) (c : ℕ) (acts : List Act) (old : Served) (out : List Emission) (new : Served)
    → AllByRecursion (IsWith c) acts → DoesAll M w acts old out new → KeepsOpen c old.core new.core
keeps-with M w c [] old out new f h = keeps-core c old.core new.core (ap (λ (s : Served). s.core.state) h.0)
keeps-with M w c (a ∷ acts) old out new f h =
    keeps-then c old.core h.0.core new.core (keeps-act M w c a old h.1 h.0 f.0 h.3)
    (keeps-with M w c acts h.0 h.2 new f.1 h.4)

-- Acts for a connection leave the others open; so does all until it rests.
pub keeps-for : (M : Terms) (w : When) (c : ℕ) (acts : List Act) (old : Served) (out : List Emission) (new : Served) → AreFor c acts
    → DoesAll M w acts old out new → KeepsOpen c old.core new.core
keeps-for M w c acts old out new f = keeps-with M w c acts old out new (all-as (IsFor c) (IsWith c) acts (for-with c) f)

pub keeps-out : (M : Terms) (w : When) (c : ℕ) (acts : List Act) (old : Served) (out : List Emission) (new : Served)
    → ServesOut c acts → DoesAll M w acts old out new → KeepsOpen c old.core new.core
keeps-out M w c acts old out new s =
    keeps-with M w c acts old out new
    (subst (AllByRecursion (IsWith c)) (sym s.are)
    (all-append (IsWith c) s.first (Rests c ∷ []) (all-as (IsFor c) (IsWith c) s.first (for-with c) s.for) (tt, tt)))
