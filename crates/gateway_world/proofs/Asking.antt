-- An ask, and what it leads to.
use Rattle.std.proofs.Common.{◌≡◌, ℕ, ◌<◌, ◌≤◌, List, [], ◌∷◌, length, map, Ok, Err, Some, None, refl, sym, ap, subst, ◌∙◌, arith}
use Rattle.std.specs.Prelude.{slice_get, All}
use Rattle.std.specs.List.{AllByRecursion, filter}
use Rattle.std.proofs.lemmas.List.{append-nil}
use Rattle.std.proofs.lemmas.List.Elements.{All-from_recursion}
use Rattle.ask_model.specs.Views.{Ask, came_of}
use Rattle.http_edge.specs.Edges.{item}
use Rattle.http_edge.specs.Reading.{Item}
use Rattle.http_edge.specs.declared.request.Incoming.{Incoming}
use Rattle.http_edge.specs.declared.request.Incoming.TheVariants as In
use Rattle.http_mapping.specs.Limits.{limited}
use Rattle.journal_book.specs.Entries.{Asks, Written}
use Rattle.exchange_model.specs.declared.kept.Conn.{Conn}
use Rattle.exchange_model.specs.State.{State}
use Rattle.exchange_model.proofs.CallerLemmas.{all-map, all-mapped}
use Rattle.exchange_core.specs.declared.fault.AskFault.TheVariants as Fault
use Rattle.exchange_core.specs.Answering.{Given}
use Rattle.exchange_core.specs.Calls.{IsAsked, now}
use Rattle.exchange_core.specs.Serving.{AreBelow}
use Rattle.exchange_core.specs.Taking.{IsTaken}
use Rattle.exchange_core.specs.Values.{CoreValue, Untaken, written}
use Rattle.journal_book.specs.Views.{ask_of}
use Rattle.gateway_connections.specs.Inlets.{Inlet, TableValue, inlet_at, without as without_inlet, IsAbove}
use Rattle.gateway_world.specs.declared.engine.Engine.{Engine}
use Rattle.gateway_model.specs.declared.input.When.{When}
use Rattle.gateway_model.specs.declared.input.Output.{Output}
use Rattle.gateway_model.specs.Acts.{Asks as AsksNext, Denies, Served, Terms, IsAllTold, came_at}
use Rattle.gateway_model.specs.Emissions.{Emission, emissions, Closed}
use Rattle.gateway_world.specs.Engines.{IsAskOf, IsShut, KeepsWaiting, LetsGo, IsSentOut, LeadsAfter, inlet_number, work_in}
use Rattle.gateway_model.specs.Waiting.{conn_id, IsOpen}
use Rattle.gateway_model.proofs.CallerLemmas.{asked-open, for-on, sends-for-on, told-for}
use Rattle.gateway_world.specs.Leading.{Leads, LeadsBy, served_of}
use Rattle.gateway_model.specs.Orders.{AreFor, AreSends, IsTelling}
use Rattle.gateway_world.proofs.Acting.{closing-of}
use Rattle.gateway_model.specs.Unasked.{unasked_in, TakesItem}
use Rattle.gateway_world.proofs.Lead.{leads-one, leads-then, leads-as}
use Rattle.gateway_world.proofs.ReadingOn.{gone-without}
use Rattle.gateway_world.proofs.Untaken.{not_to, others-stay, ask-let-go, ask-of}

-- A connection that opens is above all that there are.
below-all : (n : ℕ) (xs : List Inlet) (cs : List Conn) → map inlet_number xs ≡ map conn_id cs → AreBelow n cs
    → All (λ (x : Inlet). x.number < n) xs
below-all n xs cs e h =
    All-from_recursion (λ (x : Inlet). x.number < n) xs
    (all-mapped inlet_number (λ (k : ℕ). k < n) xs
    (subst (λ (ks : List ℕ). AllByRecursion (λ (k : ℕ). k < n) ks) (sym e) (all-map conn_id (λ (k : ℕ). k < n) cs h)))

pub above : (n : ℕ) (t : TableValue) (cs : List Conn) → map inlet_number t.current ≡ map conn_id cs → t.marked ≡ t.current
    → AreBelow n cs → IsAbove n t
above n t cs e m h = record {
  current = below-all n t.current cs e h;
  marked = subst (λ (xs : List Inlet). All (λ (x : Inlet). x.number < n) xs) (sym m) (below-all n t.current cs e h);
}

pub shut-less : (c : ℕ) (xs ys : List Inlet) → ys ≡ without_inlet c xs → work_in (inlet_at c ys) ≤ work_in (inlet_at c xs)
shut-less c xs ys e =
    let none : inlet_at c ys ≡ None = ap (inlet_at c) e ∙ gone-without c xs in
    rw none (zero-le (work_in (inlet_at c xs)))
  where
    zero-le : (n : ℕ) → 0 ≤ n
    zero-le n = omega arith

-- what came in is what the item brings
pub came-item : (i : Incoming) → came_at (item i) ≡ limited (came_of i)
came-item (In.Request r) = refl
came-item (In.Bad kind) = refl

module _ {R : Type 0} (M : Terms) (w : When) where
  pub asks-lead : (c k : ℕ) (ask : Ask) (i : Item) (v : CoreValue) (xs : List Inlet)
      (old mid new : Engine R) (before sent after : List (Output R))
      → IsAllTold c v
      → IsAsked (Ok k) (now v.state.moment w.moment) w.word c ask v old.core
      → TakesItem c i (unasked_in xs) (unasked_in old.table.current)
      → ask.came ≡ came_at i → M.IsMeaning ask
      → LeadsBy M w AreSends old before mid sent
      → LeadsBy M w (AreFor c) mid sent new after
      → LeadsAfter M w (AreFor c) v xs before new after
  asks-lead c k ask i v xs old mid new before sent after told asked takes came meant sends gives =
      leads-then M w (AreFor c) (AreFor c) (AreFor c) (record { core = v; unasked = unasked_in xs }) (served_of old)
      (served_of new) (emissions before) (emissions before) (emissions after) (for-on c)
      (leads-one M w (AreFor c) (AsksNext c) (record { core = v; unasked = unasked_in xs }) (served_of old)
      (emissions before) [] (emissions before) (refl, tt) (
        record {
          told = told;
          ask = ask;
          reads = record { item = i; reads = takes; came = came; meant = meant };
          number = k;
          asked = asked;
        },
        refl,
      ) (sym (append-nil (emissions before))))
      (leads-then M w AreSends (AreFor c) (AreFor c) (served_of old) (served_of mid) (served_of new)
      (emissions before) (emissions sent) (emissions after) (sends-for-on c) sends gives)

  pub denies-lead : (c : ℕ) (ask : Ask) (i : Item) (v : CoreValue) (xs : List Inlet)
      (old new : Engine R) (before after : List (Output R))
      → IsAllTold c v
      → IsAsked (Err Fault.Sealed) (now v.state.moment w.moment) w.word c ask v old.core
      → TakesItem c i (unasked_in xs) (unasked_in old.table.current)
      → ask.came ≡ came_at i → M.IsMeaning ask
      → IsShut w c old before new after
      → LeadsAfter M w (AreFor c) v xs before new after
  denies-lead c ask i v xs old new before after told asked takes came meant shut =
      leads-one M w (AreFor c) (Denies c) (record { core = v; unasked = unasked_in xs }) (served_of new)
      (emissions before) (Closed c ∷ []) (emissions after) (refl, tt) (
        served_of old,
        record {
          answered = told;
          ask = ask;
          reads = record { item = i; reads = takes; came = came; meant = meant };
          denied = asked;
        },
        closing-of w c old new shut.shuts,
        refl,
      ) shut.told

  -- an answer that is told at once is its own ask's
  pub given-lead : (c d k : ℕ) (old : Served) (new : Engine R) (before : List Emission) (after : List (Output R))
      → d ≡ c → Leads M w (IsTelling d k) old before (served_of new) (emissions after)
      → Leads M w (AreFor c) old before (served_of new) (emissions after)
  given-lead c d k old new before after e h =
      leads-as M w (IsTelling d k) (AreFor c) old (served_of new) before (emissions after)
      (λ xs told. subst (λ (n : ℕ). AreFor n xs) e (told-for d k xs told)) h

pub taken-self : (g : Given) (k : ℕ) (old new : CoreValue) → IsTaken (Some g) k old new → IsTaken (Some g) g.ask old new
taken-self g k old new h = subst (λ (n : ℕ). IsTaken (Some g) n old new) (sym h.0) h

pub taken-conn : (g : Given) (c k : ℕ) (old new : CoreValue) → IsTaken (Some g) k old new
    → IsAskOf c k old.state.entries → g.conn ≡ c
taken-conn g c k old new h ask =
    ask.by h.2.asked g.conn (ask_of g.mapping)
    (subst (λ (n : ℕ). slice_get old.state.entries n ≡ Some (written h.2.asked (Asks g.conn (ask_of g.mapping)))) h.0
    h.2.ask_stands)

pub lets-none : (k : ℕ) (old new : CoreValue) → IsTaken None k old new → LetsGo k old new
lets-none k old new h = record {
  untaken = ap (λ (v : CoreValue). v.untaken) h.0 ∙ sym (others-stay k old.untaken h.1);
  unsent = λ e. ap (λ (v : CoreValue). v.unsent) h.0 ∙ e;
}

pub lets-some : (g : Given) (k : ℕ) (old mid new : CoreValue) → IsTaken (Some g) k old mid → KeepsWaiting mid new
    → LetsGo k old new
lets-some g k old mid new h waits = record {
  untaken = waits.untaken ∙ ap (λ (v : CoreValue). v.untaken) h.3;
  unsent = λ e. waits.unsent (ap (λ (v : CoreValue). v.unsent) h.3 ∙ e);
}

pub ask-stands : (t word c d k : ℕ) (a : Ask) (old asked new : CoreValue) → d ≡ c → IsAsked (Ok k) t word c a old asked
    → new.state ≡ asked.state → IsAskOf d k new.state.entries
ask-stands t word c d k a old asked new e is same =
    let at : IsAskOf c (length old.state.entries) asked.state.entries = ask-of t word c a old asked is.2 in
    record {
      by = λ m f b stands. at.by m f b
          (subst (λ (n : ℕ). slice_get asked.state.entries n ≡ Some (record { moment = m; deed = Asks f b })) is.0
          (subst (λ (h : List Written). slice_get h k ≡ Some (record { moment = m; deed = Asks f b }))
          (ap (λ (s : State). s.entries) same) stands)) ∙ sym e;
    }

pub ask-open : (t word c d k : ℕ) (a : Ask) (old asked new : CoreValue) → d ≡ c → IsAsked (Ok k) t word c a old asked
    → new.state ≡ asked.state → IsOpen d new.state.conns
ask-open t word c d k a old asked new e is same =
    subst (λ (n : ℕ). IsOpen n new.state.conns) (sym e)
    (subst (λ (s : State). IsOpen c s.conns) (sym same) (asked-open t word c k a old asked is))

pub ask-waits : (t word c k : ℕ) (a : Ask) (old asked sent new : CoreValue) → IsAsked (Ok k) t word c a old asked
    → AllByRecursion (λ (u : Untaken). u.ask < k) old.untaken → IsSentOut asked sent → LetsGo k sent new
    → KeepsWaiting old new
ask-waits t word c k a old asked sent new is older out go = record {
  untaken = go.untaken
      ∙ (ap (filter (not_to k)) out.untaken
      ∙ (ap (λ (n : ℕ). filter (not_to n) asked.untaken) is.0
      ∙ ask-let-go t word c a old asked is.2 (subst (λ (n : ℕ). AllByRecursion (λ (u : Untaken). u.ask < n) old.untaken) is.0 older)));
  unsent = λ e. go.unsent out.unsent;
}
