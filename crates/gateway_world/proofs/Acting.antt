-- What a function of the engine does is acts.
use Rattle.std.proofs.Common.{◌≡◌, ◌⊎◌, ℕ, suc, ◌<◌, Bool, true, false, length, map, arith, List, [], ◌∷◌, ◌++◌, Result, Ok, Err, Some, None, inl, inr, refl, sym, ap, subst, ◌∙◌}
use Rattle.std.specs.Prelude.{IfOk, OnOk}
use Rattle.std.proofs.lemmas.Grind.{flat_map-append}
use Rattle.std.proofs.lemmas.List.{append-nil, append_assoc, map_push}
use Rattle.gateway_model.specs.Rotating.{Rotates}
use Rattle.http_edge.specs.Answers.{answer_text}
use Rattle.exchange_model.specs.State.{State}
use Rattle.journal_book.specs.Entries.{Written}
use Rattle.exchange_core.specs.declared.fault.OpenFault.TheVariants as Open
use Rattle.exchange_core.specs.declared.fault.RotateFault.{RotateFault as Refusal}
use Rattle.exchange_core.specs.declared.fault.RotateFault.TheVariants as F
use Rattle.exchange_core.specs.Rotating.{IsTurned, IsRefused as IsRefusedTurn}
use Rattle.exchange_core.specs.Answering.{Given}
use Rattle.exchange_core.specs.Calls.{IsOpened, IsClosed, IsUnknown, now}
use Rattle.exchange_core.specs.Taking.{IsTaken, IsSent}
use Rattle.exchange_core.specs.Values.{CoreValue, Outgoing, stepped}
use Rattle.gateway_connections.specs.Inlets.{Inlet, TableValue, fresh, appended}
use Rattle.gateway_connections.specs.Reads.{Continues, ChangesAt}
use Rattle.gateway_world.specs.declared.engine.Engine.{Engine}
use Rattle.gateway_world.specs.declared.engine.Step.{Step}
use Rattle.gateway_world.specs.declared.engine.Step.TheVariants as Went
use Rattle.gateway_world.specs.Refusals.{IfTaken, IsRefused, MayBeRefused}
use Rattle.gateway_model.specs.declared.input.When.{When}
use Rattle.gateway_model.specs.declared.input.Happening.{Happening}
use Rattle.gateway_model.specs.declared.input.Happening.TheVariants as H
use Rattle.gateway_model.specs.declared.input.Output.{Output}
use Rattle.gateway_model.specs.Acts.{IsAllTold, Act, Opens, TurnsAway, Takes, Sends, Tells, GoesOn, GivesUp, Forgoes, Rests, Leaves, Misses, Served, Terms, Does, IsClosing, Ends, RestsAt, IsNext, at, continue_text}
use Rattle.gateway_model.specs.Emissions.{Emission, emissions, emission_of, Says, Goes, Closed, GivenUp, Turned, Rotated, Unrotated, given_up_by, given_up_in}
use Rattle.gateway_world.specs.Engines.{IsGivenUp, IsShutting, IsShut, LeadsAfter, inlet_number}
use Rattle.gateway_world.specs.Leading.{Leads, LeadsBy, RotatesBy, served_of}
use Rattle.gateway_model.specs.Orders.{AreFor, AreSends, IsInOrder, BeginsWith, IsTelling as TellsOnly, ServesOut}
use Rattle.http_mapping.specs.Means.{closes}
use Rattle.gateway_model.specs.Tellings.{TellsBytes}
use Rattle.gateway_model.specs.Unasked.{Unasked, unasked_in, taken, without, Recounts}
use Rattle.gateway_world.proofs.Lead.{leads-one, leads-then}
use Rattle.gateway_model.specs.Waiting.{IsOpen, conn_id}
use Rattle.gateway_model.proofs.CallerLemmas.{closed-gone, conn-open, out-on, refused-so, rotation-is}
use Rattle.gateway_world.proofs.ReadingOn.{IsAmong, among-open, taken-none, unasked-without, unasked-taken, unasked-opened, tells-on, without-taken}

-- what follows where a call went well
pub then-ok : {A E : Type 0} (r : Result A E) (P Q : Type 0) → OnOk r P → (P → Q) → OnOk r Q
then-ok (Ok x) P Q h f = f h
then-ok (Err e) P Q h f = tt

-- what follows where it was done
pub then-taken : {E : Type 0} (r : Result Step E) (P Q : Type 0) → IfOk r (λ (s : Step). IfTaken s P) → (P → Q)
    → IfOk r (λ (s : Step). IfTaken s Q)
then-taken (Ok (Went.Taken n)) P Q h f = f h
then-taken (Ok Went.Refused) P Q h f = tt
then-taken (Err e) P Q h f = tt

-- what may be refused, whatever comes of it
pub may-so : {E : Type 0} (r : Result Step E) (x : Happening) → MayBeRefused x → IfOk r (λ (s : Step). IsRefused s → MayBeRefused x)
may-so (Ok s) x h = λ refused. h
may-so (Err e) x h = tt

-- An act that begins what an input leads to, and gives nothing out.
pub begins-lead : (M : Terms) (w : When) (a : Act) (P : List Act → Type 0) (old mid new : Served) (before after : List Emission)
    → Does M w a old [] mid → Leads M w P mid before new after
    → Leads M w (BeginsWith a P) old before new after
begins-lead M w a P old mid new before after h k =
    leads-then M w (λ (xs : List Act). xs ≡ a ∷ []) P (BeginsWith a P) old mid new before before after
    (λ xs ys e p. record { rest = ys; are = ap (λ (zs : List Act). zs ++ ys) e; then = p })
    (leads-one M w (λ (xs : List Act). xs ≡ a ∷ []) a old mid before [] before refl h (sym (append-nil before))) k

module _ {R : Type 0} (w : When) where
  pub closing-of : (c : ℕ) (old new : Engine R) → IsShutting w c old new → IsClosing w c (served_of old) (served_of new)
  closing-of c old new shut = (shut.closed, ap unasked_in shut.inlets ∙ unasked-without c old.table.current)

  -- after the answer that isn't the last the connection stays, and after the last it is closed
  pub stays-after : (c : ℕ) (b : Bool) (old : Engine R) → b ≡ false → Ends w c b (served_of old) [] (served_of old)
  stays-after c b old e = subst (λ (x : Bool). Ends w c x (served_of old) [] (served_of old)) (sym e) (refl, refl)

  pub ends-after : (c : ℕ) (b : Bool) (old new : Engine R) (before after : List (Output R)) → b ≡ true
      → IsShut w c old before new after → Ends w c b (served_of old) (Closed c ∷ []) (served_of new)
  ends-after c b old new before after e s =
      subst (λ (x : Bool). Ends w c x (served_of old) (Closed c ∷ []) (served_of new)) (sym e) (closing-of c old new s.shuts, refl)

module _ {R : Type 0} (M : Terms) (w : When) where
  pub opens-lead : (c : ℕ) (old new : Engine R) (before : List (Output R))
      → IsOpened (Ok c) (at w (served_of old)) old.core new.core
      → new.table.current ≡ old.table.current ++ fresh c ∷ []
      → LeadsBy M w (IsInOrder H.Open) old before new before
  opens-lead c old new before opened e =
      leads-one M w (IsInOrder H.Open) (Opens c) (served_of old) (served_of new) (emissions before) [] (emissions before)
      (inl (c, refl)) (opened, ap unasked_in e ∙ unasked-opened c old.table.current, refl) (sym (append-nil (emissions before)))

  pub turns-lead : (old new : Engine R) (before after : List (Output R))
      → IsOpened (Err Open.Full) (at w (served_of old)) old.core new.core
      ⊎ IsOpened (Err Open.Sealed) (at w (served_of old)) old.core new.core
      → new.table.current ≡ old.table.current → emissions after ≡ emissions before ++ Turned ∷ []
      → LeadsBy M w (IsInOrder H.Open) old before new after
  turns-lead old new before after opened e added =
      leads-one M w (IsInOrder H.Open) TurnsAway (served_of old) (served_of new) (emissions before) (Turned ∷ []) (emissions after)
      (inr refl) (opened, ap unasked_in e, refl) added

  pub sends-lead : (old new : Engine R) (before after : List (Output R)) (d : Outgoing) (o : Output R)
      → emission_of o ≡ Goes d → IsSent (Some d) old.core new.core
      → new.table.current ≡ old.table.current → after ≡ before ++ o ∷ []
      → LeadsBy M w AreSends old before new after
  sends-lead old new before after d o same sent e added =
      leads-one M w AreSends Sends (served_of old) (served_of new) (emissions before) (Goes d ∷ []) (emissions after)
      (tt, tt) (record { datagram = d; sent = sent; unasked = ap unasked_in e; given = refl })
      (ap emissions added ∙ (map_push emission_of before o ∙ ap (λ (x : Emission). emissions before ++ x ∷ []) same))

  pub leaves-lead : (c : ℕ) (old new : Engine R) (before : List (Output R)) → IsShutting w c old new
      → LeadsBy M w (IsInOrder (H.Close c)) old before new before
  leaves-lead c old new before shut =
      leads-one M w (IsInOrder (H.Close c)) (Leaves c) (served_of old) (served_of new) (emissions before) [] (emissions before)
      (inl refl) (closing-of w c old new shut, refl) (sym (append-nil (emissions before)))

  pub misses-lead : (c : ℕ) (old : Engine R) (before : List (Output R)) → IsUnknown c old.core
      → LeadsBy M w (IsInOrder (H.Close c)) old before old before
  misses-lead c old before unknown =
      leads-one M w (IsInOrder (H.Close c)) (Misses c) (served_of old) (served_of old) (emissions before) [] (emissions before)
      (inr refl) (refl, refl, unknown) (sym (append-nil (emissions before)))

  -- nothing more can be asked, and only how many bytes count as unread changes
  pub rests-lead : (c : ℕ) (old new : Engine R) (before : List (Output R)) → new.core ≡ old.core
      → Recounts c (unasked_in old.table.current) (unasked_in new.table.current) → RestsAt c (served_of new)
      → LeadsBy M w (ServesOut c) old before new before
  rests-lead c old new before core counts rests =
      leads-one M w (ServesOut c) (Rests c) (served_of old) (served_of new) (emissions before) [] (emissions before)
      (record { first = []; are = refl; for = tt }) (core, refl, counts, rests) (sym (append-nil (emissions before)))

  -- it was served until nothing more can be asked
  pub serves-lead : (c : ℕ) (old mid new : Engine R) (before during after : List (Output R)) → LeadsBy M w (AreFor c) old before mid during
      → LeadsBy M w (ServesOut c) mid during new after
      → LeadsBy M w (ServesOut c) old before new after
  serves-lead c old mid new before during after h k =
      leads-then M w (AreFor c) (ServesOut c) (ServesOut c) (served_of old) (served_of mid) (served_of new)
      (emissions before) (emissions during) (emissions after) (out-on c) h k

  pub stays-lead : (P : List Act → Type 0) (old new : Engine R) (before after : List (Output R)) → P []
      → new.core ≡ old.core → unasked_in new.table.current ≡ unasked_in old.table.current
      → emissions after ≡ emissions before
      → LeadsBy M w P old before new after
  stays-lead P old new before after h core same added = record {
    acts = [];
    order = h;
    given = [];
    done = ((λ i. record { core = core i; unasked = same i }), refl);
    added = added ∙ sym (append-nil (emissions before));
  }

  pub goes-on-lead : (c : ℕ) (old new : Engine R) (before after : List (Output R))
      → ChangesAt Continues c old.table.current new.table.current → new.core ≡ old.core
      → IsNext c old.core → emissions after ≡ emissions before ++ Says c continue_text ∷ []
      → LeadsBy M w (AreFor c) old before new after
  goes-on-lead c old new before after h core next added =
      leads-one M w (AreFor c) (GoesOn c) (served_of old) (served_of new) (emissions before) (Says c continue_text ∷ []) (emissions after)
      (refl, tt) (tells-on c old.table.current new.table.current h, core, refl, next) added

  -- the answer is told
  pub tells-lead : (g : Given) (bytes : List ℕ) (v : CoreValue) (old new : Engine R) (before mid after : List (Output R)) (rest : List Emission)
      → IsTaken (Some g) g.ask v old.core → old.core.unsent ≡ []
      → TellsBytes M g bytes → emissions mid ≡ emissions before ++ Says g.conn bytes ∷ []
      → Ends w g.conn (closes g.mapping.came) (served_of old) rest (served_of new)
      → emissions after ≡ emissions mid ++ rest
      → LeadsAfter M w (TellsOnly g.conn g.ask) v old.table.current before new after
  tells-lead g bytes v old new before mid after rest taken sent t told ends added =
      leads-one M w (TellsOnly g.conn g.ask) (Tells g.conn g.ask)
      (record { core = v; unasked = unasked_in old.table.current }) (served_of new)
      (emissions before) (Says g.conn (answer_text t.response) ∷ rest) (emissions after) (true, refl) (
      record {
        sent = sym (ap (λ (u : CoreValue). u.unsent) taken.3) ∙ sent;
        answer = g;
        conn = refl;
        told = served_of old;
        taken = taken;
        unasked = refl;
        response = t.response;
        tells = t.tells;
        after = rest;
        ends = ends;
        given = refl;
      }
      )
      (added
      ∙ (ap (λ (es : List Emission). es ++ rest) (told ∙ ap (λ (bs : List ℕ). emissions before ++ Says g.conn bs ∷ []) t.text)
      ∙ append_assoc (emissions before) (Says g.conn (answer_text t.response) ∷ []) rest))

  -- or nobody is told it, and its connection is given up
  pub forgoes-lead : (g : Given) (v : CoreValue) (old new : Engine R) (before after : List (Output R))
      → IsTaken (Some g) g.ask v old.core → IsGivenUp w g.conn old before new after
      → LeadsAfter M w (TellsOnly g.conn g.ask) v old.table.current before new after
  forgoes-lead g v old new before after taken up =
      leads-one M w (TellsOnly g.conn g.ask) (Forgoes g.conn g.ask)
      (record { core = v; unasked = unasked_in old.table.current }) (served_of new)
      (emissions before) (GivenUp g.conn ∷ []) (emissions after) (false, refl) (
        served_of old,
        record { answer = g; own = refl; taken = taken; unasked = refl },
        closing-of w g.conn old new up.shuts,
        refl,
      ) up.told

  -- It is given up for what it asks; its bytes may have been read since.
  pub gives-up-lead : (c : ℕ) (v : CoreValue) (xs : List Inlet) (old new : Engine R) (before after : List (Output R))
      → old.core ≡ v → without c (unasked_in xs) ≡ without c (unasked_in old.table.current) → IsAllTold c v
      → IsGivenUp w c old before new after → LeadsAfter M w (AreFor c) v xs before new after
  gives-up-lead c v xs old new before after core left told up =
      let closing : IsClosing w c (served_of old) (served_of new) = closing-of w c old new up.shuts in
      leads-one M w (AreFor c) (GivesUp c) (record { core = v; unasked = unasked_in xs }) (served_of new)
      (emissions before) (GivenUp c ∷ []) (emissions after) (refl, tt) (
        (
          subst (λ (u : CoreValue). IsClosed (now u.state.moment w.moment) c u new.core) core closing.0,
          closing.1 ∙ sym left,
        ),
        refl,
        told,
      ) up.told

  -- and then nothing more can be asked
  pub gives-up-out : (c : ℕ) (v : CoreValue) (xs : List Inlet) (old new : Engine R) (before after : List (Output R))
      → old.core ≡ v → without c (unasked_in xs) ≡ without c (unasked_in old.table.current) → IsAllTold c v
      → IsGivenUp w c old before new after → LeadsAfter M w (ServesOut c) v xs before new after
  gives-up-out c v xs old new before after core left told up =
      leads-then M w (AreFor c) (ServesOut c) (ServesOut c) (record { core = v; unasked = unasked_in xs }) (served_of new) (served_of new)
      (emissions before) (emissions after) (emissions after) (out-on c)
      (gives-up-lead c v xs old new before after core left told up)
      (rests-lead c new new after refl (inl refl) (inl (λ has. closed-gone (at w (served_of old)) c None old.core new.core up.shuts.closed has)))

  pub takes-lead : (c : ℕ) (bytes : List ℕ) (old mid new : Engine R) (before after : List (Output R))
      → mid.core ≡ old.core → mid.table.current ≡ appended c bytes old.table.current
      → LeadsBy M w (ServesOut c) mid before new after
      → LeadsBy M w (BeginsWith (Takes c bytes) (ServesOut c)) old before new after
  takes-lead c bytes old mid new before after core e k =
      begins-lead M w (Takes c bytes) (ServesOut c) (served_of old) (served_of mid) (served_of new) (emissions before) (emissions after)
      (takes-so (ap unasked_in e ∙ unasked-taken c bytes old.table.current), refl) k
    where
      takes-so : unasked_in mid.table.current ≡ taken c bytes (unasked_in old.table.current)
          → served_of mid ≡ record (served_of old) { unasked = taken c bytes (unasked_in old.table.current) }
      takes-so same = λ i. record { core = core i; unasked = same i }

  -- memory is refused for them, and it is given up
  pub refused-lead : (c : ℕ) (bytes : List ℕ) (old : Engine R) (t : TableValue) (new : Engine R) (before after : List (Output R))
      → t.current ≡ old.table.current → IsAllTold c old.core → IsGivenUp w c (record old { table = t }) before new after
      → LeadsBy M w (BeginsWith (Takes c bytes) (ServesOut c)) old before new after
  refused-lead c bytes old t new before after same told up =
      begins-lead M w (Takes c bytes) (ServesOut c) (served_of old) taken_so (served_of new) (emissions before) (emissions after)
      (refl, refl) (
      leads-then M w (AreFor c) (ServesOut c) (ServesOut c) taken_so (served_of new) (served_of new)
      (emissions before) (emissions after) (emissions after) (out-on c)
      (leads-one M w (AreFor c) (GivesUp c) taken_so (served_of new) (emissions before) (GivenUp c ∷ []) (emissions after) (refl, tt)
      ((closing.0, closing.1 ∙ left), refl, told) up.told)
      (rests-lead c new new after refl (inl refl)
      (inl (λ has. closed-gone (at w (served_of old)) c None old.core new.core up.shuts.closed has))))
    where
      taken_so : Served
      taken_so = record (served_of old) { unasked = taken c bytes (unasked_in old.table.current) }

      closing : IsClosing w c (served_of (record old { table = t })) (served_of new)
      closing = closing-of w c (record old { table = t }) new up.shuts

      left : without c (unasked_in t.current) ≡ without c (taken c bytes (unasked_in old.table.current))
      left = ap (λ (xs : List Inlet). without c (unasked_in xs)) same ∙ sym (without-taken c bytes (unasked_in old.table.current))

  -- or there is no such connection
  pub missed-lead : (c : ℕ) (bytes : List ℕ) (old : Engine R) (t : TableValue) (new : Engine R) (before : List (Output R))
      → t.current ≡ old.table.current → map inlet_number old.table.current ≡ map conn_id old.core.state.conns
      → (new ≡ record old { table = t }) × IsUnknown c old.core
      → LeadsBy M w (BeginsWith (Takes c bytes) (ServesOut c)) old before new before
  missed-lead c bytes old t new before same numbers u =
      subst (λ (e : Engine R). LeadsBy M w (BeginsWith (Takes c bytes) (ServesOut c)) old before e before) (sym u.0)
      (begins-lead M w (Takes c bytes) (ServesOut c) (served_of old) (served_of mid) (served_of mid) (emissions before) (emissions before)
      (ap (λ (xs : List Unasked). record { core = old.core; unasked = xs }) (ap unasked_in same ∙ sym none), refl)
      (rests-lead c mid mid before refl (inl refl) (inl (λ has. u.1 None has))))
    where
      mid : Engine R
      mid = record old { table = t }

      none : taken c bytes (unasked_in old.table.current) ≡ unasked_in old.table.current
      none = taken-none c bytes old.table.current
          (λ among. let has = among-open c old.core.state.conns (subst (λ (ks : List ℕ). IsAmong ks c) numbers among) in u.1 has.0 has.1)

  pub steps-lead : (a : Act) (S : State) (P : List Act → Type 0) (old mid new : Engine R) (before after : List (Output R))
      → (served_of mid ≡ record (served_of old) { core = stepped S old.core } → Does M w a (served_of old) [] (served_of mid))
      → mid.core ≡ stepped S old.core → mid.table ≡ old.table
      → LeadsBy M w P mid before new after
      → LeadsBy M w (BeginsWith a P) old before new after
  steps-lead a S P old mid new before after does core table k =
      begins-lead M w a P (served_of old) (served_of mid) (served_of new) (emissions before) (emissions after)
      (does (λ i. record { core = core i; unasked = unasked_in (table i).current })) k

  -- a client closes its connection, or one that isn't open
  pub close-lead : (b : Bool) (c : ℕ) (old new : Engine R) (before : List (Output R))
      → (b ≡ true → IsShutting w c old new) → (b ≡ false → (new ≡ old) × IsUnknown c old.core)
      → LeadsBy M w (IsInOrder (H.Close c)) old before new before
  close-lead true c old new before f h = leaves-lead c old new before (f refl)
  close-lead false c old new before f h =
      subst (λ (e : Engine R). LeadsBy M w (IsInOrder (H.Close c)) old before e before) (sym (h refl).0)
      (misses-lead c old before (h refl).1)

-- a connection that is open is none that there isn't
pub open-known : (c : ℕ) (v : CoreValue) → IsOpen c v.state.conns → IsUnknown c v → ⊥
open-known c v o unknown = let h = conn-open c v.state.conns o in unknown h.0 h.1

-- the core is as it was
pub leads-core : (M : Terms) (w : When) (P : List Act → Type 0) (a : Served) (x y : List Emission)
    (v u : CoreValue) (us : List Unasked) → u ≡ v
    → Leads M w P a x (record { core = v; unasked = us }) y → Leads M w P a x (record { core = u; unasked = us }) y
leads-core M w P a x y v u us e h =
    subst (λ (z : CoreValue). Leads M w P a x (record { core = z; unasked = us }) y) (sym e) h

pub shorter : (d : Outgoing) (xs ys : List Outgoing) → xs ≡ d ∷ ys → length ys < length xs
shorter d xs ys e = rw e (more (length ys))
  where
    more : (n : ℕ) → n < suc n
    more n = omega arith

-- What is done where the journal is to be given out.
module _ {R : Type 0} (w : When) where
  pub rotates-so : (h : List Written) (old new : Engine R) (before after : List (Output R))
      → IsTurned (at w (served_of old)) h old.core new.core → new.table ≡ old.table
      → emissions after ≡ emissions before ++ Rotated h ∷ [] → RotatesBy w old before new after
  rotates-so h old new before after turned table added =
      let same : h ≡ old.core.state.entries = (rotation-is (at w (served_of old)) old.core.state h new.core.state turned.is).out in
      record {
        given = Rotated h ∷ [];
        rotates = inl (record {
          turned = subst (λ (k : List Written). IsTurned (at w (served_of old)) k old.core new.core) same turned;
          given = ap (λ (k : List Written). Rotated k ∷ []) same;
        });
        table = table;
        added = added;
      }

  pub refuses-so : (fault : Refusal) (old new : Engine R) (before after : List (Output R)) → new.core ≡ old.core
      → IsRefusedTurn (at w (served_of old)) old.core.state fault → (fault ≡ F.Memory → ⊥) → new.table ≡ old.table
      → emissions after ≡ emissions before ++ Unrotated fault ∷ [] → RotatesBy w old before new after
  refuses-so fault old new before after core refused other table added =
      let r = refused-so (at w (served_of old)) old.core.state fault refused other in
      record {
        given = Unrotated fault ∷ [];
        rotates = inr (record { why = r.0; is = r.2; same = core; fault = fault; named = r.1; given = refl });
        table = table;
        added = added;
      }

  -- It gives nobody up.
  pub rotates-whole : (old new : Engine R) (before after : List (Output R)) → RotatesBy w old before new after
      → given_up_in (emissions after) ≡ given_up_in (emissions before)
  rotates-whole old new before after r =
      ap given_up_in r.added
      ∙ (flat_map-append given_up_by (emissions before) r.given
      ∙ (ap (λ (ks : List ℕ). given_up_in (emissions before) ++ ks) (none r.rotates) ∙ append-nil (given_up_in (emissions before))))
    where
      none : Rotates (at w (served_of old)) old.core r.given new.core → given_up_in r.given ≡ []
      none (inl x) = ap given_up_in x.given
      none (inr x) = ap given_up_in x.given
