-- What comes in shows in the entries of an input.
use Rattle.std.proofs.Common.{◌≡◌, ◌⊎◌, inl, inr, ℕ, ◌≤◌, Bool, true, false, cond, List, [], ◌∷◌, ◌++◌, Err, refl, sym, ap, ◌∙◌, subst, arith}
use Rattle.std.specs.Prelude.{⊤, max, flat_map}
use Rattle.std.specs.List.{AllByRecursion, Contains}
use Rattle.std.proofs.lemmas.List.{append-nil}
use Rattle.std.proofs.lemmas.Bool.{both_ways}
use Rattle.uri_map.specs.declared.peer.Peer.{Peer}
use Rattle.ask_model.specs.Views.{Ask}
use Rattle.journal_book.specs.Entries.{Hears as Heard, Passes as Passed, Deed, Written}
use Rattle.http_mapping.specs.Means.{closes}
use Rattle.exchange_model.specs.State.{State}
use Rattle.exchange_model.specs.Steps.{opens, shuts, seals}
use Rattle.exchange_model.specs.Hearing.{Numbers}
use Rattle.exchange_model.specs.Calls.{asked, something_due, ticked}
use Rattle.exchange_model.specs.Growing.{at_moment}
use Rattle.exchange_model.specs.Keeping.{IsDone}
use Rattle.exchange_model.specs.Room.{fits, KeptInRoom}
use Rattle.exchange_model.specs.Sealing.{in_room, if_unsealed, opens_in_room, asks_in_room, hears_in_room, late, ticks_in_room, ArePrompt}
use Rattle.exchange_model.proofs.CallerLemmas.{ticks-promptly}
use Rattle.exchange_core.specs.declared.fault.OpenFault.TheVariants as Open
use Rattle.exchange_core.specs.declared.fault.AskFault.TheVariants as AskFault
use Rattle.exchange_core.specs.Calls.{IsOpened, IsAsked, IsClosed, AsksSo}
use Rattle.exchange_core.specs.Values.{CoreValue, Untaken, stepped}
use Rattle.exchange_core.specs.Drafts.{untaken_of}
use Rattle.gateway_model.specs.declared.input.Happening.{Happening}
use Rattle.gateway_model.specs.declared.input.Happening.TheVariants as H
use Rattle.gateway_model.specs.declared.input.When.{When}
use Rattle.gateway_model.specs.Acts.{Act, Opens, TurnsAway, Takes, Hears, Passes, Asks, Denies, Sends, Tells, GoesOn, GivesUp, Forgoes, Rests, Leaves, Misses, Served, Terms, Ends, Does, DoesAll, at}
use Rattle.gateway_model.specs.Emissions.{Emission}
use Rattle.gateway_model.specs.Hearing.{AreUnheard, BeginsBy, IsDropped, ShowsWhatCame, InputsShow, DoesWhatIsDue, TicksShow}
use Rattle.gateway_model.specs.Orders.{IsSends, AreSends, Turn, telling, acts_of, Delivers, IsInOrder}
use Rattle.gateway_model.specs.Resting.{any_terms}
use Rattle.gateway_model.proofs.Awaiting.{told-of}
use Rattle.gateway_model.proofs.Heard.{IsLost, Unheard, none, both, shuts-unheard, opens-unheard, asks-unheard, ticks-unheard, late-sealed, Firstly, firstly-then, ticks-first, hears-first}
use Rattle.gateway_model.proofs.Lost.{why-dropped}
use Rattle.gateway_model.proofs.Order.{Each, each-out, each-delivers}
use Rattle.gateway_model.proofs.Rested.{split-acts}

-- A state goes on with no datagram that came in, and a sealed one stays sealed.
pub record GoesSo (S S1 : State) : Type 0 where
  pub unheard : Unheard S S1
  pub sealed : S.sealed ≡ true → S1.sealed ≡ true

goes-same : (S S1 : State) → S1 ≡ S → GoesSo S S1
goes-same S S1 e = subst (λ (S1 : State). GoesSo S S1) (sym e) (record { unheard = none S; sealed = λ s. s })

goes-then : (S S1 S2 : State) → GoesSo S S1 → GoesSo S1 S2 → GoesSo S S2
goes-then S S1 S2 a b = record {
  unheard = both S S1 S2 a.unheard b.unheard;
  sealed = λ s. b.sealed (a.sealed s);
}

goes-to : (S S1 S2 : State) → S2 ≡ S1 → GoesSo S S1 → GoesSo S S2
goes-to S S1 S2 e h = subst (λ (X : State). GoesSo S X) (sym e) h

pub stays-sealed : (t : ℕ) (X S : State) → S.sealed ≡ true → (if_unsealed t X S).sealed ≡ true
stays-sealed t X S e = by S.sealed e
  where
    by : (b : Bool) → b ≡ true → (cond b S (in_room t X S)).sealed ≡ true
    by true f = e
    by false f = absurd cc

goes-open : (t : ℕ) (S : State) → GoesSo S (opens_in_room t S)
goes-open t S = record { unheard = opens-unheard t S; sealed = stays-sealed t (opens t S) S }

goes-shut : (t c : ℕ) (S : State) → GoesSo S (shuts t c S)
goes-shut t c S = record { unheard = shuts-unheard t c S; sealed = λ s. s }

asks-go : (t word c : ℕ) (a : Ask) (old new : CoreValue) → AsksSo t word c a old new → GoesSo old.state new.state
asks-go t word c a old new h =
    goes-to old.state (asks_in_room t c a h.numbers old.state) new.state (ap (λ (v : CoreValue). v.state) h.is)
    (record {
      unheard = asks-unheard t c a h.numbers old.state;
      sealed = stays-sealed t (asked t c a h.numbers old.state) old.state;
    })

denied-goes : (t word c : ℕ) (a : Ask) (old new : CoreValue) → IsAsked (Err AskFault.Sealed) t word c a old new
    → GoesSo old.state new.state
denied-goes t word c a old new h = by h.2
  where
    by : ((old.state.sealed ≡ true) × (new ≡ old)) ⊎ AsksSo t word c a old new → GoesSo old.state new.state
    by (inl same) = goes-same old.state new.state (ap (λ (v : CoreValue). v.state) same.1)
    by (inr so) = asks-go t word c a old new so

closed-goes : (t c : ℕ) (old new : CoreValue) → IsClosed t c old new → GoesSo old.state new.state
closed-goes t c old new h =
    goes-to old.state (shuts t c old.state) new.state (ap (λ (v : CoreValue). v.state) h.1) (goes-shut t c old.state)

-- any act but one

abbrev pub IsOther : Act → Type 0
IsOther (Hears p bytes) = ⊥
IsOther _ = ⊤

pub goes : (M : Terms) (w : When) (a : Act) (old : Served) (out : List Emission) (new : Served)
    → IsOther a → Does M w a old out new → GoesSo old.core.state new.core.state
goes M w (Opens c) old out new o h =
    goes-to old.core.state (opens_in_room (at w old) old.core.state) new.core.state
    (ap (λ (v : CoreValue). v.state) h.0.1) (goes-open (at w old) old.core.state)
goes M w TurnsAway old out new o h = by h.0
  where
    by : IsOpened (Err Open.Full) (at w old) old.core new.core ⊎ IsOpened (Err Open.Sealed) (at w old) old.core new.core
        → GoesSo old.core.state new.core.state
    by (inl full) = goes-same old.core.state new.core.state (ap (λ (v : CoreValue). v.state) full.0)
    by (inr sealed) =
        goes-to old.core.state (opens_in_room (at w old) old.core.state) new.core.state
        (ap (λ (v : CoreValue). v.state) sealed.0) (goes-open (at w old) old.core.state)
goes M w (Takes c bytes) old out new o h =
    goes-same old.core.state new.core.state (ap (λ (s : Served). s.core.state) h.0)
goes M w (Hears p bytes) old out new o h = absurd o
goes M w Passes old out new o h =
    goes-to old.core.state (ticks_in_room (at w old) old.core.state) new.core.state
    (ap (λ (s : Served). s.core.state) h.0)
    (record {
      unheard = ticks-unheard (at w old) old.core.state;
      sealed = λ s. ticks-sealed (at w old) old.core.state s;
    })
  where
    ticks-sealed : (t : ℕ) (S : State) → S.sealed ≡ true → (ticks_in_room t S).sealed ≡ true
    ticks-sealed t S e = by S.sealed e
      where
        by : (b : Bool) → b ≡ true → (cond b (late t S) (cond (fits (ticked t S)) (ticked t S) (late t (seals t S)))).sealed ≡ true
        by true f = late-sealed t S e
        by false f = absurd cc
goes M w (Asks c) old out new o h = asks-go (at w old) w.word c h.0.ask old.core new.core h.0.asked.2
goes M w (Denies c) old out new o h =
    goes-then old.core.state h.0.core.state new.core.state
    (denied-goes (at w old) w.word c h.1.ask old.core h.0.core h.1.denied)
    (closed-goes (at w h.0) c h.0.core new.core h.2.0)
goes M w Sends old out new o h =
    goes-same old.core.state new.core.state (ap (λ (v : CoreValue). v.state) h.sent.1)
goes M w (Tells c k) old out new o h =
    goes-then old.core.state h.told.core.state new.core.state
    (goes-same old.core.state h.told.core.state (ap (λ (v : CoreValue). v.state) h.taken.3))
    (ended (closes h.answer.mapping.came) h.ends)
  where
    ended : (b : Bool) → Ends w c b h.told h.after new → GoesSo h.told.core.state new.core.state
    ended true e = closed-goes (at w h.told) c h.told.core new.core e.0.0
    ended false e = goes-same h.told.core.state new.core.state (ap (λ (s : Served). s.core.state) e.0)
goes M w (GoesOn c) old out new o h =
    goes-same old.core.state new.core.state (ap (λ (v : CoreValue). v.state) h.1)
goes M w (GivesUp c) old out new o h = closed-goes (at w old) c old.core new.core h.0.0
goes M w (Forgoes c k) old out new o h =
    goes-then old.core.state h.0.core.state new.core.state
    (goes-same old.core.state h.0.core.state (ap (λ (v : CoreValue). v.state) h.1.taken.3))
    (closed-goes (at w h.0) c h.0.core new.core h.2.0)
goes M w (Rests c) old out new o h = goes-same old.core.state new.core.state (ap (λ (v : CoreValue). v.state) h.0)
goes M w (Leaves c) old out new o h = closed-goes (at w old) c old.core new.core h.0.0
goes M w (Misses c) old out new o h = goes-same old.core.state new.core.state (ap (λ (s : Served). s.core.state) h.0)

goes-all : (M : Terms) (w : When) (acts : List Act) (old : Served) (out : List Emission) (new : Served)
    → AllByRecursion IsOther acts → DoesAll M w acts old out new → GoesSo old.core.state new.core.state
goes-all M w [] old out new o h = goes-same old.core.state new.core.state (ap (λ (s : Served). s.core.state) h.0)
goes-all M w (a ∷ acts) old out new o h =
    goes-then old.core.state h.0.core.state new.core.state (goes M w a old h.1 h.0 o.0 h.3)
    (goes-all M w acts h.0 h.2 new o.1 h.4)

-- what follows the first act of an input is such
each-other : Each IsOther
each-other = record { asks = λ c. tt; denies = λ c. tt; sends = tt; tells = λ c k. tt; goes_on = λ c. tt; gives_up = λ c. tt; forgoes = λ c k. tt; rests = λ c. tt }

abbrev AreOther : List Act → Type 0
AreOther acts = AllByRecursion IsOther acts

-- an input

abbrev Shows : (S S1 : State) → (List Written → Type 0) → Type 0
Shows S S1 P = (more : List Written) × (S1.entries ≡ S.entries ++ more) × P more

shows-none : (S S1 : State) → GoesSo S S1 → Shows S S1 AreUnheard
shows-none S S1 h = (h.unheard.more, h.unheard.entries, h.unheard.unheard)

shows-first : (t : ℕ) (d : Deed) (S S1 : State) → Firstly t d S S1 → Shows S S1 (BeginsBy t d)
shows-first t d S S1 h =
    (at_moment t d ∷ h.rest, h.entries, record { rest = h.rest; are = refl; unheard = h.unheard })

-- a datagram was dropped
still-dropped : (t : ℕ) (p : Peer) (d : List ℕ) (S S1 S2 : State) → KeptInRoom S → S.moment ≤ t
    → (S1.sealed ≡ true → S2.sealed ≡ true) → IsLost t p d S S1 → IsDropped t p d S S2
still-dropped t p d S S1 S2 kept le f (inl e) = inl (f e)
still-dropped t p d S S1 S2 kept le f (inr why) = inr (why-dropped t p d S kept le why)

later : (a b : ℕ) → a ≤ max a b
later a b = omega arith

pub input-shows : (M : Terms) (w : When) (x : Happening) (acts : List Act) (old : Served) (out : List Emission) (new : Served)
    → DoesAll M w acts old out new → IsInOrder x acts → KeptInRoom old.core.state
    → Shows old.core.state new.core.state (λ (more : List Written). ShowsWhatCame x (at w old) old.core.state new.core.state more)
input-shows M w H.Open acts old out new h o kept = by o
  where
    by : ((c : ℕ) × (acts ≡ Opens c ∷ [])) ⊎ (acts ≡ TurnsAway ∷ []) → Shows old.core.state new.core.state AreUnheard
    by (inl one) = shows-none old.core.state new.core.state
        (goes-all M w acts old out new (subst AreOther (sym one.1) (tt, tt)) h)
    by (inr one) = shows-none old.core.state new.core.state
        (goes-all M w acts old out new (subst AreOther (sym one) (tt, tt)) h)
input-shows M w (H.Bytes c bytes) acts old out new h o kept =
    shows-none old.core.state new.core.state
    (goes-all M w acts old out new (subst AreOther (sym o.are) (tt, each-out IsOther each-other c o.rest o.then)) h)
input-shows M w (H.Datagram p bytes) acts old out new h o kept =
    let d = subst (λ (xs : List Act). DoesAll M w xs old out new) o.are h in
    let S : State = old.core.state in
    let n : Numbers = d.3.0.numbers in
    let heard : d.0.core.state ≡ hears_in_room (at w old) p bytes.now n S = ap (λ (v : CoreValue). v.state) d.3.0.is in
    let rest : GoesSo d.0.core.state new.core.state = goes-all M w o.rest d.0 d.2 new (each-delivers IsOther each-other o.rest o.then) d.4 in
    by d.0.core.state rest
    (subst
    (λ (X : State). Firstly (at w old) (Heard p bytes.now) S X ⊎ (Unheard S X × IsLost (at w old) p bytes.now S X))
    (sym heard) (hears-first (at w old) p bytes.now n S))
  where
    by : (S1 : State) → GoesSo S1 new.core.state
        → Firstly (at w old) (Heard p bytes.now) old.core.state S1
        ⊎ (Unheard old.core.state S1 × IsLost (at w old) p bytes.now old.core.state S1)
        → Shows old.core.state new.core.state
        (λ (more : List Written). ShowsWhatCame (H.Datagram p bytes) (at w old) old.core.state new.core.state more)
    by S1 rest (inl f) =
        let s = shows-first (at w old) (Heard p bytes.now) old.core.state new.core.state
        (firstly-then (at w old) (Heard p bytes.now) old.core.state S1 new.core.state f rest.unheard) in
        (s.0, s.1, inl s.2)
    by S1 rest (inr k) =
        let all = both old.core.state S1 new.core.state k.0 rest.unheard in (
          all.more,
          all.entries,
          inr (all.unheard, still-dropped (at w old) p bytes.now old.core.state S1 new.core.state kept (later old.core.state.moment _) rest.sealed k.1),
        )
input-shows M w H.Tick acts old out new h o kept =
    shows-none old.core.state new.core.state
    (goes-all M w acts old out new (subst AreOther (sym o.are) (tt, each-delivers IsOther each-other o.rest o.then)) h)
input-shows M w (H.Close c) acts old out new h o kept = by o
  where
    by : (acts ≡ Leaves c ∷ []) ⊎ (acts ≡ Misses c ∷ []) → Shows old.core.state new.core.state AreUnheard
    by (inl one) = shows-none old.core.state new.core.state
        (goes-all M w acts old out new (subst AreOther (sym one) (tt, tt)) h)
    by (inr one) = shows-none old.core.state new.core.state
        (goes-all M w acts old out new (subst AreOther (sym one) (tt, tt)) h)
input-shows M w H.Rotate acts old out new h o kept = absurd o

-- Where a tick does nothing, nothing else is done.

sends-stay : (M : Terms) (w : When) (a : Act) (old : Served) (out : List Emission) (new : Served) → IsSends a → Does M w a old out new
    → (new.core.state ≡ old.core.state) × (new.core.untaken ≡ old.core.untaken)
sends-stay M w (Opens d) old out new i h = absurd i
sends-stay M w TurnsAway old out new i h = absurd i
sends-stay M w (Takes d bytes) old out new i h = absurd i
sends-stay M w (Hears p bytes) old out new i h = absurd i
sends-stay M w Passes old out new i h = absurd i
sends-stay M w (Asks d) old out new i h = absurd i
sends-stay M w (Denies d) old out new i h = absurd i
sends-stay M w Sends old out new i h = (ap (λ (v : CoreValue). v.state) h.sent.1, ap (λ (v : CoreValue). v.untaken) h.sent.1)
sends-stay M w (Tells d k) old out new i h = absurd i
sends-stay M w (GoesOn d) old out new i h = absurd i
sends-stay M w (GivesUp d) old out new i h = absurd i
sends-stay M w (Forgoes d k) old out new i h = absurd i
sends-stay M w (Rests d) old out new i h = absurd i
sends-stay M w (Leaves d) old out new i h = absurd i
sends-stay M w (Misses d) old out new i h = absurd i

all-stay : (M : Terms) (w : When) (acts : List Act) (old : Served) (out : List Emission) (new : Served) → AreSends acts
    → DoesAll M w acts old out new → (new.core.state ≡ old.core.state) × (new.core.untaken ≡ old.core.untaken)
all-stay M w [] old out new i h =
    (ap (λ (s : Served). s.core.state) h.0, ap (λ (s : Served). s.core.untaken) h.0)
all-stay M w (a ∷ acts) old out new i h =
    let one = sends-stay M w a old h.1 h.0 i.0 h.3 in
    let rest = all-stay M w acts h.0 h.2 new i.1 h.4 in
    (rest.0 ∙ one.0, rest.1 ∙ one.1)

none-there : (u : Untaken) → Contains [] u → ⊥
none-there u (i, lt, e) = omega (arith, lt)

no-turns : (M : Terms) (w : When) (turns : List Turn) (old : Served) (out : List Emission) (new : Served) → old.core.untaken ≡ []
    → DoesAll M w (flat_map acts_of turns) old out new → new.core.state ≡ old.core.state
no-turns M w [] old out new none h = ap (λ (s : Served). s.core.state) h.0
no-turns M w (x ∷ turns) old out new none h = absurd (by x.told h.3)
  where
    by : (told : Bool) → Does M w (telling told x.conn x.ask) old h.1 h.0 → ⊥
    by true d =
        none-there (untaken_of d.answer) (subst (λ (us : List Untaken). Contains us (untaken_of d.answer)) none d.taken.1)
    by false d =
        none-there (untaken_of d.1.answer) (subst (λ (us : List Untaken). Contains us (untaken_of d.1.answer)) none d.1.taken.1)

delivers-none : (M : Terms) (w : When) (acts : List Act) (old : Served) (out : List Emission) (new : Served) → Delivers acts
    → old.core.untaken ≡ [] → DoesAll M w acts old out new → new.core.state ≡ old.core.state
delivers-none M w acts old out new so none h =
    let parts = split-acts M w so.sends so.answers old out new (subst (λ (xs : List Act). DoesAll M w xs old out new) so.are h) in
    let sent = all-stay M w so.sends old parts.given parts.mid so.sent parts.first in
    let turns = so.told.1 in
    no-turns M w turns.turns parts.mid parts.further new (sent.1 ∙ none)
    (subst (λ (xs : List Act). DoesAll M w xs parts.mid parts.further new) turns.are parts.then_so)
    ∙ sent.0

pub tick-shows : (M : Terms) (w : When) (acts : List Act) (old : Served) (out : List Emission) (new : Served)
    → DoesAll M w acts old out new → IsInOrder H.Tick acts → KeptInRoom old.core.state
    → Shows old.core.state new.core.state (DoesWhatIsDue (at w old) old.core.state)
tick-shows M w acts old out new h o kept =
    let d = subst (λ (xs : List Act). DoesAll M w xs old out new) o.are h in
    let le : old.core.state.moment ≤ at w old = later old.core.state.moment _ in
    let ticked : d.0.core.state ≡ ticks_in_room (at w old) old.core.state = ap (λ (s : Served). s.core.state) d.3.0 in
    let rest : GoesSo d.0.core.state new.core.state = goes-all M w o.rest d.0 d.2 new (each-delivers IsOther each-other o.rest o.then) d.4 in
    by (ticks-promptly (at w old) old.core.state kept le)
    (subst (λ (X : State). GoesSo X new.core.state) ticked rest)
    (λ e. delivers-none M w o.rest d.0 d.2 new o.then (nothing d.0.core (ap (λ (s : Served). s.core) d.3.0) d.3.2 e) d.4
    ∙ (ticked ∙ e))
    (ticks-first (at w old) old.core.state kept le)
  where
    nothing : (u : CoreValue) → u ≡ stepped (ticks_in_room (at w old) old.core.state) old.core → old.core.untaken ≡ []
        → ticks_in_room (at w old) old.core.state ≡ old.core.state → u.untaken ≡ []
    nothing u is none e =
        told-of old.core.state old.core u [] (is ∙ ap (λ (S : State). stepped S old.core) e) (sym (append-nil old.core.state.entries))
        ∙ (append-nil old.core.untaken ∙ none)

    due : ArePrompt (at w old) (ticks_in_room (at w old) old.core.state) → GoesSo (ticks_in_room (at w old) old.core.state) new.core.state
        → IsDone (at w old) (ticks_in_room (at w old) old.core.state)
        → (something_due (at w old) old.core.state ≡ true → Firstly (at w old) Passed old.core.state (ticks_in_room (at w old) old.core.state))
        → (something_due (at w old) old.core.state ≡ false → new.core.state ≡ old.core.state)
        → (b : Bool) → something_due (at w old) old.core.state ≡ b
        → Shows old.core.state new.core.state (DoesWhatIsDue (at w old) old.core.state)
    due prompt rest done f g true e =
        let s = shows-first (at w old) Passed old.core.state new.core.state
        (firstly-then (at w old) Passed old.core.state (ticks_in_room (at w old) old.core.state) new.core.state (f e) rest.unheard) in
        (s.0, s.1, (prompt, inr (done, λ t. s.2, λ t. absurd (both_ways (something_due (at w old) old.core.state) t e))))
    due prompt rest done f g false e = (
      [],
      ap (λ (S : State). S.entries) (g e) ∙ sym (append-nil old.core.state.entries),
      (prompt, inr (done, λ t. absurd (both_ways (something_due (at w old) old.core.state) e t), λ t. refl)),
    )

    by : ArePrompt (at w old) (ticks_in_room (at w old) old.core.state) → GoesSo (ticks_in_room (at w old) old.core.state) new.core.state
        → (ticks_in_room (at w old) old.core.state ≡ old.core.state → new.core.state ≡ old.core.state)
        → ((ticks_in_room (at w old) old.core.state).sealed ≡ true)
        ⊎ (IsDone (at w old) (ticks_in_room (at w old) old.core.state)
        × (something_due (at w old) old.core.state ≡ true → Firstly (at w old) Passed old.core.state (ticks_in_room (at w old) old.core.state))
        × (something_due (at w old) old.core.state ≡ false → ticks_in_room (at w old) old.core.state ≡ old.core.state))
        → Shows old.core.state new.core.state (DoesWhatIsDue (at w old) old.core.state)
    by prompt rest still (inl sealed) =
        let all = both old.core.state (ticks_in_room (at w old) old.core.state) new.core.state
        (ticks-unheard (at w old) old.core.state) rest.unheard in
        (all.more, all.entries, (prompt, inl sealed))
    by prompt rest still (inr k) =
        due prompt rest k.0 k.1 (λ e. still (k.2 e)) (something_due (at w old) old.core.state) refl

pub inputs-show : InputsShow
inputs-show w x acts old out new h o kept = input-shows any_terms w x acts old out new h o kept

pub ticks-show : TicksShow
ticks-show w acts old out new h o kept = tick-shows any_terms w acts old out new h o kept
