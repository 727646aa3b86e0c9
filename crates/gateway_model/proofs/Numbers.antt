-- Acts keep that the connections are those of the core.
use Rattle.std.proofs.Common.{◌≡◌, ◌⊎◌, ℕ, ◌+◌, Bool, true, false, cond, not, List, [], ◌∷◌, ◌++◌, length, map, Option, Some, None, Err, inl, inr, refl, sym, ap, subst, ◌∙◌, eqb-true}
use Rattle.std.specs.Prelude.{◌==◌, if◌then◌else◌, ⊤}
use Rattle.std.specs.List.{AllByRecursion, filter}
use Rattle.std.proofs.lemmas.List.{map_push}
use Rattle.history_laws.proofs.CallerLemmas.{none-some, some-is}
use Rattle.ask_model.specs.Views.{Ask}
use Rattle.http_mapping.specs.Means.{closes}
use Rattle.journal_book.specs.Entries.{Deed, Opens as Opened, Asks as Asked, Sends as Sent, Hears as Heard, Passes as Passed, Answers, Shuts, Seals, Carries, Written}
use Rattle.exchange_model.specs.declared.kept.Conn.{Conn}
use Rattle.exchange_model.specs.State.{State, pend, conns_after}
use Rattle.exchange_model.specs.Steps.{opens, seals}
use Rattle.exchange_model.specs.Growing.{Adds, conns_with, IsOfAsk, by_client, HasNoClient}
use Rattle.exchange_model.specs.Room.{fits}
use Rattle.exchange_model.specs.Sealing.{in_room, opens_in_room, asks_in_room, hears_in_room, ticks_in_room}
use Rattle.exchange_model.proofs.CallerLemmas.{asks-add, asks-answer, hears-add, hears-answer, ticks-add, ticks-answer}
use Rattle.exchange_core.specs.declared.fault.OpenFault.TheVariants as Open
use Rattle.exchange_core.specs.declared.fault.AskFault.TheVariants as Fault
use Rattle.exchange_core.specs.Calls.{IsOpened, IsAsked, IsClosed, AsksSo}
use Rattle.exchange_core.specs.Values.{CoreValue, stepped}
use Rattle.gateway_model.specs.declared.input.When.{When}
use Rattle.gateway_model.specs.Acts.{Act, Opens, TurnsAway, Takes, Hears, Passes, Asks, Denies, Sends, Tells, GoesOn, GivesUp, Forgoes, Rests, Leaves, Misses, Served, Terms, AsksItem, Ends, Does, DoesAll, at}
use Rattle.gateway_model.specs.Emissions.{Emission}
use Rattle.gateway_model.specs.Resting.{number_of, IsNumbered}
use Rattle.gateway_model.specs.Waiting.{conn_id}
use Rattle.gateway_model.specs.Unasked.{Unasked, unasked_at, no_bytes, changed_at, extended, without, left_after, Recounts}

-- entries by which no connection comes or goes

pub pend-one : (b : Bool) (x : Conn) (p : Option ℕ) → conn_id (if b then record x { pending = p } else x) ≡ conn_id x
pend-one true x p = refl
pend-one false x p = refl

pub pend-ids : (c : ℕ) (p : Option ℕ) (cs : List Conn) → map conn_id (map (pend c p) cs) ≡ map conn_id cs
pend-ids c p [] = refl
pend-ids c p (x ∷ cs) =
    let head : conn_id (pend c p x) ≡ conn_id x = pend-one (x.id == c) x p in
    let rest : map conn_id (map (pend c p) cs) ≡ map conn_id cs = pend-ids c p cs in
    rw (head, rest) refl

abbrev StaysOpen : Deed → Type 0
StaysOpen (Opened c) = ⊥
StaysOpen (Shuts c) = ⊥
StaysOpen _ = ⊤

after-ids : (cs : List Conn) (n : ℕ) (d : Deed) → StaysOpen d → map conn_id (conns_after cs n d) ≡ map conn_id cs
after-ids cs n (Opened c) h = absurd h
after-ids cs n (Asked c a) h = pend-ids c (Some n) cs
after-ids cs n (Sent p b t) h = refl
after-ids cs n (Heard p b) h = refl
after-ids cs n Passed h = refl
after-ids cs n (Answers c k g) h = pend-ids c None cs
after-ids cs n (Shuts c) h = absurd h
after-ids cs n Seals h = refl
after-ids cs n (Carries number mark done) h = refl

pub with-ids : (cs : List Conn) (n : ℕ) (ws : List Written) → AllByRecursion (λ (w : Written). StaysOpen w.deed) ws
    → map conn_id (conns_with cs n ws) ≡ map conn_id cs
with-ids cs n [] h = refl
with-ids cs n (w ∷ ws) h = with-ids (conns_after cs n w.deed) (n + 1) ws h.1 ∙ after-ids cs n w.deed h.0

of-ask : (k c : ℕ) (a : Ask) (d : Deed) → IsOfAsk k c a d → StaysOpen d
of-ask k c a (Opened x) h = absurd h
of-ask k c a (Asked x b) h = tt
of-ask k c a (Sent p b t) h = tt
of-ask k c a (Heard p b) h = absurd h
of-ask k c a Passed h = absurd h
of-ask k c a (Answers x j g) h = tt
of-ask k c a (Shuts x) h = absurd h
of-ask k c a Seals h = tt
of-ask k c a (Carries number mark done) h = absurd h

no-client : (d : Deed) → by_client d ≡ false → StaysOpen d
no-client (Opened x) h = absurd cc
no-client (Asked x b) h = tt
no-client (Sent p b t) h = tt
no-client (Heard p b) h = tt
no-client Passed h = tt
no-client (Answers x j g) h = tt
no-client (Shuts x) h = absurd cc
no-client Seals h = tt
no-client (Carries number mark done) h = tt

pub all-asks : (k c : ℕ) (a : Ask) (ws : List Written) → AllByRecursion (λ (w : Written). IsOfAsk k c a w.deed) ws
    → AllByRecursion (λ (w : Written). StaysOpen w.deed) ws
all-asks k c a [] h = tt
all-asks k c a (w ∷ ws) h = (of-ask k c a w.deed h.0, all-asks k c a ws h.1)

pub all-clients : (ws : List Written) → HasNoClient ws → AllByRecursion (λ (w : Written). StaysOpen w.deed) ws
all-clients [] h = tt
all-clients (w ∷ ws) h = (no-client w.deed h.0, all-clients ws h.1)

pub ids-step : (t : ℕ) (S : State) (old new : CoreValue) (x : Adds t old.state S) → new ≡ stepped S old
    → AllByRecursion (λ (w : Written). StaysOpen w.deed) x.more
    → map conn_id new.state.conns ≡ map conn_id old.state.conns
ids-step t S old new x e h =
    ap (λ (v : CoreValue). map conn_id v.state.conns) e
    ∙ (ap (map conn_id) x.conns ∙ with-ids old.state.conns (length old.state.entries) x.more h)

pub asks-ids : (t word c : ℕ) (a : Ask) (old new : CoreValue) → AsksSo t word c a old new
    → map conn_id new.state.conns ≡ map conn_id old.state.conns
asks-ids t word c a old new h =
    let x : Adds t old.state (asks_in_room t c a h.numbers old.state) = asks-add t c a h.numbers old.state in
    ids-step t (asks_in_room t c a h.numbers old.state) old new x h.is
    (all-asks (length old.state.entries) c a x.more (asks-answer t c a h.numbers old.state x))

pub denied-ids : (t word c : ℕ) (a : Ask) (old new : CoreValue) → IsAsked (Err Fault.Sealed) t word c a old new
    → map conn_id new.state.conns ≡ map conn_id old.state.conns
denied-ids t word c a old new h = by h.2
  where
    by : ((old.state.sealed ≡ true) × (new ≡ old)) ⊎ AsksSo t word c a old new
        → map conn_id new.state.conns ≡ map conn_id old.state.conns
    by (inl same) = ap (λ (v : CoreValue). map conn_id v.state.conns) same.1
    by (inr so) = asks-ids t word c a old new so

-- a connection opens, or none does

differ : true ≡ false → ⊥
differ e = cc

pub opened-conns : (t : ℕ) (S : State) → (opens_in_room t S).sealed ≡ false
    → map conn_id (opens_in_room t S).conns ≡ map conn_id S.conns ++ S.opened ∷ []
opened-conns t S e = by-seal S.sealed refl e
  where
    fit : (b : Bool) → (cond b (opens t S) (seals t S)).sealed ≡ false
        → map conn_id (cond b (opens t S) (seals t S)).conns ≡ map conn_id S.conns ++ S.opened ∷ []
    fit true e = map_push conn_id S.conns (record { id = S.opened; pending = None })
    fit false e = absurd (differ e)

    by-seal : (b : Bool) → S.sealed ≡ b → (cond b S (in_room t (opens t S) S)).sealed ≡ false
        → map conn_id (cond b S (in_room t (opens t S) S)).conns ≡ map conn_id S.conns ++ S.opened ∷ []
    by-seal true s e = absurd (differ (sym s ∙ e))
    by-seal false s e = fit (fits (opens t S)) e

pub turned-conns : (t : ℕ) (S : State) → (opens_in_room t S).sealed ≡ true → map conn_id (opens_in_room t S).conns ≡ map conn_id S.conns
turned-conns t S e = by-seal S.sealed refl e
  where
    fit : S.sealed ≡ false → (b : Bool) → (cond b (opens t S) (seals t S)).sealed ≡ true
        → map conn_id (cond b (opens t S) (seals t S)).conns ≡ map conn_id S.conns
    fit s true e = absurd (differ (sym e ∙ s))
    fit s false e = refl

    by-seal : (b : Bool) → S.sealed ≡ b → (cond b S (in_room t (opens t S) S)).sealed ≡ true
        → map conn_id (cond b S (in_room t (opens t S) S)).conns ≡ map conn_id S.conns
    by-seal true s e = refl
    by-seal false s e = fit s (fits (opens t S)) e

-- the served

change-one : (b : Bool) (x y : Unasked) → (b ≡ true → y.number ≡ x.number) → number_of (if b then y else x) ≡ x.number
change-one true x y h = h refl
change-one false x y h = refl

pub changed-numbers : (c : ℕ) (f : Unasked → Unasked) (xs : List Unasked) → ((x : Unasked) → x.number ≡ c → (f x).number ≡ x.number)
    → map number_of (changed_at c f xs) ≡ map number_of xs
changed-numbers c f [] h = refl
changed-numbers c f (x ∷ xs) h =
    let head : number_of (if x.number == c then f x else x) ≡ x.number =
    change-one (x.number == c) x (f x) (λ t. h x (eqb-true x.number c t)) in
    let rest : map number_of (changed_at c f xs) ≡ map number_of xs = changed-numbers c f xs h in
    rw (head, rest) refl

pub extended-number : (bytes : List ℕ) (x : Unasked) → (extended bytes x).number ≡ x.number
extended-number bytes x = one x.closing
  where
    one : (b : Bool) → number_of (if b then x else record x { text = x.text ++ bytes; unread = x.unread + length bytes }) ≡ x.number
    one true = refl
    one false = refl

at-one : (b : Bool) (c : ℕ) (x y : Unasked) (o : Option Unasked) → (x.number == c) ≡ b
    → (o ≡ Some y → y.number ≡ c) → (if b then Some x else o) ≡ Some y → y.number ≡ c
at-one true c x y o t f e = subst (λ (z : Unasked). z.number ≡ c) (some-is x y e) (eqb-true x.number c t)
at-one false c x y o t f e = f e

pub at-number : (c : ℕ) (xs : List Unasked) (y : Unasked) → unasked_at c xs ≡ Some y → y.number ≡ c
at-number c [] y e = absurd (none-some y e)
at-number c (x ∷ xs) y e = at-one (x.number == c) c x y (unasked_at c xs) refl (at-number c xs y) e

-- both lose the connection
abbrev drop_ids : (c : ℕ) (ks : List ℕ) → List ℕ
drop_ids c ks = filter (λ (k : ℕ). not (k == c)) ks

drop-one : {X : Type 0} (b : Bool) (f : X → ℕ) (x : X) (ys : List X) (ks : List ℕ) → map f ys ≡ ks
    → map f (cond b (x ∷ ys) ys) ≡ cond b (f x ∷ ks) ks
drop-one true f x ys ks e = ap (λ (js : List ℕ). f x ∷ js) e
drop-one false f x ys ks e = e

pub dropped : {X : Type 0} (f : X → ℕ) (c : ℕ) (xs : List X)
    → map f (filter (λ (x : X). not (f x == c)) xs) ≡ drop_ids c (map f xs)
dropped f c [] = refl
dropped {X} f c (x ∷ xs) =
    drop-one (not (f x == c)) f x (filter (λ (y : X). not (f y == c)) xs) (drop_ids c (map f xs)) (dropped f c xs)

pub closed-numbers : (t c : ℕ) (old new : Served) → IsClosed t c old.core new.core → new.unasked ≡ without c old.unasked
    → IsNumbered old → IsNumbered new
closed-numbers t c old new h e n =
    ap (map number_of) e
    ∙ (dropped number_of c old.unasked
    ∙ (ap (drop_ids c) n
    ∙ (sym (dropped conn_id c old.core.state.conns)
    ∙ sym (ap (λ (v : CoreValue). map conn_id v.state.conns) h.1))))

-- the bytes change and the connections don't
pub numbers-kept : (old new : Served) → map number_of new.unasked ≡ map number_of old.unasked
    → map conn_id new.core.state.conns ≡ map conn_id old.core.state.conns → IsNumbered old → IsNumbered new
numbers-kept old new e f n = e ∙ (n ∙ sym f)

asks-item-numbers : (c : ℕ) (M : Terms) (a : Ask) (old new : Served) → AsksItem M c a old new
    → map number_of new.unasked ≡ map number_of old.unasked
asks-item-numbers c M a old new r =
    ap (map number_of) r.reads.left
    ∙ changed-numbers c (λ (x : Unasked). left_after c r.item r.reads.rest) old.unasked (λ x e. sym e)

-- only how many bytes count as unread changes
recount-numbers : (c : ℕ) (old new : List Unasked) → Recounts c old new → map number_of new ≡ map number_of old
recount-numbers c old new (inl e) = ap (map number_of) e
recount-numbers c old new (inr r) =
    ap (map number_of) r.left
    ∙ changed-numbers c (λ (x : Unasked). record r.before { unread = r.unread }) old
    (λ x e. at-number c old r.before r.stands ∙ sym e)

ends-numbers : (w : When) (c : ℕ) (b : Bool) (old : Served) (out : List Emission) (new : Served) → Ends w c b old out new
    → IsNumbered old → IsNumbered new
ends-numbers w c true old out new h n = closed-numbers (at w old) c old new h.0.0 h.0.1 n
ends-numbers w c false old out new h n = subst IsNumbered (sym h.0) n

pub numbered : (M : Terms) (w : When) (a : Act) (old : Served) (out : List Emission) (new : Served)
    → Does M w a old out new → IsNumbered old → IsNumbered new
numbered M w (Opens c) old out new h n =
    let S : State = opens_in_room (at w old) old.core.state in
    let unsealed : S.sealed ≡ false = sym (ap (λ (v : CoreValue). v.state.sealed) h.0.1) ∙ h.0.2 in
    ap (map number_of) h.1
    ∙ (map_push number_of old.unasked (no_bytes c)
    ∙ (ap (λ (ks : List ℕ). ks ++ c ∷ []) n
    ∙ (ap (λ (k : ℕ). map conn_id old.core.state.conns ++ k ∷ []) h.0.0
    ∙ sym (ap (λ (v : CoreValue). map conn_id v.state.conns) h.0.1 ∙ opened-conns (at w old) old.core.state unsealed))))
numbered M w TurnsAway old out new h n = numbers-kept old new (ap (map number_of) h.1) (turned h.0) n
  where
    turned : IsOpened (Err Open.Full) (at w old) old.core new.core ⊎ IsOpened (Err Open.Sealed) (at w old) old.core new.core
        → map conn_id new.core.state.conns ≡ map conn_id old.core.state.conns
    turned (inl full) = ap (λ (v : CoreValue). map conn_id v.state.conns) full.0
    turned (inr sealed) =
        ap (λ (v : CoreValue). map conn_id v.state.conns) sealed.0
        ∙ turned-conns (at w old) old.core.state (sym (ap (λ (v : CoreValue). v.state.sealed) sealed.0) ∙ sealed.1)
numbered M w (Takes c bytes) old out new h n =
    numbers-kept old new
    (ap (λ (s : Served). map number_of s.unasked) h.0 ∙ changed-numbers c (extended bytes) old.unasked (λ x e. extended-number bytes x))
    (ap (λ (s : Served). map conn_id s.core.state.conns) h.0) n
numbered M w (Hears p bytes) old out new h n =
    let S : State = hears_in_room (at w old) p bytes h.0.numbers old.core.state in
    let x : Adds (at w old) old.core.state S = hears-add (at w old) p bytes h.0.numbers old.core.state in
    numbers-kept old new (ap (map number_of) h.1)
    (ids-step (at w old) S old.core new.core x h.0.is
    (all-clients x.more (hears-answer (at w old) p bytes h.0.numbers old.core.state x))) n
numbered M w Passes old out new h n =
    let x : Adds (at w old) old.core.state (ticks_in_room (at w old) old.core.state) = ticks-add (at w old) old.core.state in
    numbers-kept old new (ap (λ (s : Served). map number_of s.unasked) h.0)
    (ids-step (at w old) (ticks_in_room (at w old) old.core.state) old.core new.core x (ap (λ (s : Served). s.core) h.0)
    (all-clients x.more (ticks-answer (at w old) old.core.state x))) n
numbered M w (Asks c) old out new h n =
    numbers-kept old new (asks-item-numbers c M h.0.ask old new h.0.reads)
    (asks-ids (at w old) w.word c h.0.ask old.core new.core h.0.asked.2) n
numbered M w (Denies c) old out new h n =
    closed-numbers (at w h.0) c h.0 new h.2.0 h.2.1
    (numbers-kept old h.0 (asks-item-numbers c M h.1.ask old h.0 h.1.reads)
    (denied-ids (at w old) w.word c h.1.ask old.core h.0.core h.1.denied) n)
numbered M w Sends old out new h n =
    numbers-kept old new (ap (map number_of) h.unasked) (ap (λ (v : CoreValue). map conn_id v.state.conns) h.sent.1) n
numbered M w (Tells c k) old out new h n =
    ends-numbers w c (closes h.answer.mapping.came) h.told h.after new h.ends
    (numbers-kept old h.told (ap (map number_of) h.unasked) (ap (λ (v : CoreValue). map conn_id v.state.conns) h.taken.3) n)
numbered M w (GoesOn c) old out new h n =
    numbers-kept old new
    (ap (map number_of) h.0.left
    ∙ changed-numbers c (λ (x : Unasked). record h.0.before { told = true; unread = h.0.unread }) old.unasked
    (λ x e. at-number c old.unasked h.0.before h.0.stands ∙ sym e))
    (ap (λ (v : CoreValue). map conn_id v.state.conns) h.1) n
numbered M w (GivesUp c) old out new h n = closed-numbers (at w old) c old new h.0.0 h.0.1 n
numbered M w (Forgoes c k) old out new h n =
    closed-numbers (at w h.0) c h.0 new h.2.0 h.2.1
    (numbers-kept old h.0 (ap (map number_of) h.1.unasked) (ap (λ (v : CoreValue). map conn_id v.state.conns) h.1.taken.3) n)
numbered M w (Rests c) old out new h n =
    numbers-kept old new (recount-numbers c old.unasked new.unasked h.2) (ap (λ (v : CoreValue). map conn_id v.state.conns) h.0) n
numbered M w (Leaves c) old out new h n = closed-numbers (at w old) c old new h.0.0 h.0.1 n
numbered M w (Misses c) old out new h n = subst IsNumbered (sym h.0) n

pub numbered-all : (M : Terms) (w : When) (acts : List Act) (old : Served) (out : List Emission) (new : Served)
    → DoesAll M w acts old out new → IsNumbered old → IsNumbered new
numbered-all M w [] old out new h n = subst IsNumbered (sym h.0) n
numbered-all M w (a ∷ acts) old out new h n =
    numbered-all M w acts h.0 h.2 new h.4 (numbered M w a old h.1 h.0 h.3 n)
