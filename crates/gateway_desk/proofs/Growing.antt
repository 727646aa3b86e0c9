-- What each call of a core adds: to the number of asks, and to what waits to be sent.
use Rattle.std.proofs.Common.{◌≡◌, ◌⊎◌, inl, inr, ℕ, ◌+◌, Bool, true, false, cond, List, [], ◌∷◌, ◌++◌, length, length-append, drop, Option, Some, None, Result, Ok, Err, refl, sym, ap, subst, ◌∙◌, arith}
use Rattle.std.specs.List.{flat_map}
use Rattle.std.proofs.Math.Seq.{drop-append_seam}
use Rattle.std.proofs.lemmas.Grind.{flat_map-append}
use Rattle.std.proofs.lemmas.List.{append-nil, append_assoc}
use Rattle.uri_map.specs.declared.peer.Peer.{Peer}
use Rattle.ask_model.specs.declared.cause.Cause.{Cause}
use Rattle.ask_model.specs.declared.cause.Cause.TheVariants as C
use Rattle.ask_model.specs.Requests.{CoapRequest, Sense, Requests, Refuses}
use Rattle.ask_model.specs.Sharing.{asked_key}
use Rattle.ask_model.specs.Views.{Ask}
use Rattle.resp_cache.specs.Stored.{Stored}
use Rattle.journal_book.specs.Entries.{Deed, Opens, Asks, Sends, Hears, Passes, Answers, Shuts, Seals, Carries, Kept, Fault, Written}
use Rattle.message_layer.specs.declared.state.Outstanding.{Outstanding}
use Rattle.message_layer.specs.declared.state.Waiting.{Waiting}
use Rattle.exchange_model.specs.State.{State, link_of}
use Rattle.exchange_model.specs.Steps.{asks, begins, recalls, seals}
use Rattle.exchange_model.specs.Hearing.{Numbers}
use Rattle.exchange_model.specs.declared.kept.Exchange.{Exchange}
use Rattle.exchange_model.specs.Calls.{next_by, next, refused, has_place, asked_by, asked, asked_for, asked_with, joined, served_in, serves}
use Rattle.exchange_model.specs.Growing.{HasNoClient, by_client, at_moment}
use Rattle.exchange_model.specs.Room.{fits}
use Rattle.exchange_model.specs.Sealing.{opens_in_room, asks_in_room, hears_in_room, ticks_in_room}
use Rattle.exchange_model.proofs.CallerLemmas.{asks-add, hears-add, hears-answer, opens-add, opens-alone, ticks-add, ticks-answer}
use Rattle.exchange_core.specs.declared.fault.OpenFault.{OpenFault}
use Rattle.exchange_core.specs.declared.fault.OpenFault.TheVariants as Open
use Rattle.exchange_core.specs.declared.fault.AskFault.{AskFault}
use Rattle.exchange_core.specs.Calls.{IsOpened, IsAsked, IsClosed, IsUnknown, AsksSo, HearsSo}
use Rattle.exchange_core.specs.Answering.{Given}
use Rattle.exchange_core.specs.Taking.{IsSent, IsTaken}
use Rattle.exchange_core.specs.Values.{CoreValue, Outgoing, sent_in, stepped}
use Rattle.exchange_core.proofs.CallerLemmas.{sent-append}
use Rattle.gateway_desk.specs.Ledgers.{asker, asks_of}
use Rattle.gateway_desk.specs.Sending.{AreUnsent}

-- what is counted, and what is sent, of entries one after the other

pub asks-append : (xs ys : List Written) → asks_of (xs ++ ys) ≡ asks_of xs + asks_of ys
asks-append xs ys =
    ap length (flat_map-append (λ (w : Written). asker w.deed) xs ys)
    ∙ length-append (flat_map (λ (w : Written). asker w.deed) xs) (flat_map (λ (w : Written). asker w.deed) ys)

no-asker : (d : Deed) → by_client d ≡ false → asker d ≡ []
no-asker (Opens c) h = refl
no-asker (Asks c a) h = absurd cc
no-asker (Sends p bytes timeout) h = refl
no-asker (Hears p bytes) h = refl
no-asker Passes h = refl
no-asker (Answers c k g) h = refl
no-asker (Shuts c) h = refl
no-asker Seals h = refl
no-asker (Carries n mark done) h = refl

no-asks : (ws : List Written) → HasNoClient ws → asks_of ws ≡ 0
no-asks [] h = refl
no-asks (w ∷ ws) h =
    ap (λ (ns : List ℕ). length (ns ++ flat_map (λ (v : Written). asker v.deed) ws)) (no-asker w.deed h.0)
    ∙ no-asks ws h.1

-- A call adds so many asks, what it sends is to be sent after what waits, and it gives nothing out.
pub record IsStep (n : ℕ) (old new : CoreValue) : Type 0 where
  pub more : List Written
  pub entries : new.state.entries ≡ old.state.entries ++ more
  pub asks : asks_of more ≡ n
  pub unsent : new.unsent ≡ old.unsent ++ sent_in more
  pub given : new.state.given ≡ old.state.given

pub step-same : (old new : CoreValue) → new ≡ old → IsStep 0 old new
step-same old new e = record {
  more = [];
  entries = ap (λ (v : CoreValue). v.state.entries) e ∙ sym (append-nil old.state.entries);
  asks = refl;
  unsent = ap (λ (v : CoreValue). v.unsent) e ∙ sym (append-nil old.unsent);
  given = ap (λ (v : CoreValue). v.state.given) e;
}

pub step-by : (n : ℕ) (old new : CoreValue) (S : State) (more : List Written)
    → new ≡ stepped S old → S.entries ≡ old.state.entries ++ more → S.given ≡ old.state.given → asks_of more ≡ n
    → IsStep n old new
step-by n old new S more e is given count = record {
  given = ap (λ (v : CoreValue). v.state.given) e ∙ given;
  more = more;
  entries = ap (λ (v : CoreValue). v.state.entries) e ∙ is;
  asks = count;
  unsent = ap (λ (v : CoreValue). v.unsent) e
      ∙ ap (λ (ws : List Written). old.unsent ++ sent_in ws)
      (ap (drop (length old.state.entries)) is ∙ drop-append_seam old.state.entries more);
}

pub asks-on : (n b : ℕ) (old new : CoreValue) → IsStep n old new → asks_of old.state.entries ≡ b
    → asks_of new.state.entries ≡ b + n
asks-on n b old new h e =
    ap asks_of h.entries ∙ asks-append old.state.entries h.more
    ∙ ap (λ (k : ℕ). k + asks_of h.more) e ∙ ap (λ (k : ℕ). b + k) h.asks

pub as-many : (b : ℕ) (old new : CoreValue) → IsStep 0 old new → asks_of old.state.entries ≡ b
    → asks_of new.state.entries ≡ b
as-many b old new h e = let more = asks-on 0 b old new h e in omega (arith, more)

pub unsent-on : (n : ℕ) (old new : CoreValue) → IsStep n old new
    → AreUnsent old.state.entries old.unsent → AreUnsent new.state.entries new.unsent
unsent-on n old new h u = record {
  taken = u.taken;
  all = ap sent_in h.entries ∙ sent-append old.state.entries h.more
      ∙ ap (λ (os : List Outgoing). os ++ sent_in h.more) u.all
      ∙ append_assoc u.taken old.unsent (sent_in h.more)
      ∙ ap (λ (os : List Outgoing). u.taken ++ os) (sym h.unsent);
}

-- A datagram, and a tick.

pub heard-step : (t word : ℕ) (p : Peer) (d : List ℕ) (old new : CoreValue)
    → HearsSo t word p d old new → IsStep 0 old new
heard-step t word p d old new h =
    let x = hears-add t p d h.numbers old.state in
    step-by 0 old new (hears_in_room t p d h.numbers old.state) x.more h.is x.entries x.given
    (no-asks x.more (hears-answer t p d h.numbers old.state x))

pub ticked-step : (t : ℕ) (old new : CoreValue) → new ≡ stepped (ticks_in_room t old.state) old → IsStep 0 old new
ticked-step t old new e =
    let x = ticks-add t old.state in
    step-by 0 old new (ticks_in_room t old.state) x.more e x.entries x.given
    (no-asks x.more (ticks-answer t old.state x))

-- A connection is opened, and closed.

opens-step : (t : ℕ) (old new : CoreValue) → new ≡ stepped (opens_in_room t old.state) old → IsStep 0 old new
opens-step t old new e =
    let x = opens-add t old.state in
    step-by 0 old new (opens_in_room t old.state) x.more e x.entries x.given (none x.more (opens-alone t old.state x))
  where
    none : (more : List Written)
        → (more ≡ []) ⊎ ((more ≡ at_moment t (Opens old.state.opened) ∷ []) ⊎ (more ≡ at_moment t Seals ∷ []))
        → asks_of more ≡ 0
    none more (inl h) = ap asks_of h
    none more (inr (inl h)) = ap asks_of h
    none more (inr (inr h)) = ap asks_of h

pub opened-step : (r : Result ℕ OpenFault) (t : ℕ) (old new : CoreValue) → IsOpened r t old new → IsStep 0 old new
opened-step (Ok c) t old new h = opens-step t old new h.1
opened-step (Err Open.Sealed) t old new h = opens-step t old new h.0
opened-step (Err Open.Full) t old new h = step-same old new h.0
opened-step (Err Open.Memory) t old new h = step-same old new h.0

closed-step : (t c : ℕ) (old new : CoreValue) → IsClosed t c old new → IsStep 0 old new
closed-step t c old new h = step-by 0 old new _ (at_moment t (Shuts c) ∷ []) h.1 refl refl refl

pub closes-step : (b : Bool) (t c : ℕ) (old new : CoreValue) → (b ≡ true → IsClosed t c old new)
    → (b ≡ false → (new ≡ old) × IsUnknown c old) → IsStep 0 old new
closes-step true t c old new h e = closed-step t c old new (h refl)
closes-step false t c old new h e = step-same old new (e refl).0

-- An ask.

-- A state has one ask more, and is sealed as before.
record AsksOnce (S S1 : State) : Type 0 where
  more : List Written
  entries : S1.entries ≡ S.entries ++ more
  one : asks_of more ≡ 1
  sealed : S1.sealed ≡ S.sealed

-- then an entry that asks nothing
once-more : (S S1 S2 : State) (w : Written) → AsksOnce S S1 → S2.entries ≡ S1.entries ++ w ∷ [] → asker w.deed ≡ []
    → S2.sealed ≡ S1.sealed → AsksOnce S S2
once-more S S1 S2 w h e none sealed = record {
  more = h.more ++ w ∷ [];
  entries = e ∙ ap (λ (ws : List Written). ws ++ w ∷ []) h.entries ∙ append_assoc S.entries h.more (w ∷ []);
  one = asks-append h.more (w ∷ [])
      ∙ ap (λ (n : ℕ). n + asks_of (w ∷ [])) h.one
      ∙ ap (λ (ns : List ℕ). 1 + length (ns ++ [])) none;
  sealed = sealed ∙ h.sealed;
}

next-once : (t : ℕ) (p : Peer) (S S1 : State) → AsksOnce S S1 → AsksOnce S (next t p S1)
next-once t p S S1 h = by (link_of S1.links p).outstanding (link_of S1.links p).waiting
  where
    by : (o : Option Outstanding) (ws : List Waiting) → AsksOnce S (next_by t p o ws S1)
    by None [] = h
    by (Some o) ws = h
    by None (w ∷ ws) = once-more S S1 (next_by t p None (w ∷ ws) S1) _ h refl refl refl

asked-once : (t c : ℕ) (a : Ask) (n : Numbers) (S : State) → AsksOnce S (asked t c a n S)
asked-once t c a n S = sense a.sense
  where
    away : (cause : Cause) → AsksOnce S (refused t c a cause S)
    away cause =
        once-more S (asks t c a S) (refused t c a cause S)
        (at_moment t (Answers c (length S.entries) (Fault cause (length S.entries))))
        (record { more = at_moment t (Asks c a) ∷ []; entries = refl; one = refl; sealed = refl })
        refl refl refl

    begun : (q : CoapRequest) → AsksOnce S (next t q.peer (begins t c a q n.token n.text n.word S))
    begun q =
        next-once t q.peer S (begins t c a q n.token n.text n.word S)
        (record { more = at_moment t (Asks c a) ∷ []; entries = refl; one = refl; sealed = refl })

    either : (b : Bool) (q : CoapRequest)
        → AsksOnce S (cond b (next t q.peer (begins t c a q n.token n.text n.word S)) (refused t c a C.Busy S))
    either true q = begun q
    either false q = away C.Busy

    reads : (v : Option Exchange) (q : CoapRequest) → AsksOnce S (asked_with v t c a q n S)
    reads (Some e) q = record { more = at_moment t (Asks c a) ∷ []; entries = refl; one = refl; sealed = refl }
    reads None q = either (has_place t q.peer S) q

    for : (v : Option Stored) (q : CoapRequest) → AsksOnce S (asked_for v t c a q n S)
    for (Some s) q =
        once-more S (recalls t c a (asked_key q) S) (serves t c a q s S)
        (at_moment t (Answers c (length S.entries) (Kept s.list)))
        (record { more = at_moment t (Asks c a) ∷ []; entries = refl; one = refl; sealed = refl })
        refl refl refl
    for None q = reads (joined q S) q

    sense : (s : Sense) → AsksOnce S (asked_by s t c a n S)
    sense (Refuses cause status) = away cause
    sense (Requests q) = for (served_in q t S) q

-- in room, or not
pub fits-in : (b f : Bool) (t : ℕ) (S S1 : State) → S.sealed ≡ b → (cond b S (cond f S1 (seals t S))).sealed ≡ false
    → cond b S (cond f S1 (seals t S)) ≡ S1
fits-in true f t S S1 is e = absurd (differ (sym is ∙ e))
  where
    differ : true ≡ false → ⊥
    differ d = cc
fits-in false true t S S1 is e = refl
fits-in false false t S S1 is e = absurd cc

fits-not : (b f : Bool) (t : ℕ) (S S1 : State) → S.sealed ≡ b → S1.sealed ≡ S.sealed
    → (cond b S (cond f S1 (seals t S))).sealed ≡ true
    → (cond b S (cond f S1 (seals t S)) ≡ S) ⊎ (cond b S (cond f S1 (seals t S)) ≡ seals t S)
fits-not true f t S S1 is same e = inl refl
fits-not false true t S S1 is same e = absurd (differ (sym e ∙ same ∙ is))
  where
    differ : true ≡ false → ⊥
    differ d = cc
fits-not false false t S S1 is same e = inr refl

asks-step : (t word c : ℕ) (a : Ask) (old new : CoreValue) → new.state.sealed ≡ false → AsksSo t word c a old new
    → IsStep 1 old new
asks-step t word c a old new unsealed h =
    let S1 = asked t c a h.numbers old.state in
    let x = asked-once t c a h.numbers old.state in
    let is : asks_in_room t c a h.numbers old.state ≡ S1 =
    fits-in old.state.sealed (fits S1) t old.state S1 refl (sym (ap (λ (v : CoreValue). v.state.sealed) h.is) ∙ unsealed) in
    step-by 1 old new (asks_in_room t c a h.numbers old.state) x.more h.is (ap (λ (s : State). s.entries) is ∙ x.entries)
    (asks-add t c a h.numbers old.state).given x.one

seals-step : (t word c : ℕ) (a : Ask) (old new : CoreValue) → new.state.sealed ≡ true → AsksSo t word c a old new
    → IsStep 0 old new
seals-step t word c a old new sealed h =
    by (fits-not old.state.sealed (fits S1) t old.state S1 refl (asked-once t c a h.numbers old.state).sealed
    (sym (ap (λ (v : CoreValue). v.state.sealed) h.is) ∙ sealed))
  where
    S1 : State
    S1 = asked t c a h.numbers old.state

    S : State
    S = asks_in_room t c a h.numbers old.state

    by : (S ≡ old.state) ⊎ (S ≡ seals t old.state) → IsStep 0 old new
    by (inl e) = step-by 0 old new S [] h.is
        (ap (λ (s : State). s.entries) e ∙ sym (append-nil old.state.entries)) (ap (λ (s : State). s.given) e) refl
    by (inr e) = step-by 0 old new S (at_moment t Seals ∷ []) h.is (ap (λ (s : State). s.entries) e)
        (ap (λ (s : State). s.given) e) refl

pub asked-step : (k t word c : ℕ) (a : Ask) (old new : CoreValue) → IsAsked (Ok k) t word c a old new → IsStep 1 old new
asked-step k t word c a old new h = asks-step t word c a old new h.1 h.2

pub refused-step : (e : AskFault) (t word c : ℕ) (a : Ask) (old new : CoreValue) → IsAsked (Err e) t word c a old new
    → IsStep 0 old new
refused-step AskFault.Sealed t word c a old new h = by h.2
  where
    by : ((old.state.sealed ≡ true) × (new ≡ old)) ⊎ AsksSo t word c a old new → IsStep 0 old new
    by (inl same) = step-same old new same.1
    by (inr so) = seals-step t word c a old new h.0 so
refused-step AskFault.Unknown t word c a old new h = step-same old new h.0
refused-step AskFault.Pending t word c a old new h = step-same old new h.0
refused-step AskFault.Memory t word c a old new h = step-same old new h.0

-- A datagram is taken.
pub sent-on : (d : Option Outgoing) (old new : CoreValue) → IsSent d old new
    → AreUnsent old.state.entries old.unsent → AreUnsent new.state.entries new.unsent
sent-on None old new h u = subst (λ (v : CoreValue). AreUnsent v.state.entries v.unsent) (sym h.1) u
sent-on (Some d) old new h u = record {
  taken = u.taken ++ d ∷ [];
  all = ap (λ (v : CoreValue). sent_in v.state.entries) h.1 ∙ u.all
      ∙ ap (λ (os : List Outgoing). u.taken ++ os) h.0
      ∙ sym (append_assoc u.taken (d ∷ []) new.unsent);
}

pub sent-same : (b : ℕ) (d : Option Outgoing) (old new : CoreValue) → IsSent d old new → asks_of old.state.entries ≡ b
    → asks_of new.state.entries ≡ b
sent-same b None old new h e = ap (λ (v : CoreValue). asks_of v.state.entries) h.1 ∙ e
sent-same b (Some d) old new h e = ap (λ (v : CoreValue). asks_of v.state.entries) h.1 ∙ e

pub sent-whole : (d : Option Outgoing) (old new : CoreValue) → IsSent d old new → old.state.given ≡ 0 → new.state.given ≡ 0
sent-whole None old new h e = ap (λ (v : CoreValue). v.state.given) h.1 ∙ e
sent-whole (Some d) old new h e = ap (λ (v : CoreValue). v.state.given) h.1 ∙ e

-- An answer is taken.
pub taken-step : (r : Option Given) (k : ℕ) (old new : CoreValue) → IsTaken r k old new → IsStep 0 old new
taken-step None k old new h = step-same old new h.0
taken-step (Some g) k old new h = record {
  more = [];
  entries = ap (λ (v : CoreValue). v.state.entries) h.3 ∙ sym (append-nil old.state.entries);
  asks = refl;
  unsent = ap (λ (v : CoreValue). v.unsent) h.3 ∙ sym (append-nil old.unsent);
  given = ap (λ (v : CoreValue). v.state.given) h.3;
}
