-- Copies are punctual where the proxy looks at its timers each second.
use Rattle.std.proofs.Common.{◌≡◌, inl, inr, ℕ, ◌+◌, ◌*◌, ◌^◌, ◌≤◌, ◌<◌, Bool, true, false, List, [], ◌∷◌, ◌++◌, length, Option, Some, None, refl, sym, ap, subst, ◌∙◌, arith}
use Rattle.std.specs.Prelude.{⊤, flat_map, ◌≢◌}
use Rattle.std.specs.List.{AllByRecursion}
use Rattle.std.proofs.lemmas.Bool.{false≢true}
use Rattle.uri_map.specs.declared.peer.Peer.{Peer}
use Rattle.message_layer.specs.Sending.{due_of}
use Rattle.message_layer.specs.declared.state.Outstanding.{Outstanding}
use Rattle.message_layer.specs.declared.state.Waiting.{Waiting}
use Rattle.http_mapping.specs.Means.{closes}
use Rattle.ask_model.specs.Views.{Ask}
use Rattle.journal_book.specs.Entries.{Deed, Opens, Asks, Sends, Hears, Passes, Answers, Shuts, Seals, Carries, Written}
use Rattle.history_laws.specs.Readings.{Noted, entries}
use Rattle.history_laws.specs.Transmissions.{Transmission, due}
use Rattle.history_laws.proofs.CallerLemmas.{none-some, some-is}
use Rattle.history_links.specs.Agrees.{IsOut, TurnIn, way_of}
use Rattle.exchange_model.specs.Resting.{IsUndue}
use Rattle.exchange_model.specs.Room.{KeptInRoom}
use Rattle.exchange_model.specs.Sealing.{ticks_in_room}
use Rattle.exchange_model.specs.State.{State, link_of}
use Rattle.exchange_core.specs.Calls.{now, IsClosed, AsksSo}
use Rattle.exchange_core.specs.Values.{CoreValue}
use Rattle.gateway_model.specs.Acts.{Act, Served, Terms, Does, DoesAll, Ends, at}
use Rattle.gateway_model.specs.Acts.{Opens as OpensOne, TurnsAway, Takes, Hears as HearsOne, Passes as PassesOne, Asks as AsksOne, Denies, Sends as SendsOne, Tells, GoesOn, GivesUp, Forgoes, Rests, Leaves, Misses}
use Rattle.gateway_model.specs.Emissions.{Emission}
use Rattle.gateway_model.specs.Hearing.{DoesWhatIsDue}
use Rattle.gateway_model.specs.Orders.{AreFor, AreSends, Delivers, IsFor, IsInOrder, IsSends, IsTurn, ServesOut, Turn, acts_of, telling}
use Rattle.gateway_model.specs.declared.input.Happening.{Happening}
use Rattle.gateway_model.specs.declared.input.Happening.TheVariants as H
use Rattle.gateway_model.specs.declared.input.When.{When}
use Rattle.story_laws.specs.declared.TheConstants.{LATEST_COPY}
use Rattle.story_laws.proofs.Pacing.{AreTimely, IsExcused, IsTimely, timely-more, way-sent, way_after}
use Rattle.three_parties.proofs.Pacing.{AreCopiesOf, IsCopyOf, IsOutIn, IsShort, Paces, asks-pace, hears-pace, opens-pace, out_at, paces-both, paces-none, shuts-pace, ticks-pace}
use Rattle.three_parties.proofs.Stamping.{still-now}

-- Each copy in the journal went out in time, and nothing that is outstanding was due before this moment.
pub record Paced (u : ℕ) (S : State) : Type 0 where
  pub timely : AreTimely S.entries
  pub due : S.sealed ≡ false → (p : Peer) (o : Outstanding) → out_at S p ≡ Some o → u ≤ due_of o

later-due : (u t a b : ℕ) → u ≤ t → a ≡ t → u ≤ a + b
later-due u t a b le same = omega (arith, le, same)

unsealed : (S S1 : State) → (S.sealed ≡ true → S1.sealed ≡ true) → S1.sealed ≡ false → S.sealed ≡ false
unsealed S S1 keeps not = by S.sealed refl
  where
    by : (b : Bool) → S.sealed ≡ b → b ≡ false
    by true e = absurd (false≢true (sym not ∙ keeps e))
    by false e = refl

-- ---- a step

excuse : (P : Peer → List ℕ → Type 0) (h : List Written) (t : ℕ) → ((p : Peer) (b : List ℕ) → P p b → length b ≢ 4 → IsTimely h t b)
    → (ws : List Written) → AreCopiesOf P ws → AllByRecursion (λ (w : Written). IsExcused h t w.deed) ws
excuse P h t may [] c = tt
excuse P h t may (w ∷ ws) c = (by w.deed c.0, excuse P h t may ws c.1)
  where
    by : (d : Deed) → IsCopyOf P d → IsExcused h t d
    by (Sends p b None) k = may p b k
    by (Sends p b (Some v)) k = tt
    by (Opens c) k = tt
    by (Asks c a) k = tt
    by (Hears p b) k = tt
    by Passes k = tt
    by (Answers c n g) k = tt
    by (Shuts c) k = tt
    by Seals k = tt
    by (Carries n m d) k = tt

paced-step : (P : Peer → List ℕ → Type 0) (t u : ℕ) (S S1 : State) → Paces P t S S1
    → ((p : Peer) (b : List ℕ) → P p b → length b ≢ 4 → IsTimely S.entries t b) → u ≤ t → Paced u S → Paced u S1
paced-step P t u S S1 x may le h = record {
  timely = subst AreTimely (sym x.added) (timely-more S.entries x.more t h.timely x.bear (excuse P S.entries t may x.more x.copies));
  due = λ not p o e. elim (x.still p o e) [
    | inl w ↦ h.due (unsealed S S1 x.sealed not) p o w
    | inr w ↦ later-due u t o.sent (o.timeout * 2 ^ o.retransmissions) le w
  ];
}

none-late : (h : List Written) (t : ℕ) (p : Peer) (b : List ℕ) → IsShort p b → length b ≢ 4 → IsTimely h t b
none-late h t p b four other = absurd (other four)

-- ---- acts that don't look at timers

abbrev LooksNot : Act → Type 0
LooksNot PassesOne = ⊥
LooksNot a = ⊤

paces-so : (t : ℕ) (S S1 S2 : State) → S2 ≡ S1 → Paces IsShort t S S1 → Paces IsShort t S S2
paces-so t S S1 S2 e x = subst (λ (S2 : State). Paces IsShort t S S2) (sym e) x

closes-pace : (t c : ℕ) (old new : CoreValue) → IsClosed t c old new → Paces IsShort t old.state new.state
closes-pace t c old new h = paces-so t old.state _ new.state (ap (λ (v : CoreValue). v.state) h.1) (shuts-pace t c old.state)

asks-pace-so : (t word c : ℕ) (a : Ask) (old new : CoreValue) → AsksSo t word c a old new → Paces IsShort t old.state new.state
asks-pace-so t word c a old new h = paces-so t old.state _ new.state (ap (λ (v : CoreValue). v.state) h.is) (asks-pace t c a h.numbers old.state)

does-pace : (M : Terms) (w : When) (a : Act) (old : Served) (out : List Emission) (new : Served) → LooksNot a → Does M w a old out new
    → Paces IsShort (at w old) old.core.state new.core.state
does-pace M w (OpensOne c) old out new not h =
    paces-so (at w old) old.core.state _ new.core.state (ap (λ (v : CoreValue). v.state) h.0.1) (opens-pace (at w old) old.core.state)
does-pace M w TurnsAway old out new not h = elim h.0 [
  | inl k ↦ paces-none IsShort (at w old) old.core.state new.core.state (ap (λ (v : CoreValue). v.state) k.0)
  | inr k ↦ paces-so (at w old) old.core.state _ new.core.state (ap (λ (v : CoreValue). v.state) k.0) (opens-pace (at w old) old.core.state)
]
does-pace M w (Takes c bytes) old out new not h = paces-none IsShort (at w old) old.core.state new.core.state (ap (λ (s : Served). s.core.state) h.0)
does-pace M w (HearsOne p bytes) old out new not h =
    paces-so (at w old) old.core.state _ new.core.state (ap (λ (v : CoreValue). v.state) h.0.is) (hears-pace (at w old) p bytes h.0.numbers old.core.state)
does-pace M w PassesOne old out new not h = absurd not
does-pace M w (AsksOne c) old out new not h = asks-pace-so (at w old) w.word c h.0.ask old.core new.core h.0.asked.2
does-pace M w (Denies c) old out new not h =
    paces-both IsShort (at w old) old.core.state h.0.core.state new.core.state denied
    (subst (λ (t : ℕ). Paces IsShort t h.0.core.state new.core.state) (still-now (at w old) w.moment old.core.state h.0.core.state refl denied.counts)
    (closes-pace (at w h.0) c h.0.core new.core h.2.0))
  where
    denied : Paces IsShort (at w old) old.core.state h.0.core.state
    denied = elim (h.1.denied.2) [
      | inl k ↦ paces-none IsShort (at w old) old.core.state h.0.core.state (ap (λ (v : CoreValue). v.state) k.1)
      | inr k ↦ asks-pace-so (at w old) w.word c h.1.ask old.core h.0.core k
    ]
does-pace M w SendsOne old out new not h =
    paces-none IsShort (at w old) old.core.state new.core.state (ap (λ (v : CoreValue). v.state) h.sent.1)
does-pace M w (Tells c k) old out new not h = by (closes h.answer.mapping.came) h.ends
  where
    taken : h.told.core.state ≡ old.core.state
    taken = ap (λ (v : CoreValue). v.state) h.taken.3

    by : (b : Bool) → Ends w c b h.told h.after new → Paces IsShort (at w old) old.core.state new.core.state
    by true e =
        subst (λ (S : State). Paces IsShort (now S.moment w.moment) S new.core.state) taken (closes-pace (at w h.told) c h.told.core new.core e.0.0)
    by false e =
        paces-none IsShort (at w old) old.core.state new.core.state (ap (λ (s : Served). s.core.state) e.0 ∙ taken)
does-pace M w (GoesOn c) old out new not h = paces-none IsShort (at w old) old.core.state new.core.state (ap (λ (v : CoreValue). v.state) h.1)
does-pace M w (GivesUp c) old out new not h = closes-pace (at w old) c old.core new.core h.0.0
does-pace M w (Forgoes c k) old out new not h =
    subst (λ (S : State). Paces IsShort (now S.moment w.moment) S new.core.state) (ap (λ (v : CoreValue). v.state) h.1.taken.3)
    (closes-pace (at w h.0) c h.0.core new.core h.2.0)
does-pace M w (Rests c) old out new not h = paces-none IsShort (at w old) old.core.state new.core.state (ap (λ (v : CoreValue). v.state) h.0)
does-pace M w (Leaves c) old out new not h = closes-pace (at w old) c old.core new.core h.0.0
does-pace M w (Misses c) old out new not h = paces-none IsShort (at w old) old.core.state new.core.state (ap (λ (s : Served). s.core.state) h.0)

abbrev LookNot : List Act → Type 0
LookNot acts = AllByRecursion LooksNot acts

all-pace : (M : Terms) (w : When) (acts : List Act) (old : Served) (out : List Emission) (new : Served) → LookNot acts → DoesAll M w acts old out new
    → Paces IsShort (at w old) old.core.state new.core.state
all-pace M w [] old out new not h = paces-none IsShort (at w old) old.core.state new.core.state (ap (λ (s : Served). s.core.state) h.0)
all-pace M w (a ∷ acts) old out new not h =
    let one = does-pace M w a old h.1 h.0 not.0 h.3 in
    paces-both IsShort (at w old) old.core.state h.0.core.state new.core.state one
    (subst (λ (t : ℕ). Paces IsShort t h.0.core.state new.core.state) (still-now (at w old) w.moment old.core.state h.0.core.state refl one.counts)
    (all-pace M w acts h.0 h.2 new not.1 h.4))

-- ---- which acts those are

look-both : (xs ys : List Act) → LookNot xs → LookNot ys → LookNot (xs ++ ys)
look-both [] ys a b = b
look-both (x ∷ xs) ys a b = (a.0, look-both xs ys a.1 b)

for-not : (c : ℕ) (acts : List Act) → AreFor c acts → LookNot acts
for-not c [] f = tt
for-not c (a ∷ acts) f = (by a f.0, for-not c acts f.1)
  where
    by : (a : Act) → IsFor c a → LooksNot a
    by (AsksOne d) k = tt
    by (Denies d) k = tt
    by SendsOne k = tt
    by (Tells d n) k = tt
    by (GoesOn d) k = tt
    by (GivesUp d) k = tt
    by (Forgoes d n) k = tt
    by (OpensOne d) k = absurd k
    by TurnsAway k = absurd k
    by (Takes d b) k = absurd k
    by (HearsOne p b) k = absurd k
    by PassesOne k = absurd k
    by (Rests d) k = absurd k
    by (Leaves d) k = absurd k
    by (Misses d) k = absurd k

out-not : (c : ℕ) (acts : List Act) → ServesOut c acts → LookNot acts
out-not c acts s = subst LookNot (sym s.are) (look-both s.first (Rests c ∷ []) (for-not c s.first s.for) (tt, tt))

turns-not : (turns : List Turn) → AllByRecursion IsTurn turns → LookNot (flat_map acts_of turns)
turns-not [] each = tt
turns-not (x ∷ xs) each =
    look-both (acts_of x) (flat_map acts_of xs) (told-not x.told x.conn x.ask, out-not x.conn x.further each.0) (turns-not xs each.1)
  where
    told-not : (told : Bool) (c k : ℕ) → LooksNot (telling told c k)
    told-not true c k = tt
    told-not false c k = tt

sends-not : (acts : List Act) → AreSends acts → LookNot acts
sends-not [] s = tt
sends-not (a ∷ acts) s = (by a s.0, sends-not acts s.1)
  where
    by : (a : Act) → IsSends a → LooksNot a
    by SendsOne k = tt
    by (AsksOne d) k = absurd k
    by (Denies d) k = absurd k
    by (Tells d n) k = absurd k
    by (GoesOn d) k = absurd k
    by (GivesUp d) k = absurd k
    by (Forgoes d n) k = absurd k
    by (OpensOne d) k = absurd k
    by TurnsAway k = absurd k
    by (Takes d b) k = absurd k
    by (HearsOne p b) k = absurd k
    by PassesOne k = absurd k
    by (Rests d) k = absurd k
    by (Leaves d) k = absurd k
    by (Misses d) k = absurd k

delivers-not : (acts : List Act) → Delivers acts → LookNot acts
delivers-not acts d =
    let turns = d.told.1 in
    subst LookNot (sym d.are)
    (look-both d.sends d.answers (sends-not d.sends d.sent) (subst LookNot (sym turns.are) (turns-not turns.turns turns.each)))

orders-not : (x : Happening) (acts : List Act) → IsInOrder x acts → (x ≡ H.Tick → ⊥) → LookNot acts
orders-not H.Open acts o not = elim o [
  | inl k ↦ subst LookNot (sym k.1) (tt, tt)
  | inr k ↦ subst LookNot (sym k) (tt, tt)
]
orders-not (H.Bytes c bytes) acts o not = subst LookNot (sym o.are) (tt, out-not c o.rest o.then)
orders-not (H.Datagram p bytes) acts o not = subst LookNot (sym o.are) (tt, delivers-not o.rest o.then)
orders-not H.Tick acts o not = absurd (not refl)
orders-not (H.Close c) acts o not = elim o [
  | inl k ↦ subst LookNot (sym k) (tt, tt)
  | inr k ↦ subst LookNot (sym k) (tt, tt)
]
orders-not H.Rotate acts o not = absurd o

-- ---- an input

-- that isn't a tick
pub paced-input : (M : Terms) (w : When) (u : ℕ) (x : Happening) (acts : List Act) (old : Served) (out : List Emission) (new : Served)
    → DoesAll M w acts old out new → IsInOrder x acts → (x ≡ H.Tick → ⊥) → u ≤ at w old → Paced u old.core.state → Paced u new.core.state
paced-input M w u x acts old out new h order not le p =
    paced-step IsShort (at w old) u old.core.state new.core.state (all-pace M w acts old out new (orders-not x acts order not) h)
    (none-late old.core.state.entries (at w old)) le p

-- What is copied was outstanding, and due no more than a second before.
out-late : (t u : ℕ) (S : State) → KeptInRoom S → t ≤ u + LATEST_COPY → Paced u S → (p : Peer) (b : List ℕ) → IsOutIn S p b
    → length b ≢ 4 → IsTimely S.entries t b
out-late t u S kept le h p b k long y way =
    let l : List Noted = kept.kept.reading in
    let reads = kept.kept.rests.reads in
    let o = k.1.0 in
    let it : IsOut l p o =
    subst (λ (v : Option Outstanding). TurnIn l p v) k.1.1 (reads.links_are p).turn in
    let went : way_after o.datagram (entries l) None ≡ Some (way_of o) =
    way-sent l it.first.moment it.first.opening it.first.number p it.first.message o.datagram it.timeout (way_of o) reads.legal it.stands it.way in
    let is : way_after b S.entries None ≡ Some (way_of o) =
    subst (λ (ws : List Written). way_after b ws None ≡ Some (way_of o)) reads.entries_are
    (subst (λ (b : List ℕ). way_after b (entries l) None ≡ Some (way_of o)) k.1.2 went) in
    let same : way_of o ≡ y = some-is (way_of o) y (sym is ∙ way) in
    let soon : u ≤ due (way_of o) = h.due k.0 p o k.1.1 in
    subst (λ (y : Transmission). t ≤ due y + LATEST_COPY) same (in-time u t (due (way_of o)) soon le)
  where
    in-time : (u t d : ℕ) → u ≤ d → t ≤ u + LATEST_COPY → t ≤ d + LATEST_COPY
    in-time u t d a b = omega (arith, a, b)

-- After a tick nothing was due before it.
pub paced-tick : (M : Terms) (w : When) (u : ℕ) (acts : List Act) (old : Served) (out : List Emission) (new : Served) (more : List Written)
    → DoesAll M w acts old out new → IsInOrder H.Tick acts → DoesWhatIsDue (at w old) old.core.state more
    → u ≤ at w old → at w old ≤ u + LATEST_COPY → Paced u old.core.state → Paced (at w old) new.core.state
paced-tick M w u acts old out new more h order done le late p =
    go (subst (λ (acts : List Act). DoesAll M w acts old out new) order.are h)
  where
    t : ℕ
    t = at w old

    S : State
    S = old.core.state

    go : DoesAll M w (PassesOne ∷ order.rest) old out new → Paced t new.core.state
    go all =
        let first = all.3 in
        let mid : State = all.0.core.state in
        let is : mid ≡ ticks_in_room t S = ap (λ (s : Served). s.core.state) first.0 in
        let kept : KeptInRoom S = first.3 in
        let ticked : Paces (IsOutIn S) t S mid =
        subst (λ (T : State). Paces (IsOutIn S) t S T) (sym is) (ticks-pace t S kept.apart) in
        let one : Paced u mid = paced-step (IsOutIn S) t u S mid ticked (out-late t u S kept late p) le p in
        let rest : Paces IsShort t mid new.core.state =
        subst (λ (t : ℕ). Paces IsShort t mid new.core.state) (still-now t w.moment S mid refl ticked.counts)
        (all-pace M w order.rest all.0 all.2 new (delivers-not order.rest order.then) all.4) in
        let both : Paced u new.core.state = paced-step IsShort t u mid new.core.state rest (none-late mid.entries t) le one in record {
          timely = both.timely;
          due = λ not q o e. elim (rest.still q o e) [
            | inl v ↦ undue (unsealed mid new.core.state rest.sealed not) is q o v
            | inr v ↦ later-due t t o.sent (o.timeout * 2 ^ o.retransmissions) (omega arith) v
          ];
        }
      where
        below : (d : ℕ) (v : Option Outstanding) (ws : List Waiting) (o : Outstanding) → IsUndue t v ws → v ≡ Some o → t ≤ due_of o
        below d None ws o k e = absurd (none-some o e)
        below d (Some x) ws o k e =
            let lt : t < due_of o = subst (λ (x : Outstanding). t < due_of x) (some-is x o e) k in omega (arith, lt)

        undue : (all.0.core.state).sealed ≡ false → all.0.core.state ≡ ticks_in_room t S → (q : Peer) (o : Outstanding) → out_at all.0.core.state q ≡ Some o
            → t ≤ due_of o
        undue not is q o e = elim done.1 [
          | inl v ↦ absurd (false≢true (sym not ∙ (ap (λ (T : State). T.sealed) is ∙ v)))
          | inr v ↦
              let link = (link_of (ticks_in_room t S).links q) in
              below 0 link.outstanding link.waiting o (v.0.links q) (subst (λ (T : State). out_at T q ≡ Some o) is e)
        ]
