-- Each act of a proxy gives out, adds and leaves what it may; and so do all of them.
use Rattle.std.proofs.Common.{◌≡◌, ◌≢◌, ℕ, ◌+◌, ◌<◌, Bool, true, false, ◌⊎◌, inl, inr, List, [], ◌∷◌, ◌++◌, length, Some, Err, refl, sym, ap, subst, ◌∙◌, arith, append_assoc, append-nil, length-append}
use Rattle.std.specs.Prelude.{⊤}
use Rattle.std.specs.List.{AllByRecursion, slice_get}
use Rattle.std.proofs.lemmas.List.{append_cancel_left}
use Rattle.http_mapping.specs.Means.{closes}
use Rattle.http_edge.specs.Answers.{answer_text}
use Rattle.ask_model.specs.Views.{Ask}
use Rattle.journal_book.specs.Entries.{Grounds, Deed, Opens as Opened, Asks as Asked, Sends as Sent, Hears as Heard, Passes as Passed, Answers, Shuts, Seals, Carries, Written}
use Rattle.history_laws.specs.Justified.{Stands}
use Rattle.history_claims.specs.Headline.{IsEntry}
use Rattle.history_claims.proofs.CallerLemmas.{answer-once}
use Rattle.exchange_model.specs.State.{State}
use Rattle.exchange_model.specs.Steps.{shuts}
use Rattle.exchange_model.specs.Hearing.{Numbers}
use Rattle.exchange_model.specs.Growing.{Adds, at_moment, IsOfAsk, by_client, HasNoClient}
use Rattle.exchange_model.specs.Sealing.{opens_in_room, asks_in_room, hears_in_room, ticks_in_room}
use Rattle.exchange_model.proofs.CallerLemmas.{asks-add, asks-answer, hears-add, hears-answer, opens-add, opens-alone, ticks-add, ticks-answer}
use Rattle.exchange_core.specs.declared.fault.OpenFault.TheVariants as Open
use Rattle.exchange_core.specs.declared.fault.AskFault.TheVariants as Fault
use Rattle.exchange_core.specs.Calls.{IsOpened, IsAsked, IsClosed, AsksSo}
use Rattle.exchange_core.specs.Values.{CoreValue, Untaken, written, answered_by, answered_in, stepped}
use Rattle.gateway_model.specs.declared.input.When.{When}
use Rattle.gateway_model.specs.Acts.{Act, Opens, TurnsAway, Takes, Hears, Passes, Asks, Denies, Sends, Tells, GoesOn, GivesUp, Forgoes, Rests, Leaves, Misses, Served, Terms, IsAllTold, Ends, Does, DoesAll, at, continue_text}
use Rattle.gateway_model.specs.Emissions.{Emission, Says, Closed, GivenUp, Turned}
use Rattle.gateway_model.specs.Tellings.{IsMeant, AreMeant}
use Rattle.gateway_model.specs.Waiting.{AreApart}
use Rattle.gateway_model.proofs.Order.{all-append, all-as}
use Rattle.gateway_model.proofs.Apart.{at-seam, apart-answers}
use Rattle.gateway_model.proofs.Moves.{Whoever, Did, did-then, Aside, aside-none, aside-closed, aside-given-up, aside-turned, aside-goes-on, did-aside, did-step, did-send}
use Rattle.gateway_model.proofs.Taken.{did-take, did-forgo}
use Rattle.gateway_model.proofs.Moving.{denied-is}

-- a step that answers nothing

apart-none : (us vs : List Untaken) → vs ≡ [] → AreApart us → AreApart (us ++ vs)
apart-none us vs e h =
    subst AreApart (sym (ap (λ (ws : List Untaken). us ++ ws) e ∙ append-nil us)) h

did-quiet : (M : Terms) (G F : ℕ → Type 0) (t : ℕ) (old new : CoreValue) (S : State) (out : List Emission) → new ≡ stepped S old
    → (x : Adds t old.state S) → Aside G out → AreMeant M x.more
    → answered_in (length old.state.entries) x.more ≡ [] → Did M G F old out new
did-quiet M G F t old new S out e x aside meant none =
    did-step M G F t old new S out e x aside meant
    (λ h rest stands is waits. apart-none old.untaken (answered_in (length old.state.entries) x.more) none waits.apart)

did-opened : (M : Terms) (G F : ℕ → Type 0) (t : ℕ) (old new : CoreValue) (out : List Emission) → new ≡ stepped (opens_in_room t old.state) old
    → Aside G out → Did M G F old out new
did-opened M G F t old new out e aside =
    did-quiet M G F t old new (opens_in_room t old.state) out e x aside (meant (opens-alone t old.state x)) (none (opens-alone t old.state x))
  where
    x : Adds t old.state (opens_in_room t old.state)
    x = opens-add t old.state

    n : ℕ
    n = length old.state.entries

    meant : (x.more ≡ []) ⊎ ((x.more ≡ at_moment t (Opened old.state.opened) ∷ []) ⊎ (x.more ≡ at_moment t Seals ∷ []))
        → AreMeant M x.more
    meant (inl e) = subst (AreMeant M) (sym e) tt
    meant (inr (inl e)) = subst (AreMeant M) (sym e) (tt, tt)
    meant (inr (inr e)) = subst (AreMeant M) (sym e) (tt, tt)

    none : (x.more ≡ []) ⊎ ((x.more ≡ at_moment t (Opened old.state.opened) ∷ []) ⊎ (x.more ≡ at_moment t Seals ∷ []))
        → answered_in (length old.state.entries) x.more ≡ []
    none (inl e) = ap (answered_in (length old.state.entries)) e
    none (inr (inl e)) = ap (answered_in (length old.state.entries)) e
    none (inr (inr e)) = ap (answered_in (length old.state.entries)) e

abbrev shuts-add : (t c : ℕ) (S : State) → Adds t S (shuts t c S)
shuts-add t c S = record {
  given = refl;
  kept = refl;
  more = at_moment t (Shuts c) ∷ [];
  entries = refl;
  at = (refl, tt);
  own = (refl, tt);
  conns = refl;
}

did-closed : (M : Terms) (G F : ℕ → Type 0) (t c : ℕ) (old new : CoreValue) (out : List Emission) → IsClosed t c old new → Aside G out → Did M G F old out new
did-closed M G F t c old new out h aside =
    did-step M G F t old new (shuts t c old.state) out h.1 (shuts-add t c old.state) aside (tt, tt)
    (λ h rest stands is waits. apart-none old.untaken [] refl waits.apart)

-- a datagram or a tick

meant-deed : (M : Terms) (d : Deed) → by_client d ≡ false → IsMeant M d
meant-deed M (Opened c) e = tt
meant-deed M (Asked c a) e = absurd (differ e)
  where
    differ : true ≡ false → ⊥
    differ f = cc
meant-deed M (Sent p b w) e = tt
meant-deed M (Heard p b) e = tt
meant-deed M Passed e = tt
meant-deed M (Answers c k g) e = tt
meant-deed M (Shuts c) e = tt
meant-deed M Seals e = tt
meant-deed M (Carries number mark done) e = tt

meant-none : (M : Terms) (ws : List Written) → HasNoClient ws → AreMeant M ws
meant-none M [] h = tt
meant-none M (w ∷ ws) h = (meant-deed M w.deed h.0, meant-none M ws h.1)

did-hears : (M : Terms) (G F : ℕ → Type 0) (t : ℕ) (old new : CoreValue) (S : State) → old.untaken ≡ [] → new ≡ stepped S old
    → (x : Adds t old.state S) → HasNoClient x.more → Did M G F old [] new
did-hears M G F t old new S none e x free =
    did-step M G F t old new S [] e x (aside-none G) (meant-none M x.more free)
    (λ h rest stands is waits.
    subst (λ (us : List Untaken). AreApart (us ++ answered_in (length old.state.entries) x.more)) (sym none)
    (apart-answers h old.state.entries x.more rest stands is free))

-- an ask

ask-meant : (M : Terms) (k c : ℕ) (a : Ask) (d : Deed) → M.IsMeaning a → IsOfAsk k c a d → IsMeant M d
ask-meant M k c a (Opened x) m h = tt
ask-meant M k c a (Asked x b) m h = subst M.IsMeaning (sym h.1) m
ask-meant M k c a (Sent p b w) m h = tt
ask-meant M k c a (Heard p b) m h = tt
ask-meant M k c a Passed m h = tt
ask-meant M k c a (Answers x j g) m h = tt
ask-meant M k c a (Shuts x) m h = tt
ask-meant M k c a Seals m h = tt
ask-meant M k c a (Carries number mark done) m h = tt

asks-meant : (M : Terms) (k c : ℕ) (a : Ask) (ws : List Written) → M.IsMeaning a
    → AllByRecursion (λ (w : Written). IsOfAsk k c a w.deed) ws → AreMeant M ws
asks-meant M k c a [] m h = tt
asks-meant M k c a (w ∷ ws) m h = (ask-meant M k c a w.deed m h.0, asks-meant M k c a ws m h.1)

-- it is answered at most once
module _ (h : List Written) (stands : Stands h) (k c : ℕ) (a : Ask) where
  none-later : (i s : ℕ) (g : Grounds) (front ws rest : List Written) → IsEntry h i s (Answers c k g)
      → h ≡ front ++ (ws ++ rest) → i < length front → AllByRecursion (λ (w : Written). IsOfAsk k c a w.deed) ws
      → answered_in (length front) ws ≡ []
  none-later i s g front [] rest here is lt of = refl
  none-later i s g front (w ∷ ws) rest here is lt of =
      ap (λ (us : List Untaken). us ++ answered_in (length front + 1) ws) (none w.deed refl of.0)
      ∙ (ap (λ (n : ℕ). answered_in n ws) (sym len)
      ∙ none-later i s g (front ++ w ∷ []) ws rest here (is ∙ sym (append_assoc front (w ∷ []) (ws ++ rest))) (omega (arith, len, lt)) of.1)
    where
      len : length (front ++ w ∷ []) ≡ length front + 1
      len = length-append front (w ∷ [])

      there : slice_get h (length front) ≡ Some w
      there = ap (λ (q : List Written). slice_get q (length front)) is ∙ at-seam front w (ws ++ rest)

      none : (d : Deed) → w.deed ≡ d → IsOfAsk k c a d → answered_by (length front) d ≡ []
      none (Answers x j e) f o =
          let at_it : IsEntry h (length front) w.moment (Answers x k e) =
          subst (λ (j : ℕ). IsEntry h (length front) w.moment (Answers x j e)) o.1
          (there ∙ ap (λ (d : Deed). Some (written w.moment d)) f) in
          let same : i ≡ length front = answer-once h i (length front) s w.moment c x k g e stands here at_it in
          absurd (omega (arith, same, lt))
      none (Opened x) f o = refl
      none (Asked x b) f o = refl
      none (Sent p b t) f o = refl
      none (Heard p b) f o = refl
      none Passed f o = refl
      none (Shuts x) f o = refl
      none Seals f o = refl
      none (Carries number mark done) f o = refl

  own-with : (front : List Written) (w : Written) (ws rest : List Written) → h ≡ front ++ (w ∷ ws ++ rest)
      → AllByRecursion (λ (w : Written). IsOfAsk k c a w.deed) (w ∷ ws)
      → AreApart (answered_in (length (front ++ w ∷ [])) ws) → AreApart (answered_in (length front) (w ∷ ws))
  own-with front w ws rest is of after = go w.deed refl of.0
    where
      len : length (front ++ w ∷ []) ≡ length front + 1
      len = length-append front (w ∷ [])

      longer : h ≡ (front ++ w ∷ []) ++ (ws ++ rest)
      longer = is ∙ sym (append_assoc front (w ∷ []) (ws ++ rest))

      there : slice_get h (length front) ≡ Some w
      there = ap (λ (q : List Written). slice_get q (length front)) is ∙ at-seam front w (ws ++ rest)

      later : AreApart (answered_in (length front + 1) ws)
      later = subst (λ (n : ℕ). AreApart (answered_in n ws)) len after

      none : (x j : ℕ) (g : Grounds) → w.deed ≡ Answers x j g → (x ≡ c) × (j ≡ k) → answered_in (length front + 1) ws ≡ []
      none x j g e o =
          let here : IsEntry h (length front) w.moment (Answers c k g) =
          subst (λ (x : ℕ). IsEntry h (length front) w.moment (Answers x k g)) o.0
          (subst (λ (j : ℕ). IsEntry h (length front) w.moment (Answers x j g)) o.1
          (there ∙ ap (λ (d : Deed). Some (written w.moment d)) e)) in
          ap (λ (n : ℕ). answered_in n ws) (sym len)
          ∙ none-later (length front) w.moment g (front ++ w ∷ []) ws rest here longer (omega (arith, len)) of.1

      go : (d : Deed) → w.deed ≡ d → IsOfAsk k c a d → AreApart (answered_by (length front) d ++ answered_in (length front + 1) ws)
      go (Answers x j g) e o =
          subst (λ (us : List Untaken). AllByRecursion (λ (v : Untaken). x ≢ v.conn) us × AreApart us) (sym (none x j g e o)) (tt, tt)
      go (Opened x) e o = later
      go (Asked x b) e o = later
      go (Sent p b t) e o = later
      go (Heard p b) e o = later
      go Passed e o = later
      go (Shuts x) e o = later
      go Seals e o = later
      go (Carries number mark done) e o = later

  own-apart : (front ws rest : List Written) → h ≡ front ++ (ws ++ rest) → AllByRecursion (λ (w : Written). IsOfAsk k c a w.deed) ws
      → AreApart (answered_in (length front) ws)
  own-apart front [] rest is of = tt
  own-apart front (w ∷ ws) rest is of =
      own-with front w ws rest is of (own-apart (front ++ w ∷ []) ws rest (is ∙ sym (append_assoc front (w ∷ []) (ws ++ rest))) of.1)

  -- and by its connection
  own-conn : (n : ℕ) (ws : List Written) → AllByRecursion (λ (w : Written). IsOfAsk k c a w.deed) ws
      → AllByRecursion (λ (u : Untaken). u.conn ≡ c) (answered_in n ws)
  own-conn n [] of = tt
  own-conn n (w ∷ ws) of =
      all-append (λ (u : Untaken). u.conn ≡ c) (answered_by n w.deed) (answered_in (n + 1) ws) (one w.deed of.0) (own-conn (n + 1) ws of.1)
    where
      one : (d : Deed) → IsOfAsk k c a d → AllByRecursion (λ (u : Untaken). u.conn ≡ c) (answered_by n d)
      one (Answers x j g) o = (o.0, tt)
      one (Opened x) o = tt
      one (Asked x b) o = tt
      one (Sent p b t) o = tt
      one (Heard p b) o = tt
      one Passed o = tt
      one (Shuts x) o = tt
      one Seals o = tt
      one (Carries number mark done) o = tt

-- answers of other connections, and then those of one
apart-both : (c : ℕ) (us vs : List Untaken) → AllByRecursion (λ (u : Untaken). u.conn ≢ c) us → AllByRecursion (λ (v : Untaken). v.conn ≡ c) vs
    → AreApart us → AreApart vs → AreApart (us ++ vs)
apart-both c [] vs others own a b = b
apart-both c (u ∷ us) vs others own a b = (
  all-append (λ (v : Untaken). u.conn ≢ v.conn) us vs a.0
      (all-as (λ (v : Untaken). v.conn ≡ c) (λ (v : Untaken). u.conn ≢ v.conn) vs (λ v e f. others.0 (f ∙ e)) own),
  apart-both c us vs others.1 own a.1 b,
)

did-asks : (M : Terms) (G F : ℕ → Type 0) (t word c : ℕ) (a : Ask) (old new : CoreValue) → AsksSo t word c a old new → M.IsMeaning a → IsAllTold c old
    → Did M G F old [] new
did-asks M G F t word c a old new so meant told =
    let k : ℕ = length old.state.entries in
    let S : State = asks_in_room t c a so.numbers old.state in
    let x : Adds t old.state S = asks-add t c a so.numbers old.state in
    let of : AllByRecursion (λ (w : Written). IsOfAsk k c a w.deed) x.more = asks-answer t c a so.numbers old.state x in
    did-step M G F t old new S [] so.is x (aside-none G) (asks-meant M k c a x.more meant of)
    (λ h rest stands is waits.
    apart-both c old.untaken (answered_in k x.more) told (own-conn h stands k c a k x.more of)
    waits.apart (own-apart h stands k c a old.state.entries x.more rest is of))

-- an ask that the journal doesn't take adds the seal at most

record SealsAtMost (t : ℕ) (S S1 : State) : Type 0 where
  more : List Written
  entries : S1.entries ≡ S.entries ++ more
  are : (more ≡ []) ⊎ (more ≡ at_moment t Seals ∷ [])

denied-adds : (t c : ℕ) (a : Ask) (n : Numbers) (S : State) → (asks_in_room t c a n S).sealed ≡ true
    → SealsAtMost t S (asks_in_room t c a n S)
denied-adds t c a n S e = elim (denied-is t c a n S e) [
  | inl same ↦ subst (SealsAtMost t S) (sym same) (record { more = []; entries = sym (append-nil S.entries); are = inl refl })
  | inr seal ↦ subst (SealsAtMost t S) (sym seal) (record { more = at_moment t Seals ∷ []; entries = refl; are = inr refl })
]

pub did-denied : (M : Terms) (G F : ℕ → Type 0) (t word c : ℕ) (a : Ask) (old new : CoreValue) → IsAsked (Err Fault.Sealed) t word c a old new → M.IsMeaning a
    → Did M G F old [] new
did-denied M G F t word c a old new h meant = by h.2
  where
    none : (more : List Written) → (more ≡ []) ⊎ (more ≡ at_moment t Seals ∷ []) → answered_in (length old.state.entries) more ≡ []
    none more (inl e) = ap (answered_in (length old.state.entries)) e
    none more (inr e) = ap (answered_in (length old.state.entries)) e

    by : ((old.state.sealed ≡ true) × (new ≡ old)) ⊎ AsksSo t word c a old new → Did M G F old [] new
    by (inl same) = did-aside M G F old new [] same.1 (aside-none G)
    by (inr so) =
        let k : ℕ = length old.state.entries in
        let S : State = asks_in_room t c a so.numbers old.state in
        let x : Adds t old.state S = asks-add t c a so.numbers old.state in
        let q : SealsAtMost t old.state S =
        denied-adds t c a so.numbers old.state (sym (ap (λ (v : CoreValue). v.state.sealed) so.is) ∙ h.0) in
        let same : x.more ≡ q.more = append_cancel_left old.state.entries x.more q.more (sym x.entries ∙ q.entries) in
        did-quiet M G F t old new S [] so.is x (aside-none G)
        (asks-meant M k c a x.more meant (asks-answer t c a so.numbers old.state x))
        (ap (answered_in k) same ∙ none q.more q.are)

-- each act

did-ends : (M : Terms) (G F : ℕ → Type 0) (w : When) (c : ℕ) (b : Bool) (old : Served) (out : List Emission) (new : Served) → Ends w c b old out new
    → Did M G F old.core out new.core
did-ends M G F w c true old out new h =
    subst (λ (out : List Emission). Did M G F old.core out new.core) (sym h.1)
    (did-closed M G F (at w old) c old.core new.core (Closed c ∷ []) h.0.0 (aside-closed G c))
did-ends M G F w c false old out new h =
    subst (λ (out : List Emission). Did M G F old.core out new.core) (sym h.1)
    (did-aside M G F old.core new.core [] (ap (λ (s : Served). s.core) h.0) (aside-none G))

pub did-act : (M : Terms) (G F : ℕ → Type 0) (w : When) (a : Act) (goes : (c : ℕ) → a ≡ GoesOn c → G c)
    (free : (c k : ℕ) → a ≡ Forgoes c k → F c) (old : Served) (out : List Emission) (new : Served) → Does M w a old out new
    → Did M G F old.core out new.core
did-act M G F w (Opens c) goes free old out new h =
    subst (λ (out : List Emission). Did M G F old.core out new.core) (sym h.2)
    (did-opened M G F (at w old) old.core new.core [] h.0.1 (aside-none G))
did-act M G F w TurnsAway goes free old out new h =
    subst (λ (out : List Emission). Did M G F old.core out new.core) (sym h.2) (turned h.0)
  where
    turned : IsOpened (Err Open.Full) (at w old) old.core new.core ⊎ IsOpened (Err Open.Sealed) (at w old) old.core new.core
        → Did M G F old.core (Turned ∷ []) new.core
    turned (inl full) = did-aside M G F old.core new.core (Turned ∷ []) full.0 (aside-turned G)
    turned (inr sealed) = did-opened M G F (at w old) old.core new.core (Turned ∷ []) sealed.0 (aside-turned G)
did-act M G F w (Takes c bytes) goes free old out new h =
    subst (λ (out : List Emission). Did M G F old.core out new.core) (sym h.1)
    (did-aside M G F old.core new.core [] (ap (λ (s : Served). s.core) h.0) (aside-none G))
did-act M G F w (Hears p bytes) goes free old out new h =
    subst (λ (out : List Emission). Did M G F old.core out new.core) (sym h.2)
    (let S : State = hears_in_room (at w old) p bytes h.0.numbers old.core.state in
    let x : Adds (at w old) old.core.state S = hears-add (at w old) p bytes h.0.numbers old.core.state in
    did-hears M G F (at w old) old.core new.core S h.3 h.0.is x
    (hears-answer (at w old) p bytes h.0.numbers old.core.state x))
did-act M G F w Passes goes free old out new h =
    subst (λ (out : List Emission). Did M G F old.core out new.core) (sym h.1)
    (let x : Adds (at w old) old.core.state (ticks_in_room (at w old) old.core.state) = ticks-add (at w old) old.core.state in
    did-hears M G F (at w old) old.core new.core (ticks_in_room (at w old) old.core.state) h.2
    (ap (λ (s : Served). s.core) h.0) x (ticks-answer (at w old) old.core.state x))
did-act M G F w (Asks c) goes free old out new h =
    subst (λ (out : List Emission). Did M G F old.core out new.core) (sym h.1)
    (did-asks M G F (at w old) w.word c h.0.ask old.core new.core h.0.asked.2 h.0.reads.meant h.0.told)
did-act M G F w (Denies c) goes free old out new h =
    let mid : Served = h.0 in
    subst (λ (out : List Emission). Did M G F old.core out new.core) (sym h.3)
    (did-then M G F old.core mid.core new.core [] (Closed c ∷ [])
    (did-denied M G F (at w old) w.word c h.1.ask old.core mid.core h.1.denied h.1.reads.meant)
    (did-closed M G F (at w mid) c mid.core new.core (Closed c ∷ []) h.2.0 (aside-closed G c)))
did-act M G F w Sends goes free old out new h =
    subst (λ (out : List Emission). Did M G F old.core out new.core) (sym h.given)
    (did-send M G F old.core new.core h.datagram h.sent)
did-act M G F w (Tells c k) goes free old out new h =
    subst (λ (out : List Emission). Did M G F old.core out new.core) (sym h.given)
    (did-then M G F old.core h.told.core new.core (Says c (answer_text h.response) ∷ []) h.after
    (did-take M G F old.core h.told.core c k h.answer h.response h.conn h.taken h.tells)
    (did-ends M G F w c (closes h.answer.mapping.came) h.told h.after new h.ends))
did-act M G F w (GoesOn c) goes free old out new h =
    subst (λ (out : List Emission). Did M G F old.core out new.core) (sym h.2)
    (did-aside M G F old.core new.core (Says c continue_text ∷ []) h.1 (aside-goes-on G c (goes c refl)))
did-act M G F w (GivesUp c) goes free old out new h =
    subst (λ (out : List Emission). Did M G F old.core out new.core) (sym h.1)
    (did-closed M G F (at w old) c old.core new.core (GivenUp c ∷ []) h.0.0 (aside-given-up G c))
did-act M G F w (Forgoes c k) goes free old out new h =
    let mid : Served = h.0 in
    subst (λ (out : List Emission). Did M G F old.core out new.core) (sym h.3)
    (did-then M G F old.core mid.core new.core [] (GivenUp c ∷ [])
    (did-forgo M G F old.core mid.core k h.1.answer (subst F (sym h.1.own) (free c k refl)) h.1.taken)
    (did-closed M G F (at w mid) c mid.core new.core (GivenUp c ∷ []) h.2.0 (aside-given-up G c)))
did-act M G F w (Rests c) goes free old out new h =
    subst (λ (out : List Emission). Did M G F old.core out new.core) (sym h.1)
    (did-aside M G F old.core new.core [] h.0 (aside-none G))
did-act M G F w (Leaves c) goes free old out new h =
    subst (λ (out : List Emission). Did M G F old.core out new.core) (sym h.1)
    (did-closed M G F (at w old) c old.core new.core [] h.0.0 (aside-none G))
did-act M G F w (Misses c) goes free old out new h =
    subst (λ (out : List Emission). Did M G F old.core out new.core) (sym h.1)
    (did-aside M G F old.core new.core [] (ap (λ (s : Served). s.core) h.0) (aside-none G))

-- those whose answers acts forgo
abbrev pub MayForgo : (ℕ → Type 0) → Act → Type 0
MayForgo F (Forgoes c k) = F c
MayForgo F _ = ⊤

pub forgoes-as : (F : ℕ → Type 0) (a : Act) → MayForgo F a → (c k : ℕ) → a ≡ Forgoes c k → F c
forgoes-as F a h c k e = subst (MayForgo F) e h

pub did-all : (M : Terms) (F : ℕ → Type 0) (w : When) (acts : List Act) (old : Served) (out : List Emission) (new : Served)
    → AllByRecursion (MayForgo F) acts → DoesAll M w acts old out new → Did M Whoever F old.core out new.core
did-all M F w [] old out new f h =
    subst (λ (out : List Emission). Did M Whoever F old.core out new.core) (sym h.1)
    (did-aside M Whoever F old.core new.core [] (ap (λ (s : Served). s.core) h.0) (aside-none Whoever))
did-all M F w (a ∷ acts) old out new f h =
    subst (λ (out : List Emission). Did M Whoever F old.core out new.core) (sym h.5)
    (did-then M Whoever F old.core h.0.core new.core h.1 h.2
    (did-act M Whoever F w a (λ c e. tt) (forgoes-as F a f.0) old h.1 h.0 h.3)
    (did-all M F w acts h.0 h.2 new f.1 h.4))
