-- A connection lives while one journal is added to.
use Rattle.std.proofs.Common.{◌≡◌, ◌⊎◌, inl, inr, ℕ, ◌+◌, ◌<◌, ◌≤◌, Bool, true, false, cond, List, [], ◌∷◌, ◌++◌, map, Option, Some, None, refl, sym, ap, ◌∙◌, subst, arith, eq-eqb}
use Rattle.std.specs.Prelude.{◌==◌, nat_lt}
use Rattle.std.specs.List.{AllByRecursion}
use Rattle.std.proofs.lemmas.Bool.{both_ways, ltb-false, ltb-true}
use Rattle.std.proofs.lemmas.List.{append-nil, append_assoc}
use Rattle.media_map.specs.declared.form.Form.{Form}
use Rattle.ask_model.specs.Views.{Rules}
use Rattle.journal_book.specs.Entries.{Written}
use Rattle.history_laws.proofs.CallerLemmas.{none-some}
use Rattle.exchange_model.specs.declared.kept.Conn.{Conn}
use Rattle.exchange_model.specs.State.{State}
use Rattle.exchange_model.specs.Resting.{HasConn}
use Rattle.exchange_core.specs.Values.{CoreValue}
use Rattle.gateway_model.specs.declared.input.Input.{Input}
use Rattle.gateway_model.specs.Acts.{at}
use Rattle.gateway_model.specs.Asking.{Begins}
use Rattle.gateway_model.specs.Closing.{IsNotTo}
use Rattle.gateway_model.specs.Emissions.{Emission, Says, Goes, Closed, GivenUp, Turned, Rotated, Unrotated}
use Rattle.gateway_model.specs.Resting.{number_of}
use Rattle.gateway_model.specs.Rotating.{Rotates}
use Rattle.gateway_model.specs.Tellings.{terms_of}
use Rattle.gateway_model.specs.Unasked.{Unasked, unasked_at, unasked_in}
use Rattle.gateway_model.specs.Waiting.{conn_id}
use Rattle.gateway_model.proofs.CallerLemmas.{all-append, AreNoJournals, IsNoJournal, input-silent, rotation-is}
use Rattle.gateway_world.specs.Inputs.{Takes, TakesActs, TakesRotation, TakesAll}
use Rattle.gateway_world.specs.Journals.{Part, gives_first, parts_of, IsSilent, LivesOnce, AllLiveOnce}
use Rattle.gateway_world.specs.Worlds.{WorldValue, IsAtRest, new_world, served_in, when_in, with_memory}
use Rattle.gateway_world.proofs.Memories.{at-rest-memory}
use Rattle.gateway_world.proofs.Parted.{add_first, handled-none, parts-first}
use Rattle.gateway_world.proofs.Promises.{none-unasked}

-- Who has no bytes that aren't asked isn't connected.

abbrev first_of : List ℕ → ℕ
first_of [] = 0
first_of (n ∷ ns) = n

abbrev others_of : List ℕ → List ℕ
others_of [] = []
others_of (n ∷ ns) = ns

listed-one : (c : ℕ) (x : Unasked) (y : Conn) (xs : List Unasked) (cs : List Conn) (p : Option ℕ) (b : Bool) → (x.number == c) ≡ b
    → x.number ≡ y.id → cond b (Some x) (unasked_at c xs) ≡ None → ((y.id ≡ c) × (y.pending ≡ p)) ⊎ HasConn cs c p
    → (unasked_at c xs ≡ None → HasConn cs c p → ⊥) → ⊥
listed-one c x y xs cs p true t same none h rest = none-some x (sym none)
listed-one c x y xs cs p false t same none (inl h) rest = both_ways (x.number == c) t (eq-eqb x.number c (same ∙ h.0))
listed-one c x y xs cs p false t same none (inr h) rest = rest none h

not-listed : (c : ℕ) (xs : List Unasked) (cs : List Conn) → map number_of xs ≡ map conn_id cs → unasked_at c xs ≡ None
    → (p : Option ℕ) → HasConn cs c p → ⊥
not-listed c [] [] e none p h = h
not-listed c [] (y ∷ cs) e none p h = absurd cc
not-listed c (x ∷ xs) [] e none p h = h
not-listed c (x ∷ xs) (y ∷ cs) e none p h =
    listed-one c x y xs cs p (x.number == c) refl (ap first_of e) none h (λ n k. not-listed c xs cs (ap others_of e) n p k)

less-or-not : (a b : ℕ) → (a < b) ⊎ (b ≤ a)
less-or-not a b = by (nat_lt a b) refl
  where
    by : (t : Bool) → nat_lt a b ≡ t → (a < b) ⊎ (b ≤ a)
    by true e = inl (ltb-true a b e)
    by false e = inr (ltb-false a b e)

module _ (holds : Form → Form → List ℕ → List ℕ → Type 0) (takes : Form → Form → List ℕ → Type 0) (c : ℕ) where
  abbrev Silent : List Emission → Type 0
  Silent out = AllByRecursion (IsNotTo c) out

  abbrev IsAway : WorldValue → Type 0
  IsAway w = unasked_at c (served_in w).unasked ≡ None

  -- it didn't open yet, or it was closed
  abbrev Waits : WorldValue → Type 0
  Waits w = (w.core.state.opened ≤ c) × IsAway w

  abbrev Left : WorldValue → Type 0
  Left w = (c < w.core.state.opened) × IsAway w

  acts-silent : (i : Input) (a b : WorldValue) (out : List Emission) → TakesActs holds takes i a out b → IsAtRest a → IsAway a → Silent out
  acts-silent i a b out k rest away =
      let acts = k.handles.acts in
      subst Silent (sym acts.added)
      (input-silent (terms_of holds takes a.rules) (when_in a i) i.happening acts.acts (served_in a) acts.given (served_in b) acts.done acts.order
      rest.drained.answers k.rests.drained.answers c
      (not-listed c (served_in a).unasked a.core.state.conns rest.rests.numbered away)
      (λ u e. none-some u (sym away ∙ e)))

  acts-left : (i : Input) (a b : WorldValue) (out : List Emission) → TakesActs holds takes i a out b → Left a → Left b
  acts-left i a b out k left = (
    (let lt = left.0 in let le = k.asks.opened in omega (arith, lt, le)),
    by ((k.asks.each c).gone left.1).1,
  )
    where
      by : (unasked_at c (served_in b).unasked ≡ None) ⊎ Begins c i.happening (served_in a) (served_in b) → IsAway b
      by (inl e) = e
      by (inr begins) = absurd (let e = begins.fresh in let lt = left.0 in omega (arith, e, lt))

  acts-wait : (i : Input) (a b : WorldValue) (out : List Emission) → TakesActs holds takes i a out b → Waits a
      → Waits b ⊎ (c < b.core.state.opened)
  acts-wait i a b out k waits = by ((k.asks.each c).gone waits.1).1
    where
      on : IsAway b → (c < b.core.state.opened) ⊎ (b.core.state.opened ≤ c) → Waits b ⊎ (c < b.core.state.opened)
      on e (inl lt) = inr lt
      on e (inr le) = inl (le, e)

      by : (unasked_at c (served_in b).unasked ≡ None) ⊎ Begins c i.happening (served_in a) (served_in b)
          → Waits b ⊎ (c < b.core.state.opened)
      by (inl e) = on e (less-or-not c b.core.state.opened)
      by (inr begins) = inr (let o = begins.opened in omega (arith, o))

  -- Where the journal is to be given out numbers stay, and nothing is said.

  rotates-opened : (i : Input) (a b : WorldValue) (out : List Emission) → TakesRotation holds takes i a out b
      → b.core.state.opened ≡ a.core.state.opened
  rotates-opened i a b out k = by k.rotates
    where
      by : Rotates (at (when_in a i) (served_in a)) a.core out b.core → b.core.state.opened ≡ a.core.state.opened
      by (inl r) =
          ap (λ (S : State). S.opened)
          (rotation-is (at (when_in a i) (served_in a)) a.core.state a.core.state.entries b.core.state r.turned.is).is
      by (inr u) = ap (λ (v : CoreValue). v.state.opened) u.same

  rotates-silent : (i : Input) (a b : WorldValue) (out : List Emission) → TakesRotation holds takes i a out b → Silent out
  rotates-silent i a b out k = by k.rotates
    where
      by : Rotates (at (when_in a i) (served_in a)) a.core out b.core → Silent out
      by (inl r) = subst Silent (sym r.given) (tt, tt)
      by (inr u) = subst Silent (sym u.given) (tt, tt)

  rotates-away : (i : Input) (a b : WorldValue) (out : List Emission) → TakesRotation holds takes i a out b → IsAway a → IsAway b
  rotates-away i a b out k away = ap (λ xs. unasked_at c (unasked_in xs)) k.inlets ∙ away

  -- Who was closed is told nothing any more.

  left-one : (i : Input) (a b : WorldValue) (out : List Emission) → Takes holds takes i a out b → IsAtRest a → Left a → Silent out × Left b
  left-one i a b out (inl k) rest left = (acts-silent i a b out k rest left.1, acts-left i a b out k left)
  left-one i a b out (inr k) rest left = (
    rotates-silent i a b out k,
    (
      (let lt = left.0 in let e = rotates-opened i a b out k in omega (arith, lt, e)),
      rotates-away i a b out k left.1,
    ),
  )

  at-rest : (i : Input) (a b : WorldValue) (out : List Emission) → Takes holds takes i a out b → IsAtRest b
  at-rest i a b out (inl k) = k.rests
  at-rest i a b out (inr k) = k.rests

  left-all : (is : List Input) (a b : WorldValue) (out : List Emission) → Left a → IsAtRest a → TakesAll holds takes is a out b → Silent out
  left-all [] a b out left rest run = subst Silent (sym run.2) tt
  left-all (i ∷ is) a b out left rest run =
      let now : WorldValue = with_memory run.0 a in
      let one = left-one i now run.1 run.2 run.4 (at-rest-memory run.0 a rest) left in
      subst Silent (sym run.6)
      (all-append (IsNotTo c) run.2 run.3 one.0
      (left-all is run.1 b run.3 one.1 (at-rest i now run.1 run.2 run.4) run.5))

  gives-silent : (e : Emission) (ps : List Part) → IsNotTo c e → AllByRecursion (IsSilent c) ps → AllByRecursion (IsSilent c) (gives_first e ps)
  gives-silent e [] n h = tt
  gives-silent e (p ∷ ps) n h = ((n, h.0), h.1)

  parts-silent : (out : List Emission) (last : List Written) → Silent out → AllByRecursion (IsSilent c) (parts_of out last)
  parts-silent [] last h = (tt, tt)
  parts-silent (Says d bytes ∷ out) last h = gives-silent (Says d bytes) (parts_of out last) h.0 (parts-silent out last h.1)
  parts-silent (Goes d ∷ out) last h = gives-silent (Goes d) (parts_of out last) tt (parts-silent out last h.1)
  parts-silent (Closed d ∷ out) last h = gives-silent (Closed d) (parts_of out last) h.0 (parts-silent out last h.1)
  parts-silent (GivenUp d ∷ out) last h = gives-silent (GivenUp d) (parts_of out last) h.0 (parts-silent out last h.1)
  parts-silent (Turned ∷ out) last h = gives-silent Turned (parts_of out last) tt (parts-silent out last h.1)
  parts-silent (Rotated g ∷ out) last h = (tt, parts-silent out last h.1)
  parts-silent (Unrotated fault ∷ out) last h = gives-silent (Unrotated fault) (parts_of out last) tt (parts-silent out last h.1)

  -- So far, where this was given out since the journal began: nothing was said to it, or it opened.
  abbrev SoFar : List Emission → WorldValue → Type 0
  SoFar before w = (Waits w × Silent before) ⊎ (c < w.core.state.opened)

  module _ (last : List Written) where
    abbrev Follows : WorldValue → List Emission → Type 0
    Follows mid rest = (before : List Emission) → SoFar before mid → AreNoJournals before → LivesOnce c (parts_of (before ++ rest) last)

    acts-once : (i : Input) (a mid : WorldValue) (first rest before : List Emission) → SoFar before a → IsAtRest a
        → AreNoJournals before → TakesActs holds takes i a first mid → Follows mid rest
        → LivesOnce c (parts_of (before ++ (first ++ rest)) last)
    acts-once i a mid first rest before far rests none k go =
        subst (λ (es : List Emission). LivesOnce c (parts_of es last)) (append_assoc before first rest)
        (go (before ++ first) (by far) (all-append IsNoJournal before first none (handled-none (terms_of holds takes a.rules) i a mid first k.handles)))
      where
        on : Silent before → Silent first → Waits mid ⊎ (c < mid.core.state.opened) → SoFar (before ++ first) mid
        on quiet more (inl waits) = inl (waits, all-append (IsNotTo c) before first quiet more)
        on quiet more (inr lt) = inr lt

        by : SoFar before a → SoFar (before ++ first) mid
        by (inl s) = on s.1 (acts-silent i a mid first k rests s.0.1) (acts-wait i a mid first k s.0)
        by (inr lt) = inr (let le = k.asks.opened in omega (arith, lt, le))

    rotates-once : (i : Input) (a mid : WorldValue) (first rest before : List Emission) → SoFar before a
        → AreNoJournals before → TakesRotation holds takes i a first mid → Follows mid rest → (Left mid → Silent rest)
        → LivesOnce c (parts_of (before ++ (first ++ rest)) last)
    rotates-once i a mid first rest before far none k go quiet = by k.rotates
      where
        opened : mid.core.state.opened ≡ a.core.state.opened
        opened = rotates-opened i a mid first k

        waits : Waits a → Waits mid
        waits w = ((let le = w.0 in omega (arith, le, opened)), rotates-away i a mid first k w.1)

        by : Rotates (at (when_in a i) (served_in a)) a.core first mid.core → LivesOnce c (parts_of (before ++ (first ++ rest)) last)
        by (inl r) =
            let now : ℕ = at (when_in a i) (served_in a) in
            let next = rotation-is now a.core.state a.core.state.entries mid.core.state r.turned.is in
            let alone : (served_in mid).unasked ≡ [] =
            none-unasked (served_in mid).unasked (k.rests.rests.numbered ∙ ap (λ (S : State). map conn_id S.conns) next.is) in
            subst (λ (es : List Emission). LivesOnce c (parts_of (before ++ (es ++ rest)) last)) (sym r.given)
            (subst (LivesOnce c) (sym (parts-first before (Rotated a.core.state.entries ∷ rest) last none))
            (on far (ap (unasked_at c) alone)))
          where
            on : SoFar before a → IsAway mid → LivesOnce c (add_first before (parts_of (Rotated a.core.state.entries ∷ rest) last))
            on (inl s) away =
                inl (
                  subst Silent (sym (append-nil before)) s.1,
                  go [] (inl (waits s.0, tt)) tt,
                )
            on (inr lt) away = inr (parts-silent rest last (quiet ((let e = opened in omega (arith, lt, e)), away)))
        by (inr u) =
            subst (λ (es : List Emission). LivesOnce c (parts_of es last)) (append_assoc before first rest)
            (go (before ++ first) (so far) (all-append IsNoJournal before first none (subst AreNoJournals (sym u.given) (tt, tt))))
          where
            so : SoFar before a → SoFar (before ++ first) mid
            so (inl s) = inl (waits s.0, all-append (IsNotTo c) before first s.1 (rotates-silent i a mid first k))
            so (inr lt) = inr (let e = opened in omega (arith, lt, e))

    once-step : (i : Input) (a mid : WorldValue) (first rest before : List Emission) → SoFar before a → IsAtRest a
        → AreNoJournals before → Takes holds takes i a first mid → Follows mid rest → (Left mid → Silent rest)
        → LivesOnce c (parts_of (before ++ (first ++ rest)) last)
    once-step i a mid first rest before far rests none (inl k) go quiet = acts-once i a mid first rest before far rests none k go
    once-step i a mid first rest before far rests none (inr k) go quiet = rotates-once i a mid first rest before far none k go quiet

    one-part : (before : List Emission) → AreNoJournals before → LivesOnce c (parts_of (before ++ []) last)
    one-part before none = subst (LivesOnce c) (sym (parts-first before [] last none)) (inr tt)

    once-so : (is : List Input) (a b : WorldValue) (out before : List Emission) → SoFar before a → IsAtRest a
        → AreNoJournals before → TakesAll holds takes is a out b → LivesOnce c (parts_of (before ++ out) last)
    once-so [] a b out before far rests none run =
        subst (λ (es : List Emission). LivesOnce c (parts_of (before ++ es) last)) (sym run.2) (one-part before none)
    once-so (i ∷ is) a b out before far rests none run =
        let now : WorldValue = with_memory run.0 a in
        subst (λ (es : List Emission). LivesOnce c (parts_of (before ++ es) last)) (sym run.6)
        (once-step i now run.1 run.2 run.3 before far (at-rest-memory run.0 a rests) none run.4
        (λ since sofar quiet. once-so is run.1 b run.3 since sofar (at-rest i now run.1 run.2 run.4) quiet run.5)
        (λ left. left-all is run.1 b run.3 left (at-rest i now run.1 run.2 run.4) run.5))

pub run-lives : (holds : Form → Form → List ℕ → List ℕ → Type 0) (takes : Form → Form → List ℕ → Type 0) (rules : Rules)
    (is : List Input) (old new : WorldValue) (out : List Emission) (last : List Written) → old ≡ new_world rules → IsAtRest old
    → TakesAll holds takes is old out new → AllLiveOnce out last
run-lives holds takes rules is old new out last e rests run c =
    once-so holds takes c last is old new out []
    (inl (
      subst (λ (w : WorldValue). (w.core.state.opened ≤ c) × (unasked_at c (served_in w).unasked ≡ None)) (sym e) (zero-least c, refl),
      tt,
    ))
    rests tt run
  where
    zero-least : (n : ℕ) → 0 ≤ n
    zero-least n = omega arith
