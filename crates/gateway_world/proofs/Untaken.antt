-- Which answers wait.
use Rattle.std.proofs.Common.{◌≡◌, ◌≢◌, ℕ, zero, suc, ◌+◌, ◌<◌, ◌≤◌, Bool, true, false, cond, not, List, [], ◌∷◌, ◌++◌, length, drop, refl, sym, ap, subst, ◌∙◌, arith, eq-eqb}
use Rattle.std.specs.Prelude.{◌==◌, slice_get, Some}
use Rattle.std.specs.List.{AllByRecursion, Contains, filter}
use Rattle.std.proofs.Math.Seq.{drop-append_seam}
use Rattle.std.proofs.lemmas.Bool.{eqb-false, both_ways}
use Rattle.std.proofs.lemmas.List.{append-nil}
use Rattle.std.proofs.lemmas.List.Elements.{filter-append}
use Rattle.history_laws.proofs.CallerLemmas.{some-is}
use Rattle.ask_model.specs.Views.{Ask}
use Rattle.journal_book.specs.Entries.{Deed, Opens, Asks, Sends, Hears, Passes, Answers, Shuts, Seals, Carries, Written}
use Rattle.exchange_model.specs.State.{State}
use Rattle.exchange_model.specs.Growing.{Adds, IsOfAsk}
use Rattle.exchange_model.specs.Sealing.{asks_in_room}
use Rattle.exchange_model.proofs.CallerLemmas.{asks-add, asks-answer}
use Rattle.exchange_core.specs.Calls.{AsksSo}
use Rattle.exchange_core.specs.Serving.{AreOlder, IsFirst}
use Rattle.exchange_core.specs.Taking.{is_to_other}
use Rattle.exchange_core.specs.Values.{Untaken, CoreValue, answered_by, answered_in}
use Rattle.gateway_world.specs.Engines.{IsAskOf}
use Rattle.gateway_model.proofs.CallerLemmas.{all-append, all-as, stay-one}

abbrev pub not_to : ℕ → Untaken → Bool
not_to k u = not (u.ask == k)

-- none of them is to the ask
pub others-stay : (k : ℕ) (us : List Untaken) → AllByRecursion (is_to_other k) us → filter (not_to k) us ≡ us
others-stay k [] h = refl
others-stay k (u ∷ us) h =
    stay-one (u.ask == k) k u us (filter (not_to k) us) refl h.0 (others-stay k us h.1)

pub older-others : (k : ℕ) (us : List Untaken) → AreOlder k us → AllByRecursion (is_to_other k) us
older-others k us h = all-as (λ (u : Untaken). u.ask < k) (is_to_other k) us (λ u lt e. absurd (below u.ask k lt e)) h
  where
    below : (a b : ℕ) → a < b → a ≡ b → ⊥
    below a b lt e = omega arith

go-one : (b : Bool) (k : ℕ) (u : Untaken) (vs : List Untaken) → (u.ask == k) ≡ b → u.ask ≡ k → vs ≡ []
    → cond (not b) (u ∷ vs) vs ≡ []
go-one true k u vs t is e = e
go-one false k u vs t is e = absurd (both_ways (u.ask == k) t (eq-eqb u.ask k is))

-- all of them are
pub own-go : (k : ℕ) (us : List Untaken) → AllByRecursion (λ (u : Untaken). u.ask ≡ k) us → filter (not_to k) us ≡ []
own-go k [] h = refl
own-go k (u ∷ us) h = go-one (u.ask == k) k u (filter (not_to k) us) refl h.0 (own-go k us h.1)

-- what the step of an ask adds

answered-deed : (n k c : ℕ) (a : Ask) (d : Deed) → IsOfAsk k c a d
    → AllByRecursion (λ (u : Untaken). u.ask ≡ k) (answered_by n d)
answered-deed n k c a (Opens x) h = tt
answered-deed n k c a (Asks x b) h = tt
answered-deed n k c a (Sends p bytes timeout) h = tt
answered-deed n k c a (Hears p bytes) h = tt
answered-deed n k c a Passes h = tt
answered-deed n k c a (Answers x j g) h = (h.1, tt)
answered-deed n k c a (Shuts x) h = tt
answered-deed n k c a Seals h = tt
answered-deed n k c a (Carries number mark done) h = tt

answered-own : (n k c : ℕ) (a : Ask) (ws : List Written) → AllByRecursion (λ (w : Written). IsOfAsk k c a w.deed) ws
    → AllByRecursion (λ (u : Untaken). u.ask ≡ k) (answered_in n ws)
answered-own n k c a [] h = tt
answered-own n k c a (w ∷ ws) h =
    all-append (λ (u : Untaken). u.ask ≡ k) (answered_by n w.deed) (answered_in (n + 1) ws)
    (answered-deed n k c a w.deed h.0) (answered-own (n + 1) k c a ws h.1)

-- Once the answer to the ask is let go, what waited before is what waits.
pub ask-let-go : (t word c : ℕ) (a : Ask) (old new : CoreValue) → AsksSo t word c a old new
    → AreOlder (length old.state.entries) old.untaken
    → filter (not_to (length old.state.entries)) new.untaken ≡ old.untaken
ask-let-go t word c a old new h older =
    let k : ℕ = length old.state.entries in
    let S : State = asks_in_room t c a h.numbers old.state in
    let x : Adds t old.state S = asks-add t c a h.numbers old.state in
    let more : drop k S.entries ≡ x.more =
    ap (drop k) x.entries ∙ drop-append_seam old.state.entries x.more in
    let is : new.untaken ≡ old.untaken ++ answered_in k x.more =
    ap (λ (v : CoreValue). v.untaken) h.is
    ∙ ap (λ (ws : List Written). old.untaken ++ answered_in k ws) more in
    let own : AllByRecursion (λ (u : Untaken). u.ask ≡ k) (answered_in k x.more) =
    answered-own k k c a x.more (asks-answer t c a h.numbers old.state x) in
    ap (filter (not_to k)) is
    ∙ (filter-append (not_to k) old.untaken (answered_in k x.more)
    ∙ (ap (λ (us : List Untaken). us ++ filter (not_to k) (answered_in k x.more)) (others-stay k old.untaken (older-others k old.untaken older))
    ∙ (ap (λ (us : List Untaken). old.untaken ++ us) (own-go k (answered_in k x.more) own)
    ∙ append-nil old.untaken)))

-- the ask's own entry

abbrev pub IsAskBy : ℕ → Written → Type 0
IsAskBy c w = (t d : ℕ) (a : Ask) → w ≡ record { moment = t; deed = Asks d a } → d ≡ c

stands-in : (c : ℕ) (h ws : List Written) (w : Written) → AllByRecursion (IsAskBy c) ws
    → slice_get (h ++ ws) (length h) ≡ Some w → IsAskBy c w
stands-in c [] [] w all e = absurd (none-some w e)
  where
    none-some : (z : Written) → slice_get [] 0 ≡ Some z → ⊥
    none-some z e = cc
stands-in c [] (x ∷ ws) w all e = subst (IsAskBy c) (some-is x w e) all.0
stands-in c (y ∷ h) ws w all e = stands-in c h ws w all e

by-deed : (k c : ℕ) (a : Ask) (w : Written) → IsOfAsk k c a w.deed → IsAskBy c w
by-deed k c a w h t d b e =
    (subst (λ (z : Written). IsOfAsk k c a z.deed) e h).0

pub ask-of : (t word c : ℕ) (a : Ask) (old new : CoreValue) → AsksSo t word c a old new
    → IsAskOf c (length old.state.entries) new.state.entries
ask-of t word c a old new h =
    let k : ℕ = length old.state.entries in
    let x : Adds t old.state (asks_in_room t c a h.numbers old.state) = asks-add t c a h.numbers old.state in
    let is : new.state.entries ≡ old.state.entries ++ x.more = ap (λ (v : CoreValue). v.state.entries) h.is ∙ x.entries in
    let all : AllByRecursion (IsAskBy c) x.more =
    all-as (λ (w : Written). IsOfAsk k c a w.deed) (IsAskBy c) x.more (λ w. by-deed k c a w)
    (asks-answer t c a h.numbers old.state x) in
    record {
      by = λ m d b e. stands-in c old.state.entries x.more (record { moment = m; deed = Asks d b }) all
          (ap (λ (ws : List Written). slice_get ws k) (sym is) ∙ e) m d b refl;
    }

-- the first is taken

rest-one : (b : Bool) (k : ℕ) (u : Untaken) (us : List Untaken) → (u.ask == k) ≡ b → k ≤ u.ask
    → IsFirst (k + 1) us → IsFirst (k + 1) (cond (not b) (u ∷ us) us)
rest-one true k u us t le h = h
rest-one false k u us t le h = (above (u.ask == k) refl, h)
  where
    above : (b : Bool) → (u.ask == k) ≡ b → k + 1 ≤ u.ask
    above true s = absurd (both_ways (u.ask == k) t s)
    above false s = let ne : u.ask ≢ k = eqb-false u.ask k s in omega arith

pub rest-after : (k : ℕ) (us : List Untaken) → IsFirst k us → IsFirst (k + 1) (filter (not_to k) us)
rest-after k [] h = tt
rest-after k (u ∷ us) h = rest-one (u.ask == k) k u (filter (not_to k) us) refl h.0 (rest-after k us h.1)

at-most-one : (b : Bool) (u : Untaken) (n : ℕ) (vs : List Untaken) → length vs ≤ n → length (cond b (u ∷ vs) vs) ≤ suc n
at-most-one true u n vs h = omega arith
at-most-one false u n vs h = omega arith

at-most : (k : ℕ) (us : List Untaken) → length (filter (not_to k) us) ≤ length us
at-most k [] = omega arith
at-most k (u ∷ us) = at-most-one (not (u.ask == k)) u (length us) (filter (not_to k) us) (at-most k us)

less-one : (b : Bool) (k : ℕ) (u : Untaken) (n : ℕ) (vs : List Untaken) → (u.ask == k) ≡ b → u.ask ≡ k → length vs ≤ n
    → length (cond (not b) (u ∷ vs) vs) < suc n
less-one true k u n vs t is h = omega arith
less-one false k u n vs t is h = absurd (both_ways (u.ask == k) t (eq-eqb u.ask k is))

less-more : (b : Bool) (u : Untaken) (n : ℕ) (vs : List Untaken) → length vs < n → length (cond b (u ∷ vs) vs) < suc n
less-more true u n vs h = omega arith
less-more false u n vs h = omega arith

pub fewer : (c k n : ℕ) (us : List Untaken) → Contains us (record { conn = c; ask = k; number = n })
    → length (filter (not_to k) us) < length us
fewer c k n [] (i, lt, e) = absurd (omega (arith, lt))
fewer c k n (u ∷ us) (zero, lt, e) =
    less-one (u.ask == k) k u (length us) (filter (not_to k) us) refl (ap (λ (v : Untaken). v.ask) e) (at-most k us)
fewer c k n (u ∷ us) (suc i, lt, e) =
    less-more (not (u.ask == k)) u (length us) (filter (not_to k) us) (fewer c k n us (i, omega (arith, lt), e))

-- what holds of all of them

pub filter-all : (P : Untaken → Type 0) (k : ℕ) (us : List Untaken) → AllByRecursion P us → AllByRecursion P (filter (not_to k) us)
filter-all P k [] h = tt
filter-all P k (u ∷ us) h = one (not (u.ask == k)) (filter-all P k us h.1)
  where
    one : (b : Bool) → AllByRecursion P (filter (not_to k) us) → AllByRecursion P (cond b (u ∷ filter (not_to k) us) (filter (not_to k) us))
    one true rest = (h.0, rest)
    one false rest = rest

pub all-at : (P : Untaken → Type 0) (v : Untaken) (us : List Untaken) → AllByRecursion P us → Contains us v → P v
all-at P v [] h (i, lt, e) = absurd (omega (arith, lt))
all-at P v (u ∷ us) h (zero, lt, e) = subst P e h.0
all-at P v (u ∷ us) h (suc i, lt, e) = all-at P v us h.1 (i, omega (arith, lt), e)
