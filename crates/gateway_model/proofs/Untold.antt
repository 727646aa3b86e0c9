-- Of the answers that wait to be told no two are to one connection.
use Rattle.std.proofs.Common.{◌≡◌, ◌≢◌, inl, inr, ℕ, zero, suc, ◌+◌, Bool, true, false, cond, not, List, [], ◌∷◌, ◌++◌, map, Option, Some, None, refl, sym, ap, ◌∙◌, subst, arith, eq-eqb}
use Rattle.std.specs.Prelude.{◌==◌, ⊤}
use Rattle.std.specs.List.{AllByRecursion, Contains, filter}
use Rattle.std.proofs.lemmas.Bool.{both_ways}
use Rattle.history_laws.proofs.CallerLemmas.{all-of, none-some}
use Rattle.ask_model.specs.Views.{Ask}
use Rattle.journal_book.specs.Entries.{Deed, Opens, Asks, Sends, Hears, Passes, Answers, Shuts, Seals, Carries, Written}
use Rattle.exchange_model.specs.declared.kept.Conn.{Conn}
use Rattle.exchange_model.specs.State.{pend, conns_after}
use Rattle.exchange_model.specs.Resting.{HasConn}
use Rattle.exchange_model.specs.Growing.{IsOfAsk}
use Rattle.exchange_core.specs.Values.{Untaken, answered_by, answered_in}
use Rattle.gateway_model.specs.Waiting.{AreApart}
use Rattle.gateway_model.proofs.Awaiting.{IsToTell, told-after}
use Rattle.gateway_model.proofs.Moving.{IsAwaited, AreAwaited, IsInner, AreInner}
use Rattle.gateway_model.proofs.Order.{all-append, all-as}

-- the answers are to others
abbrev pub AreToOthers : ℕ → List Untaken → Type 0
AreToOthers c us = AllByRecursion (λ (u : Untaken). u.conn ≢ c) us

-- The connection waits for nothing.
abbrev pub WaitsNot : ℕ → List Conn → Type 0
WaitsNot c cs = (k : ℕ) → HasConn cs c (Some k) → ⊥

pended-one : (b : Bool) (c : ℕ) (p q : Option ℕ) (x : Conn) → (x.id == c) ≡ b
    → (cond b (record x { pending = p }) x).id ≡ c → (cond b (record x { pending = p }) x).pending ≡ q → p ≡ q
pended-one true c p q x t e f = f
pended-one false c p q x t e f = absurd (both_ways (x.id == c) t (eq-eqb x.id c e))

pended-so : (c : ℕ) (p q : Option ℕ) (cs : List Conn) → HasConn (map (pend c p) cs) c q → p ≡ q
pended-so c p q [] h = absurd h
pended-so c p q (x ∷ xs) (inl h) = pended-one (x.id == c) c p q x refl h.0 h.1
pended-so c p q (x ∷ xs) (inr h) = pended-so c p q xs h

pended-back : (b : Bool) (c d : ℕ) (k : ℕ) (x : Conn) → (cond b (record x { pending = None }) x).id ≡ d
    → (cond b (record x { pending = None }) x).pending ≡ Some k → (x.id ≡ d) × (x.pending ≡ Some k)
pended-back true c d k x e f = absurd (none-some k f)
pended-back false c d k x e f = (e, f)

waited : (c d k : ℕ) (cs : List Conn) → HasConn (map (pend c None) cs) d (Some k) → HasConn cs d (Some k)
waited c d k [] h = absurd h
waited c d k (x ∷ xs) (inl h) = inl (pended-back (x.id == c) c d k x h.0 h.1)
waited c d k (x ∷ xs) (inr h) = inr (waited c d k xs h)

-- who waits for nothing is told nothing

still-not : (c n : ℕ) (cs : List Conn) (d : Deed) → IsInner d → WaitsNot c cs → WaitsNot c (conns_after cs n d)
still-not c n cs (Opens e) i w = absurd cc
still-not c n cs (Asks e a) i w = absurd cc
still-not c n cs (Sends p b t) i w = w
still-not c n cs (Hears p b) i w = w
still-not c n cs Passes i w = w
still-not c n cs (Answers e k g) i w = λ j h. w j (waited e c j cs h)
still-not c n cs (Shuts e) i w = absurd cc
still-not c n cs Seals i w = w
still-not c n cs (Carries number mark done) i w = w

to-other : (c n : ℕ) (cs : List Conn) (d : Deed) → IsAwaited cs d → WaitsNot c cs → AreToOthers c (answered_by n d)
to-other c n cs (Opens e) a w = tt
to-other c n cs (Asks e b) a w = tt
to-other c n cs (Sends p b t) a w = tt
to-other c n cs (Hears p b) a w = tt
to-other c n cs Passes a w = tt
to-other c n cs (Answers e k g) a w = (λ same. w k (subst (λ (i : ℕ). HasConn cs i (Some k)) same a), tt)
to-other c n cs (Shuts e) a w = tt
to-other c n cs Seals a w = tt
to-other c n cs (Carries number mark done) a w = tt

pub all-to-others : (c n : ℕ) (cs : List Conn) (ws : List Written) → AreInner ws → AreAwaited cs n ws → WaitsNot c cs
    → AreToOthers c (answered_in n ws)
all-to-others c n cs [] i a w = tt
all-to-others c n cs (x ∷ ws) i a w =
    all-append (λ (u : Untaken). u.conn ≢ c) (answered_by n x.deed) (answered_in (n + 1) ws)
    (to-other c n cs x.deed a.0 w)
    (all-to-others c (n + 1) (conns_after cs n x.deed) ws i.1 a.1 (still-not c n cs x.deed i.0 w))

-- so no two are to one

apart-by : (n : ℕ) (cs : List Conn) (d : Deed) (us : List Untaken)
    → ((c : ℕ) → WaitsNot c (conns_after cs n d) → AreToOthers c us) → AreApart us → AreApart (answered_by n d ++ us)
apart-by n cs (Opens e) us f h = h
apart-by n cs (Asks e b) us f h = h
apart-by n cs (Sends p b t) us f h = h
apart-by n cs (Hears p b) us f h = h
apart-by n cs Passes us f h = h
apart-by n cs (Answers e k g) us f h = (
  all-as (λ (v : Untaken). v.conn ≢ e) (λ (v : Untaken). e ≢ v.conn) us (λ v ne same. ne (sym same))
      (f e (λ j has. none-some j (pended-so e None (Some j) cs has))),
  h,
)
apart-by n cs (Shuts e) us f h = h
apart-by n cs Seals us f h = h
apart-by n cs (Carries number mark done) us f h = h

pub apart-with : (n : ℕ) (cs : List Conn) (ws : List Written) → AreInner ws → AreAwaited cs n ws → AreApart (answered_in n ws)
apart-with n cs [] i a = tt
apart-with n cs (x ∷ ws) i a =
    apart-by n cs x.deed (answered_in (n + 1) ws)
    (λ c w. all-to-others c (n + 1) (conns_after cs n x.deed) ws i.1 a.1 w)
    (apart-with (n + 1) (conns_after cs n x.deed) ws i.1 a.1)

-- the answer to an ask of a connection that waited for none

pub apart-both : (c : ℕ) (us vs : List Untaken) → AreToOthers c us → AllByRecursion (λ (v : Untaken). v.conn ≡ c) vs
    → AreApart us → AreApart vs → AreApart (us ++ vs)
apart-both c [] vs o s h k = k
apart-both c (u ∷ us) vs o s h k = (
  all-append (λ (v : Untaken). u.conn ≢ v.conn) us vs h.0
      (all-as (λ (v : Untaken). v.conn ≡ c) (λ (v : Untaken). u.conn ≢ v.conn) vs (λ v e same. o.0 (same ∙ e)) s),
  apart-both c us vs o.1 s h.1 k,
)

deed-own : (n k c : ℕ) (a : Ask) (d : Deed) → IsOfAsk k c a d → AllByRecursion (λ (u : Untaken). u.conn ≡ c) (answered_by n d)
deed-own n k c a (Opens x) h = tt
deed-own n k c a (Asks x b) h = tt
deed-own n k c a (Sends p bytes timeout) h = tt
deed-own n k c a (Hears p bytes) h = tt
deed-own n k c a Passes h = tt
deed-own n k c a (Answers x j g) h = (h.0, tt)
deed-own n k c a (Shuts x) h = tt
deed-own n k c a Seals h = tt
deed-own n k c a (Carries number mark done) h = tt

pub all-own : (n k c : ℕ) (a : Ask) (ws : List Written) → AllByRecursion (λ (w : Written). IsOfAsk k c a w.deed) ws
    → AllByRecursion (λ (u : Untaken). u.conn ≡ c) (answered_in n ws)
all-own n k c a [] h = tt
all-own n k c a (w ∷ ws) h =
    all-append (λ (u : Untaken). u.conn ≡ c) (answered_by n w.deed) (answered_in (n + 1) ws)
    (deed-own n k c a w.deed h.0) (all-own (n + 1) k c a ws h.1)

-- an answer is taken

kept-all : (P : Untaken → Type 0) (b : Bool) (u : Untaken) (vs : List Untaken) → P u → AllByRecursion P vs → AllByRecursion P (cond b (u ∷ vs) vs)
kept-all P true u vs p h = (p, h)
kept-all P false u vs p h = h

pub left-all : (P : Untaken → Type 0) (k : ℕ) (us : List Untaken) → AllByRecursion P us
    → AllByRecursion P (filter (λ (u : Untaken). not (u.ask == k)) us)
left-all P k [] h = tt
left-all P k (u ∷ us) h =
    kept-all P (not (u.ask == k)) u (filter (λ (u : Untaken). not (u.ask == k)) us) h.0 (left-all P k us h.1)

kept-apart : (b : Bool) (u : Untaken) (vs : List Untaken) → AllByRecursion (λ (v : Untaken). u.conn ≢ v.conn) vs → AreApart vs
    → AreApart (cond b (u ∷ vs) vs)
kept-apart true u vs a h = (a, h)
kept-apart false u vs a h = h

pub left-apart : (k : ℕ) (us : List Untaken) → AreApart us → AreApart (filter (λ (u : Untaken). not (u.ask == k)) us)
left-apart k [] h = tt
left-apart k (u ∷ us) h =
    kept-apart (not (u.ask == k)) u (filter (λ (u : Untaken). not (u.ask == k)) us)
    (left-all (λ (v : Untaken). u.conn ≢ v.conn) k us h.0) (left-apart k us h.1)

-- who is told is among those who are to be
pub told-one : (c : ℕ) (us : List Untaken) (v : Untaken) → AreToOthers c us → Contains us v → v.conn ≢ c
told-one c us v h there = all-of (λ (u : Untaken). u.conn ≢ c) us v h there

gone-head : (b : Bool) (k c : ℕ) (u : Untaken) (vs : List Untaken) → (u.ask == k) ≡ b → u.ask ≡ k → AreToOthers c vs
    → AreToOthers c (cond (not b) (u ∷ vs) vs)
gone-head true k c u vs t e h = h
gone-head false k c u vs t e h = absurd (both_ways (u.ask == k) t (eq-eqb u.ask k e))

-- Once it is told, no other waits for its connection.
pub told-apart : (us : List Untaken) (v : Untaken) → AreApart us → Contains us v
    → AreToOthers v.conn (filter (λ (u : Untaken). not (u.ask == v.ask)) us)
told-apart [] v h (i, lt, e) = absurd (omega (arith, lt))
told-apart (u ∷ us) v h (zero, lt, e) =
    gone-head (u.ask == v.ask) v.ask v.conn u (filter (λ (u : Untaken). not (u.ask == v.ask)) us) refl (ap (λ (z : Untaken). z.ask) e)
    (left-all (λ (w : Untaken). w.conn ≢ v.conn) v.ask us
    (all-as (λ (w : Untaken). u.conn ≢ w.conn) (λ (w : Untaken). w.conn ≢ v.conn) us
    (λ w ne same. ne (ap (λ (z : Untaken). z.conn) e ∙ sym same)) h.0))
told-apart (u ∷ us) v h (suc i, lt, e) =
    let later : Contains us v = (i, omega (arith, lt), e) in
    kept-all (λ (w : Untaken). w.conn ≢ v.conn) (not (u.ask == v.ask)) u (filter (λ (u : Untaken). not (u.ask == v.ask)) us)
    (all-of (λ (w : Untaken). u.conn ≢ w.conn) us v h.0 later) (told-apart us v h.1 later)

-- each answer that an entry gives waits to be told

abbrev pub IsToldBy : List Untaken → Deed → Type 0
IsToldBy us (Answers c k g) = IsToTell us c k
IsToldBy us _ = ⊤

told-deed : (us vs : List Untaken) (n : ℕ) (d : Deed) → IsToldBy (us ++ (answered_by n d ++ vs)) d
told-deed us vs n (Opens e) = tt
told-deed us vs n (Asks e b) = tt
told-deed us vs n (Sends p b t) = tt
told-deed us vs n (Hears p b) = tt
told-deed us vs n Passes = tt
told-deed us vs n (Answers e k g) =
    told-after us (record { conn = e; ask = k; number = n } ∷ vs) e k (inl (refl, refl))
told-deed us vs n (Shuts e) = tt
told-deed us vs n Seals = tt
told-deed us vs n (Carries number mark done) = tt

told-later : (us vs : List Untaken) (d : Deed) → IsToldBy vs d → IsToldBy (us ++ vs) d
told-later us vs (Opens e) h = tt
told-later us vs (Asks e b) h = tt
told-later us vs (Sends p b t) h = tt
told-later us vs (Hears p b) h = tt
told-later us vs Passes h = tt
told-later us vs (Answers e k g) h = told-after us vs e k h
told-later us vs (Shuts e) h = tt
told-later us vs Seals h = tt
told-later us vs (Carries number mark done) h = tt

pub each-told : (us : List Untaken) (n : ℕ) (ws : List Written)
    → AllByRecursion (λ (w : Written). IsToldBy (us ++ answered_in n ws) w.deed) ws
each-told us n [] = tt
each-told us n (w ∷ ws) = (
  told-deed us (answered_in (n + 1) ws) n w.deed,
  all-as (λ (x : Written). IsToldBy (answered_in (n + 1) ws) x.deed)
      (λ (x : Written). IsToldBy (us ++ (answered_by n w.deed ++ answered_in (n + 1) ws)) x.deed) ws
      (λ x h. told-later us (answered_by n w.deed ++ answered_in (n + 1) ws) x.deed
      (told-later (answered_by n w.deed) (answered_in (n + 1) ws) x.deed h))
      (each-told [] (n + 1) ws),
)
