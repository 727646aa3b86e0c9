-- In which order calls came, and what they told.
use Rattle.std.proofs.Common.{◌≡◌, ℕ, zero, suc, ◌+◌, ◌<◌, ◌≤◌, List, [], ◌∷◌, ◌++◌, append_assoc, length, length-append, map, take, drop, Option, Some, refl, sym, ap, ◌∙◌, arith}
use Rattle.std.specs.Prelude.{slice_get}
use Rattle.uri_map.specs.declared.peer.Peer.{Peer}
use Rattle.history_laws.proofs.CallerLemmas.{none-some, some-is}
use Rattle.demo_origin.specs.Calls.{Call}
use Rattle.demo_origin.specs.Done.{told_by, told_in}
use Rattle.demo_origin.specs.Once.{Event, heard}
use Rattle.demo_origin.specs.declared.execution.Taken.{Taken}
use Rattle.story_laws.specs.Networks.{AreTimed, moment_after}
use Rattle.three_parties.specs.declared.story.Execution.{Execution}
use Rattle.three_parties.proofs.Calls.{moment_then}
use Rattle.three_parties.proofs.Lists.{take-front}
use Rattle.three_parties.proofs.Ordering.{told-both}
use Rattle.three_parties.proofs.Chapters.{taken_of}

-- ---- calls in time

-- none of the calls from this moment on comes before it
timed-from : (s : ℕ) (cs : List Call) (b t : ℕ) (c : Call) → AreTimed s cs → slice_get cs b ≡ Some c → ((u : ℕ) → moment_after u c.event ≡ t) → s ≤ t
timed-from s [] b t c h e is = absurd (none-some c e)
timed-from s (y ∷ ys) zero t c h e is =
    let le = h.0 in
    let same : moment_after s y.event ≡ t = ap (λ (c : Call). moment_after s c.event) (some-is y c e) ∙ is s in
    omega (arith, le, same)
timed-from s (y ∷ ys) (suc b) t c h e is =
    let le = h.0 in
    let rest = timed-from (moment_after s y.event) ys b t c h.1 e is in
    omega (arith, le, rest)

-- so of two calls the later one comes no earlier
pub timed-then : (s : ℕ) (cs : List Call) (a b u t : ℕ) (x y : Call) → AreTimed s cs → slice_get cs a ≡ Some x → slice_get cs b ≡ Some y → a ≤ b
    → ((v : ℕ) → moment_after v x.event ≡ u) → ((v : ℕ) → moment_after v y.event ≡ t) → u ≤ t
timed-then s [] a b u t x y h e f le is so = absurd (none-some x e)
timed-then s (c ∷ cs) zero zero u t x y h e f le is so =
    let same : moment_after s x.event ≡ moment_after s y.event = ap (λ (c : Call). moment_after s c.event) (some-is x y (sym e ∙ f)) in
    let a = is s in
    let b = so s in
    omega (arith, same, a, b)
timed-then s (c ∷ cs) zero (suc b) u t x y h e f le is so =
    let same : moment_after s c.event ≡ u = ap (λ (c : Call). moment_after s c.event) (some-is c x e) ∙ is s in
    let rest = timed-from (moment_after s c.event) cs b t y h.1 f so in
    omega (arith, same, rest)
timed-then s (c ∷ cs) (suc a) zero u t x y h e f le is so = absurd (omega (arith, le))
timed-then s (c ∷ cs) (suc a) (suc b) u t x y h e f le is so =
    timed-then (moment_after s c.event) cs a b u t x y h.1 e f (omega (arith, le)) is so

timed-last : (s : ℕ) (cs : List Call) (n : ℕ) → AreTimed s cs → s ≤ moment_then s (take n cs)
timed-last s [] zero h = omega arith
timed-last s [] (suc n) h = omega arith
timed-last s (c ∷ cs) zero h = omega arith
timed-last s (c ∷ cs) (suc n) h =
    let le = h.0 in
    let rest = timed-last (moment_after s c.event) cs n h.1 in
    omega (arith, le, rest)

-- is not before one after fewer of them,
pub timed-fewer : (s : ℕ) (cs : List Call) (a n : ℕ) → AreTimed s cs → a ≤ n → moment_then s (take a cs) ≤ moment_then s (take n cs)
timed-fewer s [] zero zero h le = omega arith
timed-fewer s [] zero (suc n) h le = omega arith
timed-fewer s [] (suc a) zero h le = omega arith
timed-fewer s [] (suc a) (suc n) h le = omega arith
timed-fewer s (c ∷ cs) zero n h le = timed-last s (c ∷ cs) n h
timed-fewer s (c ∷ cs) (suc a) zero h le = absurd (omega (arith, le))
timed-fewer s (c ∷ cs) (suc a) (suc n) h le = timed-fewer (moment_after s c.event) cs a n h.1 (omega (arith, le))

-- nor before one of them,
pub timed-upto : (s : ℕ) (cs : List Call) (a n t : ℕ) (c : Call) → AreTimed s cs → slice_get cs a ≡ Some c → a < n
    → ((u : ℕ) → moment_after u c.event ≡ t) → t ≤ moment_then s (take n cs)
timed-upto s [] a n t c h e lt is = absurd (none-some c e)
timed-upto s (y ∷ ys) a zero t c h e lt is = absurd (omega (arith, lt))
timed-upto s (y ∷ ys) zero (suc n) t c h e lt is =
    let same : moment_after s y.event ≡ t = ap (λ (c : Call). moment_after s c.event) (some-is y c e) ∙ is s in
    let rest = timed-last (moment_after s y.event) ys n h.1 in
    omega (arith, same, rest)
timed-upto s (y ∷ ys) (suc a) (suc n) t c h e lt is = timed-upto (moment_after s y.event) ys a n t c h.1 e (omega (arith, lt)) is

-- and not after a later one.
pub timed-after : (s : ℕ) (cs : List Call) (n b t : ℕ) (c : Call) → AreTimed s cs → slice_get cs b ≡ Some c → n ≤ b
    → ((u : ℕ) → moment_after u c.event ≡ t) → moment_then s (take n cs) ≤ t
timed-after s [] n b t c h e le is = absurd (none-some c e)
timed-after s (y ∷ ys) zero b t c h e le is = timed-from s (y ∷ ys) b t c h e is
timed-after s (y ∷ ys) (suc n) zero t c h e le is = absurd (omega (arith, le))
timed-after s (y ∷ ys) (suc n) (suc b) t c h e le is = timed-after (moment_after s y.event) ys n b t c h.1 e (omega (arith, le)) is

-- a call that hears something
pub heard-at : (c : Call) (t : ℕ) (p : Peer) (d : List ℕ) (k : Option Taken) → c.event ≡ heard t p d k → (u : ℕ) → moment_after u c.event ≡ t
heard-at c t p d k e u = ap (λ (v : Event). moment_after u v) e

-- ---- what calls told

told-length : (xs ys : List Call) → length (told_in (xs ++ ys)) ≡ length (told_in xs) + length (told_in ys)
told-length xs ys = ap length (told-both xs ys) ∙ length-append (told_in xs) (told_in ys)

told-next : (y : Call) (ys : List Call) (a : ℕ)
    → length (told_in (take (suc a) (y ∷ ys))) ≡ length (told_by y.event) + length (told_in (take a ys))
told-next y ys a = length-append (told_by y.event) (told_in (take a ys))

told-none : (n : ℕ) → length (told_in (take n [])) ≡ 0
told-none zero = refl
told-none (suc n) = refl

-- Before a later call more was told than before one that tells.
pub more-told : (cs : List Call) (a b : ℕ) (c : Call) (x : Taken) → a < b → slice_get cs a ≡ Some c → told_by c.event ≡ x ∷ []
    → length (told_in (take a cs)) < length (told_in (take b cs))
more-told [] a b c x lt e is = absurd (none-some c e)
more-told (y ∷ ys) a zero c x lt e is = absurd (omega (arith, lt))
more-told (y ∷ ys) zero (suc b) c x lt e is =
    let one : length (told_by y.event) ≡ 1 = ap (λ (c : Call). length (told_by c.event)) (some-is y c e) ∙ ap length is in
    let none : length (told_in (take zero (y ∷ ys))) ≡ 0 = refl in
    let both = told-next y ys b in
    omega (arith, one, none, both)
more-told (y ∷ ys) (suc a) (suc b) c x lt e is =
    let rest = more-told ys a b c x (omega (arith, lt)) e is in
    let one = told-next y ys a in
    let two = told-next y ys b in
    omega (arith, rest, one, two)

-- Before a later call no less was told.
pub no-less-told : (cs : List Call) (a b : ℕ) → a ≤ b → length (told_in (take a cs)) ≤ length (told_in (take b cs))
no-less-told [] a b le = let none = told-none a in omega (arith, none)
no-less-told (y ∷ ys) zero b le =
    let none : length (told_in (take zero (y ∷ ys))) ≡ 0 = refl in omega (arith, none)
no-less-told (y ∷ ys) (suc a) zero le = absurd (omega (arith, le))
no-less-told (y ∷ ys) (suc a) (suc b) le =
    let rest = no-less-told ys a b (omega (arith, le)) in
    let one = told-next y ys a in
    let two = told-next y ys b in
    omega (arith, rest, one, two)

-- What was told before a call is the beginning of all that was.
split-calls : (cs : List Call) (a : ℕ) → told_in cs ≡ told_in (take a cs) ++ told_in (drop a cs)
split-calls [] zero = refl
split-calls [] (suc a) = refl
split-calls (c ∷ cs) zero = refl
split-calls (c ∷ cs) (suc a) =
    ap (λ (ts : List Taken). told_by c.event ++ ts) (split-calls cs a) ∙ sym (append_assoc (told_by c.event) (told_in (take a cs)) (told_in (drop a cs)))

take-map : (n : ℕ) (ys : List Execution) → take n (map taken_of ys) ≡ map taken_of (take n ys)
take-map zero [] = refl
take-map zero (y ∷ ys) = refl
take-map (suc n) [] = refl
take-map (suc n) (y ∷ ys) = ap (λ (ts : List Taken). y.taken ∷ ts) (take-map n ys)

pub told-before : (cs : List Call) (a : ℕ) (ys : List Execution) → told_in cs ≡ map taken_of ys
    → told_in (take a cs) ≡ map taken_of (take (length (told_in (take a cs))) ys)
told-before cs a ys e =
    sym (take-front (told_in (take a cs)) (told_in (drop a cs)))
    ∙ (ap (take (length (told_in (take a cs)))) (sym (split-calls cs a) ∙ e) ∙ take-map (length (told_in (take a cs))) ys)
