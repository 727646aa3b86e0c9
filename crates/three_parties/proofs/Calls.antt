-- A call of the device's, and those by which it gives out what there is to be sent.
use Rattle.std.proofs.Common.{◌≡◌, ℕ, zero, suc, List, [], ◌∷◌, ◌++◌, length, Option, Some, refl, sym, ap, subst, ◌∙◌, append_assoc, arith}
use Rattle.std.specs.Prelude.{slice_get, take}
use Rattle.std.specs.List.{Contains}
use Rattle.uri_map.specs.declared.peer.Peer.{Peer}
use Rattle.history_laws.proofs.CallerLemmas.{none-some, some-is}
use Rattle.demo_origin.specs.Calls.{Call, Follow, left_by}
use Rattle.demo_origin.specs.Done.{told_in}
use Rattle.demo_origin.specs.Once.{heard, gave}
use Rattle.demo_origin.specs.Values.{Device, Relation}
use Rattle.demo_origin.specs.declared.execution.Taken.{Taken}
use Rattle.demo_origin.specs.declared.state.Datagram.{Datagram}
use Rattle.story_laws.specs.Networks.{moment_after, AreTimed, IsGiven}
use Rattle.three_parties.proofs.Lists.{take-front}

-- ---- calls after calls

unfoldable pub last_moment : ℕ → List Call → ℕ
last_moment s [] = s
last_moment s (c ∷ cs) = last_moment (moment_after s c.event) cs

-- the same, to be computed
abbrev pub moment_then : ℕ → List Call → ℕ
moment_then s [] = s
moment_then s (c ∷ cs) = moment_then (moment_after s c.event) cs

pub then-last : (s : ℕ) (cs : List Call) → moment_then s cs ≡ last_moment s cs
unfolding last_moment
then-last s [] = refl
then-last s (c ∷ cs) = then-last (moment_after s c.event) cs

pub follow-both : (R : Relation) (xs ys : List Call) (s : Device) → Follow R s xs → Follow R (left_by s xs) ys → Follow R s (xs ++ ys)
follow-both R [] ys s f g = g
follow-both R (x ∷ xs) ys s f g = (f.0, f.1, follow-both R xs ys x.after f.2 g)

pub left-both : (xs ys : List Call) (s : Device) → left_by s (xs ++ ys) ≡ left_by (left_by s xs) ys
left-both [] ys s = refl
left-both (x ∷ xs) ys s = left-both xs ys x.after

pub timed-both : (xs ys : List Call) (s : ℕ) → AreTimed s xs → AreTimed (last_moment s xs) ys → AreTimed s (xs ++ ys)
unfolding last_moment
timed-both [] ys s f g = g
timed-both (x ∷ xs) ys s f g = (f.0, timed-both xs ys (moment_after s x.event) f.1 g)

pub last-both : (xs ys : List Call) (s : ℕ) → last_moment s (xs ++ ys) ≡ last_moment (last_moment s xs) ys
unfolding last_moment
last-both [] ys s = refl
last-both (x ∷ xs) ys s = last-both xs ys (moment_after s x.event)

-- ---- what is given out

pub gives : Device → List Datagram → List Call
gives d [] = []
gives d (x ∷ xs) = record { event = gave; before = record d { out = x ∷ xs }; after = record d { out = xs } } ∷ gives d xs

pub gives-follow : (R : Relation) (d : Device) (xs : List Datagram) → Follow R (record d { out = xs }) (gives d xs)
unfolding gives
gives-follow R d [] = tt
gives-follow R d (x ∷ xs) = (refl, refl, gives-follow R d xs)

pub gives-left : (d : Device) (xs : List Datagram) → left_by (record d { out = xs }) (gives d xs) ≡ record d { out = [] }
unfolding gives
gives-left d [] = refl
gives-left d (x ∷ xs) = gives-left d xs

pub told-gives : (d : Device) (xs : List Datagram) → told_in (gives d xs) ≡ []
unfolding gives
told-gives d [] = refl
told-gives d (x ∷ xs) = told-gives d xs

pub gives-timed : (d : Device) (xs : List Datagram) (t : ℕ) → AreTimed t (gives d xs)
unfolding gives
gives-timed d [] t = tt
gives-timed d (x ∷ xs) t = (omega arith, gives-timed d xs t)

pub gives-last : (d : Device) (xs : List Datagram) (t : ℕ) → last_moment t (gives d xs) ≡ t
unfolding gives last_moment
gives-last d [] t = refl
gives-last d (x ∷ xs) t = gives-last d xs t

-- what a call is: none of these hears anything
hears-not : (t : ℕ) (p : Peer) (b : List ℕ) (k : Option Taken) → gave ≡ heard t p b k → ⊥
hears-not t p b k e = cc

pub gives-unheard : (d : Device) (xs : List Datagram) (n t : ℕ) (p : Peer) (b : List ℕ) (k : Option Taken) (c : Call)
    → slice_get (gives d xs) n ≡ Some c → c.event ≡ heard t p b k → ⊥
unfolding gives
gives-unheard d [] n t p b k c e h = none-some c e
gives-unheard d (x ∷ xs) zero t p b k c e h =
    hears-not t p b k (ap (λ (v : Call). v.event) (some-is (record { event = gave; before = record d { out = x ∷ xs }; after = record d { out = xs } }) c e) ∙ h)
gives-unheard d (x ∷ xs) (suc n) t p b k c e h = gives-unheard d xs n t p b k c e h

-- ---- a datagram that was given out

-- after these calls, of which the first made it
pub record WasGiven (first : Device) (cs : List Call) (p : Peer) (bytes : List ℕ) : Type 0 where
  pub front : List Call
  pub rest : List Call
  pub parts : cs ≡ front ++ rest
  pub datagram : Datagram
  pub given : Contains (left_by first front).out datagram
  pub to : datagram.peer ≡ p
  pub has : datagram.bytes ≡ bytes

abbrev pub given-later : (first : Device) (cs more : List Call) (p : Peer) (bytes : List ℕ) → WasGiven first cs p bytes → WasGiven first (cs ++ more) p bytes
given-later first cs more p bytes g = record {
  front = g.front;
  rest = g.rest ++ more;
  parts = ap (λ (xs : List Call). xs ++ more) g.parts ∙ append_assoc g.front g.rest more;
  datagram = g.datagram;
  given = g.given;
  to = g.to;
  has = g.has;
}

abbrev pub is-given : (first : Device) (cs : List Call) (p : Peer) (bytes : List ℕ) → WasGiven first cs p bytes → IsGiven first cs p bytes
is-given first cs p bytes g = record {
  count = length g.front;
  datagram = g.datagram;
  given = subst (λ (xs : List Call). Contains (left_by first xs).out g.datagram)
      (sym (ap (take (length g.front)) g.parts ∙ take-front g.front g.rest)) g.given;
  to = g.to;
  has = g.has;
}
