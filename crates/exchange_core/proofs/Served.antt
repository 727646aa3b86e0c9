-- The first answer is taken, and numbers rise.
use Rattle.std.proofs.Common.{◌≡◌, ◌≢◌, ◌⊎◌, ℕ, zero, suc, ◌<◌, ◌≤◌, Bool, true, false, inl, inr, min, not, eqb, List, [], ◌∷◌, length, map, Option, Some, None, Result, Ok, Err, refl, sym, ap, ◌∙◌, subst, arith}
use Rattle.std.specs.Prelude.{option_map, IfSome, IfOk, IsTrue, IsFalse, ◌↔◌}
use Rattle.std.specs.List.{All, AllByRecursion, Contains, filter, reduce}
use Rattle.std.proofs.lemmas.List.Elements.{All-head, All-tail, recursion_from_All}
use Rattle.std.proofs.lemmas.Option.{none-some, slice_get_within}
use Rattle.history_laws.proofs.CallerLemmas.{all-more}
use Rattle.ask_model.specs.Views.{Ask}
use Rattle.exchange_model.specs.State.{State}
use Rattle.exchange_model.specs.Resting.{HasConn}
use Rattle.exchange_model.proofs.CallerLemmas.{all-map, conns-below, conns-tell}
use Rattle.exchange_core.specs.declared.answer.Answer.{Answer}
use Rattle.exchange_core.specs.declared.answer.Ticket.{Ticket}
use Rattle.exchange_core.specs.declared.fault.AskFault.{AskFault}
use Rattle.exchange_core.specs.Values.{Untaken, Outgoing, CoreValue}
use Rattle.exchange_core.specs.Answering.{Given, IsGiven, given_of}
use Rattle.exchange_core.specs.Calls.{IsAsked}
use Rattle.exchange_core.specs.Drafts.{untaken_of}
use Rattle.exchange_core.specs.States.{core_of, number_in}
use Rattle.exchange_core.specs.Sound.{SoundState}
use Rattle.exchange_core.specs.Serving.{IsFirstOf, IsFirstTaken, AreBelow, AreOlder}
use Rattle.exchange_core.proofs.Least.{least-stands, least-below, asks-of}
use Rattle.exchange_core.proofs.Takes.{taken, sound-taken}

-- a list that has none with this key has it nowhere
nowhere : {X : Type 0} (key : X → ℕ) (xs : List X) (k : ℕ) → Contains (map key xs) k → All (λ (x : X). key x ≢ k) xs → ⊥
nowhere key [] k has none = absurd (omega (arith, has.1))
nowhere {X} key (x ∷ xs) k (zero, lt, e) none = All-head (λ (y : X). key y ≢ k) x xs none e
nowhere {X} key (x ∷ xs) k (suc i, lt, e) none = nowhere key xs k (i, omega (arith, lt), e) (All-tail (λ (y : X). key y ≢ k) x xs none)

pub first-of : {R : Type 0} (r : Option (Answer R)) (k : ℕ) (xs : List (Answer R)) (gs1 : List Given)
    → Some k ≡ reduce min (map (λ (a : Answer R). a.ask) xs)
    → IfSome r (λ (a : Answer R). (a.ask ≡ k) × Contains (map given_of xs) (given_of a))
    → (r ≡ None → All (λ (g : Given). g.ask ≢ k) (map given_of xs))
    → gs1 ≡ filter (λ (g : Given). not (eqb g.ask k)) (map given_of xs)
    → IsFirstOf (option_map given_of r) (map given_of xs) gs1
first-of None k xs gs1 least some none others =
    let is = least ∙ ap (reduce min) (asks-of xs) in
    absurd (nowhere (λ (g : Given). g.ask) (map given_of xs) k
    (least-stands (map (λ (g : Given). g.ask) (map given_of xs)) (Some k) is) (none refl))
first-of (Some a) k xs gs1 least some none others =
    let is = least ∙ ap (reduce min) (asks-of xs) in
    let same = sym some.0 in (
      some.1,
      subst (λ (n : ℕ). AllByRecursion (λ (h : Given). n ≤ h.ask) (map given_of xs)) same
          (recursion_from_All (λ (h : Given). k ≤ h.ask) (map given_of xs)
          (least-below (λ (g : Given). g.ask) (map given_of xs) (Some k) is)),
      subst (λ (n : ℕ). gs1 ≡ filter (λ (h : Given). not (eqb h.ask n)) (map given_of xs)) same others,
    )

pub first-taken : {R : Type 0} (r : Option (Answer R)) (S : State) (gs gs1 : List Given) (os : List Outgoing)
    → AllByRecursion (IsGiven S.entries) gs → IsFirstOf (option_map given_of r) gs gs1
    → IsFirstTaken (option_map given_of r) (core_of S gs os) (core_of S gs1 os)
first-taken None S gs gs1 os all first = (
  ap (map untaken_of) first.0,
  ap (λ (hs : List Given). core_of S hs os) first.1,
)
first-taken {R} (Some a) S gs gs1 os all first = (
  taken (Some a) a.ask S gs gs1 os all (refl, first.0) (λ e. absurd (no-none e)) first.2,
  all-map untaken_of (λ (u : Untaken). a.ask ≤ u.ask) gs first.1,
)
  where
    no-none : Some a ≡ None → ⊥
    no-none e = cc

pub sound-first : (r : Option Given) (S : State) (bytes room : ℕ) (gs gs1 : List Given) → SoundState S bytes room gs → IsFirstOf r gs gs1
    → SoundState S bytes room gs1
sound-first None S bytes room gs gs1 s first = subst (SoundState S bytes room) (sym first.1) s
sound-first (Some g) S bytes room gs gs1 s first = sound-taken S bytes room g.ask gs gs1 s first.2

-- A connection waits for one answer, or for none.
waits-once : (S : State) (bytes room : ℕ) (gs : List Given) (c k : ℕ) → SoundState S bytes room gs
    → HasConn S.conns c None → HasConn S.conns c (Some k) → ⊥
waits-once S bytes room gs c k s none some =
    let tell = conns-tell s.kept.kept.reading S c s.kept.kept.rests.reads in
    none-some k (sym (tell.1 None none).1 ∙ (tell.1 (Some k) some).1)

pub idle-once : (S : State) (bytes room : ℕ) (gs : List Given) (b : Bool) (c : ℕ) → SoundState S bytes room gs
    → (IsTrue b → HasConn S.conns c None)
    → (IsFalse b → ((p : Option ℕ) → HasConn S.conns c p → ⊥) ⊎ ((k : ℕ) × HasConn S.conns c (Some k)))
    → IsTrue b ↔ HasConn S.conns c None
idle-once S bytes room gs true c s idle other = (idle, λ h. refl)
idle-once S bytes room gs false c s idle other = (idle, λ h. absurd (not-both h (other refl)))
  where
    not-both : HasConn S.conns c None → ((p : Option ℕ) → HasConn S.conns c p → ⊥) ⊎ ((k : ℕ) × HasConn S.conns c (Some k)) → ⊥
    not-both h (inl none) = none None h
    not-both h (inr asked) = waits-once S bytes room gs c asked.0 s h asked.1

pub pending-waits : {R : Type 0} (r : Result (Ticket R) AskFault) (t word c : ℕ) (a : Ask) (S : State) (bytes room : ℕ)
    (gs : List Given) (os : List Outgoing) (new : CoreValue)
    → SoundState S bytes room gs → IsAsked (number_in r) t word c a (core_of S gs os) new
    → r ≡ Err AskFault.Pending → HasConn S.conns c None → ⊥
pending-waits (Ok k) t word c a S bytes room gs os new s is e none = absurd cc
pending-waits (Err AskFault.Pending) t word c a S bytes room gs os new s is e none =
    waits-once S bytes room gs c is.1.0 s none is.1.1
pending-waits (Err AskFault.Unknown) t word c a S bytes room gs os new s is e none = is.1 None none
pending-waits (Err AskFault.Sealed) t word c a S bytes room gs os new s is e none = absurd cc
pending-waits (Err AskFault.Memory) t word c a S bytes room gs os new s is e none = absurd cc

-- numbers rise

pub below-opened : (id : ℕ) (S : State) (bytes room : ℕ) (gs : List Given) → SoundState S bytes room gs → id ≡ S.opened → AreBelow id S.conns
below-opened id S bytes room gs s is = subst (λ (n : ℕ). AreBelow n S.conns) (sym is) (conns-below S s.kept)

pub older-than : {R : Type 0} (r : Result (Ticket R) AskFault) (t word c : ℕ) (a : Ask) (S : State) (gs : List Given) (os : List Outgoing) (new : CoreValue)
    → AllByRecursion (IsGiven S.entries) gs → IsAsked (number_in r) t word c a (core_of S gs os) new
    → IfOk r (λ (k : Ticket R). AreOlder k.number (map untaken_of gs))
older-than (Ok k) t word c a S gs os new all is =
    subst (λ (n : ℕ). AreOlder n (map untaken_of gs)) (sym is.0)
    (all-map untaken_of (λ (u : Untaken). u.ask < length S.entries) gs
    (all-more (IsGiven S.entries) (λ (g : Given). g.ask < length S.entries)
    (λ g given. slice_get_within S.entries g.ask _ given.ask_stands) gs all))
older-than (Err e) t word c a S gs os new all is = tt
