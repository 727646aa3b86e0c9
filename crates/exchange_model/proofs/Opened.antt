-- The exchanges that are kept are open, and told apart by the numbers of their tokens.
use Rattle.history_links.specs.Agrees.{Start}
use Rattle.std.proofs.Common.{◌≡◌, ℕ, ◌+◌, inl, inr, true, List, Some, subst, arith}
use Rattle.std.specs.List.{AllByRecursion}
use Rattle.std.proofs.lemmas.Bool.{cases_lt}
use Rattle.history_laws.specs.Readings.{Noted}
use Rattle.history_laws.specs.Exchanges.{Begun, begun, openings, is_going, submitted, rank}
use Rattle.history_laws.specs.Justified.{Legal}
use Rattle.history_laws.proofs.CallerLemmas.{all-passes, rank-apart, submitted-apart}
use Rattle.exchange_model.specs.declared.kept.Exchange.{Exchange}
use Rattle.exchange_model.specs.State.{State}
use Rattle.exchange_model.specs.Reads.{ExchangeIn, opening_of, Reads}
use Rattle.exchange_model.proofs.Lists.{all-mapped, all-both}

-- an exchange that is kept, and is open
abbrev pub OpenIn : Start → List Noted → Exchange → Type 0
OpenIn start l e = ExchangeIn start l e × (is_going l e.opening ≡ true)

pub open-ones : (l : List Noted) (S : State) (r : Reads l S) → AllByRecursion (OpenIn r.start l) S.exchanges
open-ones l S r =
    let going = subst (AllByRecursion (λ (o : ℕ). is_going l o ≡ true)) r.keys (all-passes (is_going l) (openings l)) in
    all-both (ExchangeIn r.start l) (λ (e : Exchange). is_going l e.opening ≡ true) S.exchanges r.exchanges_are
    (all-mapped opening_of (λ (o : ℕ). is_going l o ≡ true) S.exchanges going)

-- Two that are open and whose messages have one number are one.
pub one-rank : (l : List Noted) (o q : ℕ) (b c : Begun) → Legal l → begun l o ≡ Some b → begun l q ≡ Some c → is_going l o ≡ true → is_going l q ≡ true
    → rank l o ≡ rank l q → o ≡ q
one-rank l o q b c legal e f goes also same = elim (cases_lt (submitted l o) (submitted l q)) [
  | inl lt ↦ let apart = rank-apart l o q b c legal e f goes also lt in absurd (omega (arith, apart, same))
  | inr ge ↦ elim (cases_lt (submitted l q) (submitted l o)) [
    | inl lt ↦ let apart = rank-apart l q o c b legal f e also goes lt in absurd (omega (arith, apart, same))
    | inr le ↦ submitted-apart l o q b c legal e f goes also (omega (arith, ge, le))
  ]
]

pub cancel : (a b c : ℕ) → a + b ≡ a + c → b ≡ c
cancel a b c e = omega (arith, e)
