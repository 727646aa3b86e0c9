-- What is taken of a core.
use Rattle.std.specs.Prelude.{◌≡◌, ◌≢◌, ℕ, ◌==◌, not, [], ◌∷◌, filter, Option, Some, None}
use Rattle.std.specs.List.{AllByRecursion, Contains}
use Rattle.exchange_core.specs.Values.{Untaken, Outgoing, CoreValue}
use Rattle.exchange_core.specs.Answering.{Given, IsGiven}
use Rattle.exchange_core.specs.Drafts.{untaken_of}

abbrev pub is_to_other : ℕ → Untaken → Type 0
is_to_other k u = u.ask ≢ k

-- An answer to the ask that wasn't taken is taken, with what the journal says of it; or there is
-- none, and nothing changes.
abbrev pub IsTaken : Option Given → ℕ → CoreValue → CoreValue → Type 0
IsTaken (Some g) k old new =
    (g.ask ≡ k) × Contains old.untaken (untaken_of g) × IsGiven old.state.entries g
    × (new ≡ record old { untaken = filter (λ (u : Untaken). not (u.ask == k)) old.untaken })
IsTaken None k old new = (new ≡ old) × AllByRecursion (is_to_other k) old.untaken

-- the first datagram that wasn't taken
abbrev pub IsSent : Option Outgoing → CoreValue → CoreValue → Type 0
IsSent None old new = (old.unsent ≡ []) × (new ≡ old)
IsSent (Some d) old new = (old.unsent ≡ d ∷ new.unsent) × (new ≡ record old { unsent = new.unsent })
