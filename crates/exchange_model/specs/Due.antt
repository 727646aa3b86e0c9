-- When a tick has something to do.
use Rattle.std.specs.Prelude.{◌≡◌, ℕ, ◌+◌, min, Bool, false, nat_le, List, [], ◌∷◌, Option, Some, None, option_map}
use Rattle.limits.specs.declared.TheConstants.{MAX_TRANSMIT_WAIT}
use Rattle.message_layer.specs.Sending.{due_of}
use Rattle.observe_share.specs.declared.registration.Registration.{Registration}
use Rattle.exchange_model.specs.declared.kept.Exchange.{Exchange}
use Rattle.exchange_model.specs.State.{PeerLink, State}
use Rattle.exchange_model.specs.Calls.{something_due}

-- the earlier of two moments, where there are two
abbrev pub earlier : Option ℕ → Option ℕ → Option ℕ
earlier None b = b
earlier (Some a) None = Some a
earlier (Some a) (Some b) = Some (min a b)

abbrev pub earliest : {X : Type 0} → (X → Option ℕ) → List X → Option ℕ
earliest f [] = None
earliest f (x ∷ xs) = earlier (f x) (earliest f xs)

-- the timer of what is outstanding, and the moment at which an exchange took too long
abbrev pub timer : PeerLink → Option ℕ
timer x = option_map due_of x.link.outstanding

abbrev pub deadline : Exchange → Option ℕ
deadline e = Some (e.since + MAX_TRANSMIT_WAIT)

-- and that at which a watch is forgotten, if nobody asks for its key
abbrev pub idle_from : Registration → Option ℕ
idle_from r = Some (r.asked + 120000)

abbrev pub next_due : State → Option ℕ
next_due S =
    earlier (earliest timer S.links)
    (earlier (earliest deadline S.exchanges) (earliest idle_from S.watches))

abbrev pub has_come : ℕ → Option ℕ → Bool
has_come t None = false
has_come t (Some due) = nat_le due t

-- A tick has something to do from that moment on, and not before.
abbrev pub NextDue : Type 0
NextDue = (t : ℕ) (S : State) → something_due t S ≡ has_come t (next_due S)
