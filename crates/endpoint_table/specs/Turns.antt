-- What a tick does at each endpoint where something is due.
use Rattle.std.specs.Prelude.{◌≡◌, ℕ, ◌+◌, Bool, true, false, List, [], ◌∷◌, ◌++◌, length, Option, Some, None}
use Rattle.std.specs.Option.{option_to_list}
use Rattle.uri_map.specs.declared.peer.Peer.{Peer}
use Rattle.journal_book.specs.Entries.{Deed, Sends}
use Rattle.message_layer.specs.Calls.{without}
use Rattle.message_layer.specs.Prepared.{IsTick}
use Rattle.message_layer.specs.declared.prepared.FirstSending.{FirstSending}
use Rattle.message_layer.specs.declared.prepared.Ticking.{Ticking}
use Rattle.message_layer.specs.declared.prepared.Ticking.TheVariants.{Rests, Copies, GivesUp}
use Rattle.exchange_model.specs.Calls.{link_due}
use Rattle.exchange_model.specs.Entering.{Going}
use Rattle.exchange_model.specs.State.{PeerLink}
use Rattle.endpoint_table.specs.declared.turns.Turn.{Turn}

-- The turn is that of the endpoint, whose link has so much room: where something is due, what it
-- does once what bears one of these tokens is gone, and else there is none.
abbrev pub IsTurnOf : ℕ → List (List ℕ) → PeerLink → Bool → Option Turn → Type 0
IsTurnOf t gone x room None = link_due t x ≡ false
IsTurnOf t gone x room (Some k) =
    (link_due t x ≡ true) × (k.peer ≡ x.peer) × IsTick t (without gone x.link) room k.ticking

-- The first of them is that of this endpoint, if it has one.
pub record IsFirst (t : ℕ) (gone : List (List ℕ)) (x : PeerLink) (room : Bool) (ks : List Turn)
    (AreOthers : List Turn → Type 0) : Type 0 where
  pub turn : Option Turn
  pub others : List Turn
  pub are : ks ≡ option_to_list turn ++ others
  pub is : IsTurnOf t gone x room turn
  pub rest : AreOthers others

-- They are the turns of the endpoints, in order.
abbrev pub AreTurns : ℕ → List (List ℕ) → List PeerLink → List Bool → List Turn → Type 0
AreTurns t gone [] rooms ks = ks ≡ []
AreTurns t gone (x ∷ xs) [] ks = ⊥
AreTurns t gone (x ∷ xs) (room ∷ rooms) ks = IsFirst t gone x room ks (AreTurns t gone xs rooms)

-- the message that goes out, if any, with its first timeout
abbrev pub sent_first : Peer → Option FirstSending → List Deed
sent_first p None = []
sent_first p (Some x) = Sends p x.datagram (Some x.message.timeout) ∷ []

-- what a turn sends
abbrev pub deeds_of : Peer → Ticking → List Deed
deeds_of p Rests = []
deeds_of p (Copies d) = Sends p d None ∷ []
deeds_of p (GivesUp token next) = sent_first p next

abbrev pub going_first : ℕ → Option FirstSending → List Going
going_first n None = []
going_first n (Some f) = record { token = f.message.token; number = n } ∷ []

abbrev pub going_of : ℕ → Ticking → List Going
going_of n (GivesUp token next) = going_first n next
going_of n _ = []

-- what they send, in order, and the messages among it that go out for the first time, where the
-- next entry has this number
abbrev pub turns_deeds : List Turn → List Deed
turns_deeds [] = []
turns_deeds (k ∷ ks) = deeds_of k.peer k.ticking ++ turns_deeds ks

abbrev pub turns_going : ℕ → List Turn → List Going
turns_going n [] = []
turns_going n (k ∷ ks) =
    going_of n k.ticking ++ turns_going (n + length (deeds_of k.peer k.ticking)) ks
