-- What comes in shows in the journal: a datagram, and that time went on.
use Rattle.std.specs.Prelude.{◌≡◌, ◌⊎◌, ⊤, ℕ, ◌+◌, ◌≤◌, ◌<◌, Bool, true, false, ◌&&◌, nat_lt}
use Rattle.std.specs.Prelude.{List, [], ◌∷◌, ◌++◌, length, count_by, Some, Result, Ok, Err}
use Rattle.std.specs.List.{AllByRecursion}
use Rattle.limits.specs.declared.TheConstants.{EXCHANGE_LIFETIME, MAX_DATAGRAM_LEN, MAX_REMEMBERED}
use Rattle.coap_codec.specs.Reading.{message_at}
use Rattle.coap_codec.specs.Spelling.{Content}
use Rattle.coap_codec.specs.declared.fault.CodecFault.{CodecFault}
use Rattle.uri_map.specs.declared.peer.Peer.{Peer}
use Rattle.uri_map.specs.Peers.{same_peer}
use Rattle.journal_book.specs.Entries.{Sent, Heard, Deed, Sends, Hears, Passes, Carries, Written}
use Rattle.history_laws.specs.Hearing.{is_such}
use Rattle.exchange_model.specs.State.{State}
use Rattle.exchange_model.specs.Calls.{something_due}
use Rattle.exchange_model.specs.Growing.{at_moment}
use Rattle.exchange_model.specs.Keeping.{IsDone}
use Rattle.exchange_model.specs.Room.{KeptInRoom}
use Rattle.exchange_model.specs.Sealing.{ticks_in_room, ArePrompt}
use Rattle.gateway_model.specs.declared.input.Happening.{Happening}
use Rattle.gateway_model.specs.declared.input.Happening.TheVariants as H
use Rattle.gateway_model.specs.declared.input.When.{When}
use Rattle.gateway_model.specs.Acts.{Act, Served, DoesAll, at}
use Rattle.gateway_model.specs.Emissions.{Emission}
use Rattle.gateway_model.specs.Orders.{IsInOrder}
use Rattle.gateway_model.specs.Resting.{any_terms}

-- an entry of no datagram that came in
abbrev pub IsUnheard : Deed → Type 0
IsUnheard (Hears p bytes) = ⊥
IsUnheard _ = ⊤

abbrev pub AreUnheard : List Written → Type 0
AreUnheard ws = AllByRecursion (λ (w : Written). IsUnheard w.deed) ws

-- This stands first, at this moment, and no datagram after it.
pub record BeginsBy (t : ℕ) (d : Deed) (more : List Written) : Type 0 where
  pub rest : List Written
  pub are : more ≡ at_moment t d ∷ rest
  pub unheard : AreUnheard rest

-- No message was ever sent to the endpoint: no entry bears the first timeout of one, and no copy is
-- of one or of what it said.
abbrev pub IsSentElsewhere : Peer → Deed → Type 0
IsSentElsewhere p (Sends q bytes (Some timeout)) = same_peer q p ≡ false
IsSentElsewhere p (Carries n mark (Sent q bytes (Some timeout))) = same_peer q p ≡ false
IsSentElsewhere p (Carries n mark (Heard q bytes)) = same_peer q p ≡ false
IsSentElsewhere p _ = ⊤

abbrev pub IsStranger : Peer → List Written → Type 0
IsStranger p h = AllByRecursion (λ (w : Written). IsSentElsewhere p w.deed) h

-- The bytes spell a CON or NON, which alone may come again.
abbrev pub is_such_in : Result Content CodecFault → Bool
is_such_in (Ok m) = is_such m.kind
is_such_in (Err fault) = false

abbrev pub may_come_again : List ℕ → Bool
may_come_again bytes = is_such_in (message_at bytes)

-- In the last 247 seconds as many such came in from the endpoint as can be remembered (RFC 7252
-- section 4.5).
abbrev pub came_lately : ℕ → Peer → ℕ → Deed → Bool
came_lately t p s (Hears q bytes) =
    may_come_again bytes && (same_peer q p && nat_lt t (s + EXCHANGE_LIFETIME))
came_lately t p s (Carries n mark (Heard q bytes)) =
    may_come_again bytes && (same_peer q p && nat_lt t (s + EXCHANGE_LIFETIME))
came_lately t p s _ = false

abbrev pub is_recent_from : ℕ → Peer → Written → Bool
is_recent_from t p w = came_lately t p w.moment w.deed

abbrev pub IsCrowded : ℕ → Peer → List Written → Type 0
IsCrowded t p h = MAX_REMEMBERED ≤ count_by (is_recent_from t p) h

-- Why a datagram is dropped: the journal takes nothing more; no message was ever sent to the
-- endpoint; it is too long; or it may come again, and no more of the endpoint's can be remembered.
abbrev pub IsDropped : ℕ → Peer → List ℕ → State → State → Type 0
IsDropped t p bytes S S1 =
    (S1.sealed ≡ true)
    ⊎ (IsStranger p S.entries
    ⊎ ((MAX_DATAGRAM_LEN < length bytes)
    ⊎ ((may_come_again bytes ≡ true) × IsCrowded t p S.entries)))

-- The datagram stands in the entries that it brings, first of them, or was dropped.
abbrev pub IsHeard : ℕ → Peer → List ℕ → State → State → List Written → Type 0
IsHeard t p bytes S S1 more =
    BeginsBy t (Hears p bytes) more ⊎ (AreUnheard more × IsDropped t p bytes S S1)

-- So it is of a datagram; any other input shows none.
abbrev pub ShowsWhatCame : Happening → ℕ → State → State → List Written → Type 0
ShowsWhatCame (H.Datagram p bytes) t S S1 more = IsHeard t p bytes.now S S1 more
ShowsWhatCame _ t S S1 more = AreUnheard more

abbrev pub InputsShow : Type 0
InputsShow =
    (w : When) (x : Happening) (acts : List Act) (old : Served) (out : List Emission) (new : Served)
    → DoesAll any_terms w acts old out new → IsInOrder x acts → KeptInRoom old.core.state
    → (more : List Written) × (new.core.state.entries ≡ old.core.state.entries ++ more)
    × ShowsWhatCame x (at w old) old.core.state new.core.state more

-- After a tick nobody waits for an exchange that has been open for as long as it may, and nothing
-- is due: where something was, that the time passed stands first among the entries, and where
-- nothing was, none is added; but where the journal takes nothing more.
abbrev pub DoesWhatIsDue : ℕ → State → List Written → Type 0
DoesWhatIsDue t S more =
    ArePrompt t (ticks_in_room t S)
    × (((ticks_in_room t S).sealed ≡ true)
    ⊎ (IsDone t (ticks_in_room t S) × (something_due t S ≡ true → BeginsBy t Passes more)
    × (something_due t S ≡ false → more ≡ [])))

abbrev pub TicksShow : Type 0
TicksShow =
    (w : When) (acts : List Act) (old : Served) (out : List Emission) (new : Served)
    → DoesAll any_terms w acts old out new → IsInOrder H.Tick acts → KeptInRoom old.core.state
    → (more : List Written) × (new.core.state.entries ≡ old.core.state.entries ++ more)
    × DoesWhatIsDue (at w old) old.core.state more
