-- How long after its first sending a message may still go out (RFC 7252 sections 4.2 and 4.8.2).
use Rattle.std.specs.Prelude.{◌≡◌, ℕ, ◌+◌, ◌≤◌, List, [], ◌∷◌, Option, Some, ⊤}
use Rattle.coap_codec.specs.Spelling.{Content, Spells}
use Rattle.uri_map.specs.declared.peer.Peer.{Peer}
use Rattle.journal_book.specs.Entries.{Sends}
use Rattle.history_laws.specs.Readings.{Noted, Note, Copies, noted, at}
use Rattle.history_laws.specs.Transmissions.{Transmission, due, transmission}
use Rattle.history_laws.specs.Justified.{Legal}
use Rattle.history_laws.specs.Laws.{IsFirst}
use Rattle.story_laws.specs.declared.TheConstants.{LATEST_COPY, LONGEST_SENDING}

-- A copy goes out a second after it is due at the latest: so it is where ticks come each second.
abbrev pub IsPunctual : List Noted → ℕ → Note → Type 0
IsPunctual l t (Copies i) =
    (way : Transmission) → transmission l i ≡ Some way → t ≤ due way + LATEST_COPY
IsPunctual l t note = ⊤

-- Each does.
abbrev pub ArePunctual : List Noted → Type 0
ArePunctual [] = ⊤
ArePunctual (x ∷ older) = ArePunctual older × IsPunctual older x.written.moment x.note

-- The entry sends this message.
pub record SendsMessage (l : List Noted) (n t : ℕ) (p : Peer) (m : Content) : Type 0 where
  pub bytes : List ℕ
  pub timeout : Option ℕ
  pub note : Note
  pub stands : at l n ≡ Some (noted t (Sends p bytes timeout) note)
  pub spelled : Spells m bytes

-- Whatever sends the message of a first sending is that, or goes out within 49 seconds of it: four
-- copies, each at most a second late, after the longest timeouts of 3, 6, 12 and 24 seconds.
abbrev pub SentWithin : Type 0
SentWithin =
    (l : List Noted) (s o i n t : ℕ) (p r : Peer) (m : Content) → Legal l → ArePunctual l
    → IsFirst l s o i p m → SendsMessage l n t r m → (s ≤ t) × (t ≤ s + LONGEST_SENDING)
