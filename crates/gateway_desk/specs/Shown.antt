-- Which entries show what an ask came to.
use Rattle.std.specs.Prelude.{◌≡◌, ◌⊎◌, ◌==◌, ℕ, Bool, false, List, [], ◌∷◌, Option, Some, None, slice_get, if◌then◌else◌}
use Rattle.coap_codec.specs.Spelling.{Content, Spells}
use Rattle.uri_map.specs.declared.peer.Peer.{Peer}
use Rattle.journal_book.specs.Entries.{Done, Heard, done_of, Deed, Written}
use Rattle.blockwise.specs.Uploads.{begun}
use Rattle.history_laws.specs.Responses.{Response, first_some, last_of, valid, whole_fetched, whole_given}
use Rattle.reply_reading.specs.Findings.{Told, Tells}
use Rattle.exchange_core.specs.Values.{written}
use Rattle.exchange_core.specs.Answering.{HeardAs, AreHeard, CountsFromReplies, IsRenewal}

-- what was heard, by an entry or by that which it is a copy of
abbrev pub bytes_heard : Option Done → Option (List ℕ)
bytes_heard (Some (Heard p bytes)) = Some bytes
bytes_heard _ = None

-- In the entry with this number, or in that which it is a copy of, these bytes were heard, at some
-- moment.
abbrev pub HearsAt : List Written → ℕ → List ℕ → Type 0
HearsAt h n bytes =
    (t : ℕ) × (p : Peer) × (d : Deed)
    × (slice_get h n ≡ Some (written t d)) × (done_of d ≡ Some (Heard p bytes))

-- None were.
abbrev pub HearsNone : List Written → ℕ → Type 0
HearsNone h n = (bytes : List ℕ) → HearsAt h n bytes → ⊥

-- The bytes spell no message.
abbrev pub SpellsNone : List ℕ → Type 0
SpellsNone bytes = (m : Content) → Spells m bytes → ⊥

-- In the entry with this number this message was heard.
abbrev pub IsHeardAt : List Written → ℕ → Content → Type 0
IsHeardAt h n m = (t : ℕ) × HeardAs h n t m

-- None was.
abbrev pub IsUnheard : List Written → ℕ → Type 0
IsUnheard h n = (m : Content) → IsHeardAt h n m → ⊥

-- In these entries messages were heard, but not in all.
abbrev pub AreUnheard : List Written → List ℕ → Type 0
AreUnheard h js = (ms : List Content) → AreHeard h js ms → ⊥

-- the whole response that these messages are, as all replies to a GET
abbrev pub fetched_in : List Content → Option Response
fetched_in [] = None
fetched_in (m ∷ ms) = whole_fetched m ms

-- the same, by the method of the request and the length of its body
abbrev pub whole_by : ℕ → ℕ → List Content → Option Response
whole_by method len ms = if method == 1 then fetched_in ms else whole_given (begun len 6) ms

-- The last of these messages is a 2.03.
abbrev pub ends_valid : List Content → Bool
ends_valid [] = false
ends_valid (m ∷ ms) = (last_of m ms).code == valid

-- They are the response, as all replies to a request with this method and so long a body; or to a
-- GET they are the pieces of a response and the 2.03 that renewed it.
abbrev pub IsResponseBy : ℕ → ℕ → List Content → Response → Type 0
IsResponseBy method len ms w =
    (whole_by method len ms ≡ Some w) ⊎ ((method ≡ 1) × IsRenewal ms w)

-- The one response is the other as this one renews it, whatever its format was before.
abbrev pub IsRenewedBy : Response → Response → Response → Type 0
IsRenewedBy said by w =
    (before : Option ℕ)
    × (w ≡ record said { format = first_some by.format before; max_age = by.max_age })

-- So it is of what is told.
abbrev pub TellsRenewed : Told → Told → Response → Type 0
TellsRenewed (Tells said) (Tells by) w = IsRenewedBy said by w
TellsRenewed said by w = ⊥

-- The entry with this number was made at this moment.
abbrev pub IsMadeAt : List Written → ℕ → ℕ → Type 0
IsMadeAt h n t = (w : Written) × (slice_get h n ≡ Some w) × (w.moment ≡ t)

-- What these entries heard counts from this moment.
abbrev pub CountsAt : List Written → ℕ → List ℕ → Type 0
CountsAt h t [] = ⊥
CountsAt h t (j ∷ js) = CountsFromReplies h j js t

-- The entries bear the response: they heard messages that are it, as all replies to a request with
-- this method and so long a body, and count from this moment.
abbrev pub RestsOn : List Written → List ℕ → ℕ → ℕ → ℕ → Response → Type 0
RestsOn h js t method len w =
    (ms : List Content) × AreHeard h js ms × CountsAt h t js × IsResponseBy method len ms w
