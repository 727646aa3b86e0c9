-- What a table knows of the messages that were seen.
use Rattle.std.specs.Prelude.{◌≡◌, ℕ, ◌+◌, ◌<◌, Bool, true, false, ◌&&◌, nat_lt, List, ◌∷◌, Option, Some, None, Result, Ok, Err, if◌then◌else◌}
use Rattle.std.specs.List.{AllByRecursion, list_any}
use Rattle.std.specs.HashMap.{HashMap, get}
use Rattle.limits.specs.declared.TheConstants.{EXCHANGE_LIFETIME}
use Rattle.coap_codec.specs.Spelling.{Content}
use Rattle.coap_codec.specs.declared.fault.CodecFault.{CodecFault}
use Rattle.uri_map.specs.declared.peer.Peer.{Peer}
use Rattle.journal_book.specs.Entries.{Done}
use Rattle.history_laws.specs.Hearing.{is_such}
use Rattle.exchange_model.specs.Rotating.{Seen, is_seen, is_recent_seen, seen_by}
use Rattle.journal_copies.specs.declared.source.Source.{Source}
use Rattle.journal_copies.specs.Sources.{same_source}

-- What was heard at this moment is remembered for 247 seconds.
abbrev pub is_fresh : ℕ → Option ℕ → Bool
is_fresh t None = false
is_fresh t (Some s) = nat_lt t (s + EXCHANGE_LIFETIME)

abbrev pub source_of : Peer → ℕ → Source
source_of p mid = record { peer = p; mid = mid }

-- The table has the moments of these: it tells whatever would repeat one of them.
abbrev pub Knows : {S : Type 0} → HashMap Source ℕ S → List Seen → Type 0
Knows m old =
    (t : ℕ) (p : Peer) (mid : ℕ)
    → is_fresh t (get same_source m (source_of p mid)) ≡ list_any (is_seen t p mid) old

-- the ID of the CON or NON that is read
abbrev pub such_id : Result Content CodecFault → Option ℕ
such_id (Ok m) = if is_such m.kind then Some m.mid else None
such_id (Err e) = None

-- one more, where it repeats none
abbrev pub with_seen : Bool → ℕ → ℕ → Source → List Seen → List Seen
with_seen true n s x old = record { number = n; moment = s; peer = x.peer; mid = x.mid } ∷ old
with_seen false n s x old = old

-- Each was seen before the entry with this number.
abbrev pub AreBefore : ℕ → List Seen → Type 0
AreBefore n xs = AllByRecursion (λ (x : Seen). x.number < n) xs

-- What the entry with this number did, at this moment, is among what was seen; and `more` says
-- whether that is one more message.
pub record Sees {S : Type 0} (n s : ℕ) (done : Option Done) (old : List Seen)
    (m : HashMap Source ℕ S) (more : Bool) : Type 0 where
  pub knows : Knows m (seen_by n s done old)
  pub before : AreBefore (n + 1) (seen_by n s done old)
  pub more_is : (t : ℕ) → list_any (is_recent_seen t n) (seen_by n s done old)
      ≡ (more && nat_lt t (s + EXCHANGE_LIFETIME))
