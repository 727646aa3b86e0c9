-- What is stored, and may be asked about once it isn't fresh any more.
use Rattle.std.specs.Prelude.{◌≡◌, ◌⊎◌, ℕ, ◌-◌, ◌≤◌, Bool, true, false, not, ◌==◌, List, [], ◌∷◌, ◌++◌, length, slice_get, Option, None, Some, IfSome, option_map, if◌then◌else◌}
use Rattle.std.specs.List.{AllByRecursion, list_all}
use Rattle.std.specs.Option.{option_map_or}
use Rattle.coap_codec.specs.Spelling.{Content}
use Rattle.cache_key.specs.Keys.{CacheKey}
use Rattle.resp_cache.specs.Stored.{Stored}
use Rattle.resp_cache.specs.Stores.{stale_under}
use Rattle.resp_cache.specs.declared.pair.Pair.{Pair}
use Rattle.ask_model.specs.Requests.{Sense}
use Rattle.ask_model.specs.Sharing.{key_read}
use Rattle.journal_book.specs.Entries.{Deed, Hears, Written}
use Rattle.history_laws.specs.Responses.{confirms, valid}
use Rattle.history_laws.specs.Progress.{Progress, Ends, Renewed}
use Rattle.exchange_model.specs.Steps.{as_pieces, if_tagged, is_piece_at, reply_at}

-- The entry with this number heard a datagram with the code of a 2.03, which is its second byte
-- (RFC 7252 section 3).
abbrev pub is_valid_code : ℕ → Bool
is_valid_code b = b == valid

abbrev pub has_valid_code : List ℕ → Bool
has_valid_code bytes = option_map_or is_valid_code (slice_get bytes 1) false

abbrev pub hears_valid_by : Deed → Bool
hears_valid_by (Hears p bytes) = has_valid_code bytes
hears_valid_by d = false

abbrev pub hears_valid : List Written → ℕ → Bool
hears_valid ws n = option_map_or (λ (w : Written). hears_valid_by w.deed) (slice_get ws n) false

-- Whether it did is plain of what heard a message.
abbrev pub IsPlain : List Written → ℕ → Type 0
IsPlain ws n = hears_valid ws n ≡ not (is_piece_at ws n)

abbrev pub IsPiece : List Written → ℕ → Type 0
IsPiece ws n = IsPlain ws n × (is_piece_at ws n ≡ true)

-- The last of what it rests on may be a 2.03, and no other is one.
pub record IsRenewedLast (ws : List Written) (js : List ℕ) : Type 0 where
  pub pieces : List ℕ
  pub last : ℕ
  pub is : js ≡ pieces ++ last ∷ []
  pub each : AllByRecursion (IsPiece ws) pieces
  pub plain : IsPlain ws last
  pub renews : is_piece_at ws last ≡ false

abbrev pub IsListed : List Written → List ℕ → Type 0
IsListed ws js = AllByRecursion (IsPiece ws) js ⊎ IsRenewedLast ws js

-- the last of these didn't hear one
abbrev pub ends_heard : List Written → List ℕ → Bool
ends_heard ws js =
    option_map_or (λ (n : ℕ). not (hears_valid ws n)) (slice_get js (length js - 1)) true

abbrev pub ends_as_heard : List Written → Pair → Bool
ends_as_heard ws p = ends_heard ws p.stored.list

-- Of what a pair rests on no entry heard a 2.03: it is as it was heard.
abbrev pub is_as_heard : List Written → Pair → Bool
is_as_heard ws p = list_all (is_piece_at ws) p.stored.list

-- An ETag has at most 8 bytes (RFC 7252 section 5.10).
abbrev pub IsShortTag : List ℕ → Type 0
IsShortTag tag = length tag ≤ 8

abbrev pub IsAskable : List Written → Stored → Type 0
IsAskable ws s = IfSome s.response.etag IsShortTag × IsListed ws s.list

abbrev pub AreAskable : List Written → List Pair → Type 0
AreAskable ws ps = AllByRecursion (λ (p : Pair). IsAskable ws p.stored) ps

-- what is stored for an ask, where it is a GET, isn't fresh any more, and has an ETag: as an
-- exchange keeps it
abbrev pub stale_read : Option CacheKey → ℕ → List Pair → Option Stored
stale_read None t ps = None
stale_read (Some key) t ps = if_tagged (stale_under key t ps)

abbrev pub stale_for : Sense → ℕ → List Written → List Pair → Option Stored
stale_for sense t ws ps = option_map (as_pieces ws) (stale_read (key_read sense) t ps)

-- What an exchange comes to that asks about this: by a message that says that it is valid still, it
-- ends.
abbrev pub unless_confirmed : Option Stored → ℕ → Content → Progress → Progress
unless_confirmed None n m u = u
unless_confirmed (Some s) n m u =
    if confirms s.response.etag m then Ends (Renewed s (reply_at n m)) else u
