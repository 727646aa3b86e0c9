-- What the end of an exchange does to the store.
use Rattle.std.specs.Prelude.{◌≡◌, ℕ, Bool, true, false, ◌||◌, length, List, ◌∷◌, Option, Some, None, option_and_then, take, ◌==◌, if◌then◌else◌}
use Rattle.limits.specs.declared.TheConstants.{MAX_STORED}
use Rattle.cache_key.specs.Keys.{CacheKey}
use Rattle.ask_model.specs.Requests.{CoapRequest}
use Rattle.ask_model.specs.Sharing.{asked_key, is_get}
use Rattle.journal_book.specs.Entries.{Grounds, Live, Written}
use Rattle.resp_cache.specs.Stored.{Stored, is_never_fresh, stored_of}
use Rattle.resp_cache.specs.Stores.{others, placed}
use Rattle.resp_cache.specs.declared.pair.Pair.{Pair}
use Rattle.history_laws.specs.Responses.{Response}
use Rattle.history_laws.specs.Storing.{content}
use Rattle.reply_reading.specs.Findings.{Found, Told, Tells, Fails}
use Rattle.exchange_model.specs.declared.kept.Exchange.{Exchange}
use Rattle.exchange_model.specs.Matters.{Matter, Over, Tells as Notifies, asked_in, moment_in}
use Rattle.exchange_model.specs.Hearing.{newest_content, settled}
use Rattle.exchange_core.specs.declared.storing.Put.{Put}
use Rattle.exchange_core.specs.declared.storing.Put.TheVariants as P
use Rattle.exchange_core.specs.Ending.{last_moment}

-- the whole 2.05 that is told, if it is one
abbrev pub content_told : Told → Option Response
content_told (Tells w) = if w.code == content then Some w else None
content_told (Fails cause) = None

-- the whole 2.05 that is told, which counts from the moment of its first reply
abbrev pub stored_for : List Written → ℕ → ℕ → Told → Grounds → Option Stored
stored_for ws t o (Tells w) (Live (j ∷ js)) =
    if w.code == content then Some (stored_of w o (moment_in ws t j) (j ∷ js)) else None
stored_for ws t o told grounds = None

-- what was renewed, which counts from the moment of the last of its replies
abbrev pub renewed_for : List Written → ℕ → ℕ → Told → Grounds → Option Stored
renewed_for ws t o (Tells w) (Live js) = Some (stored_of w o (last_moment ws t (Live js)) js)
renewed_for ws t o told grounds = None

abbrev pub if_unchanged : Exchange → Option Stored → Option Stored
if_unchanged e s = if e.newest then s else None

-- the key of a GET whose exchange has ended and wasn't outrun
abbrev pub key_got : CoapRequest → Option CacheKey
key_got q = if is_get q then Some (asked_key q) else None

abbrev pub key_ended : List Written → Option Exchange → Option CacheKey
key_ended ws None = None
key_ended ws (Some e) =
    if e.current then option_and_then key_got (asked_in ws e.ask) else None

-- No notification that counts came since the first of the replies that are whole.
abbrev pub is_newest_by : Bool → Grounds → Bool
is_newest_by newest (Live js) = (length js == 1) || newest
is_newest_by newest grounds = false

abbrev pub is_newest_found : Exchange → Found → Bool
is_newest_found e f = is_newest_by e.newest f.grounds

abbrev pub if_newest : Exchange → Found → Option Stored → Option Stored
if_newest e f s = if is_newest_found e f then s else None

-- what a response that was found does to what is stored under the key
abbrev pub is_outdating : Option Stored → Bool
is_outdating None = false
is_outdating (Some s) = is_never_fresh s

abbrev pub put_under : Option CacheKey → Option Stored → Put
put_under (Some key) (Some s) =
    if is_never_fresh s then P.Outdates else P.Stores (record { key = key; stored = s })
put_under _ _ = P.Nothing

abbrev pub put_for : List Written → Option Exchange → Option Stored → Put
put_for ws ended found = put_under (key_ended ws ended) found

-- what a message puts into the store, which is this to the exchanges
abbrev pub put_in : List Written → ℕ → Matter → Put
put_in ws t (Over e how) = put_for ws (Some e) (newest_content ws t e how)
put_in ws t (Notifies r found) = put_under (Some r.key) found
put_in ws t x = P.Nothing

-- Room is needed for what is stored alone.
abbrev pub HasRoomToPut : Put → Bool → Type 0
HasRoomToPut (P.Stores p) room = room ≡ true
HasRoomToPut _ room = Unit {0}

abbrev pub outdated_under : Option CacheKey → List Pair → List Pair
outdated_under None ps = ps
outdated_under (Some key) ps = take MAX_STORED (others key ps)

-- what is stored after that, or after the end of an exchange that puts nothing
abbrev pub settled_with : List Written → Option Exchange → Put → List Pair → List Pair
settled_with ws ended (P.Stores p) ps = take MAX_STORED (placed p.key p.stored ps)
settled_with ws ended P.Outdates ps = outdated_under (key_ended ws ended) ps
settled_with ws ended P.Nothing ps = settled ws ended None ps
