-- Which response a store has for a GET (RFC 7252 section 5.6): the latest whole 2.05 to an equal
-- one, or in a notification of what that reads, to whose place no write has ended since that was
-- asked for, and after which no notification came that counts (RFC 7641 section 3.4); or one that
-- the journal begins with; or either of these as a 2.03 has renewed it.
use Rattle.std.specs.Prelude.{◌≡◌, ◌≢◌, ◌⊎◌, ℕ, ◌<◌, ◌≤◌, Bool, true, false, not, ◌==◌, List, [], ◌∷◌, ◌++◌, length, filter, Option, Some, None, ⊤}
use Rattle.std.specs.List.{AllByRecursion}
use Rattle.limits.specs.declared.TheConstants.{MAX_STORED}
use Rattle.cache_key.specs.Keys.{CacheKey}
use Rattle.ask_model.specs.Requests.{CoapRequest, Requests}
use Rattle.ask_model.specs.Sharing.{asked_key, asked_place, asks_same, is_get}
use Rattle.ask_model.specs.Views.{Ask}
use Rattle.coap_codec.specs.Spelling.{Content}
use Rattle.uri_map.specs.declared.peer.Peer.{Peer}
use Rattle.journal_book.specs.Entries.{Asks, Hears}
use Rattle.resp_cache.specs.Stored.{Stored, lifetime, is_fresh}
use Rattle.history_laws.specs.Responses.{Response, valid, renewed_response}
use Rattle.history_laws.specs.Readings.{Noted, Note, Serves, Says, Updates, noted, at, before}
use Rattle.history_laws.specs.Progress.{Reply, numbers, Whole, Renewed, Ends}
use Rattle.history_laws.specs.Exchanges.{begun, ask_behind, end_of}
use Rattle.history_laws.specs.Joining.{outrun, is_joinable, asks_the_same}
use Rattle.history_laws.specs.Carrying.{CarriesSo}
use Rattle.history_laws.specs.Observing.{Watch, watch_under, as_first, outdated}

-- 2.05 Content
abbrev pub content : ℕ
content = 69

-- In this entry the exchange ended with such a response, which rests on these replies.
pub record EndsSo (l : List Noted) (o e : ℕ) (w : Response) (rs : List Reply) : Type 0 where
  pub ended : end_of l o ≡ Some (record { number = e; how = Whole w rs })
  pub code : w.code ≡ content

-- In this entry a notification brought such a response, under the token of a watch that the
-- exchange registered (RFC 7641 section 4.2).
pub record UpdatesSo (l : List Noted) (o e : ℕ) (w : Response) (rs : List Reply) : Type 0 where
  pub moment : ℕ
  pub peer : Peer
  pub bytes : List ℕ
  pub message : Content
  pub sending : ℕ
  pub place : Bool
  pub stands : at l e
      ≡ Some (noted moment (Hears peer bytes)
      (Says message (Some sending) (record { place = place; observation = Updates })))
  pub watch : Watch
  pub under : watch_under (before l e) message.token ≡ Some watch
  pub registered : watch.held.opening ≡ o
  pub whole : as_first e sending message ≡ Ends (Whole w rs)
  pub code : w.code ≡ content

-- A response came so by either.
abbrev pub ComesSo : List Noted → ℕ → ℕ → Response → List Reply → Type 0
ComesSo l o e w rs = EndsSo l o e w rs ⊎ UpdatesSo l o e w rs

-- A GET may be answered with the response of the exchange: that was for an equal one, no write to
-- the place has ended since it was opened, and no notification that counts came since its first
-- reply. None that may answer it came later. It counts from its first reply.
pub record IsBrought (l : List Noted) (q : CoapRequest) (s : Stored) : Type 0 where
  pub opening : ℕ
  pub ending : ℕ
  pub first : Reply
  pub more : List Reply
  pub comes : ComesSo l opening ending s.response (first ∷ more)
  pub shared : is_joinable l q opening ≡ true
  pub newest : outdated l (asked_key q) first.number ≡ false
  pub latest : (o e : ℕ) (w : Response) (r : Reply) (rs : List Reply) → ComesSo l o e w (r ∷ rs)
      → is_joinable l q o ≡ true
      → outdated l (asked_key q) r.number ≡ false → e ≤ ending
  pub entry : Noted
  pub heard_in : at l first.number ≡ Some entry
  pub heard : s.heard ≡ entry.written.moment
  pub origin : s.opening ≡ ask_behind l opening
  pub list : s.list ≡ numbers (first ∷ more)

-- It may be answered with one that the journal begins with, on the same terms, where none came for
-- it since.
pub record IsCarried (l : List Noted) (q : CoapRequest) (s : Stored) : Type 0 where
  pub opening : ℕ
  pub first : Reply
  pub more : List Reply
  pub carries : CarriesSo l opening s.response (first ∷ more)
  pub code : s.response.code ≡ content
  pub same : asks_same q carries.exchange.request ≡ true
  pub current : outrun l (asked_place q) opening ≡ false
  pub newest : outdated l (asked_key q) first.number ≡ false
  pub alone : (o e : ℕ) (w : Response) (r : Reply) (rs : List Reply) → ComesSo l o e w (r ∷ rs)
      → is_joinable l q o ≡ true
      → outdated l (asked_key q) r.number ≡ false → ⊥
  pub entry : Noted
  pub heard_in : at l first.number ≡ Some entry
  pub heard : s.heard ≡ entry.written.moment
  pub origin : s.opening ≡ opening
  pub list : s.list ≡ numbers (first ∷ more)

abbrev pub IsAsHeard : List Noted → CoapRequest → Stored → Type 0
IsAsHeard l q s = IsBrought l q s ⊎ IsCarried l q s

-- Of what is stored an exchange keeps the entries of its pieces alone: a 2.03 that renewed it
-- before goes.
abbrev pub says_valid : Note → Bool
says_valid (Says m to notice) = m.code == valid
says_valid _ = false

abbrev pub is_valid_in : Option Noted → Bool
is_valid_in None = false
is_valid_in (Some x) = says_valid x.note

abbrev pub pieces_in : List Noted → List ℕ → List ℕ
pieces_in l js = filter (λ (j : ℕ). not (is_valid_in (at l j))) js

abbrev pub pieces_of : List Noted → Stored → Stored
pieces_of l s = record s { list = pieces_in l s.list }

-- The 2.03 that renews this is the last of the list from then on.
abbrev pub renewed_list : Stored → ℕ → List ℕ
renewed_list s n = s.list ++ n ∷ []

abbrev pub first_in : List ℕ → ℕ
first_in [] = 0
first_in (j ∷ js) = j

-- In this entry something was renewed for an equal GET. No write to the place has ended since the
-- exchange was opened that it came of first, and no notification that counts came since its first
-- reply.
pub record IsRenewal (l : List Noted) (q : CoapRequest) (e : ℕ) : Type 0 where
  pub opening : ℕ
  pub kept : Stored
  pub reply : Reply
  pub ended : end_of l opening ≡ Some (record { number = e; how = Renewed kept reply })
  pub same : asks_the_same q (begun l opening) ≡ true
  pub current : outrun l (asked_place q) kept.opening ≡ false
  pub newest : outdated l (asked_key q) (first_in kept.list) ≡ false

-- So a GET may be answered with that, where nothing that may answer it came later. It counts from
-- the 2.03.
pub record IsRenewed (l : List Noted) (q : CoapRequest) (s : Stored) : Type 0 where
  pub ending : ℕ
  pub renewal : IsRenewal l q ending
  pub latest : (o e : ℕ) (w : Response) (r : Reply) (rs : List Reply) → ComesSo l o e w (r ∷ rs)
      → is_joinable l q o ≡ true → outdated l (asked_key q) r.number ≡ false
      → e ≤ ending
  pub last : (e : ℕ) → IsRenewal l q e → e ≤ ending
  pub entry : Noted
  pub heard_in : at l renewal.reply.number ≡ Some entry
  pub heard : s.heard ≡ entry.written.moment
  pub origin : s.opening ≡ renewal.kept.opening
  pub list : s.list ≡ renewed_list renewal.kept renewal.reply.number
  pub response : s.response
      ≡ renewed_response renewal.kept.response renewal.reply.message

-- What is stored is as it was heard, where nothing was renewed since; or it was renewed.
abbrev pub IsUnrenewed : List Noted → CoapRequest → Stored → Type 0
IsUnrenewed l q s =
    ((is : IsBrought l q s) × ((e : ℕ) → IsRenewal l q e → e ≤ is.ending))
    ⊎ (IsCarried l q s × ((e : ℕ) → IsRenewal l q e → ⊥))

abbrev pub IsStored : List Noted → CoapRequest → Stored → Type 0
IsStored l q s = IsUnrenewed l q s ⊎ IsRenewed l q s

-- What is stored under a key is used when it is stored, and each time when it is served.
pub record IsServing (l : List Noted) (n : ℕ) (key : CacheKey) : Type 0 where
  pub moment : ℕ
  pub conn : ℕ
  pub ask : Ask
  pub replies : List ℕ
  pub stands : at l n ≡ Some (noted moment (Asks conn ask) (Serves replies))
  pub request : CoapRequest
  pub sense : ask.sense ≡ Requests request
  pub is : asked_key request ≡ key

-- Stored is what comes so for a GET, while no write has outrun it and no newer notification came,
-- and is fresh for a while.
pub record IsStoring (l : List Noted) (n : ℕ) (key : CacheKey) : Type 0 where
  pub opening : ℕ
  pub response : Response
  pub first : Reply
  pub more : List Reply
  pub comes : ComesSo l opening n response (first ∷ more)
  pub since : ℕ
  pub request : CoapRequest
  pub opened : begun l opening ≡ Some (record { since = since; request = request })
  pub get : is_get request ≡ true
  pub is : asked_key request ≡ key
  pub current : outrun (before l n) key.place opening ≡ false
  pub newest : outdated (before l n) key first.number ≡ false
  pub lasts : (lifetime response.max_age == 0) ≡ false

-- So is what is renewed, on the same terms.
pub record IsRenewing (l : List Noted) (n : ℕ) (key : CacheKey) : Type 0 where
  pub opening : ℕ
  pub kept : Stored
  pub reply : Reply
  pub ended : end_of l opening ≡ Some (record { number = n; how = Renewed kept reply })
  pub since : ℕ
  pub request : CoapRequest
  pub opened : begun l opening ≡ Some (record { since = since; request = request })
  pub get : is_get request ≡ true
  pub is : asked_key request ≡ key
  pub current : outrun (before l n) key.place kept.opening ≡ false
  pub newest : outdated (before l n) key (first_in kept.list) ≡ false
  pub lasts : (lifetime (renewed_response kept.response reply.message).max_age == 0) ≡ false

abbrev pub IsUse : List Noted → ℕ → CacheKey → Type 0
IsUse l n key = IsServing l n key ⊎ (IsStoring l n key ⊎ IsRenewing l n key)

-- A response under the key is what the journal begins with; and none was used since.
pub record IsCarriedUnder (l : List Noted) (key : CacheKey) : Type 0 where
  pub opening : ℕ
  pub response : Response
  pub replies : List Reply
  pub carries : CarriesSo l opening response replies
  pub is : asked_key carries.exchange.request ≡ key

abbrev pub IsUnused : List Noted → CacheKey → Type 0
IsUnused l key = IsCarriedUnder l key × ((n : ℕ) → IsUse l n key → ⊥)

-- The one was used since the other was last. While one that is carried isn't used, all others that
-- are count as used since.
abbrev pub IsUsedSince : List Noted → CacheKey → CacheKey → Type 0
IsUsedSince l key other =
    ((n : ℕ) × IsUse l n other × ((m : ℕ) → IsUse l m key → m < n))
    ⊎ (IsCarriedUnder l other × IsUnused l key)

abbrev pub KeysDiffer : List CacheKey → Type 0
KeysDiffer [] = ⊤
KeysDiffer (k ∷ ks) = AllByRecursion (λ (j : CacheKey). k ≢ j) ks × KeysDiffer ks

-- As many others as are stored were used since: it may be stored no more.
pub record IsCrowdedOut (l : List Noted) (key : CacheKey) : Type 0 where
  pub others : List CacheKey
  pub many : MAX_STORED ≤ length others
  pub differ : KeysDiffer others
  pub since : AllByRecursion (IsUsedSince l key) others

-- Only then is a GET not answered with what is stored for it and fresh.
abbrev pub MissesAlone : List Noted → ℕ → CoapRequest → Type 0
MissesAlone l t q = (s : Stored) → IsStored l q s → is_fresh t s ≡ true
    → IsCrowdedOut l (asked_key q)
