-- A device is asked once: an ask that can be answered by what is stored, or by what was asked for
-- already, sends nothing. Said of a journal's entries alone, and of its own asks.
use Rattle.std.specs.Prelude.{◌≡◌, ◌⊎◌, ℕ, ◌+◌, ◌<◌, true, List, [], ◌∷◌, length, Some, ⊤}
use Rattle.std.specs.List.{Contains}
use Rattle.limits.specs.declared.TheConstants.{MAX_STORED}
use Rattle.coap_codec.specs.Spelling.{Content}
use Rattle.uri_map.specs.declared.peer.Peer.{Peer}
use Rattle.cache_key.specs.Keys.{CacheKey}
use Rattle.ask_model.specs.declared.cause.Cause.TheVariants as C
use Rattle.ask_model.specs.Requests.{CoapRequest, Requests}
use Rattle.ask_model.specs.Sharing.{asked_key, is_get, asks_same}
use Rattle.journal_book.specs.Entries.{Grounds, Deed, Live, Kept, Fault, Answers, Shuts, Written}
use Rattle.resp_cache.specs.Stored.{lifetime}
use Rattle.history_laws.specs.Responses.{Response, whole_of}
use Rattle.history_laws.specs.Justified.{Stands}
use Rattle.history_laws.specs.Laws.{IsDone}
use Rattle.history_claims.specs.Headline.{IsEntry, IsAsked, IsHeard, IsHeardFirst, IsPending, IsFetching, IsWrite, IsNotified}
use Rattle.history_claims.specs.Causes.{IsUnsent, IsCutOff}

-- Before the entry n, this was asked in the entry a: after the entry s, or it was pending then.
pub record WasAsked (h : List Written) (s n a : ℕ) (q : CoapRequest) : Type 0 where
  pub conn : ℕ
  pub moment : ℕ
  pub asked : IsAsked h a conn moment (Requests q)
  pub before : a < n
  pub since : (s < a) ⊎ IsPending h s a q

-- No write to the resource of q was.
abbrev pub IsUnwritten : List Written → ℕ → ℕ → CoapRequest → Type 0
IsUnwritten h s n q = (w : ℕ) (it : IsWrite h q w) → WasAsked h s n w it.request → ⊥

-- And fewer than 256 keys beside that of q: as many as are stored (RFC 7252 section 5.6), or told
-- of by a notification after the entry s, or by one of which the rest was asked for then.
pub record AreFew (h : List Written) (s n : ℕ) (q : CoapRequest) : Type 0 where
  pub others : List CacheKey
  pub few : length others < MAX_STORED
  pub all : (a : ℕ) (r : CoapRequest) → WasAsked h s n a r → is_get r ≡ true
      → (asked_key r ≡ asked_key q) ⊎ Contains others (asked_key r)
  pub told : (o j : ℕ) (r : CoapRequest) (m : Content) → IsNotified h o r j m → j < n
      → (s < j) ⊎ ((t : ℕ) × IsFetching h s j o r t)
      → (asked_key r ≡ asked_key q) ⊎ Contains others (asked_key r)

-- Since the first of these entries, and before the entry n, no notification was heard of what the
-- same GET reads (RFC 7641 section 3.2).
abbrev pub IsUnnotified : List Written → List ℕ → ℕ → CoapRequest → Type 0
IsUnnotified h [] n q = ⊤
IsUnnotified h (s ∷ js) n q =
    (o j : ℕ) (r : CoapRequest) (m : Content) → s < j → j < n → IsNotified h o r j m
    → asks_same q r ≡ true → ⊥

-- The entries with these numbers heard these messages.
abbrev pub AreHeard : List Written → Peer → List ℕ → List Content → Type 0
AreHeard h p [] [] = ⊤
AreHeard h p (j ∷ js) (m ∷ ms) = ((t : ℕ) × IsHeard h p j t m) × AreHeard h p js ms
AreHeard h p _ _ = ⊥

-- In the entry o the same GET as q was asked, and in the entry n it was answered by a whole 2.05,
-- which was heard in these entries.
pub record WasTold (h : List Written) (q : CoapRequest) (o n : ℕ) (js : List ℕ) : Type 0 where
  pub conn : ℕ
  pub moment : ℕ
  pub request : CoapRequest
  pub asked : IsAsked h o conn moment (Requests request)
  pub same : asks_same q request ≡ true
  pub told_at : ℕ
  pub told : IsEntry h n told_at (Answers conn o (Live js))
  pub messages : List Content
  pub heard : AreHeard h request.peer js messages
  pub response : Response
  pub whole : whole_of request messages ≡ Some response
  pub content : response.code ≡ 69
  pub since : ℕ
  pub first : IsHeardFirst h since js

-- What was told in the entry n stays stored up to the entry k: few others were asked for since; or
-- it stayed stored up to an ask for it, and few others were asked for since that.
pub data IsHeld (h : List Written) (q : CoapRequest) (n : ℕ) : ℕ → Type 0 where
  told : {k : ℕ} → n < k → AreFew h n k q → IsHeld h q n k
  used : {k : ℕ} → (o c t : ℕ) (r : CoapRequest) → IsAsked h o c t (Requests r)
      → asks_same q r ≡ true → IsHeld h q n o → o < k → AreFew h o k q → IsHeld h q n k

-- At this moment the ask k for q can be answered by what was heard in these entries: that was told
-- before, is fresh (RFC 7252 section 5.6.1) and stays stored; no notification of it was heard
-- since, and no write to the resource was asked for, or pending, since.
pub record IsAtHand (h : List Written) (k t : ℕ) (q : CoapRequest) (js : List ℕ) : Type 0 where
  pub ask : ℕ
  pub answer : ℕ
  pub told : WasTold h q ask answer js
  pub fresh : t < told.since + lifetime told.response.max_age
  pub held : IsHeld h q answer k
  pub unnotified : IsUnnotified h js k q
  pub unwritten : IsUnwritten h ask k q

-- Then its answer is just that, at that moment. It isn't left out, but where the connection is shut
-- before anything else comes in; and nothing is sent for the ask.
pub record IsServedSo (h : List Written) (k c t : ℕ) (q : CoapRequest) (js : List ℕ)
    : Type 0 where
  pub answered : ((n : ℕ) × IsEntry h n t (Answers c k (Kept js)))
      ⊎ ((n : ℕ) × (s : ℕ) × (k < n) × IsEntry h n s (Shuts c)
      × ((i u : ℕ) (d : Deed) → k < i → i < n → IsEntry h i u d → IsDone d))
  pub alone : (n s d : ℕ) (g : Grounds) → IsEntry h n s (Answers d k g)
      → (s ≡ t) × (g ≡ Kept js)
  pub unsent : IsUnsent h k k k q

-- The ask k for q can wait for what is asked for the ask o: that is for the same GET and pending,
-- its connection wasn't shut, and no write to the resource was asked for, or pending, since.
pub record CanWaitFor (h : List Written) (k o : ℕ) (q : CoapRequest) : Type 0 where
  pub request : CoapRequest
  pub pending : IsPending h k o request
  pub same : asks_same q request ≡ true
  pub held : (m s : ℕ) → m < k → IsEntry h m s (Shuts pending.conn) → ⊥
  pub unwritten : IsUnwritten h o k q

-- Then nothing is sent for it. Nor is it turned away for want of room: that there was no place is
-- said to it only where that cut off what it waited for.
pub record IsSentNothing (h : List Written) (k c : ℕ) (q : CoapRequest) : Type 0 where
  pub unsent : IsUnsent h k k k q
  pub taken : (n s j : ℕ) → IsEntry h n s (Answers c k (Fault C.Busy j)) → IsCutOff h n c k

-- So it is of each ask of the journal.
pub record AreAskedOnce (h : List Written) : Type 0 where
  pub served : (k c t : ℕ) (q : CoapRequest) (js : List ℕ) → IsAsked h k c t (Requests q)
      → IsAtHand h k t q js → IsServedSo h k c t q js
  pub waits : (k c t o : ℕ) (q : CoapRequest) → IsAsked h k c t (Requests q)
      → CanWaitFor h k o q → IsSentNothing h k c q

-- And of every journal that stands.
abbrev pub AsksOnce : Type 0
AsksOnce = (h : List Written) → Stands h → AreAskedOnce h
