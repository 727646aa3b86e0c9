-- What a message is to what is observed, as it is prepared.
use Rattle.std.specs.Prelude.{◌≡◌, ℕ, Bool, true, false, ◌&&◌, nat_lt, not, List, [], ◌∷◌, length, Option, Some, None, is_none, is_some, if◌then◌else◌}
use Rattle.std.specs.List.{find, list_any}
use Rattle.limits.specs.declared.TheConstants.{MAX_MESSAGE_IDS, MAX_WAITING}
use Rattle.cache_key.specs.Digests.{digests_of}
use Rattle.cache_key.specs.Keys.{CacheKey}
use Rattle.coap_codec.specs.Spelling.{Content}
use Rattle.uri_map.specs.declared.peer.Peer.{Peer}
use Rattle.observe_share.specs.declared.registration.Registration.{Registration}
use Rattle.observe_share.specs.declared.notice.Notice.{Notice}
use Rattle.observe_share.specs.declared.notice.Notice.TheVariants.{Update, Other}
use Rattle.ask_model.specs.Requests.{CoapRequest}
use Rattle.ask_model.specs.Sharing.{asked_key, is_get}
use Rattle.journal_book.specs.Entries.{Written}
use Rattle.message_layer.specs.Sending.{mids_in_use}
use Rattle.message_layer.specs.Values.{LinkState, LinkValue, Told, response}
use Rattle.message_layer.specs.declared.prepared.Submission.{Submission}
use Rattle.message_layer.specs.declared.verdict.News.TheVariants as N
use Rattle.message_layer.specs.declared.prepared.Heeding.{Heeding}
use Rattle.history_laws.specs.Hearing.{is_update}
use Rattle.history_laws.specs.Observing.{most_watches, notice_in}
use Rattle.exchange_model.specs.declared.kept.Exchange.{Exchange}
use Rattle.exchange_model.specs.declared.kept.Work.{Work}
use Rattle.exchange_progress.specs.declared.coming.Onward.{Onward}
use Rattle.exchange_model.specs.State.{State}
use Rattle.exchange_model.specs.Steps.{is_under}
use Rattle.exchange_model.specs.Matters.{Matter, Nothing, asked_in, has_place, is_reading, told_alone}
use Rattle.exchange_model.specs.Hearing.{gone_by, watches_by}
use Rattle.exchange_core.specs.declared.matter.Matter.{Matter as RustMatter}
use Rattle.exchange_core.specs.declared.matter.Matter.TheVariants as M
use Rattle.exchange_core.specs.declared.matter.Starting.{Starting}
use Rattle.exchange_core.specs.declared.notifying.Watching.{Watching}
use Rattle.exchange_core.specs.Hearing.{watches_after}
use Rattle.exchange_core.specs.Matters.{IsNextFor, matter_for}

abbrev pub notice_told : Told → Notice
notice_told (response m) = notice_in m
notice_told told = Other None

-- It is a response under a token that no exchange has.
abbrev pub is_alone : Told → List ℕ → List Exchange → Bool
is_alone (response m) token es = is_none (find (is_under token) es)
is_alone told token es = false

-- A response bears this token.
abbrev pub IsUnder : List ℕ → Told → Type 0
IsUnder token (response m) = m.token ≡ token
IsUnder token told = Unit {0}

-- what a message is to the exchanges and to what is observed
abbrev pub matter_alone : ℕ → Peer → Told → State → Matter
matter_alone t p (response m) S = told_alone t p N.Response m S
matter_alone t p told S = Nothing

abbrev pub matter_told : ℕ → Peer → Heeding → Told → State → Matter
matter_told t p h told S =
    if is_alone told h.token S.exchanges then matter_alone t p told S else matter_for t p h told S

-- The link has a place for a message, and a message ID.
abbrev pub has_link_place : ℕ → LinkState → Bool
has_link_place t s =
    nat_lt (length s.waiting) MAX_WAITING && nat_lt (mids_in_use t s) MAX_MESSAGE_IDS

-- An exchange may begin that fetches the rest of what is told of this key: no other reads the same,
-- and there is a place for it and for its message.
abbrev pub may_start_for : ℕ → Peer → CacheKey → State → Bool
may_start_for t p key S =
    has_place t p S && not (list_any (is_reading S.entries key) S.exchanges)

-- the exchange that the entry with this number opens for what the watch is told, which has come so
-- far
abbrev pub started : ℕ → Peer → Registration → List ℕ → Work → ℕ → Exchange
started t p r token w n = record {
  opening = n;
  ask = r.opening;
  token = token;
  since = t;
  peer = p;
  method = 1;
  sending = None;
  awaits = false;
  observes = false;
  asked = 0;
  current = true;
  newest = true;
  work = w;
  digests = digests_of r.key;
}

-- the exchange that begins, with its message, which was prepared
abbrev pub starting_with : Registration → Exchange → Onward → List ℕ → Submission → Starting
starting_with r e o token s = record {
  key = r.key;
  watch = r.token;
  going = record { exchange = e; onward = o; token = token; submission = s };
}

abbrev pub IsStarted :
    ℕ → ℕ → List ℕ → Peer → LinkValue → Heeding → CoapRequest → Registration → Onward → State
    → RustMatter → Type 0
IsStarted t word token p link x q r o S k =
    (s : Submission)
    × (k ≡ M.Starts
    (starting_with r (started t p r token o.work (length S.entries)) o token s))
    × IsNextFor t word link x q o.block token s

-- What is observed was asked for by a GET that stands in the entries.
abbrev pub IsWatchedFor : List Written → Registration → Type 0
IsWatchedFor ws r = is_some (asked_in ws r.opening) ≡ true

-- The entry with this number is an ask of a GET.
abbrev pub IsReadBy : List Written → ℕ → Type 0
IsReadBy ws o = (q : CoapRequest) × (asked_in ws o ≡ Some q) × (is_get q ≡ true)

abbrev pub ReadsSo : List Written → Exchange → Type 0
ReadsSo ws e = e.observes ≡ true → IsReadBy ws e.ask

abbrev pub ReadsIn : List Written → RustMatter → Type 0
ReadsIn ws (M.Goes g) = ReadsSo ws g.exchange
ReadsIn ws (M.Over e ended) = ReadsSo ws e
ReadsIn ws k = Unit {0}

-- what the reply to an exchange registers
abbrev pub registered_for : ℕ → Exchange → Option CoapRequest → ℕ → List Registration
registered_for t e None v = []
registered_for t e (Some q) v = record {
  key = asked_key q;
  token = e.token;
  opening = e.opening;
  version = v;
  moment = t;
  asked = e.asked;
} ∷ []

abbrev pub registered_by : ℕ → Notice → Exchange → List Written → List Registration
    → List Registration
registered_by t (Other v) e ws rs = []
registered_by t (Update v) e ws rs =
    if e.observes && (e.current && nat_lt (length rs) most_watches)
    then registered_for t e (asked_in ws e.ask) v else []

-- Where it registers nothing, nothing is awaited any more.
abbrev pub unless_more : Option Registration → Exchange → List (List ℕ)
unless_more None e = e.token ∷ []
unless_more (Some r) e = []

-- The message is noted so, where that is asked for: an update under the token of what it is to.
pub record IsNoted (v : Notice) (m : Content) (under : List ℕ) : Type 0 where
  pub update : is_update (notice_in m) ≡ is_update v
  pub notice : is_update v ≡ true → v ≡ notice_in m
  pub token : is_update v ≡ true → under ≡ m.token

abbrev pub IsNotedIn : Notice → Content → RustMatter → Type 0
IsNotedIn notice m M.Nothing = Unit {0}
IsNotedIn notice m (M.Tells k) = (notice ≡ notice_in m) × (k.token ≡ m.token)
IsNotedIn notice m (M.Starts s) =
    (notice ≡ notice_in m) × (is_update notice ≡ true) × (s.watch ≡ m.token)
IsNotedIn notice m (M.Goes g) = IsNoted notice m g.exchange.token
IsNotedIn notice m (M.Over e ended) = IsNoted notice m e.token

-- What becomes of what is observed is what the steps say.
pub record IsWatchedBy (t : ℕ) (m : Content) (k : RustMatter) (w : Watching) (x : Matter)
    (S : State)
    : Type 0 where
  pub watches : watches_after t S.entries w.notice k w.more S.watches
      ≡ watches_by t m S.entries x S.watches
  pub gone : w.gone.items ≡ gone_by m S.entries x S.watches
