-- What a message is to the open exchanges, as it is prepared.
use Rattle.std.specs.Prelude.{◌≡◌, ℕ, ◌≤◌, Bool, true, List, [], length, map, filter, Option, Some, None, option_map, is_some}
use Rattle.std.specs.List.{AllByRecursion, find}
use Rattle.limits.specs.declared.TheConstants.{MAX_MESSAGE_LEN}
use Rattle.coap_codec.specs.Spelling.{Content, Spells}
use Rattle.coap_codec.specs.declared.block.Block.{Block}
use Rattle.uri_map.specs.declared.peer.Peer.{Peer}
use Rattle.ask_model.specs.Requests.{CoapRequest, block_message}
use Rattle.ask_model.specs.Datagrams.{block_or_first}
use Rattle.journal_book.specs.Entries.{Deed, Written}
use Rattle.message_layer.specs.Values.{LinkValue, Told, response, was_reset}
use Rattle.message_layer.specs.Sending.{waits}
use Rattle.message_layer.specs.Prepared.{IsSubmission, MayFollow, link_after}
use Rattle.message_layer.specs.declared.prepared.FirstSending.{FirstSending}
use Rattle.message_layer.specs.declared.prepared.Heeding.{Heeding}
use Rattle.message_layer.specs.declared.prepared.Submission.{Submission}
use Rattle.history_laws.specs.Progress.{Ending, Reset, Progress, Ends}
use Rattle.observe_share.specs.declared.registration.Registration.{Registration}
use Rattle.exchange_model.specs.declared.kept.Exchange.{Exchange}
use Rattle.exchange_model.specs.declared.kept.Reader.{Reader}
use Rattle.exchange_model.specs.State.{State}
use Rattle.exchange_model.specs.Steps.{is_under}
use Rattle.exchange_model.specs.Matters.{Matter, Nothing, Tells, Starts, Goes, Over, asked_in, comes_to, has_next_place, replied, stale_in}
use Rattle.exchange_model.specs.Hearing.{Numbers}
use Rattle.exchange_model.specs.Calls.{goes_with, is_reader_of}
use Rattle.exchange_model.specs.Growing.{IsFewTimes as WorkedFew, IsWorkOf}
use Rattle.exchange_model.specs.Laws.{IsContinued}
use Rattle.exchange_progress.specs.declared.coming.Coming.{Coming}
use Rattle.exchange_progress.specs.Coming.{IsComing, IsEnded, IsOnward, found_for, renews}
use Rattle.exchange_core.specs.declared.ending.Telling.{Telling}
use Rattle.exchange_core.specs.declared.matter.Matter.{Matter as RustMatter}
use Rattle.exchange_core.specs.declared.matter.Matter.TheVariants as M
use Rattle.exchange_core.specs.Calls.{IsWordedBy}
use Rattle.exchange_core.specs.Ending.{IsTold}
use Rattle.exchange_core.specs.Renewing.{unless_confirmed}
use Rattle.exchange_core.specs.Values.{written}

-- the exchange that a datagram answers, by what a link tells of it, and what that comes to
pub record Answer : Type 0 where
  pub exchange : Exchange
  pub progress : Progress

abbrev pub replied_to : Option Exchange → (Exchange → Progress) → Option Answer
replied_to v comes = option_map (λ (e : Exchange). record { exchange = e; progress = comes e }) v

-- By a message that says that what it asks about is valid still it ends, and by any other it comes
-- so far.
abbrev pub comes_or_renews : Content → State → Exchange → Progress
comes_or_renews m S e =
    unless_confirmed (stale_in e.opening S.stales) (length S.entries) m (comes_to m S e)

abbrev pub answer_in : Told → List ℕ → State → Option Answer
answer_in (response m) token S =
    replied_to (find (is_under token) S.exchanges) (comes_or_renews m S)
answer_in (was_reset of) token S = replied_to (find (is_under of) S.exchanges) (λ e. Ends Reset)
answer_in told token S = None

-- It is answered: this exchange comes to that by the entry with this number.
abbrev pub IsAnsweredSo : ℕ → Exchange → Coming → Option Answer → Type 0
IsAnsweredSo n e coming v =
    (u : Progress) × (v ≡ Some (record { exchange = e; progress = u })) × IsComing n coming u

-- what it is to the exchanges, where there is a place for a next message or not
abbrev pub matter_with : Bool → Option Answer → Matter
matter_with place None = Nothing
matter_with place (Some a) = replied place a.exchange a.progress

abbrev pub matter_for : ℕ → Peer → Heeding → Told → State → Matter
matter_for t p x told S = matter_with (has_next_place t p x.verdict S) (answer_in told x.token S)

-- It is prepared so, by the entry with this number: the next message has these numbers.
abbrev pub IsMatter : ℕ → Numbers → RustMatter → Matter → Type 0
IsMatter n new M.Nothing x = x ≡ Nothing
IsMatter n new (M.Tells k) x =
    (r : Registration) × (x ≡ Tells r k.found) × (k.key ≡ r.key) × (k.token ≡ r.token)
IsMatter n new (M.Starts s) x =
    (r : Registration) × (u : Progress)
    × (x ≡ Starts r (record s.going.exchange { token = [] }) u)
    × (s.key ≡ r.key) × (s.watch ≡ r.token)
    × IsOnward s.going.onward u × (is_some s.going.onward.block ≡ true)
    × (s.going.exchange.opening ≡ n)
    × (s.going.token ≡ new.token) × (s.going.exchange.token ≡ new.token)
    × (s.going.submission.waiting ≡ waits new.token new.text new.word)
IsMatter n new (M.Goes g) x =
    (u : Progress) × (x ≡ Goes g.exchange u) × IsOnward g.onward u × (g.token ≡ new.token)
    × (g.submission.waiting ≡ waits new.token new.text new.word)
IsMatter n new (M.Over e ended) x = (how : Ending) × (x ≡ Over e how) × IsEnded n ended how

-- the message that an exchange goes on with, or begins with
abbrev pub more_in : RustMatter → Option Submission
more_in (M.Goes g) = Some g.submission
more_in (M.Starts s) = Some s.going.submission
more_in x = None

-- The next message is for this block of what was asked for, or of its body, or for the first; it is
-- spelled under this token, and prepared after the datagram.
pub record IsNextFor (t word : ℕ) (link : LinkValue) (x : Heeding) (q : CoapRequest)
    (block : Option Block) (token : List ℕ) (s : Submission) : Type 0 where
  pub text : List ℕ
  pub spelled : Spells (block_message q (block_or_first q block) 0 token) text
  pub short : length text ≤ MAX_MESSAGE_LEN
  pub prepared : IsSubmission t token text word (link_after t x link) s

-- the next token, with the high bits of the word
abbrev pub under : List ℕ → List ℕ → ℕ → Numbers
under token text word = record { token = token; text = text; word = word }

abbrev pub IsNextToken : ℕ → List ℕ → State → Type 0
IsNextToken word token S = IsWordedBy word (under token [] word) S

-- It is this; and where an exchange goes on, or begins, its next message is spelled under the next
-- token, and prepared after the datagram.
pub record IsPrepared (t word : ℕ) (link : LinkValue) (x : Heeding) (S : State)
    (k : RustMatter) (matter : Matter) : Type 0 where
  pub numbers : Numbers
  pub worded : IsWordedBy word numbers S
  pub is : IsMatter (length S.entries) numbers k matter
  pub continued : (e : Exchange) (u : Progress) → goes_with matter ≡ Some (e, u)
      → IsContinued e u numbers S
  pub short : (e : Exchange) (u : Progress) → goes_with matter ≡ Some (e, u)
      → length numbers.text ≤ MAX_MESSAGE_LEN
  pub follows : MayFollow t link x (more_in k)

-- the message that goes out next: the one that waited first, or else the one that is handed in
abbrev pub or_handed_in : Option FirstSending → Option Submission → Option FirstSending
or_handed_in (Some f) more = Some f
or_handed_in None None = None
or_handed_in None (Some x) = x.sent

abbrev pub next_in : Heeding → RustMatter → Option FirstSending
next_in x k = or_handed_in x.next (more_in k)

-- Who waits for an exchange that ended so is told it.
abbrev pub telling_for : Ending → ℕ → Option ℕ → Reader → Telling
telling_for how n sending r =
    record { reader = r; finding = found_for how n sending r; renewed = renews how }

abbrev pub readers_told : Ending → ℕ → Exchange → List Reader → List Telling
readers_told how n e rs = map (telling_for how n e.sending) (filter (is_reader_of e) rs)

abbrev pub told_of : ℕ → Matter → List Reader → List Telling
told_of n (Over e how) rs = readers_told how n e rs
told_of n x rs = []

-- Each of them asked, and is told what the entries say, with those that are drafted for these
-- deeds.
pub record TellsSo (t : ℕ) (ds : List Deed) (k : RustMatter) (S : State) : Type 0 where
  pub numbers : Numbers
  pub matter : Matter
  pub is : IsMatter (length S.entries) numbers k matter
  pub told : AllByRecursion (IsTold S.entries (map (written t) ds) t)
      (told_of (length S.entries) matter S.readers)

-- What is fetched was begun anew three times at most.
abbrev pub IsFewTimes : Exchange → Type 0
IsFewTimes e = WorkedFew e.work

-- It was opened for a request that stands in the entries, and what is kept of it is for that.
abbrev pub IsAskedFor : List Written → Exchange → Type 0
IsAskedFor ws e =
    (is_some (asked_in ws e.ask) ≡ true)
    × ((q : CoapRequest) → asked_in ws e.ask ≡ Some q → IsWorkOf q e.work)
