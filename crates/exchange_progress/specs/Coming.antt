-- How far an open exchange comes by a reply, as its readers are told.
use Rattle.std.specs.Prelude.{◌≡◌, ℕ, Bool, true, false, List, [], ◌∷◌, Option, Some, None, is_none, IfSome}
use Rattle.coap_codec.specs.Spelling.{Content}
use Rattle.coap_codec.specs.declared.block.Block.{Block}
use Rattle.blockwise.specs.Downloads.{IsSayable}
use Rattle.blockwise.specs.Uploads.{next_block}
use Rattle.ask_model.specs.declared.cause.Cause.TheVariants as C
use Rattle.resp_cache.specs.Stored.{Stored}
use Rattle.history_laws.specs.Responses.{renewed_response}
use Rattle.reply_reading.specs.Findings.{Found, Told, Tells, Fails}
use Rattle.history_laws.specs.Progress.{Reply, Ending, Whole, Renewed, NotUnderstood, Reset, TimedOut, Turned, Progress, Ends, block_after, step}
use Rattle.journal_book.specs.Entries.{Written}
use Rattle.exchange_model.specs.declared.kept.Exchange.{Exchange}
use Rattle.exchange_model.specs.declared.kept.Piece.{Piece}
use Rattle.exchange_model.specs.declared.kept.Reader.{Reader}
use Rattle.exchange_model.specs.declared.kept.Work.{Work}
use Rattle.exchange_model.specs.declared.kept.Work.TheVariants as W
use Rattle.exchange_model.specs.Steps.{reply_at}
use Rattle.exchange_model.specs.Matters.{fetched_in, progress_with}
use Rattle.exchange_model.specs.Calls.{grounds_for}
use Rattle.exchange_progress.specs.declared.coming.Coming.{Coming}
use Rattle.exchange_progress.specs.declared.coming.Coming.TheVariants as Comes
use Rattle.exchange_progress.specs.declared.coming.Ended.{Ended}
use Rattle.exchange_progress.specs.declared.coming.Ended.TheVariants as How
use Rattle.exchange_progress.specs.declared.coming.Onward.{Onward}

-- how far it comes by a reply in the entry with this number, by the entries and by the pieces that
-- were fetched
abbrev pub comes_by : List Written → List Piece → Exchange → ℕ → Content → Progress
comes_by ws xs e n m = step (progress_with e.work (fetched_in ws e.opening xs)) (reply_at n m)

-- what an exchange came to that ended so
abbrev pub told_as : Ending → Told
told_as (Whole w rs) = Tells w
told_as (Renewed s r) = Tells (renewed_response s.response r.message)
told_as NotUnderstood = Fails C.NotUnderstood
told_as Reset = Fails C.Reset
told_as TimedOut = Fails C.Timeout
told_as Turned = Fails C.Busy

-- what the reader is told of that, by the entry with this number
abbrev pub found_for : Ending → ℕ → Option ℕ → Reader → Found
found_for how n sending r =
    record { told = told_as how; grounds = grounds_for how n sending r }

-- all readers are told this
abbrev pub AllFind : ℕ → Found → Ending → Type 0
AllFind n f how = (sending : Option ℕ) (r : Reader) → f ≡ found_for how n sending r

-- what it asked about is valid still
abbrev pub renews : Ending → Bool
renews (Renewed s r) = true
renews how = false

-- It ended so by the entry with this number: one thing is found for all readers, be it renewed, or
-- it was turned away, which names the ask of each.
abbrev pub IsEnded : ℕ → Ended → Ending → Type 0
IsEnded n (How.Found f) how = AllFind n f how × (renews how ≡ false)
IsEnded n (How.Renewed f opening) how =
    AllFind n f how × ((s : Stored) × (r : Reply) × (how ≡ Renewed s r) × (opening ≡ s.opening))
IsEnded n How.Turned how = how ≡ Turned

-- what a GET asks for, and it alone, may be begun anew
abbrev pub is_fetched : Work → Bool
is_fetched (W.Fetches restarts pieces) = true
is_fetched (W.Gives upload) = false

-- the block after those before
abbrev pub block_in : Work → Option Block
block_in (W.Fetches restarts pieces) = block_after pieces
block_in (W.Gives upload) = next_block upload

-- the first of the replies that came since it was begun
abbrev pub first_got : List Reply → Option Reply
first_got [] = None
first_got (r ∷ rs) = Some r

-- It goes on, having come so far: its next message is for the block after those before, and names
-- one unless it begins anew, as a GET alone does.
pub record IsOnward (o : Onward) (progress : Progress) : Type 0 where
  pub got : List Reply
  pub is : progress ≡ progress_with o.work got
  pub block : o.block ≡ block_in o.work
  pub anew : is_none o.block ≡ is_none (first_got got)
  pub fetches : is_none o.block ≡ true → is_fetched o.work ≡ true

-- The block that its next message names can be asked for.
abbrev pub AsksSayable : Coming → Type 0
AsksSayable (Comes.Goes o) = IfSome o.block IsSayable
AsksSayable (Comes.Ends x) = Unit {0}

abbrev pub IsComing : ℕ → Coming → Progress → Type 0
IsComing n (Comes.Goes o) progress = IsOnward o progress
IsComing n (Comes.Ends x) progress = (how : Ending) × (progress ≡ Ends how) × IsEnded n x how
