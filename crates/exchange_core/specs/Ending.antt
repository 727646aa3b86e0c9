-- Exchanges that end, and all who wait for them.
use Rattle.std.specs.Prelude.{◌≡◌, ℕ, ◌-◌, false, List, ◌∷◌, ◌++◌, length, map, filter, filter_map, Option, Some, option_map, slice_get, unwrap_or, if◌then◌else◌}
use Rattle.std.specs.Option.{option_map_or}
use Rattle.ask_model.specs.declared.cause.Cause.TheVariants as C
use Rattle.ask_model.specs.Requests.{Requests}
use Rattle.ask_model.specs.Views.{Ask, Mapping}
use Rattle.journal_book.specs.Entries.{Grounds, Live, Kept, Fault, Deed, Answers, Asks, Written}
use Rattle.journal_book.specs.Views.{ask_of}
use Rattle.reply_reading.specs.Findings.{Found, Fails}
use Rattle.exchange_model.specs.declared.kept.Exchange.{Exchange}
use Rattle.exchange_model.specs.declared.kept.Reader.{Reader}
use Rattle.exchange_model.specs.State.{State}
use Rattle.exchange_model.specs.Matters.{moment_in}
use Rattle.exchange_model.specs.Hearing.{is_past}
use Rattle.exchange_model.specs.Calls.{read_by, told_late}
use Rattle.exchange_model.specs.Entering.{answer_of}
use Rattle.exchange_core.specs.declared.ending.Telling.{Telling}
use Rattle.exchange_core.specs.Values.{written}
use Rattle.exchange_core.specs.Answering.{Given, IsFound, HasFormat, CountsFrom}
use Rattle.exchange_core.specs.Asked.{IsAskedIn}

-- what tells a reader
abbrev pub deed_of : Telling → Deed
deed_of x = Answers x.reader.conn x.reader.ask x.finding.grounds

abbrev pub tell_of : Found → Reader → Telling
tell_of f r = record { reader = r; finding = f; renewed = false }

-- the moment from which it counts: that of its first reply, or of this step
abbrev pub first_moment : List Written → ℕ → Grounds → ℕ
first_moment ws t (Live (j ∷ js)) = moment_in ws t j
first_moment ws t (Kept (j ∷ js)) = moment_in ws t j
first_moment ws t grounds = t

-- What was renewed counts from the moment of the last.
abbrev pub last_moment : List Written → ℕ → Grounds → ℕ
last_moment ws t (Live js) =
    option_map_or (moment_in ws t) (slice_get js (length js - 1)) t
last_moment ws t grounds = t

abbrev pub counted_moment : List Written → ℕ → Telling → ℕ
counted_moment ws t x =
    if x.renewed then last_moment ws t x.finding.grounds else first_moment ws t x.finding.grounds

-- All who wait for one of these exchanges are told that it took too long.
abbrev pub late_of : Reader → Exchange → Telling
late_of r e = tell_of
    (record { told = Fails C.Timeout; grounds = Fault C.Timeout (unwrap_or e.sending r.ask) }) r

abbrev pub late_to : List Exchange → Reader → Option Telling
late_to es r = option_map (late_of r) (read_by es r)

abbrev pub out_of_time : List Exchange → List Reader → List Telling
out_of_time es rs = filter_map (late_to es) rs

-- what a tick of a sealed core does
abbrev pub late_deeds : ℕ → State → List Deed
late_deeds t S = map answer_of (told_late (filter (is_past t) S.exchanges) S.readers)

-- The reader asked, and what was found is what the entries say, those that are drafted too.
pub record IsTold (h drafted : List Written) (t : ℕ) (x : Telling) : Type 0 where
  pub asked : IsAskedIn h x.reader
  pub found : IsFound (h ++ drafted) x.finding.told x.finding.grounds (Requests asked.request)
  pub format : HasFormat (h ++ drafted) x.finding.told x.finding.grounds
  pub counts : CountsFrom (h ++ drafted) x.finding.grounds t (counted_moment h t x)

-- the answer to its ask, under this number, after these entries
abbrev pub given_to : List Written → ℕ → ℕ → Telling → Mapping → Given
given_to h t n x m = record {
  conn = x.reader.conn;
  ask = x.reader.ask;
  number = n;
  moment = t;
  heard = counted_moment h t x;
  mapping = m;
  found = x.finding;
}

pub record IsAnswerTo (h : List Written) (t n : ℕ) (x : Telling) (g : Given) : Type 0 where
  pub mapping : Mapping
  pub asked : (s c : ℕ) (a : Ask) → slice_get h x.reader.ask ≡ Some (written s (Asks c a))
      → ask_of mapping ≡ a
  pub is : g ≡ given_to h t n x mapping
