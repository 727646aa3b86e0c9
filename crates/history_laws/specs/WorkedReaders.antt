-- Worked journals of GETs that are asked by several: one reads along the exchange of an equal one,
-- where no write to the place has ended since that was opened.
use Rattle.std.specs.Prelude.{List, [], ◌∷◌, Some}
use Rattle.journal_book.specs.Entries.{Live, Opens, Asks, Sends, Hears, Passes, Answers}
use Rattle.history_laws.specs.Readings.{Noted, Plain, Begins, Joins, First, Says, unobserved, noted}
use Rattle.history_laws.specs.Worked.{server, ask_for}
use Rattle.history_laws.specs.WorkedMessages.{get_light, put_light, put_bytes, put_message, changed_bytes, changed_message, waiting, let_go}
use Rattle.history_laws.specs.WorkedEndings.{non_bytes, non_message}
use Rattle.history_laws.specs.WorkedCopies.{get_under, get_again}

-- A third connection asks what the first one did, while the PUT waits.
abbrev pub joined : List Noted
joined =
    noted 600 (Asks 2 (ask_for get_light)) (Joins 1)
    ∷ noted 600 (Opens 2) Plain
    ∷ waiting

-- One response answers both, and then the PUT goes out.
abbrev pub heard_for_both : List Noted
heard_for_both =
    noted 700 (Answers 0 1 (Live (7 ∷ []))) Plain
    ∷ noted 700 (Hears server non_bytes) (Says non_message (Some 2) unobserved)
    ∷ joined

abbrev pub both_answered : List Noted
both_answered =
    noted 700 (Sends server put_bytes (Some 3000)) (First 4 put_message)
    ∷ noted 700 (Answers 2 6 (Live (7 ∷ []))) Plain
    ∷ heard_for_both

-- An empty ACK has let the PUT go, and that is answered while the GET still waits for its response.
-- A third connection asks.
abbrev pub written_between : List Noted
written_between =
    noted 2300 (Opens 2) Plain
    ∷ noted 2200 (Answers 1 4 (Live (9 ∷ []))) Plain
    ∷ noted 2200 (Hears server changed_bytes) (Says changed_message (Some 8) unobserved)
    ∷ let_go

-- What it asks goes out anew.
abbrev pub read_anew : List Noted
read_anew =
    noted 2300 (Sends server (get_under 2 2) (Some 2000)) (First 12 get_again)
    ∷ noted 2300 (Asks 2 (ask_for get_light)) (Begins get_light)
    ∷ written_between

-- Not so: an exchange of its own where there is one to join, an exchange joined that a write has
-- outrun, and a PUT that joins an equal one.
abbrev pub asked_twice : List Noted
asked_twice =
    noted 600 (Asks 2 (ask_for get_light)) (Begins get_light)
    ∷ noted 600 (Opens 2) Plain
    ∷ waiting

abbrev pub read_before : List Noted
read_before =
    noted 2300 (Asks 2 (ask_for get_light)) (Joins 1)
    ∷ written_between

abbrev pub put_once : List Noted
put_once =
    noted 600 (Asks 2 (ask_for put_light)) (Joins 4)
    ∷ noted 600 (Opens 2) Plain
    ∷ waiting

-- Not so: a reader that isn't told as the exchange ends.
abbrev pub one_told : List Noted
one_told =
    noted 800 Passes Plain
    ∷ noted 700 (Sends server put_bytes (Some 3000)) (First 4 put_message)
    ∷ heard_for_both
