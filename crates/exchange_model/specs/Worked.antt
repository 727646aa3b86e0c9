-- Worked runs: the calls leave just the entries of worked journals.
use Rattle.std.specs.Prelude.{◌≡◌, ℕ, List, [], ◌∷◌, ◌++◌, codes}
use Rattle.history_laws.specs.Readings.{entries}
use Rattle.history_laws.specs.Worked.{server, ask_for, host, token, con, empty_ack}
use Rattle.history_laws.specs.WorkedMessages.{get_light, put_light, get_bytes, content_bytes, changed_bytes, all_answered, given_up}
use Rattle.exchange_model.specs.State.{State}
use Rattle.exchange_model.specs.Steps.{opens}
use Rattle.exchange_model.specs.Hearing.{Numbers}
use Rattle.exchange_model.specs.Calls.{asked, heard, ticked}
use Rattle.exchange_model.specs.Keeping.{start}

-- the PUT under ID 0, as it waits
abbrev pub put_text : List ℕ
put_text = con 3 0 1 ++ (host ++ ((133 ∷ codes "light") ++ (255 ∷ codes "off")))

abbrev pub numbers : ℕ → List ℕ → Numbers
numbers n text = record { token = token n; text = text; word = 0 }

-- A GET goes out, and a PUT to the same endpoint has to wait.
abbrev pub one_waits : State
one_waits =
    asked 500 1 (ask_for put_light) (numbers 1 put_text)
    (opens 0 (asked 0 0 (ask_for get_light) (numbers 0 get_bytes) (opens 0 start)))

-- no exchange goes on by what is heard
abbrev pub unused : Numbers
unused = numbers 2 []

-- The GET goes out again, an ACK lets the PUT go, and the response comes by itself.
abbrev pub one_answered : State
one_answered =
    heard 5000 server content_bytes unused
    (heard 2100 server (empty_ack 0) unused (ticked 2000 one_waits))

-- It comes again, the PUT goes out again, and its response comes.
abbrev pub both_answered : State
both_answered =
    heard 5300 server changed_bytes unused
    (ticked 5200 (heard 5100 server content_bytes unused one_answered))

abbrev pub AnsweredRun : Type 0
AnsweredRun = both_answered.entries ≡ entries all_answered

-- No reply comes at all.
abbrev pub GivenUpRun : Type 0
GivenUpRun = (ticked 93500 one_waits).entries ≡ entries given_up
