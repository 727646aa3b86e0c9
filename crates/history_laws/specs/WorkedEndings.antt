-- Worked journals of how exchanges end: by a response in a NON, by a Reset message, by the timeout
-- after the fourth copy.
use Rattle.std.specs.Prelude.{ℕ, List, [], ◌∷◌, ◌++◌, Some, None, codes}
use Rattle.coap_codec.specs.declared.message.MsgType.TheVariants.{Non, Rst}
use Rattle.coap_codec.specs.Spelling.{Content}
use Rattle.ask_model.specs.declared.cause.Cause.TheVariants as C
use Rattle.journal_book.specs.Entries.{Live, Fault, Sends, Hears, Passes, Answers}
use Rattle.history_laws.specs.Confirmations.{empty}
use Rattle.history_laws.specs.Readings.{Noted, Plain, First, Copies, Says, unobserved, noted}
use Rattle.history_laws.specs.Worked.{server, non, empty_rst, message}
use Rattle.history_laws.specs.WorkedMessages.{get_bytes, put_bytes, put_message, waiting, copied}

abbrev pub non_bytes : List ℕ
non_bytes = non 69 60 0 ++ (255 ∷ codes "on")

abbrev pub non_message : Content
non_message = message Non 69 60 0 [] (codes "on")

-- A NON answers the GET and gets no ACK; it lets the PUT go, whose message the server rejects.
abbrev pub rejected : List Noted
rejected =
    noted 700 (Answers 1 4 (Fault C.Reset 8)) Plain
    ∷ noted 700 (Hears server (empty_rst 1)) (Says (empty Rst 1) (Some 7) unobserved)
    ∷ noted 600 (Sends server put_bytes (Some 3000)) (First 4 put_message)
    ∷ noted 600 (Answers 0 1 (Live (5 ∷ []))) Plain
    ∷ noted 600 (Hears server non_bytes) (Says non_message (Some 2) unobserved)
    ∷ waiting

-- The GET's message is copied four times, after 2, 4, 8 and 16 seconds.
abbrev pub copied_out : List Noted
copied_out =
    noted 30000 (Sends server get_bytes None) (Copies 2)
    ∷ noted 30000 Passes Plain
    ∷ noted 14000 (Sends server get_bytes None) (Copies 2)
    ∷ noted 14000 Passes Plain
    ∷ noted 6000 (Sends server get_bytes None) (Copies 2)
    ∷ noted 6000 Passes Plain
    ∷ copied

-- 32 seconds later it is given up, and the PUT goes out.
abbrev pub timed_out : List Noted
timed_out =
    noted 62000 (Sends server put_bytes (Some 2000)) (First 4 put_message)
    ∷ noted 62000 (Answers 0 1 (Fault C.Timeout 2)) Plain
    ∷ noted 62000 Passes Plain
    ∷ copied_out
