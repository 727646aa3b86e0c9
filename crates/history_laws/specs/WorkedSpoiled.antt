-- Worked journals that are not legal, each spoiled in its last entry.
use Rattle.std.specs.Prelude.{List, [], ◌∷◌, ◌++◌, Some, None, codes}
use Rattle.coap_codec.specs.declared.message.MsgType.TheVariants.{Ack, Rst}
use Rattle.ask_model.specs.declared.cause.Cause.TheVariants as C
use Rattle.ask_model.specs.Requests.{CoapRequest, request_message}
use Rattle.journal_book.specs.Entries.{Live, Fault, Opens, Asks, Sends, Hears, Passes, Answers, Seals}
use Rattle.history_laws.specs.Confirmations.{empty}
use Rattle.history_laws.specs.Readings.{Noted, Plain, Begins, First, Copies, Says, unobserved, noted}
use Rattle.history_laws.specs.Worked.{server, asks, ask_for, host, token, con, empty_ack, empty_rst}
use Rattle.history_laws.specs.WorkedMessages.{put_light, get_bytes, content_bytes, content_message, waiting, copied, let_go, answered}
use Rattle.history_laws.specs.WorkedEndings.{copied_out}

-- a sixth sending
abbrev pub sent_six_times : List Noted
sent_six_times =
    noted 62000 (Sends server get_bytes None) (Copies 2)
    ∷ noted 62000 Passes Plain
    ∷ copied_out

-- a 504 a millisecond before the timeout after the fourth copy is over
abbrev pub timed_out_early : List Noted
timed_out_early =
    noted 61999 (Answers 0 1 (Fault C.Timeout 2)) Plain
    ∷ noted 61999 Passes Plain
    ∷ copied_out

-- a copy with another message ID
abbrev pub renumbered : List Noted
renumbered =
    noted 2000 (Sends server (con 1 9 0 ++ (host ++ (133 ∷ codes "light"))) None) (Copies 2)
    ∷ noted 2000 Passes Plain
    ∷ waiting

abbrev pub get_lamp : CoapRequest
get_lamp = asks 1 (codes "lamp") []

-- The message of a later ask goes out while the PUT still waits.
abbrev pub overtaken : List Noted
overtaken =
    noted 700 (Sends server (con 1 1 1 ++ (host ++ (132 ∷ codes "lamp"))) (Some 2000))
    (First 6 (request_message get_lamp 1 (token 1)))
    ∷ noted 700 (Hears server (empty_ack 0)) (Says (empty Ack 0) (Some 2) unobserved)
    ∷ noted 600 (Asks 2 (ask_for get_lamp)) (Begins get_lamp)
    ∷ noted 600 (Opens 2) Plain
    ∷ waiting

-- The PUT goes out under the GET's message ID, which was used less than 494 seconds before.
abbrev pub used_again : List Noted
used_again =
    noted 493999 (Sends server
    (con 3 0 1 ++ (host ++ ((133 ∷ codes "light") ++ (255 ∷ codes "off")))) (Some 2000))
    (First 4 (request_message put_light 0 (token 1)))
    ∷ noted 2100 (Hears server (empty_ack 0)) (Says (empty Ack 0) (Some 2) unobserved)
    ∷ copied

-- a repeat taken for a new message, 246,999 ms after the first
abbrev pub heard_as_new : List Noted
heard_as_new =
    noted 251999 (Hears server content_bytes) (Says content_message None unobserved)
    ∷ answered

-- a Reset message taken to reject what an empty ACK had confirmed
abbrev pub rejected_late : List Noted
rejected_late =
    noted 2200 (Hears server (empty_rst 0)) (Says (empty Rst 0) (Some 2) unobserved)
    ∷ let_go

-- the PUT answered by the reply to the GET
abbrev pub crossed : List Noted
crossed =
    noted 5000 (Answers 1 4 (Live (9 ∷ []))) Plain
    ∷ answered

-- the journal sealed where there is room, while two asks wait
abbrev pub sealed_early : List Noted
sealed_early = noted 600 Seals Plain ∷ waiting
