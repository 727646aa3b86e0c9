-- Worked journals of messages on their way: a GET, whose message is sent again, and a PUT that
-- waits behind it.
use Rattle.std.specs.Prelude.{ℕ, List, [], ◌∷◌, ◌++◌, Some, None, codes}
use Rattle.coap_codec.specs.declared.message.MsgType.TheVariants.{Con, Ack}
use Rattle.coap_codec.specs.Spelling.{Content}
use Rattle.ask_model.specs.declared.cause.Cause.TheVariants as C
use Rattle.ask_model.specs.Requests.{CoapRequest, request_message}
use Rattle.journal_book.specs.Entries.{Live, Fault, Opens, Asks, Sends, Hears, Passes, Answers}
use Rattle.history_laws.specs.Readings.{Noted, Plain, Begins, First, Copies, Confirms, Says, Repeats, unobserved, noted}
use Rattle.history_laws.specs.Confirmations.{empty}
use Rattle.history_laws.specs.Worked.{server, asks, ask_for, host, token, con, ack, empty_ack, message}

abbrev pub get_light : CoapRequest
get_light = asks 1 (codes "light") []

abbrev pub put_light : CoapRequest
put_light = asks 3 (codes "light") (codes "off")

abbrev pub get_bytes : List ℕ
get_bytes = con 1 0 0 ++ (host ++ (133 ∷ codes "light"))

abbrev pub put_bytes : List ℕ
put_bytes = con 3 1 1 ++ (host ++ ((133 ∷ codes "light") ++ (255 ∷ codes "off")))

abbrev pub get_message : Content
get_message = request_message get_light 0 (token 0)

abbrev pub put_message : Content
put_message = request_message put_light 1 (token 1)

-- 2.05 with the payload `on`, in a CON of the server's, and 2.04
abbrev pub content_bytes : List ℕ
content_bytes = con 69 52 0 ++ (255 ∷ codes "on")

abbrev pub changed_bytes : List ℕ
changed_bytes = ack 68 1 1

abbrev pub content_message : Content
content_message = message Con 69 52 0 [] (codes "on")

abbrev pub changed_message : Content
changed_message = message Ack 68 1 1 [] []

-- The GET goes out, and the PUT has to wait.
abbrev pub waiting : List Noted
waiting =
    noted 500 (Asks 1 (ask_for put_light)) (Begins put_light)
    ∷ noted 0 (Opens 1) Plain
    ∷ noted 0 (Sends server get_bytes (Some 2000)) (First 1 get_message)
    ∷ noted 0 (Asks 0 (ask_for get_light)) (Begins get_light)
    ∷ noted 0 (Opens 0) Plain
    ∷ []

-- The GET goes out again when it is due.
abbrev pub copied : List Noted
copied =
    noted 2000 (Sends server get_bytes None) (Copies 2)
    ∷ noted 2000 Passes Plain
    ∷ waiting

-- An empty ACK lets the PUT go.
abbrev pub let_go : List Noted
let_go =
    noted 2100 (Sends server put_bytes (Some 2000)) (First 4 put_message)
    ∷ noted 2100 (Hears server (empty_ack 0)) (Says (empty Ack 0) (Some 2) unobserved)
    ∷ copied

-- The response comes by itself, and is acknowledged.
abbrev pub answered : List Noted
answered =
    noted 5000 (Answers 0 1 (Live (9 ∷ []))) Plain
    ∷ noted 5000 (Sends server (empty_ack 52) None) Confirms
    ∷ noted 5000 (Hears server content_bytes) (Says content_message (Some 2) unobserved)
    ∷ let_go

-- It comes again, and is acknowledged again. But for the ACK the PUT's message has been due at
-- 4,100, so that the tick at 5,200 sends it again; and then its response comes.
abbrev pub all_answered : List Noted
all_answered =
    noted 5300 (Answers 1 4 (Live (16 ∷ []))) Plain
    ∷ noted 5300 (Hears server changed_bytes) (Says changed_message (Some 8) unobserved)
    ∷ noted 5200 (Sends server put_bytes None) (Copies 8)
    ∷ noted 5200 Passes Plain
    ∷ noted 5100 (Sends server (empty_ack 52) None) Confirms
    ∷ noted 5100 (Hears server content_bytes) (Repeats content_message 9)
    ∷ answered

-- No reply at all: both end at the first tick that finds them past their time, and the PUT was
-- never sent.
abbrev pub given_up : List Noted
given_up =
    noted 93500 (Answers 1 4 (Fault C.Timeout 4)) Plain
    ∷ noted 93500 (Answers 0 1 (Fault C.Timeout 2)) Plain
    ∷ noted 93500 (Sends server get_bytes None) (Copies 2)
    ∷ noted 93500 Passes Plain
    ∷ waiting

-- Not so: a copy a millisecond before it is due, and a message sent while another is outstanding.
abbrev pub copied_early : List Noted
copied_early =
    noted 1999 (Sends server get_bytes None) (Copies 2)
    ∷ noted 1999 Passes Plain
    ∷ waiting

abbrev pub not_waited : List Noted
not_waited =
    noted 500 (Sends server put_bytes (Some 2000)) (First 4 put_message)
    ∷ waiting

-- Not so: a tick while the repeated CON has no ACK, and a tick that leaves out a copy that is due.
abbrev pub not_acknowledged : List Noted
not_acknowledged =
    noted 5200 Passes Plain
    ∷ noted 5100 (Hears server content_bytes) (Repeats content_message 9)
    ∷ answered

abbrev pub not_copied : List Noted
not_copied =
    noted 3000 (Opens 2) Plain
    ∷ noted 2000 Passes Plain
    ∷ waiting
