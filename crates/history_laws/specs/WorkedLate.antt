-- Worked journals in which something comes too late to count: a second response under a token, a
-- Reset message after an ACK, a client that is gone.
use Rattle.std.specs.Prelude.{ℕ, List, [], ◌∷◌, ◌++◌, Some, None, codes}
use Rattle.coap_codec.specs.declared.message.MsgType.TheVariants.{Con, Rst}
use Rattle.coap_codec.specs.Spelling.{Content}
use Rattle.ask_model.specs.declared.cause.Cause.TheVariants as C
use Rattle.journal_book.specs.Entries.{Fault, Opens, Asks, Sends, Hears, Passes, Answers, Shuts}
use Rattle.history_laws.specs.Confirmations.{empty}
use Rattle.history_laws.specs.Readings.{Noted, Plain, Begins, First, Copies, Confirms, Says, unobserved, noted}
use Rattle.history_laws.specs.Worked.{server, ask_for, con, empty_rst, message}
use Rattle.history_laws.specs.WorkedMessages.{get_light, put_light, get_bytes, put_bytes, get_message, let_go, answered}

-- 2.05 with the payload `off`, under the GET's token and another ID
abbrev pub other_bytes : List ℕ
other_bytes = con 69 53 0 ++ (255 ∷ codes "off")

abbrev pub other_message : Content
other_message = message Con 69 53 0 [] (codes "off")

-- The server responds to the GET a second time, which is rejected.
abbrev pub heard_twice : List Noted
heard_twice =
    noted 5100 (Sends server (empty_rst 53) None) Confirms
    ∷ noted 5100 (Hears server other_bytes) (Says other_message None unobserved)
    ∷ answered

-- The PUT gets no reply in 93 seconds.
abbrev pub half_answered : List Noted
half_answered =
    noted 95000 (Answers 1 4 (Fault C.Timeout 8)) Plain
    ∷ noted 95000 (Sends server put_bytes None) (Copies 8)
    ∷ noted 95000 Passes Plain
    ∷ answered

-- A Reset message comes for what an ACK confirmed.
abbrev pub rejected_after : List Noted
rejected_after =
    noted 2200 (Hears server (empty_rst 0)) (Says (empty Rst 0) None unobserved)
    ∷ let_go

-- The client of the GET closes its connection, and a tick finds the GET 93 seconds old.
abbrev pub abandoned : List Noted
abandoned =
    noted 93600 (Asks 1 (ask_for put_light)) (Begins put_light)
    ∷ noted 93500 (Sends server get_bytes None) (Copies 2)
    ∷ noted 93500 Passes Plain
    ∷ noted 100 (Opens 1) Plain
    ∷ noted 100 (Shuts 0) Plain
    ∷ noted 0 (Sends server get_bytes (Some 2000)) (First 1 get_message)
    ∷ noted 0 (Asks 0 (ask_for get_light)) (Begins get_light)
    ∷ noted 0 (Opens 0) Plain
    ∷ []
