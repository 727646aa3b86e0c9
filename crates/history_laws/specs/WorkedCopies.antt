-- Worked journals that begin with copies of what `all_answered` sent and heard.
use Rattle.std.specs.Prelude.{ℕ, List, [], ◌∷◌, ◌++◌, Some, None, codes}
use Rattle.coap_codec.specs.declared.message.MsgType.TheVariants.{Ack}
use Rattle.coap_codec.specs.Spelling.{Content}
use Rattle.ask_model.specs.Requests.{request_message}
use Rattle.journal_book.specs.Entries.{Past, Sent, Heard, Live, Opens, Asks, Sends, Hears, Answers, Carries}
use Rattle.history_laws.specs.Readings.{Noted, Plain, Begins, First, Confirms, Says, Repeats, Bygone, Recalls, Acknowledged, unobserved, noted}
use Rattle.history_laws.specs.Worked.{server, ask_for, host, token, con, ack, empty_ack, message}
use Rattle.history_laws.specs.WorkedMessages.{get_light, get_bytes, get_message, put_bytes, put_message, content_bytes, content_message}

-- the GET with this ID and the token with this number
abbrev pub get_under : ℕ → ℕ → List ℕ
get_under mid n = con 1 mid n ++ (host ++ (133 ∷ codes "light"))

abbrev pub get_again : Content
get_again = request_message get_light 2 (token 2)

-- its response, in an ACK
abbrev pub content_again_bytes : List ℕ
content_again_bytes = ack 69 2 2 ++ (255 ∷ codes "on")

abbrev pub content_again : Content
content_again = message Ack 69 2 2 [] (codes "on")

-- the GET, the PUT, and the response to the GET
abbrev pub begun_with : List Noted
begun_with =
    noted 5000 (Carries 9 Past (Heard server content_bytes)) (Recalls content_message Acknowledged)
    ∷ noted 2100 (Carries 8 Past (Sent server put_bytes (Some 2000))) (Bygone put_message)
    ∷ noted 0 (Carries 2 Past (Sent server get_bytes (Some 2000))) (Bygone get_message)
    ∷ []

-- The response comes once more, and is acknowledged again. A third connection asks for the light.
abbrev pub asking_anew : List Noted
asking_anew =
    noted 100000 (Asks 2 (ask_for get_light)) (Begins get_light)
    ∷ noted 100000 (Opens 2) Plain
    ∷ noted 100000 (Sends server (empty_ack 52) None) Confirms
    ∷ noted 100000 (Hears server content_bytes) (Repeats content_message 2)
    ∷ begun_with

-- It goes out under the next ID and token, and is answered.
abbrev pub answered_anew : List Noted
answered_anew =
    noted 100100 (Answers 2 6 (Live (8 ∷ []))) Plain
    ∷ noted 100100 (Hears server content_again_bytes) (Says content_again (Some 7) unobserved)
    ∷ noted 100000 (Sends server (get_under 2 2) (Some 2000)) (First 6 get_again)
    ∷ asking_anew

-- Not so: a message under a token that a copy bears, or under the ID of one that went out 493,999
-- ms before.
abbrev pub token_used_again : List Noted
token_used_again =
    noted 100000 (Sends server (get_under 2 0) (Some 2000))
    (First 6 (request_message get_light 2 (token 0)))
    ∷ asking_anew

abbrev pub id_used_again : List Noted
id_used_again =
    noted 496099 (Sends server (get_under 1 2) (Some 2000))
    (First 6 (request_message get_light 1 (token 2)))
    ∷ asking_anew

-- Not so: what repeats a copy taken for new, 246,999 ms after that was heard, and a copy after an
-- entry of the journal's own.
abbrev pub copy_heard_as_new : List Noted
copy_heard_as_new =
    noted 251999 (Hears server content_bytes) (Says content_message None unobserved)
    ∷ begun_with

abbrev pub copied_late : List Noted
copied_late =
    noted 100000 (Carries 16 Past (Sent server (get_under 2 2) (Some 2000))) (Bygone get_again)
    ∷ noted 100000 (Opens 2) Plain
    ∷ begun_with
