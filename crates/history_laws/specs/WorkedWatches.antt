-- Worked journals of a resource that is observed (RFC 7641): notifications in and out of order, a
-- write, and nobody who asks.
use Rattle.std.specs.Prelude.{ℕ, true, List, [], ◌∷◌, ◌++◌, Some, None, codes}
use Rattle.coap_codec.specs.declared.message.MsgType.TheVariants.{Non, Ack}
use Rattle.coap_codec.specs.Spelling.{Content}
use Rattle.ask_model.specs.Requests.{CoapRequest, observe_message, request_message}
use Rattle.ask_model.specs.Views.{Ask}
use Rattle.journal_book.specs.Entries.{Live, Kept, Opens, Asks, Sends, Hears, Passes, Answers}
use Rattle.history_laws.specs.Readings.{Noted, Plain, Begins, Serves, First, Confirms, Says, Notice, Observation, Registers, Updates, unobserved, noted}
use Rattle.history_laws.specs.Worked.{server, asks, ask_for, no_rules, host, token, con, non, ack, empty_rst, message, option}

abbrev pub get_t : CoapRequest
get_t = asks 1 (codes "t") []

abbrev pub put_t : CoapRequest
put_t = asks 3 (codes "t") (codes "d")

-- The server's resources are to be observed.
abbrev pub observed : CoapRequest → Ask
observed q =
    record (ask_for q) { rules = record no_rules { observed = codes "s.example.com" ∷ [] } }

abbrev pub seen : Observation → Notice
seen o = record { place = true; observation = o }

-- the GET, with Observe 0
abbrev pub get_bytes : List ℕ
get_bytes = con 1 0 0 ++ (host ++ (48 ∷ 81 ∷ codes "t"))

abbrev pub get_message : Content
get_message = observe_message get_t 0 (token 0)

-- 2.05 with Observe, of numbers in order: the greatest but one, the greatest, and the one after it
abbrev pub registers_bytes : List ℕ
registers_bytes = ack 69 0 0 ++ (99 ∷ 255 ∷ 255 ∷ 254 ∷ 255 ∷ codes "a")

abbrev pub registers_message : Content
registers_message = message Ack 69 0 0 (option 6 (255 ∷ 255 ∷ 254 ∷ []) ∷ []) (codes "a")

abbrev pub greatest_bytes : ℕ → List ℕ
greatest_bytes mid = non 69 mid 0 ++ (99 ∷ 255 ∷ 255 ∷ 255 ∷ 255 ∷ codes "b")

abbrev pub greatest : ℕ → Content
greatest mid = message Non 69 mid 0 (option 6 (255 ∷ 255 ∷ 255 ∷ []) ∷ []) (codes "b")

abbrev pub least_bytes : ℕ → List ℕ
least_bytes mid = non 69 mid 0 ++ (96 ∷ 255 ∷ codes "c")

abbrev pub least : ℕ → Content
least mid = message Non 69 mid 0 (option 6 [] ∷ []) (codes "c")

abbrev pub sent : List Noted
sent =
    noted 0 (Sends server get_bytes (Some 2000)) (First 1 get_message)
    ∷ noted 0 (Asks 0 (observed get_t)) (Begins get_t)
    ∷ noted 0 (Opens 0) Plain
    ∷ []

abbrev pub registered : List Noted
registered =
    noted 10 (Answers 0 1 (Live (3 ∷ []))) Plain
    ∷ noted 10 (Hears server registers_bytes) (Says registers_message (Some 2) (seen Registers))
    ∷ sent

abbrev pub updated : List Noted
updated =
    noted 2000 (Hears server (least_bytes 2)) (Says (least 2) (Some 2) (seen Updates))
    ∷ noted 1000 (Hears server (greatest_bytes 1)) (Says (greatest 1) (Some 2) (seen Updates))
    ∷ registered

-- The older one comes again, late, and doesn't count.
abbrev pub outrun_late : List Noted
outrun_late =
    noted 4000 (Opens 1) Plain
    ∷ noted 3000 (Hears server (greatest_bytes 3)) (Says (greatest 3) (Some 2) unobserved)
    ∷ updated

-- An ask is served what came last, without a message.
abbrev pub served : List Noted
served =
    noted 4000 (Answers 1 9 (Kept (6 ∷ []))) Plain
    ∷ noted 4000 (Asks 1 (observed get_t)) (Serves (6 ∷ []))
    ∷ outrun_late

-- Not so: a GET of a server that isn't to be observed, with Observe, and one of that server
-- without.
abbrev pub unasked : List Noted
unasked =
    noted 0 (Sends server get_bytes (Some 2000)) (First 1 get_message)
    ∷ noted 0 (Asks 0 (ask_for get_t)) (Begins get_t)
    ∷ noted 0 (Opens 0) Plain
    ∷ []

abbrev pub plain_bytes : List ℕ
plain_bytes = con 1 0 0 ++ (host ++ (129 ∷ codes "t"))

abbrev pub left_out : List Noted
left_out =
    noted 0 (Sends server plain_bytes (Some 2000)) (First 1 (request_message get_t 0 (token 0)))
    ∷ noted 0 (Asks 0 (observed get_t)) (Begins get_t)
    ∷ noted 0 (Opens 0) Plain
    ∷ []

-- Not so: the older one as an update, and the older one served.
abbrev pub not_newer : List Noted
not_newer =
    noted 3000 (Hears server (greatest_bytes 3)) (Says (greatest 3) (Some 2) (seen Updates))
    ∷ updated

abbrev pub older_served : List Noted
older_served = noted 4000 (Asks 1 (observed get_t)) (Serves (5 ∷ [])) ∷ outrun_late

-- A write ends it: what was stored is served no more, and a notification is rejected.
abbrev pub put_bytes : List ℕ
put_bytes = con 3 1 1 ++ (host ++ ((129 ∷ codes "t") ++ (255 ∷ codes "d")))

abbrev pub put_message : Content
put_message = request_message put_t 1 (token 1)

abbrev pub changed_bytes : List ℕ
changed_bytes = ack 68 1 1

abbrev pub changed_message : Content
changed_message = message Ack 68 1 1 [] []

abbrev pub written : List Noted
written =
    noted 5010 (Answers 2 12 (Live (14 ∷ []))) Plain
    ∷ noted 5010 (Hears server changed_bytes) (Says changed_message (Some 13) unobserved)
    ∷ noted 5000 (Sends server put_bytes (Some 2000)) (First 12 put_message)
    ∷ noted 5000 (Asks 2 (observed put_t)) (Begins put_t)
    ∷ noted 5000 (Opens 2) Plain
    ∷ served

abbrev pub rejected : List Noted
rejected =
    noted 5020 (Sends server (empty_rst 4) None) Confirms
    ∷ noted 5020 (Hears server (least_bytes 4)) (Says (least 4) None unobserved)
    ∷ written

-- Not so: it is served, or a notification still counts.
abbrev pub served_after : List Noted
served_after = noted 5020 (Asks 1 (observed get_t)) (Serves (6 ∷ [])) ∷ written

abbrev pub counted_after : List Noted
counted_after =
    noted 5020 (Hears server (least_bytes 4)) (Says (least 4) (Some 2) (seen Updates))
    ∷ written

-- Nobody asks for two minutes: the tick that finds it so forgets it, and one a millisecond before
-- doesn't.
abbrev pub forgotten : List Noted
forgotten =
    noted 124000 (Sends server (empty_rst 6) None) Confirms
    ∷ noted 124000 (Hears server (least_bytes 6)) (Says (least 6) None unobserved)
    ∷ noted 124000 Passes Plain
    ∷ noted 123999 (Hears server (least_bytes 5)) (Says (least 5) (Some 2) unobserved)
    ∷ noted 123999 Passes Plain
    ∷ served
