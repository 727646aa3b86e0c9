-- Worked journals of a notification with the first piece of a representation: the rest is fetched
-- by an exchange that no ask opened (RFC 7641 section 3.2, RFC 7959 section 2.6).
use Rattle.std.specs.Prelude.{ℕ, List, [], ◌∷◌, ◌++◌, Some, codes}
use Rattle.coap_codec.specs.declared.message.MsgType.TheVariants.{Non, Ack}
use Rattle.coap_codec.specs.Spelling.{Content}
use Rattle.ask_model.specs.Requests.{block_message, request_message}
use Rattle.journal_book.specs.Entries.{Live, Kept, Opens, Asks, Sends, Hears, Answers}
use Rattle.history_laws.specs.Readings.{Noted, Plain, Begins, Joins, Serves, First, Says, Updates, Outdates, Starts, unobserved, noted}
use Rattle.history_laws.specs.Worked.{server, host, token, con, non, ack, message, option}
use Rattle.history_laws.specs.WorkedPieces.{block}
use Rattle.history_laws.specs.WorkedWatches.{get_t, observed, seen, registered, least_bytes, least}

-- 2.05 with Observe and the first 16 bytes, after which more follow
abbrev pub first_bytes : ℕ → List ℕ
first_bytes mid =
    non 69 mid 0
    ++ (99 ∷ 255 ∷ 255 ∷ 255 ∷ 209 ∷ 4 ∷ 8 ∷ 255 ∷ codes "sixteen bytes of")

abbrev pub first_message : ℕ → Content
first_message mid =
    message Non 69 mid 0 (option 6 (255 ∷ 255 ∷ 255 ∷ []) ∷ option 23 (8 ∷ []) ∷ [])
    (codes "sixteen bytes of")

-- the GET of the next block, and the rest
abbrev pub next_bytes : List ℕ
next_bytes = con 1 1 1 ++ (host ++ ((129 ∷ codes "t") ++ (193 ∷ 16 ∷ [])))

abbrev pub rest_bytes : List ℕ
rest_bytes = ack 69 1 1 ++ (209 ∷ 10 ∷ 16 ∷ 255 ∷ codes "t")

abbrev pub rest_message : Content
rest_message = message Ack 69 1 1 (option 23 (16 ∷ []) ∷ []) (codes "t")

-- The first piece comes, and the next one is asked for.
abbrev pub begun : List Noted
begun =
    noted 1000 (Hears server (first_bytes 1))
    (Says (first_message 1) (Some 2) (seen (Starts 1 get_t)))
    ∷ registered

abbrev pub next_asked : List Noted
next_asked =
    noted 1000 (Sends server next_bytes (Some 2000))
    (First 5 (block_message get_t (Some (block 1)) 1 (token 1)))
    ∷ begun

-- A GET joins the exchange, and is told of both pieces.
abbrev pub joined : List Noted
joined =
    noted 1100 (Asks 1 (observed get_t)) (Joins 5)
    ∷ noted 1100 (Opens 1) Plain
    ∷ next_asked

abbrev pub rest_heard : List Noted
rest_heard =
    noted 1200 (Hears server rest_bytes) (Says rest_message (Some 6) unobserved)
    ∷ joined

abbrev pub told : List Noted
told = noted 1200 (Answers 1 8 (Live (5 ∷ 9 ∷ []))) Plain ∷ rest_heard

-- They are stored too.
abbrev pub served_both : List Noted
served_both =
    noted 1300 (Answers 1 11 (Kept (5 ∷ 9 ∷ []))) Plain
    ∷ noted 1300 (Asks 1 (observed get_t)) (Serves (5 ∷ 9 ∷ []))
    ∷ told

-- A newer one that is whole comes while the rest is asked for. That is stored, and not what the
-- exchange ends with, which its reader is told.
abbrev pub newer_heard : List Noted
newer_heard =
    noted 1150 (Hears server (least_bytes 2)) (Says (least 2) (Some 2) (seen Updates))
    ∷ joined

abbrev pub served_newer : List Noted
served_newer =
    noted 1300 (Answers 1 12 (Kept (9 ∷ []))) Plain
    ∷ noted 1300 (Asks 1 (observed get_t)) (Serves (9 ∷ []))
    ∷ noted 1200 (Answers 1 8 (Live (5 ∷ 10 ∷ []))) Plain
    ∷ noted 1200 (Hears server rest_bytes) (Says rest_message (Some 6) unobserved)
    ∷ newer_heard

-- Not so: the rest is left where it could be fetched; the whole is asked for in place of the rest;
-- a GET opens an exchange of its own; it is told of the rest alone; what is older is served.
abbrev pub left : List Noted
left =
    noted 1000 (Hears server (first_bytes 1)) (Says (first_message 1) (Some 2) (seen Outdates))
    ∷ registered

abbrev pub whole_bytes : List ℕ
whole_bytes = con 1 1 1 ++ (host ++ (129 ∷ codes "t"))

abbrev pub whole_asked : List Noted
whole_asked =
    noted 1000 (Sends server whole_bytes (Some 2000)) (First 5 (request_message get_t 1 (token 1)))
    ∷ begun

abbrev pub asked_apart : List Noted
asked_apart =
    noted 1100 (Asks 1 (observed get_t)) (Begins get_t)
    ∷ noted 1100 (Opens 1) Plain
    ∷ next_asked

abbrev pub told_the_rest : List Noted
told_the_rest = noted 1200 (Answers 1 8 (Live (9 ∷ []))) Plain ∷ rest_heard

abbrev pub served_older : List Noted
served_older =
    noted 1300 (Asks 1 (observed get_t)) (Serves (5 ∷ 10 ∷ []))
    ∷ noted 1200 (Answers 1 8 (Live (5 ∷ 10 ∷ []))) Plain
    ∷ noted 1200 (Hears server rest_bytes) (Says rest_message (Some 6) unobserved)
    ∷ newer_heard

-- Not so: the rest of one is fetched while an exchange of an equal GET is open, which is that of
-- the one before.
abbrev pub fetched_twice : List Noted
fetched_twice =
    noted 1150 (Hears server (first_bytes 2))
    (Says (first_message 2) (Some 2) (seen (Starts 1 get_t)))
    ∷ joined
