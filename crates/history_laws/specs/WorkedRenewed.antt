-- Worked journals of what is renewed: a GET asks by the ETag of what was stored whether that is
-- valid still, and the server says that it is (RFC 7252 section 5.9.1.3).
use Rattle.std.specs.Prelude.{ℕ, List, [], ◌∷◌, ◌++◌, Some, codes}
use Rattle.coap_codec.specs.declared.message.MsgType.TheVariants.{Ack}
use Rattle.coap_codec.specs.Spelling.{Content}
use Rattle.ask_model.specs.Requests.{validate_message}
use Rattle.ask_model.specs.declared.cause.Cause.TheVariants as C
use Rattle.journal_book.specs.Entries.{Live, Kept, Fault, Opens, Asks, Sends, Hears, Answers}
use Rattle.resp_cache.specs.Stored.{Stored}
use Rattle.history_laws.specs.Responses.{response_of}
use Rattle.history_laws.specs.Readings.{Noted, Plain, Begins, Renews, Serves, First, Says, unobserved, noted}
use Rattle.history_laws.specs.Worked.{server, ask_for, host, con, ack, token, message, option}
use Rattle.history_laws.specs.WorkedMessages.{get_light, put_light, get_bytes, get_message, put_bytes, put_message, changed_bytes, changed_message}
use Rattle.history_laws.specs.WorkedPieces.{get_block}

-- 2.05 with an ETag, text and Max-Age 1; 2.03 with an ETag and Max-Age 9
abbrev pub tagged_bytes : List ℕ
tagged_bytes = ack 69 0 0 ++ (65 ∷ 7 ∷ 128 ∷ 33 ∷ 1 ∷ 255 ∷ codes "on")

abbrev pub tagged : Content
tagged =
    message Ack 69 0 0 (option 4 (7 ∷ []) ∷ option 12 [] ∷ option 14 (1 ∷ []) ∷ []) (codes "on")

abbrev pub valid_bytes : ℕ → List ℕ
valid_bytes tag = ack 67 1 1 ++ (65 ∷ tag ∷ 161 ∷ 9 ∷ [])

abbrev pub valid_message : ℕ → Content
valid_message tag = message Ack 67 1 1 (option 4 (tag ∷ []) ∷ option 14 (9 ∷ []) ∷ []) []

-- the GET with this ETag
abbrev pub validate_bytes : ℕ → ℕ → List ℕ
validate_bytes mid n = con 1 mid n ++ (host ++ (17 ∷ 7 ∷ 117 ∷ codes "light"))

abbrev pub validates : ℕ → ℕ → Content
validates mid n = validate_message (7 ∷ []) get_light mid (token n)

-- The first of three connections reads it.
abbrev pub read_first : List Noted
read_first =
    noted 40 (Answers 0 3 (Live (5 ∷ []))) Plain
    ∷ noted 40 (Hears server tagged_bytes) (Says tagged (Some 4) unobserved)
    ∷ noted 0 (Sends server get_bytes (Some 2000)) (First 3 get_message)
    ∷ noted 0 (Asks 0 (ask_for get_light)) (Begins get_light)
    ∷ noted 0 (Opens 2) Plain
    ∷ noted 0 (Opens 1) Plain
    ∷ noted 0 (Opens 0) Plain
    ∷ []

abbrev pub stored : Stored
stored = record { response = response_of tagged; opening = 3; heard = 40; list = 5 ∷ [] }

-- As that is stale, the second asks whether it is valid still.
abbrev pub asked_whether : List Noted
asked_whether =
    noted 1040 (Sends server (validate_bytes 1 1) (Some 2000)) (First 7 (validates 1 1))
    ∷ noted 1040 (Asks 1 (ask_for get_light)) (Renews get_light stored)
    ∷ read_first

abbrev pub heard_that : ℕ → List Noted
heard_that tag =
    noted 1100 (Hears server (valid_bytes tag)) (Says (valid_message tag) (Some 8) unobserved)
    ∷ asked_whether

-- It is, and is told.
abbrev pub told_with : ℕ → List Noted
told_with tag = noted 1100 (Answers 1 7 (Live (5 ∷ 9 ∷ []))) Plain ∷ heard_that tag

abbrev pub renewed : List Noted
renewed = told_with 7

-- The third is served it in the last of the 9,000 milliseconds since the 2.03.
abbrev pub served_renewed : List Noted
served_renewed =
    noted 10099 (Answers 2 11 (Kept (5 ∷ 9 ∷ []))) Plain
    ∷ noted 10099 (Asks 2 (ask_for get_light)) (Serves (5 ∷ 9 ∷ []))
    ∷ renewed

-- A millisecond later it is asked about once more: what renewed it first goes from its list.
abbrev pub stored_anew : Stored
stored_anew = record {
  response = record (response_of tagged) { max_age = Some 9 };
  opening = 3;
  heard = 1100;
  list = 5 ∷ 9 ∷ [];
}

abbrev pub kept_anew : Stored
kept_anew = record stored_anew { list = 5 ∷ [] }

abbrev pub valid_again_bytes : List ℕ
valid_again_bytes = ack 67 2 2 ++ (65 ∷ 7 ∷ 161 ∷ 9 ∷ [])

abbrev pub valid_again : Content
valid_again = message Ack 67 2 2 (option 4 (7 ∷ []) ∷ option 14 (9 ∷ []) ∷ []) []

abbrev pub renewed_again : List Noted
renewed_again =
    noted 10200 (Answers 2 11 (Live (5 ∷ 13 ∷ []))) Plain
    ∷ noted 10200 (Hears server valid_again_bytes) (Says valid_again (Some 12) unobserved)
    ∷ noted 10100 (Sends server (validate_bytes 2 2) (Some 2000)) (First 11 (validates 2 2))
    ∷ noted 10100 (Asks 2 (ask_for get_light)) (Renews get_light kept_anew)
    ∷ renewed

-- A 2.03 with another ETag isn't understood. Not so: that it renews.
abbrev pub unknown_tag : List Noted
unknown_tag = noted 1100 (Answers 1 7 (Fault C.NotUnderstood 9)) Plain ∷ heard_that 8

abbrev pub other_tag : List Noted
other_tag = told_with 8

-- Not so: while it is fresh.
abbrev pub asked_while_fresh : List Noted
asked_while_fresh =
    noted 1039 (Asks 1 (ask_for get_light)) (Renews get_light stored)
    ∷ read_first

-- The first piece of another representation comes, the next one is asked for, and a 2.03 that
-- answers this isn't understood. Not so: that it renews.
abbrev pub piece_bytes : List ℕ
piece_bytes = ack 69 1 1 ++ (65 ∷ 8 ∷ 209 ∷ 6 ∷ 8 ∷ 255 ∷ codes "sixteen bytes of")

abbrev pub piece : Content
piece = message Ack 69 1 1 (option 4 (8 ∷ []) ∷ option 23 (8 ∷ []) ∷ []) (codes "sixteen bytes of")

abbrev pub next_bytes : List ℕ
next_bytes = con 1 2 2 ++ (host ++ ((133 ∷ codes "light") ++ (193 ∷ 16 ∷ [])))

abbrev pub continued : List Noted
continued =
    noted 1100 (Hears server piece_bytes) (Says piece (Some 8) unobserved)
    ∷ asked_whether

abbrev pub heard_late : List Noted
heard_late =
    noted 1200 (Hears server valid_again_bytes) (Says valid_again (Some 10) unobserved)
    ∷ noted 1100 (Sends server next_bytes (Some 2000))
    (First 7 (record (get_block 1) { mid = 2; token = token 2 }))
    ∷ continued

abbrev pub late_unknown : List Noted
late_unknown = noted 1200 (Answers 1 7 (Fault C.NotUnderstood 11)) Plain ∷ heard_late

abbrev pub valid_late : List Noted
valid_late = noted 1200 (Answers 1 7 (Live (5 ∷ 11 ∷ []))) Plain ∷ heard_late

-- Nor does a later message bear the ETag.
abbrev pub tagged_late : List Noted
tagged_late =
    noted 1100 (Sends server (validate_bytes 2 2) (Some 2000)) (First 7 (validates 2 2))
    ∷ continued

-- Not so: where a PUT to the place has ended since.
abbrev pub written_since : List Noted
written_since =
    noted 100 (Answers 2 7 (Live (9 ∷ []))) Plain
    ∷ noted 100 (Hears server changed_bytes) (Says changed_message (Some 8) unobserved)
    ∷ noted 50 (Sends server put_bytes (Some 2000)) (First 7 put_message)
    ∷ noted 50 (Asks 2 (ask_for put_light)) (Begins put_light)
    ∷ read_first

abbrev pub asked_outrun : List Noted
asked_outrun =
    noted 1040 (Asks 1 (ask_for get_light)) (Renews get_light stored) ∷ written_since
