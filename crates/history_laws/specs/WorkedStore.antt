-- Worked journals of what is stored: a GET is answered with the response to an equal one, while
-- that is fresh and no write to the place has ended since it was asked for.
use Rattle.std.specs.Prelude.{List, [], ◌∷◌, Some, codes}
use Rattle.ask_model.specs.Requests.{CoapRequest}
use Rattle.journal_book.specs.Entries.{Live, Kept, Opens, Asks, Sends, Hears, Answers}
use Rattle.history_laws.specs.Readings.{Noted, Plain, Begins, Serves, First, Says, unobserved, noted}
use Rattle.history_laws.specs.Worked.{server, ask_for}
use Rattle.history_laws.specs.WorkedMessages.{get_light, get_bytes, get_message, all_answered}
use Rattle.history_laws.specs.WorkedEndings.{non_bytes, non_message}
use Rattle.history_laws.specs.WorkedCopies.{get_under, get_again, content_again_bytes, content_again}

-- A GET is answered.
abbrev pub read_once : List Noted
read_once =
    noted 700 (Answers 0 1 (Live (3 ∷ []))) Plain
    ∷ noted 700 (Hears server non_bytes) (Says non_message (Some 2) unobserved)
    ∷ noted 0 (Sends server get_bytes (Some 2000)) (First 1 get_message)
    ∷ noted 0 (Asks 0 (ask_for get_light)) (Begins get_light)
    ∷ noted 0 (Opens 0) Plain
    ∷ []

-- The response has no Max-Age, and answers an equal GET in the last of its 60,000 milliseconds.
abbrev pub read_from_store : List Noted
read_from_store =
    noted 60699 (Answers 0 5 (Kept (3 ∷ []))) Plain
    ∷ noted 60699 (Asks 0 (ask_for get_light)) (Serves (3 ∷ []))
    ∷ read_once

-- A millisecond later it goes out anew.
abbrev pub fetched_when_stale : List Noted
fetched_when_stale =
    noted 60700 (Sends server (get_under 2 2) (Some 2000)) (First 5 get_again)
    ∷ noted 60700 (Asks 0 (ask_for get_light)) (Begins get_light)
    ∷ read_once

-- Not so: an exchange of its own in that last millisecond.
abbrev pub fetched_though_fresh : List Noted
fetched_though_fresh = noted 60699 (Asks 0 (ask_for get_light)) (Begins get_light) ∷ read_once

-- Not so: what is stored served a millisecond later, and an answer a millisecond after its ask.
abbrev pub read_expired : List Noted
read_expired =
    noted 60700 (Answers 0 5 (Kept (3 ∷ []))) Plain
    ∷ noted 60700 (Asks 0 (ask_for get_light)) (Serves (3 ∷ []))
    ∷ read_once

abbrev pub kept_late : List Noted
kept_late =
    noted 60699 (Answers 0 5 (Kept (3 ∷ []))) Plain
    ∷ noted 60698 (Asks 0 (ask_for get_light)) (Serves (3 ∷ []))
    ∷ read_once

-- Not so: for another query, or another Accept.
abbrev pub get_bright : CoapRequest
get_bright = record get_light { target = record get_light.target { query = codes "bright" ∷ [] } }

abbrev pub get_json : CoapRequest
get_json = record get_light { accept = Some 50 }

abbrev pub other_query : List Noted
other_query = noted 800 (Asks 0 (ask_for get_bright)) (Serves (3 ∷ [])) ∷ read_once

abbrev pub other_accept : List Noted
other_accept = noted 800 (Asks 0 (ask_for get_json)) (Serves (3 ∷ [])) ∷ read_once

-- Not so: after a PUT to the place, whose exchange ended since.
abbrev pub read_outdated : List Noted
read_outdated =
    noted 5400 (Answers 0 18 (Kept (9 ∷ []))) Plain
    ∷ noted 5400 (Asks 0 (ask_for get_light)) (Serves (9 ∷ []))
    ∷ all_answered

-- Not so: the older one of two responses. Nor would the second have been asked for while the first
-- was fresh.
abbrev pub read_twice : List Noted
read_twice =
    noted 900 (Answers 0 5 (Live (7 ∷ []))) Plain
    ∷ noted 900 (Hears server content_again_bytes) (Says content_again (Some 6) unobserved)
    ∷ noted 800 (Sends server (get_under 2 2) (Some 2000)) (First 5 get_again)
    ∷ noted 800 (Asks 0 (ask_for get_light)) (Begins get_light)
    ∷ read_once

abbrev pub read_older : List Noted
read_older = noted 1000 (Asks 0 (ask_for get_light)) (Serves (3 ∷ [])) ∷ read_twice
