-- Worked journals that begin with what is stored: copies of an ask, of its message and of the
-- response.
use Rattle.std.specs.Prelude.{List, [], ◌∷◌, Some}
use Rattle.journal_book.specs.Entries.{Ground, Past, Asked, Sent, Heard, Live, Kept, Opens, Asks, Sends, Hears, Answers, Carries}
use Rattle.history_laws.specs.Readings.{Noted, Plain, Begins, Serves, First, Says, Bygone, Recalls, Acknowledged, unobserved, noted}
use Rattle.history_laws.specs.Worked.{server, ask_for}
use Rattle.history_laws.specs.WorkedMessages.{get_light, put_light, get_bytes, get_message, put_bytes, put_message, content_bytes, content_message, changed_bytes, changed_message}
use Rattle.history_laws.specs.WorkedStore.{get_bright}

-- The response was heard at 5000 and has no Max-Age.
abbrev pub carried_light : List Noted
carried_light =
    noted 5000 (Carries 9 Ground (Heard server content_bytes))
    (Recalls content_message Acknowledged)
    ∷ noted 0 (Carries 2 Ground (Sent server get_bytes (Some 2000))) (First 0 get_message)
    ∷ noted 0 (Carries 1 Ground (Asked 0 (ask_for get_light))) Plain
    ∷ []

-- An equal GET is answered with it in the last of its 60,000 milliseconds.
abbrev pub served_carried : List Noted
served_carried =
    noted 64999 (Answers 2 4 (Kept (2 ∷ []))) Plain
    ∷ noted 64999 (Asks 2 (ask_for get_light)) (Serves (2 ∷ []))
    ∷ noted 64999 (Opens 2) Plain
    ∷ carried_light

-- Not so: a millisecond later, or for another resource.
abbrev pub carried_late : List Noted
carried_late =
    noted 65000 (Asks 2 (ask_for get_light)) (Serves (2 ∷ []))
    ∷ noted 65000 (Opens 2) Plain
    ∷ carried_light

abbrev pub carried_for_another : List Noted
carried_for_another =
    noted 64999 (Asks 2 (ask_for get_bright)) (Serves (2 ∷ []))
    ∷ noted 64999 (Opens 2) Plain
    ∷ carried_light

-- The resource is written to.
abbrev pub written_since : List Noted
written_since =
    noted 10000 (Answers 2 4 (Live (6 ∷ []))) Plain
    ∷ noted 10000 (Hears server changed_bytes) (Says changed_message (Some 5) unobserved)
    ∷ noted 9000 (Sends server put_bytes (Some 2000)) (First 4 put_message)
    ∷ noted 9000 (Asks 2 (ask_for put_light)) (Begins put_light)
    ∷ noted 9000 (Opens 2) Plain
    ∷ carried_light

-- Not so: what was stored before that served after it.
abbrev pub carried_outrun : List Noted
carried_outrun = noted 10001 (Asks 2 (ask_for get_light)) (Serves (2 ∷ [])) ∷ written_since

-- Not so: a message that doesn't ask for what the ask does, and a reply to one that is remembered
-- alone.
abbrev pub carried_other_message : List Noted
carried_other_message =
    noted 0 (Carries 2 Ground (Sent server put_bytes (Some 2000))) (First 0 put_message)
    ∷ noted 0 (Carries 1 Ground (Asked 0 (ask_for get_light))) Plain
    ∷ []

abbrev pub remembered_alone : List Noted
remembered_alone =
    noted 0 (Carries 2 Past (Sent server get_bytes (Some 2000))) (Bygone get_message)
    ∷ noted 0 (Carries 1 Ground (Asked 0 (ask_for get_light))) Plain
    ∷ []

abbrev pub carried_without_message : List Noted
carried_without_message =
    noted 5000 (Carries 9 Ground (Heard server content_bytes))
    (Recalls content_message Acknowledged) ∷ remembered_alone

-- Not so: two asks for the same.
abbrev pub carried_twice : List Noted
carried_twice =
    noted 0 (Carries 2 Ground (Asked 0 (ask_for get_light))) Plain
    ∷ noted 0 (Carries 1 Ground (Asked 0 (ask_for get_light))) Plain
    ∷ []
