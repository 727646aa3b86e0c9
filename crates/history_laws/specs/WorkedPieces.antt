-- Worked journals of a GET whose response comes in two pieces (RFC 7959 section 2.4).
use Rattle.std.specs.Prelude.{ℕ, ◌*◌, List, [], ◌∷◌, ◌++◌, Some, false, codes}
use Rattle.coap_codec.specs.declared.block.Block.{Block}
use Rattle.coap_codec.specs.declared.message.MsgType.TheVariants.{Non}
use Rattle.coap_codec.specs.Spelling.{Content}
use Rattle.ask_model.specs.Requests.{block_message}
use Rattle.ask_model.specs.declared.cause.Cause.TheVariants as C
use Rattle.journal_book.specs.Entries.{Live, Fault, Opens, Asks, Sends, Hears, Answers}
use Rattle.history_laws.specs.Readings.{Noted, Plain, Begins, First, Says, unobserved, noted}
use Rattle.history_laws.specs.Worked.{server, ask_for, host, con, non, token, message, option}
use Rattle.history_laws.specs.WorkedMessages.{get_light, get_bytes, get_message}

-- 2.05 with the first 16 bytes, after which more follow, and with the rest: Block2 has the number
-- times 16, plus 8 where more follow
abbrev pub piece_bytes : List ℕ
piece_bytes = non 69 60 0 ++ (209 ∷ 10 ∷ 8 ∷ 255 ∷ codes "sixteen bytes of")

abbrev pub piece_message : Content
piece_message = message Non 69 60 0 (option 23 (8 ∷ []) ∷ []) (codes "sixteen bytes of")

abbrev pub rest_bytes : List ℕ
rest_bytes = non 69 61 1 ++ (209 ∷ 10 ∷ 16 ∷ 255 ∷ codes "light")

abbrev pub rest_message : Content
rest_message = message Non 69 61 1 (option 23 (16 ∷ []) ∷ []) (codes "light")

-- the GET of the block with this number
abbrev pub get_block_bytes : ℕ → List ℕ
get_block_bytes num = con 1 1 1 ++ (host ++ ((133 ∷ codes "light") ++ (193 ∷ 16 * num ∷ [])))

abbrev pub block : ℕ → Block
block num = record { num = num; more = false; szx = 0 }

abbrev pub get_block : ℕ → Content
get_block num = block_message get_light (Some (block num)) 1 (token 1)

-- The first piece comes, the block with this number is asked for, and the rest comes.
abbrev pub piece_heard : List Noted
piece_heard =
    noted 700 (Hears server piece_bytes) (Says piece_message (Some 2) unobserved)
    ∷ noted 0 (Sends server get_bytes (Some 2000)) (First 1 get_message)
    ∷ noted 0 (Asks 0 (ask_for get_light)) (Begins get_light)
    ∷ noted 0 (Opens 0) Plain
    ∷ []

abbrev pub next_asked : ℕ → List Noted
next_asked num =
    noted 700 (Sends server (get_block_bytes num) (Some 2000)) (First 1 (get_block num))
    ∷ piece_heard

abbrev pub fetched_with : ℕ → List Noted
fetched_with num =
    noted 900 (Answers 0 1 (Live (3 ∷ 5 ∷ []))) Plain
    ∷ noted 900 (Hears server rest_bytes) (Says rest_message (Some 4) unobserved)
    ∷ next_asked num

-- The next one is 1.
abbrev pub fetched : List Noted
fetched = fetched_with 1

-- What comes instead of the rest leaves a gap after the first piece, and isn't understood.
abbrev pub gap_bytes : List ℕ
gap_bytes = non 69 61 1 ++ (209 ∷ 10 ∷ 32 ∷ 255 ∷ codes "light")

abbrev pub gap_message : Content
gap_message = message Non 69 61 1 (option 23 (32 ∷ []) ∷ []) (codes "light")

abbrev pub gap_heard : List Noted
gap_heard =
    noted 900 (Answers 0 1 (Fault C.NotUnderstood 5)) Plain
    ∷ noted 900 (Hears server gap_bytes) (Says gap_message (Some 4) unobserved)
    ∷ next_asked 1

-- Not so: another one.
abbrev pub other_asked : List Noted
other_asked = next_asked 2
