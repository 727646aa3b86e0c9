-- Worked journals of a PUT of 1,040 bytes, whose body goes in pieces (RFC 7959 section 2.3).
use Rattle.std.specs.Prelude.{ℕ, List, [], ◌∷◌, ◌++◌, Some, false, true, replicate, codes}
use Rattle.coap_codec.specs.declared.block.Block.{Block}
use Rattle.coap_codec.specs.declared.message.MsgType.TheVariants.{Ack}
use Rattle.coap_codec.specs.Spelling.{Content}
use Rattle.ask_model.specs.Requests.{CoapRequest, block_message}
use Rattle.ask_model.specs.declared.cause.Cause.TheVariants as C
use Rattle.journal_book.specs.Entries.{Live, Fault, Opens, Asks, Sends, Hears, Answers}
use Rattle.history_laws.specs.Readings.{Noted, Plain, Begins, First, Says, unobserved, noted}
use Rattle.history_laws.specs.Worked.{server, asks, ask_for, host, con, ack, token, message, option}

abbrev pub put_file : CoapRequest
put_file = asks 3 (codes "f") (replicate 1040 97)

abbrev pub block : ℕ → ℕ → Block
block num szx = record { num = num; more = false; szx = szx }

-- The first piece has 1,024 bytes, and more follow: Block1 has 8, and 6 for the size.
abbrev pub piece_bytes : List ℕ
piece_bytes =
    con 3 0 0 ++ (host ++ ((129 ∷ codes "f") ++ ((209 ∷ 3 ∷ 14 ∷ []) ++ (255 ∷ replicate 1024 97))))

abbrev pub piece : Content
piece = block_message put_file (Some (record { num = 0; more = true; szx = 6 })) 0 (token 0)

-- 2.31, which asks for pieces of 256 bytes; and the piece with this number in that size, to the end
abbrev pub taken_bytes : List ℕ
taken_bytes = ack 95 0 0 ++ (209 ∷ 14 ∷ 12 ∷ [])

abbrev pub taken_message : Content
taken_message = message Ack 95 0 0 (option 27 (12 ∷ []) ∷ []) []

abbrev pub rest_bytes : List ℕ
rest_bytes =
    con 3 1 1 ++ (host ++ ((129 ∷ codes "f") ++ ((209 ∷ 3 ∷ 68 ∷ []) ++ (255 ∷ replicate 16 97))))

abbrev pub rest : Content
rest = block_message put_file (Some (block 4 4)) 1 (token 1)

abbrev pub piece_sent : List Noted
piece_sent =
    noted 0 (Sends server piece_bytes (Some 2000)) (First 1 piece)
    ∷ noted 0 (Asks 0 (ask_for put_file)) (Begins put_file)
    ∷ noted 0 (Opens 0) Plain
    ∷ []

abbrev pub piece_taken : List Noted
piece_taken =
    noted 700 (Hears server taken_bytes) (Says taken_message (Some 2) unobserved) ∷ piece_sent

-- The rest is the piece after 1,024 bytes: number 4 in the smaller size.
abbrev pub rest_sent : List Noted
rest_sent = noted 700 (Sends server rest_bytes (Some 2000)) (First 1 rest) ∷ piece_taken

-- 2.04 answers the request.
abbrev pub changed_bytes : List ℕ
changed_bytes = ack 68 1 1

abbrev pub changed_message : Content
changed_message = message Ack 68 1 1 [] []

abbrev pub uploaded : List Noted
uploaded =
    noted 900 (Answers 0 1 (Live (3 ∷ 5 ∷ []))) Plain
    ∷ noted 900 (Hears server changed_bytes) (Says changed_message (Some 4) unobserved)
    ∷ rest_sent

-- 4.13 to the first piece answers the request too: no other follows.
abbrev pub too_large_bytes : List ℕ
too_large_bytes = ack 141 0 0

abbrev pub too_large_message : Content
too_large_message = message Ack 141 0 0 [] []

abbrev pub turned_down : List Noted
turned_down =
    noted 700 (Answers 0 1 (Live (3 ∷ []))) Plain
    ∷ noted 700 (Hears server too_large_bytes) (Says too_large_message (Some 2) unobserved)
    ∷ piece_sent

-- 2.31 to the last piece isn't understood.
abbrev pub taken_again_bytes : List ℕ
taken_again_bytes = ack 95 1 1

abbrev pub taken_again_message : Content
taken_again_message = message Ack 95 1 1 [] []

abbrev pub endless : List Noted
endless =
    noted 900 (Answers 0 1 (Fault C.NotUnderstood 5)) Plain
    ∷ noted 900 (Hears server taken_again_bytes) (Says taken_again_message (Some 4) unobserved)
    ∷ rest_sent

-- Not so: the rest before the answer to the first piece, or a piece that was sent already.
abbrev pub hurried : List Noted
hurried = noted 500 (Sends server rest_bytes (Some 2000)) (First 1 rest) ∷ piece_sent

abbrev pub again_bytes : List ℕ
again_bytes =
    con 3 1 1 ++ (host ++ ((129 ∷ codes "f") ++ ((209 ∷ 3 ∷ 60 ∷ []) ++ (255 ∷ replicate 256 97))))

abbrev pub again : Content
again = block_message put_file (Some (record { num = 3; more = true; szx = 4 })) 1 (token 1)

abbrev pub overlapping : List Noted
overlapping = noted 700 (Sends server again_bytes (Some 2000)) (First 1 again) ∷ piece_taken
