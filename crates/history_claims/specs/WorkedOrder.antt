-- Worked journals, as entries: what is asked once, and goes out in order, and what isn't so.
use Rattle.std.specs.Prelude.{ℕ, List, [], ◌∷◌, ◌++◌, Some, codes}
use Rattle.coap_codec.specs.declared.message.MsgType.TheVariants.{Ack}
use Rattle.coap_codec.specs.Spelling.{Content}
use Rattle.ask_model.specs.Requests.{CoapRequest, request_message}
use Rattle.journal_book.specs.Entries.{Opens, Asks, Sends, Hears}
use Rattle.history_laws.specs.Readings.{Noted, Plain, Begins, First, Says, entries, noted, unobserved}
use Rattle.history_laws.specs.Worked.{server, asks, ask_for, host, con, ack, token, message}
use Rattle.history_laws.specs.WorkedMessages as M
use Rattle.history_laws.specs.WorkedCopies as W
use Rattle.history_laws.specs.WorkedStore as K
use Rattle.history_laws.specs.WorkedUploads as U
use Rattle.history_claims.specs.Worked.{asked_by_two}
use Rattle.history_claims.specs.Once.{IsAtHand, IsServedSo, CanWaitFor, AreAskedOnce}
use Rattle.history_claims.specs.Order.{AreSentFor, AreInOrder}

-- In its last fresh millisecond a response is at hand for an equal GET, and is its answer.
abbrev pub ServedAgain : Type 0
ServedAgain =
    IsAtHand (entries K.read_from_store) 5 60699 M.get_light (3 ∷ [])
    × IsServedSo (entries K.read_from_store) 5 0 60699 M.get_light (3 ∷ [])

-- Not so: the device asked anew then, and no answer.
abbrev pub asked_anew : List Noted
asked_anew =
    noted 60699 (Sends server (W.get_under 2 2) (Some 2000)) (First 5 W.get_again)
    ∷ K.fetched_though_fresh

abbrev pub AskedAnew : Type 0
AskedAnew = AreAskedOnce (entries asked_anew) → ⊥

-- A second connection can wait for what the first one asked for.
abbrev pub Waited : Type 0
Waited = CanWaitFor (entries asked_by_two) 4 1 M.get_light

-- Not so: a message of its own, while the first one has no response.
abbrev pub asked_apart : List Noted
asked_apart =
    noted 600 (Sends server (W.get_under 2 2) (Some 2000)) (First 4 W.get_again) ∷ asked_by_two

abbrev pub AskedApart : Type 0
AskedApart = AreSentFor (entries asked_apart) → ⊥

-- A GET that is copied and a PUT that waits, and a body in two pieces.
abbrev pub InOrder : Type 0
InOrder = AreInOrder (entries M.all_answered) × AreInOrder (entries U.uploaded)

-- Not so: a copy a millisecond before it is due, and a message while another is on its way.
abbrev pub CopiedEarly : Type 0
CopiedEarly = AreInOrder (entries M.copied_early) → ⊥

abbrev pub NotWaited : Type 0
NotWaited = AreInOrder (entries M.not_waited) → ⊥

-- Nor a DELETE sent once more, under another token, after its response.
abbrev pub delete_light : CoapRequest
delete_light = asks 4 (codes "light") []

abbrev pub delete_bytes : ℕ → List ℕ
delete_bytes n = con 4 n n ++ (host ++ (133 ∷ codes "light"))

abbrev pub deletes : ℕ → Content
deletes n = request_message delete_light n (token n)

abbrev pub sent_twice : List Noted
sent_twice =
    noted 700 (Sends server (delete_bytes 1) (Some 2000)) (First 1 (deletes 1))
    ∷ noted 700 (Hears server (ack 66 0 0)) (Says (message Ack 66 0 0 [] []) (Some 2) unobserved)
    ∷ noted 0 (Sends server (delete_bytes 0) (Some 2000)) (First 1 (deletes 0))
    ∷ noted 0 (Asks 0 (ask_for delete_light)) (Begins delete_light)
    ∷ noted 0 (Opens 0) Plain
    ∷ []

abbrev pub SentTwice : Type 0
SentTwice = AreSentFor (entries sent_twice) → ⊥
