-- Worked journals of `history_laws`, as entries: what their answers rest on, and what they don't.
use Rattle.std.specs.Prelude.{List, [], ◌∷◌, Option, Some, None}
use Rattle.ask_model.specs.declared.cause.Cause.TheVariants as C
use Rattle.ask_model.specs.Requests.{CoapRequest}
use Rattle.coap_codec.specs.declared.block.Block.{Block}
use Rattle.coap_codec.specs.Spelling.{Content}
use Rattle.journal_book.specs.Entries.{Live, Fault, Opens, Asks, Sends, Hears, Passes, Answers, Shuts}
use Rattle.history_laws.specs.Readings.{Noted, Plain, Begins, Joins, First, Says, unobserved, entries, noted}
use Rattle.history_laws.specs.Worked.{server, ask_for}
use Rattle.history_laws.specs.WorkedMessages as M
use Rattle.history_laws.specs.WorkedCarried as A
use Rattle.history_laws.specs.WorkedCopies as W
use Rattle.history_laws.specs.WorkedEndings as E
use Rattle.history_laws.specs.WorkedLate as L
use Rattle.history_laws.specs.WorkedPieces as P
use Rattle.history_laws.specs.WorkedUploads as U
use Rattle.history_laws.specs.WorkedReaders as R
use Rattle.history_laws.specs.WorkedRenewed as N
use Rattle.history_laws.specs.WorkedSpoiled as S
use Rattle.history_laws.specs.WorkedStore as K
use Rattle.history_laws.specs.WorkedUpdates as D
use Rattle.history_laws.specs.WorkedWatches as O
use Rattle.history_claims.specs.Headline.{IsSentFor, IsRepeat, IsPending, RestsOn}
use Rattle.history_claims.specs.Stored.{IsServed, RestsOnRenewed}
use Rattle.history_claims.specs.Causes.{AreUnshared, IsTurnedAway, IsCausedBy}

-- The GET's answer rests on the response of entry 9, and the PUT's on that of entry 16.
abbrev pub Answered : Type 0
Answered = RestsOn (entries M.all_answered) 11 0 1 (9 ∷ [])
    × RestsOn (entries M.all_answered) 17 1 4 (16 ∷ [])

-- After 93 seconds the GET's message is named, and the PUT itself, since it was never sent.
abbrev pub TimedOut : Type 0
TimedOut = IsCausedBy (entries M.given_up) 7 93500 0 1 C.Timeout 2
    × IsCausedBy (entries M.given_up) 8 93500 1 4 C.Timeout 4

-- A Reset message is named, and a message that was sent five times.
abbrev pub Rejected : Type 0
Rejected = IsCausedBy (entries E.rejected) 9 700 1 4 C.Reset 8

abbrev pub GivenUp : Type 0
GivenUp = IsCausedBy (entries E.timed_out) 14 62000 0 1 C.Timeout 2

-- Not so: the PUT answered by the response to the GET, which came under its token.
abbrev pub Crossed : Type 0
Crossed = RestsOn (entries S.crossed) 12 1 4 (9 ∷ []) → ⊥

-- Not so: an answer on what is heard after it.
abbrev pub Foreseen : Type 0
Foreseen = RestsOn (entries M.all_answered) 11 1 4 (16 ∷ []) → ⊥

-- Not so: a message given up a millisecond before the timeout after its fourth copy is over.
abbrev pub Early : Type 0
Early = IsCausedBy (entries S.timed_out_early) 14 61999 0 1 C.Timeout 2 → ⊥

-- Not so: an answer on a response that came after a tick had found the GET 93 seconds old.
abbrev pub heard_late : List Noted
heard_late =
    noted 94000 (Hears server M.content_bytes) (Says M.content_message None unobserved) ∷ M.given_up

abbrev pub Late : Type 0
Late = RestsOn (entries heard_late) 10 0 1 (9 ∷ []) → ⊥

-- Not so: an answer on the second response under the GET's token.
abbrev pub Second : Type 0
Second = RestsOn (entries L.heard_twice) 14 0 1 (12 ∷ []) → ⊥

-- Not so: a 504 to the GET after 93 seconds, though its reply came.
abbrev pub Unheeded : Type 0
Unheeded = IsCausedBy (entries L.half_answered) 15 95000 0 1 C.Timeout 2 → ⊥

-- Not so: a GET that names itself, as if its message were that of an equal one answered before.
abbrev pub asked_again : List Noted
asked_again =
    noted 93900 (Answers 0 5 (Fault C.Timeout 5)) Plain
    ∷ noted 93900 Passes Plain
    ∷ noted 800 (Sends server (W.get_under 2 2) (Some 2000)) (First 5 W.get_again)
    ∷ noted 800 (Asks 0 (ask_for M.get_light)) (Begins M.get_light)
    ∷ noted 700 (Answers 0 1 (Live (3 ∷ []))) Plain
    ∷ noted 700 (Hears server E.non_bytes) (Says E.non_message (Some 2) unobserved)
    ∷ noted 0 (Sends server M.get_bytes (Some 2000)) (First 1 M.get_message)
    ∷ noted 0 (Asks 0 (ask_for M.get_light)) (Begins M.get_light)
    ∷ noted 0 (Opens 0) Plain
    ∷ []

abbrev pub Unnamed : Type 0
Unnamed = IsCausedBy (entries asked_again) 8 93900 0 5 C.Timeout 5 → ⊥

-- Not so: a Reset message that came after the ACK.
abbrev pub Unrejected : Type 0
Unrejected = IsCausedBy (entries L.rejected_after) 10 2200 0 1 C.Reset 9 → ⊥

-- The response of entry 7 answers a GET and one that joined it.
abbrev pub Joined : Type 0
Joined = RestsOn (entries R.both_answered) 8 0 1 (7 ∷ [])
    × RestsOn (entries R.both_answered) 9 2 6 (7 ∷ [])

-- Not so: a GET that joined one from before the answer to a PUT.
abbrev pub told_before : List Noted
told_before =
    noted 5000 (Answers 2 12 (Live (13 ∷ []))) Plain
    ∷ noted 5000 (Hears server M.content_bytes) (Says M.content_message (Some 2) unobserved)
    ∷ R.read_before

abbrev pub OutOfDate : Type 0
OutOfDate = RestsOn (entries told_before) 14 2 12 (13 ∷ []) → ⊥

-- Not so: an answer on a response that came before the ask.
abbrev pub told_after : List Noted
told_after =
    noted 800 (Answers 1 6 (Live (4 ∷ []))) Plain
    ∷ noted 800 (Asks 1 (ask_for M.get_light)) (Begins M.get_light)
    ∷ noted 700 (Opens 1) Plain
    ∷ noted 700 (Hears server E.non_bytes) (Says E.non_message (Some 2) unobserved)
    ∷ noted 100 (Shuts 0) Plain
    ∷ noted 0 (Sends server M.get_bytes (Some 2000)) (First 1 M.get_message)
    ∷ noted 0 (Asks 0 (ask_for M.get_light)) (Begins M.get_light)
    ∷ noted 0 (Opens 0) Plain
    ∷ []

abbrev pub HeardBefore : Type 0
HeardBefore = RestsOn (entries told_after) 7 1 6 (4 ∷ []) → ⊥

-- Not so: a 504 to a GET for one resource 93 seconds after a GET for another.
abbrev pub lamp_given_up : List Noted
lamp_given_up =
    noted 93500 (Answers 2 6 (Fault C.Timeout 6)) Plain
    ∷ noted 93500 Passes Plain
    ∷ noted 600 (Asks 2 (ask_for S.get_lamp)) (Begins S.get_lamp)
    ∷ noted 600 (Opens 2) Plain
    ∷ M.waiting

abbrev pub Unlike : Type 0
Unlike = IsCausedBy (entries lamp_given_up) 8 93500 2 6 C.Timeout 6 → ⊥

-- Not so: two who ask for one GET counted as two.
abbrev pub asked_by_two : List Noted
asked_by_two =
    noted 600 (Asks 1 (ask_for M.get_light)) (Joins 1)
    ∷ noted 600 (Opens 1) Plain
    ∷ noted 0 (Sends server M.get_bytes (Some 2000)) (First 1 M.get_message)
    ∷ noted 0 (Asks 0 (ask_for M.get_light)) (Begins M.get_light)
    ∷ noted 0 (Opens 0) Plain
    ∷ []

abbrev pub CountedTwice : Type 0
CountedTwice = AreUnshared (entries asked_by_two) 1 4 M.get_light M.get_light → ⊥

-- Not so: the second turned away.
abbrev pub Unjoined : Type 0
Unjoined = IsTurnedAway (entries asked_by_two) 1 4 → ⊥

-- Not so: an ask of a closed connection that crowds out others still, after 93 seconds.
abbrev pub Abandoned : Type 0
Abandoned = (q : CoapRequest) → IsPending (entries L.abandoned) 7 1 q → ⊥

-- The GET's answer rests on the two pieces of its response.
abbrev pub Fetched : Type 0
Fetched = RestsOn (entries P.fetched) 6 0 1 (3 ∷ 5 ∷ [])

-- Not so: where the second came to a message that asks for another block than the one after the
-- first.
abbrev pub Astray : Type 0
Astray = RestsOn (entries (P.fetched_with 2)) 6 0 1 (3 ∷ 5 ∷ []) → ⊥

-- Not so: where the second was asked for before the first was heard.
abbrev pub asked_early : List Noted
asked_early =
    noted 900 (Answers 0 1 (Live (4 ∷ 5 ∷ []))) Plain
    ∷ noted 900 (Hears server P.rest_bytes) (Says P.rest_message (Some 3) unobserved)
    ∷ noted 700 (Hears server P.piece_bytes) (Says P.piece_message (Some 2) unobserved)
    ∷ noted 600 (Sends server (P.get_block_bytes 1) (Some 2000)) (First 1 (P.get_block 1))
    ∷ noted 0 (Sends server M.get_bytes (Some 2000)) (First 1 M.get_message)
    ∷ noted 0 (Asks 0 (ask_for M.get_light)) (Begins M.get_light)
    ∷ noted 0 (Opens 0) Plain
    ∷ []

abbrev pub AskedEarly : Type 0
AskedEarly = RestsOn (entries asked_early) 6 0 1 (4 ∷ 5 ∷ []) → ⊥

-- The PUT's answer rests on the answers to both pieces of its body; or on the first alone, where
-- that refuses it.
abbrev pub Uploaded : Type 0
Uploaded = RestsOn (entries U.uploaded) 6 0 1 (3 ∷ 5 ∷ [])

abbrev pub TurnedDown : Type 0
TurnedDown = RestsOn (entries U.turned_down) 4 0 1 (3 ∷ [])

-- Not so: where the answer to the first is left out.
abbrev pub LeftOut : Type 0
LeftOut = RestsOn (entries U.uploaded) 6 0 1 (5 ∷ []) → ⊥

-- 2.31 to the last piece is named, as it isn't understood.
abbrev pub Endless : Type 0
Endless = IsCausedBy (entries U.endless) 6 900 0 1 C.NotUnderstood 5

-- A second piece that leaves a gap is named, as it isn't understood.
abbrev pub Gap : Type 0
Gap = IsCausedBy (entries P.gap_heard) 6 900 0 1 C.NotUnderstood 5

-- After copies an answer rests on a response of the journal's own, and what was heard before
-- repeats the copy of that.
abbrev pub AnsweredAnew : Type 0
AnsweredAnew = RestsOn (entries W.answered_anew) 9 2 6 (8 ∷ [])

abbrev pub Repeated : Type 0
Repeated = IsRepeat (entries W.answered_anew) server 3

-- Not so: a message for the GET under the token of a copy.
abbrev pub sent_again : List Noted
sent_again =
    noted 100000 (Sends server M.get_bytes (Some 2000)) (First 6 M.get_message) ∷ W.asking_anew

abbrev pub SentAgain : Type 0
SentAgain =
    (block : Option Block) (m : Content)
    → IsSentFor (entries sent_again) 6 M.get_light block 7 m → ⊥

-- The response of entry 3 is kept for an equal GET, up to its last fresh millisecond.
abbrev pub Served : Type 0
Served = IsServed (entries K.read_from_store) 60699 0 5 (3 ∷ [])

-- Not so: a millisecond later, after a PUT to the place was answered, and for another query.
abbrev pub Expired : Type 0
Expired = IsServed (entries K.read_expired) 60700 0 5 (3 ∷ []) → ⊥

abbrev pub Overwritten : Type 0
Overwritten = IsServed (entries K.read_outdated) 5400 0 18 (9 ∷ []) → ⊥

abbrev pub OtherQuery : Type 0
OtherQuery = IsServed (entries K.other_query) 800 0 5 (3 ∷ []) → ⊥

-- The response of entry 2, with which the journal begins, is kept for an equal GET, up to its last
-- fresh millisecond.
abbrev pub ServedCarried : Type 0
ServedCarried = IsServed (entries A.served_carried) 64999 2 4 (2 ∷ [])

-- Not so: a millisecond later, for another query, and after a PUT to the place was answered.
abbrev pub CarriedLate : Type 0
CarriedLate = IsServed (entries A.carried_late) 65000 2 4 (2 ∷ []) → ⊥

abbrev pub CarriedForAnother : Type 0
CarriedForAnother = IsServed (entries A.carried_for_another) 64999 2 4 (2 ∷ []) → ⊥

abbrev pub CarriedOutrun : Type 0
CarriedOutrun = IsServed (entries A.carried_outrun) 10001 2 8 (2 ∷ []) → ⊥

-- What the update of entry 6 brought is kept for an equal GET.
abbrev pub Updated : Type 0
Updated = IsServed (entries O.served) 4000 1 9 (6 ∷ [])

-- Not so: the one before it, which that outdates.
abbrev pub Outdated : Type 0
Outdated = IsServed (entries O.served) 4000 1 9 (5 ∷ []) → ⊥

-- The first piece of an update came in entry 5, and its rest in entry 9. Both answer a GET that
-- joined between them, and are kept for an equal one.
abbrev pub UpdatedInPieces : Type 0
UpdatedInPieces =
    RestsOn (entries D.served_both) 10 1 8 (5 ∷ 9 ∷ [])
    × IsServed (entries D.served_both) 1300 1 11 (5 ∷ 9 ∷ [])

-- Not so: the rest alone.
abbrev pub RestAlone : Type 0
RestAlone = RestsOn (entries D.told_the_rest) 10 1 8 (9 ∷ []) → ⊥

-- The response of entry 5 is asked about by its ETag when it is stale, and the 2.03 of entry 9
-- renews it. So it is told, and kept for an equal GET up to its last fresh millisecond; and once it
-- is stale again, the 2.03 of entry 13 renews it.
abbrev pub Renewed : Type 0
Renewed =
    RestsOnRenewed (entries N.renewed) 10 1 7 (5 ∷ 9 ∷ [])
    × (IsServed (entries N.served_renewed) 10099 2 11 (5 ∷ 9 ∷ [])
    × RestsOnRenewed (entries N.renewed_again) 14 2 11 (5 ∷ 13 ∷ []))

-- Not so: by a 2.03 with another ETag, or by one that answers the next message.
abbrev pub OtherTag : Type 0
OtherTag = RestsOnRenewed (entries (N.told_with 8)) 10 1 7 (5 ∷ 9 ∷ []) → ⊥

abbrev pub ValidLate : Type 0
ValidLate = RestsOnRenewed (entries N.valid_late) 12 1 7 (5 ∷ 11 ∷ []) → ⊥

-- Nor after a PUT to the place was answered.
abbrev pub asked_after : List Noted
asked_after =
    noted 1100 (Answers 1 11 (Live (5 ∷ 13 ∷ []))) Plain
    ∷ noted 1100 (Hears server N.valid_again_bytes) (Says N.valid_again (Some 12) unobserved)
    ∷ noted 1040 (Sends server (N.validate_bytes 2 2) (Some 2000)) (First 11 (N.validates 2 2))
    ∷ N.asked_outrun

abbrev pub RenewedAfter : Type 0
RenewedAfter = RestsOnRenewed (entries asked_after) 14 1 11 (5 ∷ 13 ∷ []) → ⊥
