-- What a run of a link awaits, by its calls, what they told and what they put out (RFC 7252,
-- sections 4.2, 4.4 and 5.3.2).
use Rattle.std.specs.Prelude.{ℕ, ◌%◌, List, [], ◌∷◌, filter, take, drop, Option, Some, None, Result, Ok, Err, Bool, true, false, not, nat_lt, ◌==◌, ◌&&◌, ◌||◌, if◌then◌else◌}
use Rattle.std.specs.List.{list_any}
use Rattle.std.specs.Str.{bytes_eq}
use Rattle.coap_codec.specs.Spelling.{Content}
use Rattle.coap_codec.specs.Reading.{message_at}
use Rattle.coap_codec.specs.declared.fault.CodecFault.{CodecFault}
use Rattle.coap_codec.specs.declared.message.MsgType.{MsgType}
use Rattle.coap_codec.specs.declared.message.MsgType.TheVariants.{Con, Non, Ack, Rst}
use Rattle.message_layer.specs.Values.{Told, no_news, response, timed_out, was_reset, was_dropped, is_con}
use Rattle.message_layer.specs.Runs.{Call, submit, hear, tick, forget, expect, take_send, refuse, Step}
use Rattle.message_layer.specs.Transmissions.{mid_of}

-- as many bytes after the header as the first byte says
abbrev pub token_of : List ℕ → List ℕ
token_of [] = []
token_of (first ∷ rest) = take (first % 16) (drop 3 rest)

abbrev pub is_under : List ℕ → List ℕ → Bool
is_under token d = bytes_eq (token_of d) token

abbrev pub is_as : ℕ → List ℕ → List ℕ → Bool
is_as mid token d = (mid_of d == mid) && is_under token d

-- a response was told, under this token
abbrev pub tells_under : List ℕ → Told → Bool
tells_under token no_news = false
tells_under token (response m) = bytes_eq token m.token
tells_under token (timed_out other) = false
tells_under token (was_reset other) = false
tells_under token was_dropped = false

abbrev pub is_timeout : Told → Bool
is_timeout no_news = false
is_timeout (response m) = false
is_timeout (timed_out token) = true
is_timeout (was_reset token) = false
is_timeout was_dropped = false

abbrev pub is_drop : Told → Bool
is_drop no_news = false
is_drop (response m) = false
is_drop (timed_out token) = false
is_drop (was_reset token) = false
is_drop was_dropped = true

-- The messages that a step sends for the first time: its CONs. A tick sends a copy, unless it gives
-- a message up.
abbrev pub firsts_by : Call → List (List ℕ) → List (List ℕ)
firsts_by (submit m word) sent = filter is_con sent
firsts_by (hear d told) sent = filter is_con sent
firsts_by (tick told) sent = if is_timeout told then filter is_con sent else []
firsts_by (forget token) sent = filter is_con sent
firsts_by (expect token on) sent = filter is_con sent
firsts_by (take_send d) sent = filter is_con sent
firsts_by refuse sent = filter is_con sent

-- whether a response under the token is awaited after the call, by whether it was before
abbrev pub expects_by : List ℕ → Call → Bool → Bool
expects_by token (submit m word) before = before
expects_by token (hear d told) before = before
expects_by token (tick told) before = before
expects_by token (forget other) before = before
expects_by token (expect other on) before = if bytes_eq token other then on else before
expects_by token (take_send d) before = before
expects_by token refuse before = before

-- A response is awaited under the token: a message with it was sent, or a response under it was
-- expected, and since then nobody said that none is expected any more.
abbrev pub awaits : List ℕ → List Step → Bool
awaits token [] = false
awaits token (x ∷ older) = expects_by token x.call (awaits token older)
    || list_any (is_under token) (firsts_by x.call x.sent)

-- an ACK brings one response
abbrev pub keeps_by : List ℕ → Call → Bool → Bool
keeps_by token (submit m word) before = before
keeps_by token (hear d told) before = before && not (tells_under token told)
keeps_by token (tick told) before = before
keeps_by token (forget other) before = before
keeps_by token (expect other on) before = before && (on || not (bytes_eq token other))
keeps_by token (take_send d) before = before
keeps_by token refuse before = before

-- An ACK may bring a response: a message with its ID and token was sent, and since then no response
-- was told under the token, and nobody said that none is expected any more.
abbrev pub awaits_ack : ℕ → List ℕ → List Step → Bool
awaits_ack mid token [] = false
awaits_ack mid token (x ∷ older) = keeps_by token x.call (awaits_ack mid token older)
    || list_any (is_as mid token) (firsts_by x.call x.sent)

-- What ends the interaction of a datagram: a response in a CON or NON that is told under its token,
-- an ACK with its ID that is empty or has a response under its token, or an RST with its ID.
abbrev pub ends_by : List ℕ → Told → Content → MsgType → Bool
ends_by d told m Con = tells_under (token_of d) told
ends_by d told m Non = tells_under (token_of d) told
ends_by d told m Ack =
    (mid_of d == m.mid) && ((m.code == 0) || (nat_lt 31 m.code && bytes_eq (token_of d) m.token))
ends_by d told m Rst = (m.code == 0) && (mid_of d == m.mid)

abbrev pub heard_by : Told → Result Content CodecFault → Option (List ℕ) → Option (List ℕ)
heard_by told (Err e) before = before
heard_by told (Ok m) None = None
heard_by told (Ok m) (Some d) =
    if not (is_drop told) && ends_by d told m m.kind then None else Some d

abbrev pub left_by : Call → Option (List ℕ) → Option (List ℕ)
left_by (submit m word) before = before
left_by (hear d told) before = heard_by told (message_at d) before
left_by (tick told) before = if is_timeout told then None else before
left_by (forget token) before = before
left_by (expect token on) before = before
left_by (take_send d) before = before
left_by refuse before = before

abbrev pub first_or : List (List ℕ) → Option (List ℕ) → Option (List ℕ)
first_or [] other = other
first_or (d ∷ ds) other = Some d

-- the message that was sent last, unless its interaction has ended or it was given up
abbrev pub outstanding_of : List Step → Option (List ℕ)
outstanding_of [] = None
outstanding_of (x ∷ older) =
    first_or (firsts_by x.call x.sent) (left_by x.call (outstanding_of older))
