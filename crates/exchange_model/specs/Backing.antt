-- What a stored response rests on: the ask that opened its exchange, the replies, and the messages
-- to which they came.
use Rattle.std.specs.Prelude.{ℕ, ◌+◌, ◌&&◌, Bool, List, [], ◌∷◌, take, drop, slice_get, Option, Some, None, option_map, option_and_then, if◌then◌else◌}
use Rattle.std.specs.Str.{bytes_eq}
use Rattle.uri_map.specs.declared.peer.Peer.{Peer}
use Rattle.uri_map.specs.Peers.{same_peer}
use Rattle.resp_cache.specs.Stored.{Stored}
use Rattle.journal_book.specs.Entries.{Done, Sent, Heard, done_of, Written}

-- what was done in the entry with this number, where it may be copied
abbrev pub done_at : List Written → ℕ → Option Done
done_at ws n = option_and_then (λ (w : Written). done_of w.deed) (slice_get ws n)

-- A token of 8 bytes stands after the 4 bytes of the header (RFC 7252 section 3).
abbrev pub token_in : List ℕ → List ℕ
token_in bytes = take 8 (drop 4 bytes)

abbrev pub is_under : Peer → List ℕ → Peer → List ℕ → Bool
is_under p token q bytes = same_peer q p && bytes_eq (token_in bytes) token

-- The first sending to the peer under the token, which alone bears a timeout, while nothing was
-- heard under that since.
abbrev pub unanswered_by : Peer → List ℕ → ℕ → Option Done → Option ℕ → Option ℕ
unanswered_by p token n (Some (Sent q b (Some wait))) old =
    if is_under p token q b then Some n else old
unanswered_by p token n (Some (Heard q b)) old = if is_under p token q b then None else old
unanswered_by p token n _ old = old

abbrev pub unanswered_from : Peer → List ℕ → ℕ → List Written → Option ℕ → Option ℕ
unanswered_from p token n [] old = old
unanswered_from p token n (w ∷ ws) old =
    unanswered_from p token (n + 1) ws (unanswered_by p token n (done_of w.deed) old)

abbrev pub unanswered : Peer → List ℕ → List Written → Option ℕ
unanswered p token ws = unanswered_from p token 0 ws None

-- The message to which what was heard in an entry is the first reply. A notification is none (RFC
-- 7641 section 4.2).
abbrev pub replied_to_by : List Written → ℕ → Option Done → Option ℕ
replied_to_by ws n (Some (Heard p b)) = unanswered p (token_in b) (take n ws)
replied_to_by ws n _ = None

abbrev pub replied_to : List Written → ℕ → Option ℕ
replied_to ws n = replied_to_by ws n (done_at ws n)

-- each reply after the message to which it came
abbrev pub with_reply : ℕ → Option ℕ → Option (List ℕ) → Option (List ℕ)
with_reply j (Some i) (Some ns) = Some (i ∷ j ∷ ns)
with_reply j sending others = None

abbrev pub replies_backing : List Written → List ℕ → Option (List ℕ)
replies_backing ws [] = Some []
replies_backing ws (j ∷ js) = with_reply j (replied_to ws j) (replies_backing ws js)

abbrev pub backing : List Written → Stored → Option (List ℕ)
backing ws s = option_map (λ (ns : List ℕ). s.opening ∷ ns) (replies_backing ws s.list)
