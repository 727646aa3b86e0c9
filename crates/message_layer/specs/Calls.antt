-- What the calls do that neither send nor hear.
use Rattle.std.specs.Prelude.{ℕ, List, [], ◌∷◌, ◌++◌, filter, Option, Some, None, Bool, true, false, not, if◌then◌else◌}
use Rattle.std.specs.List.{list_any}
use Rattle.std.specs.Str.{bytes_eq}
use Rattle.message_layer.specs.Values.{LinkState}
use Rattle.message_layer.specs.Hearing.{is_awaited, is_fresh}
use Rattle.message_layer.specs.Mids.{is_in_use}
use Rattle.message_layer.specs.declared.state.Waiting.{Waiting}
use Rattle.message_layer.specs.declared.state.Awaited.{Awaited}

abbrev pub waits_not_under : List ℕ → Waiting → Bool
waits_not_under token w = not (bytes_eq w.token token)

-- what waits under the token is never sent
abbrev pub forgotten : List ℕ → LinkState → LinkState
forgotten token s = record {
  waiting = filter (waits_not_under token) s.waiting;
  outstanding = s.outstanding;
  last_mid = s.last_mid;
  given = s.given;
  awaited = s.awaited;
  heard = s.heard;
  out = s.out;
}

abbrev pub is_other : List ℕ → Awaited → Bool
is_other token a = not (bytes_eq a.token token)

abbrev pub expected_in : List ℕ → Bool → List Awaited → List Awaited
expected_in token false awaited = filter (is_other token) awaited
expected_in token true awaited =
    if list_any (is_awaited token) awaited then awaited
    else (awaited ++ record { token = token; mid = None } ∷ [])

-- whether a response is awaited under the token
abbrev pub expected : List ℕ → Bool → LinkState → LinkState
expected token on s = record {
  waiting = s.waiting;
  outstanding = s.outstanding;
  last_mid = s.last_mid;
  given = s.given;
  awaited = expected_in token on s.awaited;
  heard = s.heard;
  out = s.out;
}

abbrev pub taken_by : LinkState → List (List ℕ) → LinkState × Option (List ℕ)
taken_by s [] = (s, None)
taken_by s (d ∷ ds) = (
  record {
    waiting = s.waiting;
    outstanding = s.outstanding;
    last_mid = s.last_mid;
    given = s.given;
    awaited = s.awaited;
    heard = s.heard;
    out = ds;
  },
  Some d,
)

-- the first datagram is taken away
abbrev pub sent_out : LinkState → LinkState × Option (List ℕ)
sent_out s = taken_by s s.out

abbrev pub waits_on : (List ℕ → Bool) → Waiting → Bool
waits_on gone w = not (gone w.token)

abbrev pub is_awaited_on : (List ℕ → Bool) → Awaited → Bool
is_awaited_on gone a = not (gone a.token)

-- What bears one of these tokens is neither awaited nor sent any more.
abbrev pub rid_of : (List ℕ → Bool) → LinkState → LinkState
rid_of gone s = record s {
  waiting = filter (waits_on gone) s.waiting;
  awaited = filter (is_awaited_on gone) s.awaited;
}

abbrev pub is_among : List (List ℕ) → List ℕ → Bool
is_among tokens token = list_any (bytes_eq token) tokens

abbrev pub without : List (List ℕ) → LinkState → LinkState
without tokens s = rid_of (is_among tokens) s

-- all datagrams were taken
abbrev pub out_empty : LinkState → LinkState
out_empty s = record s { out = [] }

-- Nothing is on its way, waits or is awaited any more. What has to be remembered at this moment
-- stays: the IDs in use, and the messages that may be repeated.
abbrev pub kept_link : ℕ → LinkState → LinkState
kept_link t s = record {
  waiting = [];
  outstanding = None;
  last_mid = s.last_mid;
  given = filter (is_in_use t) s.given;
  awaited = [];
  heard = filter (is_fresh t) s.heard;
  out = [];
}
