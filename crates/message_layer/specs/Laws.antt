-- What one call sends, by what a link keeps (RFC 7252, section 4.2).
use Rattle.std.specs.Prelude.{◌≡◌, ℕ, ◌+◌, ◌*◌, ◌<◌, ◌≤◌, List, [], ◌∷◌, ◌++◌, Some, None, ◌⊎◌, if◌then◌else◌}
use Rattle.limits.specs.declared.TheConstants.{MAX_RETRANSMIT}
use Rattle.coap_codec.specs.Spelling.{Content, Spells}
use Rattle.message_layer.specs.Values.{LinkState, Told, no_news, timed_out, IsSound}
use Rattle.message_layer.specs.Sending.{due_of, again, next_outstanding, ticked, with_mid, unnumbered, queued, submitted, submitted_by}
use Rattle.message_layer.specs.Hearing.{hears, applied, answered_in, remembered_in, replies}
use Rattle.message_layer.specs.declared.state.Outstanding.{Outstanding}
use Rattle.message_layer.specs.declared.state.Waiting.{Waiting}
use Rattle.message_layer.specs.declared.verdict.Verdict.{Verdict}

-- a timer that is not due, or none
pub record IsQuiet (t : ℕ) (s : LinkState) (r : LinkState × Told) : Type 0 where
  pub same : r ≡ (s, no_news)
  pub early : (o : Outstanding) → s.outstanding ≡ Some o → t < due_of o

-- an equal copy, at most the fourth, once the timeout is over
pub record IsCopy (t : ℕ) (s : LinkState) (r : LinkState × Told) : Type 0 where
  pub outstanding : Outstanding
  pub was : s.outstanding ≡ Some outstanding
  pub few : outstanding.retransmissions < MAX_RETRANSMIT
  pub due : due_of outstanding ≤ t
  pub is : r.0.outstanding ≡ Some (again t outstanding)
  pub out : r.0.out ≡ s.out ++ outstanding.datagram ∷ []
  pub says : r.1 ≡ no_news

-- given up after the fifth timeout: the next message has its turn
pub record IsGivenUp (t : ℕ) (s : LinkState) (r : LinkState × Told) : Type 0 where
  pub outstanding : Outstanding
  pub was : s.outstanding ≡ Some outstanding
  pub five : outstanding.retransmissions ≡ MAX_RETRANSMIT
  pub due : outstanding.sent + 16 * outstanding.timeout ≤ t
  pub is : r.0.outstanding ≡ next_outstanding t s.last_mid s.waiting
  pub says : r.1 ≡ timed_out outstanding.token

-- the message under this ID
abbrev pub numbered : ℕ → Content → Content
numbered mid m = record {
  kind = m.kind;
  code = m.code;
  mid = mid;
  token = m.token;
  options = m.options;
  payload = m.payload;
}

-- what is sent spells the message that was handed in, under the ID that it is given
abbrev pub SentSpells : Type 0
SentSpells = (m : Content) (text : List ℕ) (mid : ℕ) → Spells (unnumbered m) text
    → Spells (numbered mid m) (with_mid mid text)

abbrev pub TickSends : Type 0
TickSends = (t : ℕ) (s : LinkState) → IsSound s
    → IsQuiet t s (ticked t s) ⊎ (IsCopy t s (ticked t s) ⊎ IsGivenUp t s (ticked t s))

-- a datagram leaves the outstanding message as it is, or lets the next one go
abbrev pub HeardSends : Type 0
HeardSends = (t : ℕ) (d : List ℕ) (s : LinkState) → ((hears t d s).0.outstanding ≡ s.outstanding)
    ⊎ ((hears t d s).0.outstanding ≡ next_outstanding t s.last_mid s.waiting)

-- what a datagram with this ID and token leaves, before the next message has its turn
abbrev pub heard_so : ℕ → ℕ → List ℕ → Verdict → LinkState → LinkState
heard_so t mid token v s = record {
  waiting = s.waiting;
  outstanding = if v.ends then None else s.outstanding;
  last_mid = s.last_mid;
  given = s.given;
  awaited = answered_in token v.news s.awaited;
  heard = remembered_in t mid v.reply v.remembered s.heard;
  out = s.out ++ replies mid v.reply;
}

-- where nothing is outstanding, the message that waits first is sent
abbrev pub turned : ℕ → LinkState → LinkState
turned t s = submitted_by t s s.outstanding

-- A message that is taken after a datagram waits last, and only then the first has its turn.
abbrev pub TakesAfter : Type 0
TakesAfter =
    (t mid : ℕ) (token : List ℕ) (v : Verdict) (w : Waiting) (s : LinkState)
    → submitted t w (applied t mid token v s) ≡ turned t (queued t w (heard_so t mid token v s))
