-- How many bytes of a connection wait unread, and when more are too many.
use Rattle.std.specs.Prelude.{◌≡◌, ◌⊎◌, ℕ, ◌+◌, ◌<◌, false, length, None, Some}
use Rattle.limits.specs.declared.TheConstants.{MAX_UNREAD}
use Rattle.http_edge.specs.Edges.{LeavesBytes}
use Rattle.exchange_model.specs.Resting.{HasConn}
use Rattle.gateway_model.specs.Acts.{Served}
use Rattle.gateway_model.specs.Unasked.{Unasked, unasked_at}

-- So many bytes of the connection wait unread. Where it waits for an answer, all that came since it
-- asked do, as none is read. Else those that came after what the request begun took: an open head,
-- chunk line, line end or trailers (RFC 9112 sections 2.1, 6 and 7.1).
abbrev pub WaitUnread : ℕ → Unasked → Served → ℕ → Type 0
WaitUnread c x s n =
    ((HasConn s.core.state.conns c None → ⊥) × (n ≡ length x.text))
    ⊎ (HasConn s.core.state.conns c None × LeavesBytes x.text n)

-- With so many more they would be more than 1,048,576. After its last request none count.
pub record PassesLimit (c more : ℕ) (s : Served) : Type 0 where
  pub waits : Unasked
  pub stands : unasked_at c s.unasked ≡ Some waits
  pub goes_on : waits.closing ≡ false
  pub unread : ℕ
  pub counts : WaitUnread c waits s unread
  pub many : MAX_UNREAD < unread + more
