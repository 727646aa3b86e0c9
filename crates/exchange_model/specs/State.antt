-- What a core keeps.
use Rattle.std.specs.Prelude.{ℕ, Bool, not, ◌==◌, List, [], ◌∷◌, ◌++◌, map, filter, Option, Some, None, if◌then◌else◌}
use Rattle.uri_map.specs.declared.peer.Peer.{Peer}
use Rattle.uri_map.specs.Peers.{same_peer}
use Rattle.message_layer.specs.Values.{LinkState, empty_link}
use Rattle.observe_share.specs.declared.registration.Registration.{Registration}
use Rattle.resp_cache.specs.declared.pair.Pair.{Pair}
use Rattle.journal_book.specs.Entries.{Deed, Opens, Asks, Answers, Shuts, Written}
use Rattle.exchange_model.specs.declared.kept.Conn.{Conn}
use Rattle.exchange_model.specs.declared.kept.Exchange.{Exchange}
use Rattle.exchange_model.specs.declared.kept.Piece.{Piece}
use Rattle.exchange_model.specs.declared.kept.Reader.{Reader}
use Rattle.exchange_model.specs.declared.kept.Stale.{Stale}

-- the messages between the proxy and one endpoint
pub record PeerLink : Type 0 where
  pub peer : Peer
  pub link : LinkState

pub record State : Type 0 where
  -- the journal, and whether it is sealed
  pub entries : List Written
  pub sealed : Bool
  -- how many of its first entries were given out, and the numbers of those of them that stand in
  -- memory all the same
  pub given : ℕ
  pub kept : List ℕ
  -- the moment of its last entry
  pub moment : ℕ
  -- how many connections were opened, and tokens issued
  pub opened : ℕ
  pub issued : ℕ
  -- what is open, in order
  pub conns : List Conn
  pub exchanges : List Exchange
  -- the replies by which they go on, in the order of their entries
  pub pieces : List Piece
  -- what they ask about, in the order of their openings
  pub stales : List Stale
  -- who waits for an exchange, in the order of their asks
  pub readers : List Reader
  -- what is observed, in the order of registration (RFC 7641 section 1.2)
  pub watches : List Registration
  -- the responses that are stored, the last used first
  pub store : List Pair
  -- the endpoints, in the order in which they were first asked for something
  pub links : List PeerLink

-- the link of an endpoint: an empty one before anything was asked of it
abbrev pub link_of : List PeerLink → Peer → LinkState
link_of [] p = empty_link
link_of (x ∷ xs) p = if same_peer x.peer p then x.link else link_of xs p

abbrev pub with_link : Peer → LinkState → List PeerLink → List PeerLink
with_link p s [] = record { peer = p; link = s } ∷ []
with_link p s (x ∷ xs) =
    if same_peer x.peer p then record { peer = x.peer; link = s } ∷ xs else x ∷ with_link p s xs

-- what an entry does to the connections: an ask makes its own wait, and the answer ends that
abbrev pub pend : ℕ → Option ℕ → Conn → Conn
pend c p x = if x.id == c then record x { pending = p } else x

abbrev pub conns_after : List Conn → ℕ → Deed → List Conn
conns_after cs n (Opens c) = cs ++ record { id = c; pending = None } ∷ []
conns_after cs n (Asks c a) = map (pend c (Some n)) cs
conns_after cs n (Answers c k g) = map (pend c None) cs
conns_after cs n (Shuts c) = filter (λ (x : Conn). not (x.id == c)) cs
conns_after cs n _ = cs

-- Who is answered waits no more, and nobody does whose connection is shut.
abbrev pub readers_after : List Reader → Deed → List Reader
readers_after rs (Answers c k g) = filter (λ (r : Reader). not (r.ask == k)) rs
readers_after rs (Shuts c) = filter (λ (r : Reader). not (r.conn == c)) rs
readers_after rs _ = rs
