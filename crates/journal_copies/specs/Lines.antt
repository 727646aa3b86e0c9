-- What joins a reply to its request: an endpoint and a token (RFC 7252 section 5.3.2).
use Rattle.std.specs.Prelude.{ℕ, Bool, ◌&&◌, List, [], ◌∷◌, ◌++◌}
use Rattle.std.specs.Str.{bytes_eq}
use Rattle.std.specs.Hash.{u16}
use Rattle.uri_map.specs.Peers.{same_peer}
use Rattle.journal_copies.specs.declared.line.Line.{Line}
use Rattle.journal_copies.specs.Sources.{address_bytes}

abbrev pub same_line : Line → Line → Bool
same_line a b = same_peer a.peer b.peer && bytes_eq a.token b.token

-- what is hashed of it
abbrev pub line_input : Line → List (List ℕ)
line_input x = address_bytes x.peer.address ∷ (u16 x.peer.port ++ x.token ∷ [])
