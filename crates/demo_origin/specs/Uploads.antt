-- Bodies that come in pieces (RFC 7959, sections 2.3 and 2.5).
use Rattle.std.specs.Prelude.{◌≡◌, ℕ, ◌+◌, ◌*◌, min, List, [], ◌∷◌, ◌++◌, filter, set, slice_get, Option, Some, None, Bool, true, not, nat_lt, ◌==◌, ◌&&◌, if◌then◌else◌}
use Rattle.std.specs.List.{list_any, position}
use Rattle.limits.specs.declared.TheConstants.{MAX_BODY_LEN}
use Rattle.uri_map.specs.declared.peer.Peer.{Peer}
use Rattle.coap_codec.specs.Spelling.{Content, Entry}
use Rattle.coap_codec.specs.Values.{uint, IsBlock, IsShortest}
use Rattle.coap_codec.specs.declared.block.Block.{Block}
use Rattle.blockwise.specs.Reading.{size_of}
use Rattle.demo_origin.specs.Values.{Device}
use Rattle.uri_map.specs.Peers.{same_peer}
use Rattle.demo_origin.specs.Peers.{is_client}
use Rattle.demo_origin.specs.declared.state.Client.{Client}
use Rattle.demo_origin.specs.declared.state.Upload.{Upload}
use Rattle.demo_origin.specs.declared.uploads.Joined.{Joined}
use Rattle.demo_origin.specs.declared.uploads.Joined.TheVariants.{Gap, TooLarge, Next, Last}

abbrev pub is_of : Peer → ℕ → Upload → Bool
is_of p i u = same_peer u.peer p && (u.place == i)

-- the place of what came from the peer for that resource
abbrev pub upload_of : Peer → ℕ → List Upload → Option ℕ
upload_of p i us = position (is_of p i) us

-- the peer is one of those
abbrev pub is_from : List Client → Upload → Bool
is_from clients u = list_any (is_client u.peer) clients

abbrev pub body_in : Option Upload → List ℕ
body_in None = []
body_in (Some u) = u.body

abbrev pub body_at : Option ℕ → List Upload → List ℕ
body_at None us = []
body_at (Some k) us = body_in (slice_get us k)

-- what came before a piece: the one of number 0 begins a body anew
abbrev pub before_piece : Block → List ℕ → List ℕ
before_piece b body = if b.num == 0 then [] else body

-- What a piece is to those before it, by their lengths: it begins where they end, and the body has
-- at most 65,536 bytes.
abbrev pub joined : Block → ℕ → ℕ → Joined
joined b len more =
    if b.num * size_of b.szx == len
    then (if nat_lt MAX_BODY_LEN (len + more) then TooLarge else (if b.more then Next else Last))
    else Gap

-- the body with the piece
abbrev pub going_on : Block → List ℕ → Upload → Upload
going_on b payload u = record u { body = before_piece b u.body ++ payload }

abbrev pub put_in : ℕ → Option Upload → Block → List ℕ → List Upload → List Upload
put_in k None b payload us = us
put_in k (Some u) b payload us = set us k (going_on b payload u)

-- a piece is kept after those before it
abbrev pub put_at : Peer → ℕ → Option ℕ → Block → List ℕ → List Upload → List Upload
put_at p i None b payload us = us ++ record { peer = p; place = i; body = payload } ∷ []
put_at p i (Some k) b payload us = put_in k (slice_get us k) b payload us

abbrev pub others : Peer → ℕ → List Upload → List Upload
others p i us = filter (λ (u : Upload). not (is_of p i u)) us

-- what came from the peer for that resource is dropped
abbrev pub without : Peer → ℕ → Device → Device
without p i s = record s { uploads = others p i s.uploads }

-- all that came, with the piece
abbrev pub with_piece : Peer → ℕ → Block → List ℕ → Device → List ℕ
with_piece p i b payload s =
    before_piece b (body_at (upload_of p i s.uploads) s.uploads) ++ payload

-- the same message with that body
abbrev pub with_body : List ℕ → Content → Content
with_body body m = record m { payload = body }

-- The option that asks for the next piece: a Block1 of the piece's number, in the smaller of its
-- size and the device's (section 2.3).
abbrev pub next_wanted : Block → ℕ → Block
next_wanted b own = record { num = b.num; more = true; szx = min b.szx own }

pub record AsksForMore (b : Block) (own : ℕ) (options : List Entry) : Type 0 where
  pub value : List ℕ
  pub options_are : options ≡ record { number = 27; value = value } ∷ []
  pub block_is : IsBlock (next_wanted b own) (uint value)
  pub shortest : IsShortest value
