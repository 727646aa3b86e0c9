-- Worked journals: what the entries of one look like, and the notes of a reading.
use Rattle.std.specs.Prelude.{ℕ, List, [], ◌∷◌, None, codes, false}
use Rattle.std.specs.declared.net.ip_addr.IpAddr.TheVariants.{V4}
use Rattle.coap_codec.specs.declared.message.MsgType.{MsgType}
use Rattle.coap_codec.specs.Spelling.{Entry, Content}
use Rattle.uri_map.specs.declared.peer.Peer.{Peer}
use Rattle.uri_map.specs.declared.target.Host.TheVariants.{Name}
use Rattle.http_edge.specs.declared.request.BadKind.TheVariants.{Syntax}
use Rattle.ask_model.specs.Requests.{CoapRequest, Bad, Requests}
use Rattle.ask_model.specs.Views.{Ask, Rules}
use Rattle.history_laws.specs.Readings.{Noted}
use Rattle.history_laws.specs.Justified.{Legal, AtRest}

abbrev pub server : Peer
server = record { address = V4 (record { octets = 192 ∷ 0 ∷ 2 ∷ 1 ∷ [] }); port = 5683 }

-- what is asked of coap://s.example.com with this path of one segment
abbrev pub asks : ℕ → List ℕ → List ℕ → CoapRequest
asks method path body = record {
  method = method;
  peer = server;
  target = record {
    host = Name
        (codes "s.example.com");
    port = 5683;
    path = path ∷ [];
    query = [];
  };
  accept = None;
  format = None;
  body = body;
}

-- what came from HTTP, and by which rules it was mapped, doesn't matter here
abbrev pub no_rules : Rules
no_rules = record {
  base = [];
  directory = record { lines = []; literals = false };
  observed = [];
  policy = record { loose = false; pass = false };
  routes = [];
}

abbrev pub ask_for : CoapRequest → Ask
ask_for q = record { came = Bad Syntax; sense = Requests q; rules = no_rules }

-- the token with this number, and Uri-Host
abbrev pub token : ℕ → List ℕ
token n = 0 ∷ 0 ∷ 0 ∷ n ∷ 0 ∷ 0 ∷ 0 ∷ 0 ∷ []

abbrev pub host : List ℕ
host = 61 ∷ 0 ∷ codes "s.example.com"

-- the header of a message with a token of eight bytes: its first byte, code, ID and the number of
-- its token
abbrev pub header : ℕ → ℕ → ℕ → ℕ → List ℕ
header first code mid n = first ∷ code ∷ 0 ∷ mid ∷ token n

-- the message with that token, options and payload
abbrev pub message : MsgType → ℕ → ℕ → ℕ → List Entry → List ℕ → Content
message kind code mid n options payload =
    record {
      kind = kind;
      code = code;
      mid = mid;
      token = token n;
      options
          = options;
      payload = payload;
    }

abbrev pub option : ℕ → List ℕ → Entry
option number value = record { number = number; value = value }

-- a CON (72), NON (88) or ACK (104) with such a token
abbrev pub con : ℕ → ℕ → ℕ → List ℕ
con code mid n = header 72 code mid n

abbrev pub non : ℕ → ℕ → ℕ → List ℕ
non code mid n = header 88 code mid n

abbrev pub ack : ℕ → ℕ → ℕ → List ℕ
ack code mid n = header 104 code mid n

-- the empty ACK and RST
abbrev pub empty_ack : ℕ → List ℕ
empty_ack mid = 96 ∷ 0 ∷ 0 ∷ mid ∷ []

abbrev pub empty_rst : ℕ → List ℕ
empty_rst mid = 112 ∷ 0 ∷ 0 ∷ mid ∷ []

-- The reading is legal and at rest.
abbrev pub Holds : List Noted → Type 0
Holds l = Legal l × AtRest l

-- It is not legal.
abbrev pub Refused : List Noted → Type 0
Refused l = Legal l → ⊥
