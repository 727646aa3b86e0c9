-- What came in from HTTP, and the CoAP request that it stands for: plain data.
use Rattle.std.specs.Prelude.{ℕ, ◌+◌, ◌*◌, ◌/◌, ◌%◌, ◌==◌, nat_lt, Bool, true, false, List, [], ◌∷◌, ◌++◌, length, Option, Some, None, if◌then◌else◌}
use Rattle.coap_codec.specs.declared.message.MsgType.TheVariants.{Con}
use Rattle.coap_codec.specs.Spelling.{Entry, Content}
use Rattle.coap_codec.specs.declared.block.Block.{Block}
use Rattle.blockwise.specs.Uploads.{begun, next_block, slice_of}
use Rattle.uri_map.specs.declared.peer.Peer.{Peer}
use Rattle.uri_map.specs.declared.target.Target.{Target}
use Rattle.uri_map.specs.Limits.{host_options, option_with, options_with}
use Rattle.http_edge.specs.declared.request.BadKind.{BadKind}
use Rattle.http_edge.specs.Requests.{Content as HttpRequest}
use Rattle.ask_model.specs.declared.cause.Cause.{Cause}

-- what a connection brought: a request (RFC 9112 section 3), or bytes that are none
pub data Came : Type 0 where
  Whole : (request : HttpRequest) → Came
  Bad : (kind : BadKind) → Came

-- What is asked of a CoAP server (RFC 7252 section 5): the method's code (1 GET, 2 POST, 3 PUT, 4
-- DELETE), the server, the resource, the format that is wanted, and the body with its own.
pub record CoapRequest : Type 0 where
  pub method : ℕ
  pub peer : Peer
  pub target : Target
  pub accept : Option ℕ
  pub format : Option ℕ
  pub body : List ℕ

-- what a request means: a CoAP request, or a refusal with its cause and HTTP status
pub data Sense : Type 0 where
  Requests : (q : CoapRequest) → Sense
  Refuses : (cause : Cause) → (status : ℕ) → Sense

-- a number below 16,777,216 as an option's value, without leading zeros (RFC 7252 section 3.2)
abbrev pub uint_bytes : ℕ → List ℕ
uint_bytes n =
    if n == 0 then [] else (if nat_lt n 256 then n ∷ []
    else (if nat_lt n 65536 then (n / 256) ∷ (n % 256) ∷ []
    else (n / 65536) ∷ (n / 256 % 256) ∷ (n % 256) ∷ []))

-- an option that bears the number, where there is one
abbrev pub optional : ℕ → Option ℕ → List Entry
optional number None = []
optional number (Some n) = option_with number (uint_bytes n) ∷ []

-- The options of a request for the target, with these formats of the body and of what is wanted, in
-- the order of their numbers (RFC 7252 section 5.10): Uri-Host, each Uri-Path, Content-Format, each
-- Uri-Query, and Accept.
abbrev pub options_asking : Target → Option ℕ → Option ℕ → List Entry
options_asking t format accept =
    host_options t.host
    ++ (options_with 11 t.path
    ++ (optional 12 format ++ (options_with 15 t.query ++ optional 17 accept)))

-- The same with Observe 0, which asks to be told of changes (RFC 7641 section 2): its number is 6,
-- after Uri-Host.
abbrev pub observing_options : Target → Option ℕ → Option ℕ → List Entry
observing_options t format accept =
    host_options t.host
    ++ (optional 6 (Some 0)
    ++ (options_with 11 t.path
    ++ (optional 12 format ++ (options_with 15 t.query ++ optional 17 accept))))

-- The same with ETag, which asks whether the representation that it names is valid still (RFC 7252
-- section 5.10.6.2): its number is 4, after Uri-Host.
abbrev pub validating_options : List ℕ → Target → Option ℕ → Option ℕ → List Entry
validating_options etag t format accept =
    host_options t.host
    ++ (option_with 4 etag
    ∷ (options_with 11 t.path
    ++ (optional 12 format ++ (options_with 15 t.query ++ optional 17 accept))))

abbrev pub request_options : CoapRequest → List Entry
request_options q = options_asking q.target q.format q.accept

-- The message that asks it all at once: confirmable, with this message ID and token.
abbrev pub request_message : CoapRequest → ℕ → List ℕ → Content
request_message q mid token =
    record {
      kind = Con;
      code = q.method;
      mid = mid;
      token = token;
      options = request_options q;
      payload = q.body;
    }

-- the value of a Block option (RFC 7959 section 2.2)
abbrev pub block_value : Block → ℕ
block_value b = 16 * b.num + ((if b.more then 8 else 0) + b.szx)

-- A block is one of the representation that a GET (1) asks for, which names it by Block2 (23); or
-- else one of the request's own body, which Block1 (27) names.
abbrev pub block_option : ℕ → ℕ
block_option method = if method == 1 then 23 else 27

-- what the message for a block carries of the body
abbrev pub carried_by : ℕ → Option Block → List ℕ → List ℕ
carried_by method None body = body
carried_by method (Some b) body = if method == 1 then body else slice_of b body

-- The message that asks for this block of the representation (RFC 7959 section 2.4), or brings this
-- block of the body (section 2.3). Where none is named it is all of the request, and the server
-- gives the first, or all, in the size that it likes.
abbrev pub block_message : CoapRequest → Option Block → ℕ → List ℕ → Content
block_message q None mid token = request_message q mid token
block_message q (Some b) mid token =
    record (request_message q mid token) {
      options = request_options q
          ++ option_with (block_option q.method) (uint_bytes (block_value b)) ∷ [];
      payload = carried_by q.method (Some b) q.body;
    }

-- The message that asks to be told of changes too (RFC 7641 section 3.1).
abbrev pub observe_message : CoapRequest → ℕ → List ℕ → Content
observe_message q mid token =
    record (request_message q mid token) { options = observing_options q.target q.format q.accept }

-- The message that asks whether the representation with this ETag is valid still (RFC 7252 section
-- 5.10.6.2).
abbrev pub validate_message : List ℕ → CoapRequest → ℕ → List ℕ → Content
validate_message etag q mid token =
    record (request_message q mid token) {
      options = validating_options etag q.target q.format q.accept;
    }

-- how a request is asked: for what it asks for alone, to be told of changes too, or to be told
-- whether the representation with this ETag is valid still
pub data Manner : Type 0 where
  Plainly : Manner
  Observing : Manner
  Validating : (etag : List ℕ) → Manner

abbrev pub observing_if : Bool → Manner
observing_if true = Observing
observing_if false = Plainly

-- Where a block is named, a message asks for that alone.
abbrev pub asking : Manner → CoapRequest → Option Block → ℕ → List ℕ → Content
asking manner q (Some b) mid token = block_message q (Some b) mid token
asking Plainly q None mid token = request_message q mid token
asking Observing q None mid token = observe_message q mid token
asking (Validating etag) q None mid token = validate_message etag q mid token

-- Of a body that doesn't go all at once the first block goes first, in the largest size: 1,024
-- bytes.
abbrev pub first_block : CoapRequest → Option Block
first_block q = if q.method == 1 then None else next_block (begun (length q.body) 6)

abbrev pub first_message : CoapRequest → ℕ → List ℕ → Content
first_message q mid token = block_message q (first_block q) mid token

-- The first message of an exchange, in this manner.
abbrev pub opening_message : Manner → CoapRequest → ℕ → List ℕ → Content
opening_message manner q mid token = asking manner q (first_block q) mid token
