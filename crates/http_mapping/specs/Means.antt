-- Which HTTP response tells an answer (RFC 8075, sections 6 and 7).
use Rattle.std.specs.Prelude.{◌≡◌, ◌≢◌, ◌⊎◌, ℕ, ◌-◌, ◌*◌, ◌/◌, ◌<◌, Bool, true, false, not, ◌&&◌, ◌==◌, nat_le, List, [], ◌∷◌, ◌++◌, length, map, Option, Some, None, unwrap_or, slice_get, codes, decimal, if◌then◌else◌}
use Rattle.std.specs.List.{Contains}
use Rattle.std.specs.Str.{is_utf8}
use Rattle.limits.specs.declared.TheConstants.{MAX_BODY_LEN}
use Rattle.hex.specs.Hex.{encode_lower}
use Rattle.http_edge.specs.Answers.{body_bytes}
use Rattle.http_edge.specs.declared.answer.Field.{Field}
use Rattle.http_edge.specs.declared.answer.HttpAnswer.{HttpAnswer}
use Rattle.code_map.specs.declared.method.Method.{Method}
use Rattle.code_map.specs.declared.method.Method.TheVariants.{Get, Head}
use Rattle.code_map.specs.Methods.{method_named}
use Rattle.code_map.specs.declared.status.Status.{Status}
use Rattle.code_map.specs.declared.status.Status.TheVariants.{MethodNotAllowed}
use Rattle.code_map.specs.Statuses.{number_of, phrase_of}
use Rattle.code_map.specs.Codes.{status_of}
use Rattle.media_map.specs.declared.form.Form.{Form}
use Rattle.media_map.specs.declared.form.Form.TheVariants.{Format, Media}
use Rattle.media_map.specs.Formats.{media_text}
use Rattle.ask_model.specs.declared.cause.Cause.{Cause}
use Rattle.ask_model.specs.declared.cause.Cause.TheVariants.{Busy, Timeout, NotUnderstood}
use Rattle.ask_model.specs.Causes.{cause_text}
use Rattle.ask_model.specs.Requests.{Came, Whole, Bad, Sense, Requests, Refuses}
use Rattle.ask_model.specs.Views.{Mapping}
use Rattle.ask_model.specs.Maps.{wanted_of}
use Rattle.journal_book.specs.Entries.{Grounds, Live, Kept, Fault}
use Rattle.history_laws.specs.Responses.{Response}
use Rattle.reply_reading.specs.Findings.{Found, Told, Tells as TellsOf, Fails}
use Rattle.http_mapping.specs.Located.{located}

-- fields as names and values
abbrev pub Pairs : Type 0
Pairs = List (List ℕ × List ℕ)

abbrev pub pair_of : Field → List ℕ × List ℕ
pair_of f = (f.name.now, f.value.items)

abbrev pub only : List ℕ → List ℕ → Pairs
only name value = (name, value) ∷ []

abbrev pub when : Bool → Pairs → Pairs
when b pairs = if b then pairs else []

abbrev pub is_empty : List ℕ → Bool
is_empty bytes = length bytes == 0

-- The type of a format, or of an error's text where it has none (RFC 7252, section 5.5.2).
abbrev pub typed : Option ℕ → Bool → Pairs
typed (Some n) text = only (codes "Content-Type") (media_text n)
typed None text = when text (only (codes "Content-Type") (media_text 0))

-- Content-Type; an empty body has none.
abbrev pub content_type : Response → Pairs
content_type w = when (not (is_empty w.body)) (typed w.format (nat_le 128 w.code && is_utf8 w.body))

-- the whole seconds for which a response of that age stays fresh (RFC 7252, section 5.10.5)
abbrev pub seconds_left : Response → ℕ → ℕ
seconds_left w age = (1000 * unwrap_or w.max_age 60 - age) / 1000

-- Cache-Control, on a 200 from 2.05
abbrev pub cache_control : Response → ℕ → Pairs
cache_control w age =
    when (w.code == 69)
    (only (codes "Cache-Control") (codes "max-age=" ++ decimal (seconds_left w age)))

abbrev pub quoted : Option (List ℕ) → Pairs
quoted None = []
quoted (Some tag) = only (codes "ETag") (34 ∷ encode_lower tag ++ 34 ∷ [])

-- ETag, on a 200 from 2.05 (RFC 9110, section 8.8.3)
abbrev pub entity_tag : Response → Pairs
entity_tag w = when (w.code == 69) (quoted w.etag)

-- A representation was asked for: by GET or HEAD.
abbrev pub is_read_method : Option Method → Bool
is_read_method (Some Get) = true
is_read_method (Some Head) = true
is_read_method _ = false

abbrev pub is_read : Came → Bool
is_read (Whole r) = is_read_method (method_named r.method)
is_read (Bad kind) = false

-- What tells a cache about the representation, if one was asked for. An answer to another method
-- has none with which a later GET may be answered (RFC 9110 sections 9.3.3 and 9.3.4).
abbrev pub caching : Came → Response → ℕ → Pairs
caching came w age = when (is_read came) (cache_control w age ++ entity_tag w)

-- Location, where a resource was created that the proxy can be asked for (RFC 9110, section 10.2.2)
abbrev pub value_if : List ℕ → Option (List ℕ) → Pairs
value_if name None = []
value_if name (Some value) = only name value

-- Retry-After, on 5.03 (RFC 8075, section 7)
abbrev pub seconds_if : List ℕ → Option ℕ → Pairs
seconds_if name None = []
seconds_if name (Some n) = only name (decimal n)

abbrev pub retry_after : Response → Pairs
retry_after w = when (w.code == 163) (seconds_if (codes "Retry-After") w.max_age)

-- Connection, where the connection is closed after the answer (RFC 9112, section 9.6)
abbrev pub closes : Came → Bool
closes (Whole r) = r.close
closes (Bad kind) = true

abbrev pub connection : Came → Pairs
connection came = when (closes came) (only (codes "Connection") (codes "close"))

-- Content-Length, but in a 204 (RFC 9110, section 8.6)
abbrev pub content_length : Status → ℕ → Pairs
content_length status n =
    when (not (number_of status == 204)) (only (codes "Content-Length") (decimal n))

abbrev pub is_head_method : Option Method → Bool
is_head_method (Some Head) = true
is_head_method _ = false

-- A HEAD was asked.
abbrev pub is_head : Came → Bool
is_head (Whole r) = is_head_method (method_named r.method)
is_head (Bad kind) = false

abbrev pub status_for : Response → Status
status_for w = status_of w.code (not (is_empty w.body))

-- The answer shows the response, with this Content-Type and body. Its status goes by the code, and
-- each field by its rule, in this order. An answer to a HEAD has no body (RFC 9110 section 9.3.2).
pub record Shows (mapping : Mapping) (w : Response) (typing : Pairs) (body : List ℕ) (age : ℕ)
    (a : HttpAnswer) : Type 0 where
  pub status : a.status ≡ number_of (status_for w)
  pub phrase : a.phrase.now ≡ phrase_of (status_for w)
  pub fields : map pair_of a.fields.items
      ≡ typing ++ caching mapping.came w age
      ++ value_if (codes "Location") (located mapping.rules mapping.sense w)
      ++ retry_after w ++ connection mapping.came ++ content_length (status_for w) (length body)
  pub shown : body_bytes a.body ≡ (if is_head mapping.came then [] else body)

-- The status of an error of the proxy's own: 503 where the proxy is busy, 504 where no reply came
-- in time, and otherwise 502 (RFC 9110 section 15.6). A refusal has a status of its own.
abbrev pub failure_status : Cause → ℕ
failure_status Busy = 503
failure_status Timeout = 504
failure_status _ = 502

abbrev pub told_status : Sense → Cause → ℕ
told_status (Requests q) cause = failure_status cause
told_status (Refuses named status) cause = status

-- a status of the proxy's own; the 400 for a 4.05 of a CoAP server is not one, and has another
-- phrase
pub record IsOwn (n : ℕ) (status : Status) : Type 0 where
  pub number : number_of status ≡ n
  pub own : status ≢ MethodNotAllowed

-- The answer is the proxy's own: it names its cause and an entry, and has no body.
pub record Tells (mapping : Mapping) (cause : Cause) (number : ℕ) (a : HttpAnswer) : Type 0 where
  pub told : Status
  pub is_own : IsOwn (told_status mapping.sense cause) told
  pub status : a.status ≡ number_of told
  pub phrase : a.phrase.now ≡ phrase_of told
  pub fields : map pair_of a.fields.items
      ≡ only (codes "HC-Cause") (cause_text cause ++ codes " " ++ decimal number)
      ++ connection mapping.came ++ content_length told 0
  pub body : body_bytes a.body ≡ []

-- The body of the response is to be transformed: it is not empty, and a route leads from its format
-- to the media type that is wanted (RFC 8075 section 6.5).
pub record IsRouted (routes : List (Form × Form)) (mapping : Mapping) (w : Response) (format : ℕ)
    (media : List ℕ) : Type 0 where
  pub filled : is_empty w.body ≡ false
  pub has_format : w.format ≡ Some format
  pub accept : ℕ
  pub wanted : wanted_of mapping.rules mapping.came mapping.sense
      ≡ Some (record { format = accept; media = media })
  pub routed : Contains routes (Format format, Media media)

-- the number of the last reply that a response rests on
abbrev pub replies_of : Grounds → List ℕ
replies_of (Live js) = js
replies_of (Kept js) = js
replies_of (Fault cause number) = []

abbrev pub last_reply : Grounds → ℕ
last_reply grounds = unwrap_or (slice_get (replies_of grounds) (length (replies_of grounds) - 1)) 0

module _ (holds : Form → Form → List ℕ → List ℕ → Type 0)
    (takes : Form → Form → List ℕ → Type 0) where
  -- No body can be made of it: its content isn't taken, or it is too large in the other form.
  abbrev pub FailsTo : Form → Form → List ℕ → Type 0
  FailsTo from to body =
      (takes from to body → ⊥)
      ⊎ ((other : List ℕ) × holds from to body other × (MAX_BODY_LEN < length other))

module _ (routes : List (Form × Form)) (holds : Form → Form → List ℕ → List ℕ → Type 0)
    (takes : Form → Form → List ℕ → Type 0) where
  -- A transformed response is shown with its other body, under the media type that is wanted. If
  -- its body cannot be transformed, the answer is an error of the proxy's own that names the last
  -- reply.
  abbrev pub MeansRouted : Mapping → Response → ℕ → List ℕ → ℕ → ℕ → HttpAnswer → Type 0
  MeansRouted mapping w format media last age a =
      ((other : List ℕ) × holds (Format format) (Media media) w.body other
      × Shows mapping w (only (codes "Content-Type") media) other age a)
      ⊎ (FailsTo holds takes (Format format) (Media media) w.body
      × Tells mapping NotUnderstood last a)

  abbrev pub MeansWhole : Mapping → Response → ℕ → ℕ → HttpAnswer → Type 0
  MeansWhole mapping w last age a =
      (((format : ℕ) (media : List ℕ) → IsRouted routes mapping w format media → ⊥)
      × Shows mapping w (content_type w) w.body age a)
      ⊎ ((format : ℕ) × (media : List ℕ) × IsRouted routes mapping w format media
      × MeansRouted mapping w format media last age a)

  abbrev pub MeansTold : Mapping → Told → Grounds → ℕ → HttpAnswer → Type 0
  MeansTold mapping (TellsOf w) grounds age a = MeansWhole mapping w (last_reply grounds) age a
  MeansTold mapping (Fails cause) (Fault named number) age a = Tells mapping cause number a
  MeansTold mapping (Fails cause) grounds age a = ⊥

  -- What an HTTP response says of what a request came to. `age` is that of the first reply that
  -- this rests on, in milliseconds.
  abbrev pub Means : Mapping → Found → ℕ → HttpAnswer → Type 0
  Means mapping found age a = MeansTold mapping found.told found.grounds age a
