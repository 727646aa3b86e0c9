-- What a request means (RFC 8075 sections 5 to 7), with the first reason to refuse it.
use Rattle.std.specs.Prelude.{◌≡◌, ◌⊎◌, ℕ, ◌<◌, ◌≤◌, Bool, true, false, not, ◌&&◌, ◌||◌, nat_lt, List, [], ◌∷◌, length, map, Option, Some, None, option_map, Result, Ok, Err, codes, if◌then◌else◌}
use Rattle.std.specs.List.{list_any}
use Rattle.std.specs.Str.{bytes_eq}
use Rattle.limits.specs.declared.TheConstants.{MAX_BODY_LEN}
use Rattle.uri_map.specs.declared.fault.UriFault.{UriFault}
use Rattle.uri_map.specs.declared.fault.UriFault.TheVariants as Fault
use Rattle.uri_map.specs.declared.peer.Peer.{Peer}
use Rattle.uri_map.specs.declared.target.Target.{Target}
use Rattle.uri_map.specs.Splitting.{origin_form}
use Rattle.uri_map.specs.Naming.{target_at}
use Rattle.uri_map.specs.Peers.{peer_in}
use Rattle.code_map.specs.declared.method.Method.{Method}
use Rattle.code_map.specs.declared.method.Method.TheVariants.{Post, Put}
use Rattle.code_map.specs.Methods.{method_named, request_code, writes}
use Rattle.media_map.specs.declared.form.Form.{Form}
use Rattle.media_map.specs.declared.form.Form.TheVariants.{Format}
use Rattle.media_map.specs.declared.fault.MediaFault.{MediaFault}
use Rattle.media_map.specs.declared.policy.Policy.{Policy}
use Rattle.media_map.specs.declared.wanted.Wanted.{Wanted}
use Rattle.media_map.specs.Texts.{joined}
use Rattle.media_map.specs.Formats.{format_at}
use Rattle.media_map.specs.Accepting.{accept_at, route_at}
use Rattle.http_header.specs.HeaderMap.{get, get_all}
use Rattle.http_edge.specs.Lists.{has_other}
use Rattle.http_edge.specs.Requests.{Content as HttpRequest}
use Rattle.http_edge.specs.Kinds.{status_of}
use Rattle.ask_model.specs.declared.cause.Cause.{Cause}
use Rattle.ask_model.specs.Requests.{Came, Whole, Bad, Sense, Requests, Refuses}
use Rattle.ask_model.specs.Views.{Rules}

abbrev pub has_field : List ℕ → HttpRequest → Bool
has_field name r = list_any (λ f. bytes_eq f.0 name) r.fields

-- the first value of the fields of that name
abbrev pub first_value : List ℕ → HttpRequest → Option (List ℕ)
first_value name r = option_map (λ v. v.bytes) (get r.fields name)

-- all of them as one, with commas between (RFC 9110 section 5.3)
abbrev pub one_value : List ℕ → HttpRequest → List ℕ
one_value name r = joined 44 (map (λ v. v.bytes) (get_all r.fields name))

-- CoAP's preconditions aren't those of HTTP, so a write that states one is refused (RFC 9110
-- section 13.1).
abbrev pub is_conditional : HttpRequest → Bool
is_conditional r =
    has_field (codes "if-match") r
    || (has_field (codes "if-none-match") r || has_field (codes "if-unmodified-since") r)

-- The body of a GET, HEAD or DELETE is dropped (RFC 9110 section 9.3).
abbrev pub carried : Method → List ℕ → List ℕ
carried Post body = body
carried Put body = body
carried _ body = []

-- So is a body above 64 KiB, which no edge lets through.
abbrev pub is_refused_write : Method → HttpRequest → Bool
is_refused_write m r = (writes m && is_conditional r)
    || nat_lt MAX_BODY_LEN (length (carried m r.body))

-- the HTTP status of a target that names nothing here
abbrev pub fault_status : UriFault → ℕ
fault_status Fault.OtherBase = 404
fault_status Fault.Scheme = 501
fault_status Fault.TooLong = 414
fault_status _ = 400

-- What is known of a body's format: none is stated, or one that CoAP has; a media type that is
-- transformed to a format, or one that has none.
pub data Typing : Type 0 where
  Untyped : Typing
  Typed : (format : ℕ) → Typing
  Routed : (from : Form) → (format : ℕ) → Typing
  Untypable : Typing

-- The format of a Content-Type; a blank one is no media type (RFC 9110 section 8.3.1).
abbrev pub typing_stated : Result (Option ℕ) MediaFault → Typing
typing_stated (Ok None) = Untypable
typing_stated (Ok (Some n)) = Typed n
typing_stated (Err fault) = Untypable

-- A route from the media type goes before its own format.
abbrev pub typing_along : Policy → List ℕ → Option (Form × Form) → Typing
typing_along policy value (Some (from, Format n)) = Routed from n
typing_along policy value _ = typing_stated (format_at policy value)

abbrev pub typing_by : Rules → Option (List ℕ) → Typing
typing_by s None = Untyped
typing_by s (Some value) = typing_along s.policy value (route_at s.routes value)

-- A content coding, which CoAP has no option for (RFC 9110 section 8.4). `identity` names none, nor
-- does an empty list.
abbrev pub is_coded : HttpRequest → Bool
is_coded r =
    list_any (λ v. has_other v.bytes (codes "identity"))
    (get_all r.fields (codes "content-encoding"))

-- An empty body has no format, and its Content-Type isn't read. Of several the first counts. What a
-- coding made of a body isn't of its Content-Type.
abbrev pub typing_of : Rules → HttpRequest → List ℕ → Typing
typing_of s r [] = Untyped
typing_of s r (b ∷ body) =
    if is_coded r then Untypable else typing_by s (first_value (codes "content-type") r)

-- what is accepted as the answer (RFC 8075 section 6.5)
abbrev pub accepted_of : Rules → HttpRequest → Result (Option Wanted) MediaFault
accepted_of s r = accept_at s.policy s.routes (one_value (codes "accept") r)

-- the format that is asked for, if any, or None where none that is accepted can be had
abbrev pub format_accepted : Result (Option Wanted) MediaFault → Option (Option ℕ)
format_accepted (Ok wanted) = Some (option_map (λ w. w.format) wanted)
format_accepted (Err fault) = None

abbrev pub accept_of : Rules → HttpRequest → Option (Option ℕ)
accept_of s r = format_accepted (accepted_of s r)

-- what is wanted of the answer to a request that is asked
abbrev pub wanted_in : Result (Option Wanted) MediaFault → Option Wanted
wanted_in (Ok wanted) = wanted
wanted_in (Err fault) = None

abbrev pub wanted_of : Rules → Came → Sense → Option Wanted
wanted_of s (Whole r) (Requests q) = wanted_in (accepted_of s r)
wanted_of s came sense = None

module _ (holds : Form → Form → List ℕ → List ℕ → Type 0)
    (takes : Form → Form → List ℕ → Type 0) where
  -- A body becomes this payload, in this format. One that is transformed keeps the limit of bodies
  -- too.
  abbrev pub Becomes : Typing → List ℕ → Option ℕ → List ℕ → Type 0
  Becomes Untyped body format payload = (format ≡ None) × (payload ≡ body)
  Becomes (Typed n) body format payload = (format ≡ Some n) × (payload ≡ body)
  Becomes (Routed from n) body format payload =
      (format ≡ Some n) × holds from (Format n) body payload × (length payload ≤ MAX_BODY_LEN)
  Becomes Untypable body format payload = ⊥

  -- No payload can be made of it: the content isn't taken, or it is too large in the other format.
  abbrev pub Fails : Typing → List ℕ → Type 0
  Fails (Routed from n) body =
      (takes from (Format n) body → ⊥)
      ⊎ ((payload : List ℕ) × holds from (Format n) body payload × (MAX_BODY_LEN < length payload))
  Fails _ body = ⊥

  -- Why a body isn't sent, with the status: its type, or its content.
  abbrev pub IsUnsent : Typing → List ℕ → Cause → ℕ → Type 0
  IsUnsent typing body cause status =
      (cause ≡ Cause.Media)
      × (((status ≡ 415) × (typing ≡ Untypable)) ⊎ ((status ≡ 400) × Fails typing body))

  -- what a request for this method, target and peer means
  abbrev pub MapsBody : Rules → HttpRequest → Method → Target → Peer → Sense → Type 0
  MapsBody s r m t p (Requests q) =
      (q.method ≡ request_code m) × (q.target ≡ t) × (q.peer ≡ p)
      × Becomes (typing_of s r (carried m r.body)) (carried m r.body) q.format q.body
      × (accept_of s r ≡ Some q.accept)
  MapsBody s r m t p (Refuses cause status) =
      IsUnsent (typing_of s r (carried m r.body)) (carried m r.body) cause status
      ⊎ ((cause ≡ Cause.Media) × (status ≡ 406) × (accept_of s r ≡ None)
      × ((format : Option ℕ) × (payload : List ℕ)
      × Becomes (typing_of s r (carried m r.body)) (carried m r.body) format payload))

  -- a target that no peer serves
  abbrev pub MapsPeer : Rules → HttpRequest → Method → Target → Option Peer → Sense → Type 0
  MapsPeer s r m t None sense = sense ≡ Refuses Cause.NoMap 501
  MapsPeer s r m t (Some p) sense = MapsBody s r m t p sense

  -- a target that names nothing (RFC 8075 section 5.3)
  abbrev pub MapsTarget : Rules → HttpRequest → Method → Result Target UriFault → Sense → Type 0
  MapsTarget s r m (Err f) sense = sense ≡ Refuses Cause.NoMap (fault_status f)
  MapsTarget s r m (Ok t) sense = MapsPeer s r m t (peer_in s.directory t) sense

  abbrev pub MapsWrite : Rules → HttpRequest → Method → Bool → Sense → Type 0
  MapsWrite s r m true sense = sense ≡ Refuses Cause.Method 501
  MapsWrite s r m false sense = MapsTarget s r m (target_at s.base (origin_form r.target)) sense

  -- a method that CoAP doesn't have (RFC 8075 section 5.1)
  abbrev pub MapsMethod : Rules → HttpRequest → Option Method → Sense → Type 0
  MapsMethod s r None sense = sense ≡ Refuses Cause.Method 501
  MapsMethod s r (Some m) sense = MapsWrite s r m (is_refused_write m r) sense

  -- Under these rules, this is what came in means.
  abbrev pub Maps : Rules → Came → Sense → Type 0
  Maps s (Bad kind) sense = sense ≡ Refuses Cause.BadHttp (status_of kind)
  Maps s (Whole r) sense = MapsMethod s r (method_named r.method) sense
