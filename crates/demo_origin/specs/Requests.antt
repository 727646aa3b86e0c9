-- What a request is answered by, and what a handler is asked (RFC 7252, sections 5.4, 5.8, 5.10).
use Rattle.std.specs.Prelude.{◌≡◌, ◌≢◌, ◌<◌, IfSome, slice_get, ℕ, List, [], ◌∷◌, length, count_by, Option, Some, None, Bool, true, false, not, nat_le, ◌==◌, ◌&&◌, ◌||◌, if◌then◌else◌}
use Rattle.std.specs.List.{list_all, position}
use Rattle.std.specs.Cmp.Lexicographic.{pointwise}
use Rattle.coap_codec.specs.Spelling.{Content, Entry}
use Rattle.coap_codec.specs.Values.{values, uint}
use Rattle.coap_codec.specs.Options.{is_critical_number}
use Rattle.coap_codec.specs.declared.message.MsgType.{MsgType}
use Rattle.coap_codec.specs.declared.message.MsgType.TheVariants.{Con, Non, Ack, Rst}
use Rattle.demo_origin.specs.Blocks.{is_block}
use Rattle.demo_origin.specs.declared.state.Held.{Held}
use Rattle.demo_origin.specs.declared.request.Method.{Method}
use Rattle.demo_origin.specs.declared.request.Method.TheVariants.{Post, Put, Delete}
use Rattle.demo_origin.specs.declared.request.CoapRequest.{CoapRequest}
use Rattle.demo_origin.specs.declared.judge.Judged.{Judged}
use Rattle.demo_origin.specs.declared.judge.Judged.TheVariants.{Dropped, Refused, NotAcceptable, Read, Asked}

-- The critical options that are recognised: Uri-Host, Uri-Port, Uri-Path, Uri-Query, Accept,
-- Block2 and Block1, each of a length and a value that it may have (section 5.4.3; RFC 7959,
-- section 2.1).
abbrev pub is_recognised : Entry → Bool
is_recognised o =
    not (is_critical_number o.number)
    || (((o.number == 11) && nat_le (length o.value) 255)
    || (((o.number == 15) && nat_le (length o.value) 255)
    || (((o.number == 3) && (nat_le 1 (length o.value) && nat_le (length o.value) 255))
    || (((o.number == 7) && nat_le (length o.value) 2)
    || (((o.number == 17) && nat_le (length o.value) 2)
    || (((o.number == 23) && is_block o.value)
    || ((o.number == 27) && is_block o.value)))))))

abbrev pub has_number : ℕ → Entry → Bool
has_number n o = o.number == n

-- a second one of those that may stand once isn't recognised (section 5.4.5)
abbrev pub is_once : ℕ → List Entry → Bool
is_once n os = nat_le (count_by (has_number n) os) 1

abbrev pub is_understood : List Entry → Bool
is_understood os =
    list_all is_recognised os
    && (is_once 3 os && (is_once 7 os && (is_once 17 os && (is_once 23 os && is_once 27 os))))

-- the number of the first option, where its value has at most two bytes
abbrev pub number_in : List (List ℕ) → Option ℕ
number_in [] = None
number_in (v ∷ vs) = if nat_le (length v) 2 then Some (uint v) else None

-- the resource of that path
abbrev pub is_at : List (List ℕ) → Held → Bool
is_at path r = pointwise (pointwise ◌==◌) r.path path

-- The resource of a path, and its number: of equal paths the first counts.
pub record IsAt (path : List (List ℕ)) (resources : List Held) (i : ℕ) (held : Held) : Type 0
  where
    pub first : position (is_at path) resources ≡ Some i
    pub stands : slice_get resources i ≡ Some held

-- no Accept, or that of the resource
abbrev pub suits : Option ℕ → ℕ → Bool
suits None format = true
suits (Some n) format = n == format

abbrev pub confirms : MsgType → Bool
confirms Con = true
confirms Non = false
confirms Ack = false
confirms Rst = false

-- The resource of that number, where it is there, has that version.
abbrev pub HasVersion : List Held → ℕ → ℕ → Type 0
HasVersion resources i version =
    (i < length resources) × IfSome (slice_get resources i) (λ (h : Held). h.version ≡ version)

-- the code of a request for which a handler is asked
abbrev pub method_code : Method → ℕ
method_code Post = 2
method_code Put = 3
method_code Delete = 4

-- a resource at its last version changes no more
abbrev pub asked_for : ℕ → ℕ → Method → Judged
asked_for i version method = if version == 18446744073709551615 then Refused 160 else Asked i method

abbrev pub judged_method : ℕ → ℕ → ℕ → Judged
judged_method code i version =
    if code == 1 then Read i else
    (if code == 2 then asked_for i version Post else
    (if code == 3 then asked_for i version Put else
    (if code == 4 then asked_for i version Delete else Refused 133)))

-- A GET is one of the resource still, so that Observe 1 ends its registration.
abbrev pub unsuited : ℕ → ℕ → Judged
unsuited code i = if code == 1 then NotAcceptable i else Refused 134

abbrev pub judged_held : Content → ℕ → Option Held → Judged
judged_held m i None = Refused 132
judged_held m i (Some held) =
    if suits (number_in (values 17 m.options)) held.format
    then judged_method m.code i held.version
    else unsuited m.code i

abbrev pub judged_at : Content → List Held → Option ℕ → Judged
judged_at m resources None = Refused 132
judged_at m resources (Some i) = judged_held m i (slice_get resources i)

-- 4.02, 4.04, 4.06, 4.05: the first that holds
abbrev pub judged : Content → List Held → Judged
judged m resources =
    if is_understood m.options
    then judged_at m resources (position (is_at (values 11 m.options)) resources)
    else (if confirms m.kind then Refused 130 else Dropped)

-- a version is left
abbrev pub CanChange : Held → Type 0
CanChange h = h.version < 18446744073709551615

-- The resource is there, and a handler is asked only where a version is left.
abbrev pub IsThere : List Held → Judged → Type 0
IsThere resources Dropped = Unit {0}
IsThere resources (Refused code) = code ≢ 0
IsThere resources (NotAcceptable i) = Unit {0}
IsThere resources (Read i) = i < length resources
IsThere resources (Asked i method) =
    (i < length resources) × IfSome (slice_get resources i) CanChange

-- what a handler is asked
abbrev pub asked : Method → Content → CoapRequest
asked method m = record {
  method = method;
  query = values 15 m.options;
  format = number_in (values 12 m.options);
  accept = number_in (values 17 m.options);
  body = m.payload;
}
