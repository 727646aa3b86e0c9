-- What a reader accepts (RFC 9110 sections 12.4.2 and 12.5.1).
use Rattle.std.specs.Prelude.{◌≡◌, ℕ, ◌+◌, ◌-◌, ◌*◌, ◌<◌, ◌≤◌, List, [], ◌∷◌, ◌++◌, take, drop, All, Bool, false, ◌==◌, ◌||◌, ◌&&◌, not, nat_lt, nat_le, is_some, if◌then◌else◌, codes, Option, Some, None, Result, Ok, Err}
use Rattle.std.specs.List.{filter_map, find, list_any}
use Rattle.std.specs.Option.{option_map, option_and_then, option_or}
use Rattle.std.specs.Str.{bytes_eq}
use Rattle.media_map.specs.declared.form.Form.{Form}
use Rattle.media_map.specs.declared.form.Form.TheVariants.{Format, Media}
use Rattle.media_map.specs.declared.policy.Policy.{Policy}
use Rattle.media_map.specs.declared.wanted.Wanted.{Wanted}
use Rattle.media_map.specs.declared.fault.MediaFault.{MediaFault}
use Rattle.media_map.specs.declared.fault.MediaFault.TheVariants.{Unmapped, PassThrough}
use Rattle.media_map.specs.declared.text.Scan.TheVariants.{Plain}
use Rattle.media_map.specs.Texts.{pieces, cut_from, trim}
use Rattle.media_map.specs.MediaTypes.{Named, media_at, same, slash_in, value_in}
use Rattle.media_map.specs.Formats.{media_text, table_format, payload_format, is_foreign_text}

-- A weight in thousandths: 0 or 1 with up to three decimals, after 1 only zeros.
abbrev pub is_digit : ℕ → Bool
is_digit b = nat_le 48 b && nat_le b 57

abbrev pub thousandths : List ℕ → Option ℕ
thousandths [] = Some 0
thousandths (a ∷ []) = if is_digit a then Some (100 * (a - 48)) else None
thousandths (a ∷ b ∷ []) =
    if is_digit a && is_digit b then Some (100 * (a - 48) + 10 * (b - 48)) else None
thousandths (a ∷ b ∷ c ∷ []) =
    if is_digit a && (is_digit b && is_digit c)
    then Some (100 * (a - 48) + 10 * (b - 48) + (c - 48)) else None
thousandths (a ∷ b ∷ c ∷ d ∷ more) = None

abbrev pub decimals : List ℕ → Option ℕ
decimals [] = Some 0
decimals (dot ∷ digits) = if dot == 46 then thousandths digits else None

abbrev pub whole_one : Option ℕ → Option ℕ
whole_one None = None
whole_one (Some n) = if n == 0 then Some 1000 else None

unfoldable pub weight_at : List ℕ → Option ℕ
weight_at [] = None
weight_at (whole ∷ rest) =
    if whole == 48 then decimals rest else (if whole == 49 then whole_one (decimals rest) else None)

-- Without q the weight is 1.
abbrev pub weight_by : Option (List ℕ) → Option ℕ
weight_by None = Some 1000
weight_by (Some text) = weight_at text

unfoldable pub weight_of : Named → Option ℕ
weight_of m = weight_by (value_in (codes "q") m.parameters)

-- The elements of the list that are well formed; the others don't count.
pub record Element : Type 0 where
  pub media : Named
  pub weight : ℕ

unfoldable pub element_at : List ℕ → Option Element
element_at text =
    option_and_then (λ m. option_map (λ w. record { media = m; weight = w }) (weight_of m))
    (media_at text)

abbrev pub elements : List ℕ → List Element
elements value = filter_map element_at (pieces false 44 value)

-- */* and type/* leave the choice to the server.
unfoldable pub is_range : Named → Bool
is_range m = bytes_eq (drop (slash_in m.essence + 1) m.essence) (codes "*")

abbrev pub takes_anything : Element → Bool
takes_anything e = nat_lt 0 e.weight && is_range e.media

-- text/plain and application/coap-payload are only what they are called where charset and cf fit.
unfoldable pub is_itself : Named → Bool
is_itself m = not (is_foreign_text m)
    && (not (same m.essence (codes "application/coap-payload")) || is_some (payload_format m))

-- A media type's text and an element have the same type/subtype.
unfoldable pub is_called : List ℕ → Named → Bool
is_called text m = same (trim (take (cut_from false 59 Plain text) text)) m.essence

-- A route from a format to the media type of an element: that format is asked for, and transformed.
abbrev pub route_to : Named → Form → Form → Option Wanted
route_to m (Format format) (Media text) =
    if is_called text m then Some (record { format = format; media = text }) else None
route_to m (Format format) (Format to) = None
route_to m (Media text) to = None

abbrev pub routed : List (Form × Form) → Named → Option Wanted
routed [] m = None
routed (pair ∷ pairs) m = option_or (route_to m pair.0 pair.1) (routed pairs m)

-- A route from the media type of a body to a format.
abbrev pub is_from : Named → Form → Form → Bool
is_from m (Media text) (Format format) = is_called text m
is_from m (Media text) (Media to) = false
is_from m (Format format) to = false

abbrev pub route_in : List (Form × Form) → Option Named → Option (Form × Form)
route_in routes None = None
route_in routes (Some m) =
    if is_itself m then find (λ (pair : Form × Form). is_from m pair.0 pair.1) routes else None

-- The first route from what a Content-Type says.
unfoldable pub route_at : List (Form × Form) → List ℕ → Option (Form × Form)
route_at routes text = route_in routes (media_at text)

-- A format as it is.
abbrev pub plain : ℕ → Wanted
plain format = record { format = format; media = media_text format }

unfoldable pub wanted_of : Policy → List (Form × Form) → Named → Option Wanted
wanted_of policy routes m =
    if is_itself m then option_or (routed routes m) (option_or (option_map plain (table_format m))
    (if policy.pass then option_map plain (payload_format m) else None)) else None

-- The elements that can be had, with their weights.
unfoldable pub choice_of : Policy → List (Form × Form) → Element → Option (ℕ × Wanted)
choice_of policy routes e =
    if nat_lt 0 e.weight
    then option_map (λ w. (e.weight, w)) (wanted_of policy routes e.media)
    else None

abbrev pub choices : Policy → List (Form × Form) → List Element → List (ℕ × Wanted)
choices policy routes es = filter_map (λ e. choice_of policy routes e) es

-- The first of the greatest weight.
abbrev pub better : Option (ℕ × Wanted) → ℕ × Wanted → Option (ℕ × Wanted)
better None c = Some c
better (Some b) c = if nat_lt b.0 c.0 then Some c else Some b

abbrev pub best_from : Option (ℕ × Wanted) → List (ℕ × Wanted) → Option (ℕ × Wanted)
best_from b [] = b
best_from b (c ∷ cs) = best_from (better b c) cs

pub record IsBest (all : List (ℕ × Wanted)) (best : ℕ × Wanted) : Type 0 where
  pub before : List (ℕ × Wanted)
  pub after : List (ℕ × Wanted)
  pub stands : all ≡ before ++ best ∷ after
  pub less : All (λ (c : ℕ × Wanted). c.0 < best.0) before
  pub no_more : All (λ (c : ℕ × Wanted). c.0 ≤ best.0) after

-- Elements that name a format that isn't passed through.
unfoldable pub is_payload : Element → Bool
is_payload e = nat_lt 0 e.weight && is_some (payload_format e.media)

abbrev pub accepted : Bool → Option (ℕ × Wanted) → Result (Option Wanted) MediaFault
accepted payload (Some best) = Ok (Some best.1)
accepted payload None = if payload then Err PassThrough else Err Unmapped

abbrev pub accept : Policy → List (Form × Form) → List Element → Result (Option Wanted) MediaFault
accept policy routes [] = Ok None
accept policy routes (e ∷ es) =
    if list_any takes_anything (e ∷ es) then Ok None
    else accepted (list_any is_payload (e ∷ es)) (best_from None (choices policy routes (e ∷ es)))

unfoldable pub accept_at : Policy → List (Form × Form) → List ℕ → Result (Option Wanted) MediaFault
accept_at policy routes value = accept policy routes (elements value)
