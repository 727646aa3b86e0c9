-- What a reader of an Accept field keeps while it passes the pieces.
use Rattle.std.specs.Prelude.{ℕ, List, [], ◌∷◌, Bool, true, false, ◌||◌, not, if◌then◌else◌, Option, Some, None, Result, Ok, Err}
use Rattle.std.specs.Option.{option_map}
use Rattle.media_map.specs.declared.form.Form.{Form}
use Rattle.media_map.specs.declared.policy.Policy.{Policy}
use Rattle.media_map.specs.declared.wanted.Wanted.{Wanted}
use Rattle.media_map.specs.declared.fault.MediaFault.{MediaFault}
use Rattle.media_map.specs.declared.pick.Pick.{Pick}
use Rattle.media_map.specs.declared.accept.Choice.{Choice}
use Rattle.media_map.specs.declared.accept.Element.{Element as Parsed}
use Rattle.media_map.specs.declared.accept.Tally.{Tally}
use Rattle.media_map.specs.Views.{named_of}
use Rattle.media_map.specs.Picking.{wanted_by}
use Rattle.media_map.specs.Accepting.{Element, element_at, takes_anything, is_payload, choice_of, better, accepted}

-- What the code's types show.
abbrev pub element_of : Parsed → Element
element_of e = record { media = named_of e.media; weight = e.weight }

abbrev pub choice_by : Choice → ℕ × Wanted
choice_by c = (c.weight, wanted_by c.pick)

pub record Seen : Type 0 where
  pub elements : Bool
  pub anything : Bool
  pub payload : Bool
  pub best : Option (ℕ × Wanted)

abbrev pub seen_by : Tally → Seen
seen_by t = record {
  elements = t.elements;
  anything = t.anything;
  payload = t.payload;
  best = option_map choice_by t.best;
}

abbrev pub nothing : Seen
nothing = record { elements = false; anything = false; payload = false; best = None }

-- One more choice, one more element, one more piece.
abbrev pub chosen : Option (ℕ × Wanted) → Option (ℕ × Wanted) → Option (ℕ × Wanted)
chosen best None = best
chosen best (Some c) = better best c

abbrev pub with_element : Policy → List (Form × Form) → Seen → Element → Seen
with_element policy routes s e = record {
  elements = true;
  anything = s.anything || takes_anything e;
  payload = s.payload || is_payload e;
  best = chosen s.best (choice_of policy routes e);
}

abbrev pub with_parsed : Policy → List (Form × Form) → Seen → Option Element → Seen
with_parsed policy routes s None = s
with_parsed policy routes s (Some e) = with_element policy routes s e

unfoldable pub with_piece : Policy → List (Form × Form) → Seen → List ℕ → Seen
with_piece policy routes s piece = with_parsed policy routes s (element_at piece)

abbrev pub seen_from : Policy → List (Form × Form) → Seen → List (List ℕ) → Seen
seen_from policy routes s [] = s
seen_from policy routes s (piece ∷ pieces) =
    seen_from policy routes (with_piece policy routes s piece) pieces

-- What the reader answers at the end.
abbrev pub told : Seen → Result (Option Wanted) MediaFault
told s = if not s.elements || s.anything then Ok None else accepted s.payload s.best

abbrev pub answered : Result (Option Pick) MediaFault → Result (Option Wanted) MediaFault
answered (Ok pick) = Ok (option_map wanted_by pick)
answered (Err e) = Err e
