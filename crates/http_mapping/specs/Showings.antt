-- What a bank makes of a body, and what becomes of the body of a response.
use Rattle.std.specs.Prelude.{ℕ, ◌≤◌, List, length}
use Rattle.std.specs.List.{Contains}
use Rattle.limits.specs.declared.TheConstants.{MAX_BODY_LEN}
use Rattle.media_map.specs.declared.form.Form.{Form}
use Rattle.media_map.specs.declared.form.Form.TheVariants.{Format, Media}
use Rattle.ask_model.specs.Views.{Mapping}
use Rattle.history_laws.specs.Responses.{Response}
use Rattle.http_mapping.specs.declared.applying.Made.{Made}
use Rattle.http_mapping.specs.declared.applying.Made.TheVariants as A
use Rattle.http_mapping.specs.declared.showing.Showing.{Showing}
use Rattle.http_mapping.specs.declared.showing.Showing.TheVariants as S
use Rattle.http_mapping.specs.Means.{IsRouted, FailsTo}

module _ (routes : List (Form × Form)) (holds : Form → Form → List ℕ → List ℕ → Type 0)
    (takes : Form → Form → List ℕ → Type 0) where
  abbrev pub IsApplied : Form → Form → List ℕ → Made → Type 0
  IsApplied from to body A.Nothing = Contains routes (from, to) → ⊥
  IsApplied from to body (A.Bytes other) =
      Contains routes (from, to) × holds from to body other.items
      × (length other.items ≤ MAX_BODY_LEN)
  IsApplied from to body A.Failed = Contains routes (from, to) × FailsTo holds takes from to body

  abbrev pub IsShowing : Mapping → Response → Showing → Type 0
  IsShowing mapping w S.Same = (format : ℕ) (media : List ℕ)
      → IsRouted routes mapping w format media → ⊥
  IsShowing mapping w (S.Other media body) =
      (format : ℕ) × IsRouted routes mapping w format media.now
      × holds (Format format) (Media media.now) w.body body.items
  IsShowing mapping w S.Failed =
      (format : ℕ) × (media : List ℕ) × IsRouted routes mapping w format media
      × FailsTo holds takes (Format format) (Media media) w.body
