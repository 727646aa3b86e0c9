-- Whether the body of a response is to be transformed.
use Rattle.std.proofs.Common.{◌≡◌, ℕ, false, ◌==◌, List, length, Some, sym, ◌∙◌}
use Rattle.std.specs.List.{Contains}
use Rattle.media_map.specs.declared.form.Form.{Form}
use Rattle.media_map.specs.declared.form.Form.TheVariants.{Format, Media}
use Rattle.media_map.specs.declared.wanted.Wanted.{Wanted}
use Rattle.ask_model.specs.Views.{Mapping}
use Rattle.ask_model.specs.Maps.{wanted_of}
use Rattle.history_laws.specs.Responses.{Response}
use Rattle.http_mapping.specs.Means.{IsRouted, FailsTo}

same_format : (m n : ℕ) → Some m ≡ Some n → m ≡ n
same_format m n e = cc

same_media : (v w : Wanted) → Some v ≡ Some w → v.media ≡ w.media
same_media v w e = cc

module _ (routes : List (Form × Form)) (mapping : Mapping) (w : Response) (format : ℕ) (wanted : Wanted)
    (has : w.format ≡ Some format) (wants : wanted_of mapping.rules mapping.came mapping.sense ≡ Some wanted) where
  pub not_routed : (Contains routes (Format format, Media wanted.media) → ⊥) → (n : ℕ) (media : List ℕ) → IsRouted routes mapping w n media → ⊥
  not_routed none n media r =
      let format_is : n ≡ format = same_format n format (sym r.has_format ∙ has) in
      let media_is : media ≡ wanted.media = same_media (record { format = r.accept; media = media }) wanted (sym r.wanted ∙ wants) in
      none (rw (← format_is, ← media_is) r.routed)

  pub routed : (length w.body == 0) ≡ false → Contains routes (Format format, Media wanted.media) → IsRouted routes mapping w format wanted.media
  routed filled stands = record { filled = filled; has_format = has; accept = wanted.format; wanted = wants; routed = stands }

  -- the same, where the media type is said by an equal one
  pub shows_same : (media : List ℕ) → media ≡ wanted.media → (Contains routes (Format format, Media media) → ⊥) → (n : ℕ) (m : List ℕ)
      → IsRouted routes mapping w n m → ⊥
  shows_same media e none = not_routed (λ h. none (rw e h))

  module _ (holds : Form → Form → List ℕ → List ℕ → Type 0) (takes : Form → Form → List ℕ → Type 0) (media body : List ℕ)
      (e : media ≡ wanted.media) (same : body ≡ w.body) (filled : (length w.body == 0) ≡ false) where
    pub shows_other : (other : List ℕ) → Contains routes (Format format, Media media) × holds (Format format) (Media media) body other
        → (n : ℕ) × IsRouted routes mapping w n wanted.media × holds (Format n) (Media wanted.media) w.body other
    shows_other other h = (format, routed filled (rw (← e) h.0), rw (← e, ← same) h.1)

    pub shows_failed : Contains routes (Format format, Media media) × FailsTo holds takes (Format format) (Media media) body
        → (n : ℕ) × (m : List ℕ) × IsRouted routes mapping w n m × FailsTo holds takes (Format n) (Media m) w.body
    shows_failed h = (format, wanted.media, routed filled (rw (← e) h.0), rw (← e, ← same) h.1)
