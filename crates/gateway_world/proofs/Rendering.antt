-- What is rendered along the pairs of a bank is what the settings' routes say; and what is told comes after what was told.
use Rattle.std.proofs.Common.{◌≡◌, ℕ, List, [], ◌∷◌, ◌++◌, sym, subst, ap, ◌∙◌}
use Rattle.std.proofs.lemmas.List.{map_push}
use Rattle.http_edge.specs.declared.answer.HttpAnswer.{HttpAnswer}
use Rattle.media_map.specs.declared.form.Form.{Form}
use Rattle.ask_model.specs.Views.{Mapping}
use Rattle.reply_reading.specs.Findings.{Found}
use Rattle.http_mapping.specs.Means.{Means}
use Rattle.gateway_model.specs.declared.input.Output.{Output}
use Rattle.gateway_model.specs.Emissions.{Emission, emission_of, emissions}

pub means-as : (holds : Form → Form → List ℕ → List ℕ → Type 0) (takes : Form → Form → List ℕ → Type 0)
    (routes pairs : List (Form × Form)) (m n : Mapping) (f : Found) (a b : ℕ) (r : HttpAnswer)
    → routes ≡ pairs → m ≡ n → a ≡ b → Means pairs holds takes m f a r → Means routes holds takes n f b r
means-as holds takes routes pairs m n f a b r e same age h =
    subst (λ (rs : List (Form × Form)). Means rs holds takes n f b r) (sym e)
    (subst (λ (x : Mapping). Means pairs holds takes x f b r) same
    (subst (λ (t : ℕ). Means pairs holds takes m f t r) age h))

-- What is pushed is what is told after what was told before.
pub told-more : {R : Type 0} (before after : List (Output R)) (o : Output R) (e : Emission) → after ≡ before ++ o ∷ []
    → emission_of o ≡ e → emissions after ≡ emissions before ++ e ∷ []
told-more before after o e added same =
    ap emissions added ∙ (map_push emission_of before o ∙ ap (λ (x : Emission). emissions before ++ x ∷ []) same)
