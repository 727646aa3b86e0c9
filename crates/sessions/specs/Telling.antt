-- What is written to a client, by the answers that its session was given.
use Rattle.std.specs.Prelude.{◌≡◌, ◌⊎◌, ℕ, ◌-◌, List, [], take, codes, Bool, if◌then◌else◌}
use Rattle.http_edge.specs.Answers.{answer_text}
use Rattle.http_edge.specs.declared.answer.HttpAnswer.{HttpAnswer}
use Rattle.media_map.specs.declared.form.Form.{Form}
use Rattle.ask_model.specs.Views.{Rules}
use Rattle.exchange_core.specs.Answering.{Given}
use Rattle.http_mapping.specs.Means.{Means}

-- What a client that waits with its body is told (RFC 9110 section 10.1.1).
abbrev pub continue_text : List ℕ
continue_text = codes "HTTP/1.1 100 Continue\r\n\r\n"

-- that, where it is told so
abbrev pub continue_if : Bool → List ℕ
continue_if told = if told then continue_text else []

module _ (holds : Form → Form → List ℕ → List ℕ → Type 0) (takes : Form → Form → List ℕ → Type 0)
    (rules : Rules) where
  -- The HTTP response tells an answer by these rules: what it came to, with the age of the first
  -- reply that it rests on, and transformed along the routes.
  abbrev pub MeansGiven : Given → HttpAnswer → Type 0
  MeansGiven g a = Means rules.routes holds takes g.mapping g.found (g.moment - g.heard) a

  -- The bytes are such a response.
  abbrev pub SaysAnswer : Given → List ℕ → Type 0
  SaysAnswer g bytes = (a : HttpAnswer) × MeansGiven g a × (bytes ≡ answer_text a)

  -- They are a part of one, or none.
  abbrev pub IsPartOf : Given → List ℕ → Type 0
  IsPartOf g part =
      (part ≡ []) ⊎ ((bytes : List ℕ) × (n : ℕ) × SaysAnswer g bytes × (part ≡ take n bytes))
