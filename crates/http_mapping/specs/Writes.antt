-- The bytes of the response that tells an answer, as its fields have them.
use Rattle.std.specs.Prelude.{◌≡◌, ℕ, List, ◌++◌, codes, length, Option, Some, None, if◌then◌else◌, []}
use Rattle.std.specs.List.{flat_map}
use Rattle.http_edge.specs.Answers.{answer_text, status_line}
use Rattle.http_edge.specs.declared.answer.HttpAnswer.{HttpAnswer}
use Rattle.code_map.specs.declared.status.Status.{Status}
use Rattle.code_map.specs.Statuses.{number_of, phrase_of}
use Rattle.media_map.specs.declared.form.Form.{Form}
use Rattle.media_map.specs.Formats.{media_text}
use Rattle.ask_model.specs.declared.cause.Cause.{Cause}
use Rattle.ask_model.specs.Views.{Mapping}
use Rattle.history_laws.specs.Responses.{Response}
use Rattle.reply_reading.specs.Findings.{Found}
use Rattle.http_mapping.specs.Means.{Pairs, Means, MeansWhole, Shows, Tells, only, content_type}

-- the line of a field, and those of several
abbrev pub line : List ℕ × List ℕ → List ℕ
line p = p.0 ++ codes ": " ++ p.1 ++ codes "\r\n"

abbrev pub lines : Pairs → List ℕ
lines pairs = flat_map line pairs

-- the status line
abbrev pub first_line : Status → List ℕ
first_line status = status_line (number_of status) (phrase_of status)

-- These bytes go on from those by the lines of fields. Of both the last line isn't ended yet.
abbrev pub Adds : List ℕ → List ℕ → Pairs → Type 0
Adds before after pairs = after ++ codes "\r\n" ≡ before ++ codes "\r\n" ++ lines pairs

-- the Content-Type of a format
abbrev pub type_of : Option ℕ → Pairs
type_of (Some n) = only (codes "Content-Type") (media_text n)
type_of None = []

-- the Content-Type of a body that was transformed to a media type, or wasn't
abbrev pub typing_of : Option (List ℕ) → Response → Pairs
typing_of (Some media) w = only (codes "Content-Type") media
typing_of None w = content_type w

-- These are the bytes of a response that shows this one.
pub record WritesShown (mapping : Mapping) (w : Response) (typing : Pairs) (body : List ℕ) (age : ℕ)
    (bytes : List ℕ) : Type 0 where
  pub answer : HttpAnswer
  pub shows : Shows mapping w typing body age answer
  pub text : bytes ≡ answer_text answer

-- These are the bytes of an answer of the proxy's own.
pub record WritesOwn (mapping : Mapping) (cause : Cause) (number : ℕ) (bytes : List ℕ)
    : Type 0 where
  pub answer : HttpAnswer
  pub tells : Tells mapping cause number answer
  pub text : bytes ≡ answer_text answer

module _ (routes : List (Form × Form)) (holds : Form → Form → List ℕ → List ℕ → Type 0)
    (takes : Form → Form → List ℕ → Type 0) where
  pub record WritesWhole (mapping : Mapping) (w : Response) (last age : ℕ) (bytes : List ℕ)
      : Type 0 where
    pub answer : HttpAnswer
    pub means : MeansWhole routes holds takes mapping w last age answer
    pub text : bytes ≡ answer_text answer

  -- These are the bytes of a response that means what a request came to.
  pub record Writes (mapping : Mapping) (found : Found) (age : ℕ) (bytes : List ℕ) : Type 0 where
    pub answer : HttpAnswer
    pub means : Means routes holds takes mapping found age answer
    pub text : bytes ≡ answer_text answer
